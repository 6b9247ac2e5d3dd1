-- How far a stage can move where each number of the two ends moves by at most one: 5/4 for a dose, 5 for a slope and 16 for a curvature,
-- for any number of steps; and where a number of order o moves by at most 2^o: 8/5, 16 and 72.
use mathlib.Core.Path.{◌≡◌, sym, ap, ap₂, subst, ◌∙◌}
use mathlib.Core.List.{[], ◌∷◌}
use Prim.Native.Nat.{ℕ, zero, suc, ◌+◌, ◌*◌, ◌-◌, ◌%◌, ◌^◌, ◌≤◌, ◌<◌}
use native.Mathlib.Nat.{le_trans, le_of_eq, pow-suc, pow-zero, one-mul, mul-one, mul-le-mul_left, mul-le-mul_right, add-le-add, mod-eq_of_lt, add-mod_left}
use native.Mathlib.Omega.{arith}
use lib.Dec.{lit≤}
use native.Mathlib.Decide.{dec_le}
use lib.IntN.{ℤ, pos, neg_ℤ, ◌+ℤ◌, ◌-ℤ◌, ◌*ℤ◌, nat_abs}
use Rattle.arith.proofs.Abs.{abs-mul, abs-add, abs_neg}
use Rattle.arith.proofs.Choices.{by-m, by_order}
use Rattle.arith.proofs.Quote.{quotes, ring! }
use Rattle.arith.proofs.Sums.{abs-sum, total_ext, total_mono, total-ends}
use Rattle.arith.specs.Int.{◌^ℤ◌}
use Rattle.arith.specs.Sum.{sum, total}
use Rattle.arith.specs.Choice.{pick}
use Rattle.hermite.specs.Hermite.{multiplier, weight, divisor, basis}
use Rattle.hermite.specs.Stage.{Smooth}
use Rattle.hermite.proofs.HermiteLaws.{end_basis, basis-low, basis-high, mirrored-size}
use Rattle.hermite.proofs.StagePoint.{row, top, end-form}

-- the sizes of what a stage takes of the numbers of both ends, those of order o times g o
spread : (ℕ → ℕ) → ℕ → ℕ → ℕ → ℕ → ℕ
spread g k m N u = total (2 * m) (λ t. nat_abs (basis k m N u t) * g (t % m))

-- ---- by the two ends, as polynomials in the distances a = N − u and b = u

-- of one end
end_spread : (ℕ → ℕ) → ℕ → ℕ → ℕ → ℕ → ℕ
end_spread g k m a b = total m (λ o. nat_abs (end_basis k m (pos a) (pos b) o) * g o)

spread-ends : (g : ℕ → ℕ) (k m N u : ℕ) → 2 ≤ m → m ≤ 3 → spread g k m N u ≡ end_spread g k m (N - u) u + end_spread g k m u (N - u)
unfolding spread end_spread
spread-ends g k m N u m2 m3 =
    total-ends m m2 m3 (λ t. nat_abs (basis k m N u t) * g (t % m))
    ∙ ap₂ ◌+◌
    (total_ext m (λ o. nat_abs (basis k m N u o) * g (o % m)) (λ o. nat_abs (end_basis k m (pos (N - u)) (pos u) o) * g o)
    (λ o l. ap₂ (λ (x y : ℕ). x * g y) (ap nat_abs (basis-low k m N u m2 m3 o l)) (mod-eq_of_lt l)))
    (total_ext m (λ o. nat_abs (basis k m N u (m + o)) * g ((m + o) % m)) (λ o. nat_abs (end_basis k m (pos u) (pos (N - u)) o) * g o)
    (λ o l. ap₂ (λ (x y : ℕ). x * g y)
    (ap nat_abs (basis-high k m N u m2 m3 o l) ∙ mirrored-size (o + k) (end_basis k m (pos u) (pos (N - u)) o))
    (add-mod_left m o ∙ mod-eq_of_lt l)))

-- each power apart
number_apart : ℕ → ℕ → ℕ → ℕ → ℕ → ℕ
number_apart k m a b o = total m (λ j. nat_abs (row k m j o) * nat_abs (pos a ^ℤ (top k m - j) *ℤ pos b ^ℤ j))

number-apart : (k m a b : ℕ) → 2 ≤ m → m ≤ 3 → (o : ℕ) → o < m → nat_abs (end_basis k m (pos a) (pos b) o) ≤ number_apart k m a b o
unfolding number_apart
number-apart k m a b m2 m3 o l =
    le_trans (le_of_eq (ap nat_abs (end-form k m (pos a) (pos b) o)))
    (le_trans (abs-sum m (λ j. row k m j o *ℤ power j))
    (le_of_eq (total_ext m (λ j. nat_abs (row k m j o *ℤ power j)) (λ j. nat_abs (row k m j o) * nat_abs (power j))
    (λ j p. abs-mul (row k m j o) (power j)))))
  where
    power : ℕ → ℤ
    power j = pos a ^ℤ (top k m - j) *ℤ pos b ^ℤ j

apart : (ℕ → ℕ) → ℕ → ℕ → ℕ → ℕ → ℕ
apart g k m a b = total m (λ o. number_apart k m a b o * g o)

end-apart : (g : ℕ → ℕ) (k m a b : ℕ) → 2 ≤ m → m ≤ 3 → end_spread g k m a b ≤ apart g k m a b
unfolding end_spread apart
end-apart g k m a b m2 m3 =
    total_mono m (λ o. nat_abs (end_basis k m (pos a) (pos b) o) * g o) (λ o. number_apart k m a b o * g o)
    (λ o l. mul-le-mul_right (g o) (number-apart k m a b m2 m3 o l))

-- ---- N to a power, where N = a + b, as a product

module _ (N : ℕ) where
  second : N ^ 2 ≡ N * N
  second = rw (pow-suc N 1, pow-suc N 0, pow-zero N, one-mul N)

  third : N ^ 3 ≡ N * N * N
  third = rw (pow-suc N 2, second)

  fourth : N ^ 4 ≡ N * N * N * N
  fourth = rw (pow-suc N 3, third)

  fifth : N ^ 5 ≡ N * N * N * N * N
  fifth = rw (pow-suc N 4, fourth)

-- ---- a dose, and the derivatives roughly

dose-reach : (m : ℕ) → 2 ≤ m → m ≤ 3 → (a b : ℕ) → 4 * (apart (λ o. 1) 0 m a b + apart (λ o. 1) 0 m b a) ≤ 5 * divisor 0 m (a + b)
unfolding divisor apart number_apart total row top multiplier pick
dose-reach = by-m (λ m. (a b : ℕ) → 4 * (apart (λ o. 1) 0 m a b + apart (λ o. 1) 0 m b a) ≤ 5 * divisor 0 m (a + b))
    (λ a b. rw (third (a + b)) (omega arith))
    (λ a b. rw (fifth (a + b)) (omega arith))

-- in fifths of the divisor
unfoldable pub growth : ℕ → ℕ
growth zero = 8
growth (suc zero) = 80
growth (suc (suc k)) = 360

apart-growth : (m : ℕ) → 2 ≤ m → m ≤ 3 → (k : ℕ) → Smooth k m → (a b : ℕ)
    → 5 * (apart (λ o. 2 ^ o) k m a b + apart (λ o. 2 ^ o) k m b a) ≤ growth k * divisor k m (a + b)
unfolding divisor apart number_apart total row top multiplier growth pick
apart-growth =
    by_order (λ m k. (a b : ℕ) → 5 * (apart (λ o. 2 ^ o) k m a b + apart (λ o. 2 ^ o) k m b a) ≤ growth k * divisor k m (a + b))
    (λ a b. rw (third (a + b)) (omega arith))
    (λ a b. rw (second (a + b)) (omega arith))
    (λ a b. rw (fifth (a + b)) (omega arith))
    (λ a b. rw (fourth (a + b)) (omega arith))
    (λ a b. rw (third (a + b)) (omega arith))

-- ---- a slope

-- 2ab ≤ a² + b²
means : (a b : ℕ) → 2 * (a * b) ≤ a * a + b * b
means a b = go (dec_le a b)
  where
    apart_by : (a d b : ℕ) → a + d ≡ b → 2 * (a * b) ≤ a * a + b * b
    apart_by a d b e = subst (λ (i : ℕ). 2 * (a * i) ≤ a * a + i * i) e (omega arith)

    go : Dec (a ≤ b) → 2 * (a * b) ≤ a * a + b * b
    go (yes h) = apart_by a (b - a) b (omega arith)
    go (no h) = let f = apart_by b (a - b) a (omega arith) in omega arith

-- a difference that is not positive
shortfall : (x y : ℕ) → x ≤ y → nat_abs (pos x -ℤ pos y) + x ≤ y
shortfall x y h =
    subst (λ (i : ℕ). nat_abs (pos x -ℤ pos i) + x ≤ i) (rejoined x y h)
    (le_trans (le_of_eq (ap (λ (i : ℕ). i + x) (ap nat_abs (less (pos x) (pos (y - x))) ∙ abs_neg (pos (y - x))))) (omega arith))
  where
    rejoined : (x y : ℕ) → x ≤ y → x + (y - x) ≡ y
    rejoined x y h = omega arith

    less : (x k : ℤ) → x -ℤ (x +ℤ k) ≡ neg_ℤ k
    less x k = ring! (x ∷ k ∷ []) (search quotes depth 40) tt

-- and one that is not negative
surplus : (x y : ℕ) → x ≤ y → nat_abs (pos y -ℤ pos x) + x ≤ y
surplus x y h = le_trans (le_of_eq (ap (λ (i : ℕ). i + x) (ap nat_abs (turn (pos x) (pos y)) ∙ abs_neg (pos x -ℤ pos y)))) (shortfall x y h)
  where
    turn : (x y : ℤ) → y -ℤ x ≡ neg_ℤ (x -ℤ y)
    turn x y = ring! (x ∷ y ∷ []) (search quotes depth 40) tt

-- the quintic D of an end: where a is at most three times b, 12a²b² is the larger part
quintic-D : (a b : ℤ) → end_basis 1 3 a b 1 ≡ a *ℤ a *ℤ a *ℤ a +ℤ (pos 4 *ℤ (a *ℤ a *ℤ a *ℤ b) -ℤ pos 12 *ℤ (a *ℤ a *ℤ b *ℤ b))
unfolding end_basis sum multiplier weight
quintic-D a b = ring! (a ∷ b ∷ []) (search quotes depth 40) tt

near-D : (a b : ℕ) → a ≤ 3 * b → nat_abs (end_basis 1 3 (pos a) (pos b) 1) + 4 * (a * a * a * b) ≤ a * a * a * a + 12 * (a * a * b * b)
near-D a b h =
    let q = a * a * a * b in
    let r = a * a * b * b in
    let s : 4 * q ≤ 12 * r = (let z = mul-le-mul_left (a * a * b) h in omega arith) in
    let e = shortfall (4 * q) (12 * r) s in
    let f = le_trans (le_of_eq (ap nat_abs (quintic-D (pos a) (pos b)))) (abs-add (pos (a * a * a * a)) (pos (4 * q) -ℤ pos (12 * r))) in
    omega arith

abbrev one : ℕ → ℕ
one o = 1

cubic-end : (a b : ℕ) → end_spread one 1 2 a b ≤ a * a + 14 * (a * b)
unfolding apart number_apart total row top multiplier pick
cubic-end a b = le_trans (end-apart one 1 2 a b (lit≤ tt) (lit≤ tt)) (omega arith)

quintic-end : (a b : ℕ) → end_spread one 1 3 a b ≤ a * a * a * a + 6 * (a * a * a * b) + 75 * (a * a * b * b)
unfolding apart number_apart total row top multiplier pick
quintic-end a b = le_trans (end-apart one 1 3 a b (lit≤ tt) (lit≤ tt)) (omega arith)

quintic-near : (a b : ℕ) → a ≤ 3 * b → end_spread one 1 3 a b + 2 * (a * a * a * b) ≤ a * a * a * a + 75 * (a * a * b * b)
unfolding end_spread number_apart total row top multiplier pick
quintic-near a b h =
    let f = number-apart 1 3 a b (lit≤ tt) (lit≤ tt) 0 (lit≤ tt) in
    let d = near-D a b h in
    let s = number-apart 1 3 a b (lit≤ tt) (lit≤ tt) 2 (lit≤ tt) in
    omega arith

-- both ends: where neither a nor b is more than three times the other both are near; else a²b² is small
quintic-slope : (a b : ℕ) → end_spread one 1 3 a b + end_spread one 1 3 b a ≤ 10 * ((a + b) * (a + b) * (a + b) * (a + b))
quintic-slope a b = go (dec_le a (3 * b)) (dec_le b (3 * a))
  where
    far : (a b : ℕ) → 3 * b ≤ a → end_spread one 1 3 a b + end_spread one 1 3 b a ≤ 10 * ((a + b) * (a + b) * (a + b) * (a + b))
    far a b h =
        let p = quintic-end a b in
        let q = quintic-end b a in
        let z = mul-le-mul_left (a * a * b) h in
        omega arith

    go : Dec (a ≤ 3 * b) → Dec (b ≤ 3 * a) → end_spread one 1 3 a b + end_spread one 1 3 b a ≤ 10 * ((a + b) * (a + b) * (a + b) * (a + b))
    go (yes h) (yes k) =
        let p = quintic-near a b h in
        let q = quintic-near b a k in
        let r = means (a * a) (b * b) in
        let s = mul-le-mul_left (a * b) (means a b) in
        omega arith
    go (yes h) (no k) = let z = far b a (omega arith) in omega arith
    go (no h) k = far a b (omega arith)

-- ---- a curvature, of degree 5

-- the numbers of an end, by the distances' products of degree 3
curved-f : (a b : ℤ) → end_basis 2 3 a b 0 ≡ pos 120 *ℤ (a *ℤ b *ℤ b) -ℤ pos 120 *ℤ (a *ℤ a *ℤ b)
unfolding end_basis sum multiplier weight
curved-f a b = ring! (a ∷ b ∷ []) (search quotes depth 60 fits 8000) tt

curved-D : (a b : ℤ) → end_basis 2 3 a b 1 ≡ pos 24 *ℤ (a *ℤ b *ℤ b) -ℤ pos 36 *ℤ (a *ℤ a *ℤ b)
unfolding end_basis sum multiplier weight
curved-D a b = ring! (a ∷ b ∷ []) (search quotes depth 60 fits 8000) tt

curved-S : (a b : ℤ) → end_basis 2 3 a b 2 ≡ pos 6 *ℤ (a *ℤ b *ℤ b) +ℤ (pos 2 *ℤ (a *ℤ a *ℤ a) -ℤ pos 12 *ℤ (a *ℤ a *ℤ b))
unfolding end_basis sum multiplier weight
curved-S a b = ring! (a ∷ b ∷ []) (search quotes depth 60 fits 8000) tt

-- where b is at most a: all numbers of both ends but D of the far one and S of the near one, whose signs vary
curved-both : (a b : ℕ) → b ≤ a → end_spread one 2 3 a b + end_spread one 2 3 b a + 252 * (a * b * b)
    ≤ 282 * (a * a * b) + 2 * (b * b * b) + nat_abs (end_basis 2 3 (pos b) (pos a) 1) + nat_abs (end_basis 2 3 (pos a) (pos b) 2)
unfolding end_spread number_apart total row top multiplier pick
curved-both a b h =
    let x = a * b * b in
    let y = a * a * b in
    let less : x ≤ y = (let z = mul-le-mul_left (a * b) h in omega arith) in
    let f = shortfall (120 * x) (120 * y) (omega arith) in
    let g = surplus (120 * (b * b * a)) (120 * (b * a * a)) (omega arith) in
    let d = shortfall (24 * x) (36 * y) (omega arith) in
    let near-f = ap nat_abs (curved-f (pos a) (pos b)) in
    let far-f = ap nat_abs (curved-f (pos b) (pos a)) in
    let near-D = ap nat_abs (curved-D (pos a) (pos b)) in
    let far-S = number-apart 2 3 b a (lit≤ tt) (lit≤ tt) 2 (lit≤ tt) in
    omega arith

-- the cases, with u = a³, y = a²b, x = ab² and v = b³; w is the size of the two numbers whose signs vary
module _ (E w u x y v : ℕ) (all : E + 252 * x ≤ 282 * y + 2 * v + w) where
  -- a up to 3b/2
  near : w + 24 * y + 2 * u ≤ 42 * x + 12 * y → 2 * y ≤ 3 * x → E ≤ 32 * (u + 3 * y + 3 * x + v)
  near h k = omega arith

  -- from there to 6b
  middle : w + 36 * x + 2 * u ≤ 6 * x + 36 * y → 5626 * y ≤ 841 * u + 9409 * x → E ≤ 32 * (u + 3 * y + 3 * x + v)
  middle h k = omega arith

  -- and beyond
  far : w + 36 * x + 12 * y ≤ 6 * x + 24 * y + 2 * u → 5238 * y ≤ 729 * u + 9409 * x → E ≤ 32 * (u + 3 * y + 3 * x + v)
  far h k = omega arith

module _ (a b : ℕ) (h : b ≤ a) where
  -- D of the far end is positive from a = 3b/2 on
  abbrev far-D : ℕ
  far-D = nat_abs (end_basis 2 3 (pos b) (pos a) 1)

  D-low : 2 * a ≤ 3 * b → far-D + 24 * (a * a * b) ≤ 36 * (a * b * b)
  D-low k =
      let z = mul-le-mul_left (a * b) k in
      let e = ap nat_abs (curved-D (pos b) (pos a)) in
      let d = shortfall (24 * (b * a * a)) (36 * (b * b * a)) (omega arith) in
      omega arith

  D-high : 3 * b ≤ 2 * a → far-D + 36 * (a * b * b) ≤ 24 * (a * a * b)
  D-high k =
      let z = mul-le-mul_left (a * b) k in
      let e = ap nat_abs (curved-D (pos b) (pos a)) in
      let d = surplus (36 * (b * b * a)) (24 * (b * a * a)) (omega arith) in
      omega arith

  -- S of the near end but for 6ab² from a = 6b on
  abbrev near-S : ℕ
  near-S = nat_abs (end_basis 2 3 (pos a) (pos b) 2)

  S-parts : near-S ≤ 6 * (a * b * b) + nat_abs (pos (2 * (a * a * a)) -ℤ pos (12 * (a * a * b)))
  S-parts = le_trans (le_of_eq (ap nat_abs (curved-S (pos a) (pos b))))
      (abs-add (pos (6 * (a * b * b))) (pos (2 * (a * a * a)) -ℤ pos (12 * (a * a * b))))

  S-low : a ≤ 6 * b → near-S + 2 * (a * a * a) ≤ 6 * (a * b * b) + 12 * (a * a * b)
  S-low k =
      let z = mul-le-mul_left (a * a) k in
      let s = shortfall (2 * (a * a * a)) (12 * (a * a * b)) (omega arith) in
      let t = S-parts in
      omega arith

  S-high : 6 * b ≤ a → near-S + 12 * (a * a * b) ≤ 6 * (a * b * b) + 2 * (a * a * a)
  S-high k =
      let z = mul-le-mul_left (a * a) k in
      let s = surplus (12 * (a * a * b)) (2 * (a * a * a)) (omega arith) in
      let t = S-parts in
      omega arith

  abbrev spreads : ℕ
  spreads = end_spread one 2 3 a b + end_spread one 2 3 b a

  all : spreads + 252 * (a * b * b) ≤ 282 * (a * a * b) + 2 * (b * b * b) + (far-D + near-S)
  all = let p = curved-both a b h in omega arith

  powers : spreads ≤ 32 * (a * a * a + 3 * (a * a * b) + 3 * (a * b * b) + b * b * b)
  powers = go (dec_le (2 * a) (3 * b)) (dec_le a (6 * b))
    where
      go : Dec (2 * a ≤ 3 * b) → Dec (a ≤ 6 * b) → spreads ≤ 32 * (a * a * a + 3 * (a * a * b) + 3 * (a * b * b) + b * b * b)
      go (yes k) j =
          near spreads (far-D + near-S) (a * a * a) (a * b * b) (a * a * b) (b * b * b) all
          (let d = D-low k in let s = S-low (omega arith) in omega arith) (let z = mul-le-mul_left (a * b) k in omega arith)
      go (no k) (yes j) =
          middle spreads (far-D + near-S) (a * a * a) (a * b * b) (a * a * b) (b * b * b) all
          (let d = D-high (omega arith) in let s = S-low j in omega arith)
          (let m = mul-le-mul_left a (means (29 * a) (97 * b)) in omega arith)
      go (no k) (no j) =
          far spreads (far-D + near-S) (a * a * a) (a * b * b) (a * a * b) (b * b * b) all
          (let d = D-high (omega arith) in let s = S-high (omega arith) in omega arith)
          (let m = mul-le-mul_left a (means (27 * a) (97 * b)) in omega arith)

  quintic-curvature : spreads ≤ 32 * ((a + b) * (a + b) * (a + b))
  quintic-curvature = let p = powers in omega arith

-- ---- all orders

-- in quarters of the divisor
unfoldable pub gain : ℕ → ℕ
gain zero = 5
gain (suc zero) = 20
gain (suc (suc k)) = 64

ends-gain : (m : ℕ) → 2 ≤ m → m ≤ 3 → (k : ℕ) → Smooth k m → (a b : ℕ)
    → 4 * (end_spread one k m a b + end_spread one k m b a) ≤ gain k * divisor k m (a + b)
unfolding gain divisor
ends-gain =
    by_order (λ m k. (a b : ℕ) → 4 * (end_spread one k m a b + end_spread one k m b a) ≤ gain k * divisor k m (a + b))
    (value 2 (lit≤ tt) (lit≤ tt))
    (λ a b. rw (second (a + b)) (omega (arith, cubic-end a b, cubic-end b a, means a b)))
    (value 3 (lit≤ tt) (lit≤ tt))
    (λ a b. rw (fourth (a + b)) (omega (arith, quintic-slope a b)))
    (λ a b. rw (third (a + b)) (curved a b (dec_le b a)))
  where
    value : (m : ℕ) → 2 ≤ m → m ≤ 3 → (a b : ℕ) → 4 * (end_spread one 0 m a b + end_spread one 0 m b a) ≤ 5 * divisor 0 m (a + b)
    value m m2 m3 a b =
        le_trans (mul-le-mul_left 4 (add-le-add (end-apart one 0 m a b m2 m3) (end-apart one 0 m b a m2 m3))) (dose-reach m m2 m3 a b)

    curved : (a b : ℕ) → Dec (b ≤ a)
        → 4 * (end_spread one 2 3 a b + end_spread one 2 3 b a) ≤ 64 * (2 * ((a + b) * (a + b) * (a + b)))
    curved a b (yes h) = omega (arith, quintic-curvature a b h)
    curved a b (no h) = let k = quintic-curvature b a (omega arith) in omega arith

ends-growth : (k m : ℕ) → Smooth k m → 2 ≤ m → m ≤ 3 → (a b : ℕ)
    → 5 * (end_spread (λ o. 2 ^ o) k m a b + end_spread (λ o. 2 ^ o) k m b a) ≤ growth k * divisor k m (a + b)
ends-growth k m h m2 m3 a b =
    le_trans (mul-le-mul_left 5 (add-le-add (end-apart (λ o. 2 ^ o) k m a b m2 m3) (end-apart (λ o. 2 ^ o) k m b a m2 m3)))
    (apart-growth m m2 m3 k h a b)

-- where each number moves by at most one
unfoldable pub reach : ℕ → ℕ → ℕ → ℕ → ℕ
reach k m N u = total (2 * m) (λ t. nat_abs (basis k m N u t))

-- where a number of order o moves by at most 2^o
unfoldable pub coarse : ℕ → ℕ → ℕ → ℕ → ℕ
coarse k m N u = total (2 * m) (λ t. nat_abs (basis k m N u t) * 2 ^ (t % m))

module _ (k m N u : ℕ) (smooth : Smooth k m) (m2 : 2 ≤ m) (m3 : m ≤ 3) (h : u ≤ N) where
  rejoined : N - u + u ≡ N
  rejoined = omega arith

  pub reach-gain : 4 * reach k m N u ≤ gain k * divisor k m N
  unfolding reach spread
  reach-gain =
      subst (λ (M : ℕ). 4 * reach k m N u ≤ gain k * divisor k m M) rejoined
      (le_trans (mul-le-mul_left 4
      (le_of_eq (total_ext (2 * m) (λ t. nat_abs (basis k m N u t)) (λ t. nat_abs (basis k m N u t) * 1)
      (λ t l. sym (mul-one (nat_abs (basis k m N u t)))) ∙ spread-ends one k m N u m2 m3)))
      (ends-gain m m2 m3 k smooth (N - u) u))

  pub coarse-growth : 5 * coarse k m N u ≤ growth k * divisor k m N
  unfolding coarse spread
  coarse-growth =
      subst (λ (M : ℕ). 5 * coarse k m N u ≤ growth k * divisor k m M) rejoined
      (le_trans (mul-le-mul_left 5 (le_of_eq (spread-ends (λ o. 2 ^ o) k m N u m2 m3))) (ends-growth k m smooth m2 m3 (N - u) u))
