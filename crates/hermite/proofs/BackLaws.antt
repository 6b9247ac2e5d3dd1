-- One axis: back is linear, forward and back undo each other but for the doubling, and the sizes of what each gives.
use mathlib.Core.Path.{◌≡◌, refl, sym, ap, subst, ◌∙◌}
use mathlib.Core.Bool.{Bool, true, false}
use mathlib.Core.List.{[], ◌∷◌}
use Prim.Native.Nat.{ℕ, zero, suc, ◌+◌, ◌*◌, ◌-◌, ◌%◌, ◌^◌, ◌≤◌, ◌<◌}
use native.Mathlib.Nat.{le_trans, le_of_eq, mul-le-mul_right, mod-eq_of_lt, add-mod_left}
use native.Mathlib.Omega.{arith}
use borrow.Author.Tests.{lt-ltb, le-ltb}
use lib.Dec.{ltb, eqb, lit≤}
use lib.IntN.{ℤ, pos, ◌*ℤ◌, nat_abs, zero-*ℤ, neg_ℤ-neg_ℤ}
use Rattle.arith.proofs.Choices.{pick_true, pick-false, by-m, by_2, by_order, by_place, by_count}
use Rattle.arith.proofs.Quote.{quotes, ring! }
use Rattle.arith.proofs.Sums.{sum-ext, sum-three, graded-sum}
use Rattle.arith.specs.Choice.{pick}
use Rattle.arith.specs.Sum.{sum, total}
use Rattle.lattice.proofs.Along.{Linear}
use Rattle.hermite.specs.Hermite.{multiplier, mirrored, forward, solved, backward}
use Rattle.hermite.proofs.HermiteLaws.{mirrored-mul, mul-mirrored, sum-mirrored, mirrored-size, forward-low, forward-high}

-- ---- back is linear

-- 1 at k, else 0
abbrev pub unit : ℕ → ℕ → ℤ
unit k i = pick (eqb k i) (pos 1) (pos 0)

pub solved-linear : (m : ℕ) (y : ℕ → ℤ) (o : ℕ) → solved m y o ≡ sum 3 (λ k. solved m (unit k) o *ℤ y k)
unfolding solved sum pick
solved-linear m y zero = ring! (y 0 ∷ y 1 ∷ y 2 ∷ []) (search quotes depth 40) tt
solved-linear m y (suc zero) = ring! (y 0 ∷ y 1 ∷ y 2 ∷ multiplier m 1 0 ∷ []) (search quotes depth 40) tt
solved-linear m y (suc (suc o)) =
    ring! (y 0 ∷ y 1 ∷ y 2 ∷ multiplier m 1 0 ∷ multiplier m 2 0 ∷ multiplier m 2 1 ∷ [])
    (record { left = search quotes depth 40; right = search quotes depth 40 fits 4000 }) tt

pub backward-parts : (m : ℕ) (c : ℕ → ℤ) (t : ℕ) (low : Bool)
    → pick low (solved m c t) (mirrored (t - m) (solved m (λ k. c (2 * m - 1 - k)) (t - m)))
    ≡ sum 3 (λ k. pick low (solved m (unit k) t) (mirrored (t - m) (solved m (unit k) (t - m))) *ℤ c (pick low k (2 * m - 1 - k)))
unfolding pick
backward-parts m c t true = solved-linear m c t
backward-parts m c t false =
    let y : ℕ → ℤ = λ k. c (2 * m - 1 - k) in
    ap (mirrored (t - m)) (solved-linear m y (t - m))
    ∙ sym (sum-mirrored 3 (t - m) (λ k. solved m (unit k) (t - m) *ℤ y k))
    ∙ sum-ext 3 (λ k. mirrored (t - m) (solved m (unit k) (t - m) *ℤ y k)) (λ k. mirrored (t - m) (solved m (unit k) (t - m)) *ℤ y k)
    (λ k l. sym (mirrored-mul (t - m) (solved m (unit k) (t - m)) (y k)))

unfoldable pub backward-linear : (m : ℕ) → Linear (backward m)
unfolding backward
backward-linear m = record {
  width = 3;
  factor = λ t k. pick (ltb t m) (solved m (unit k) t) (mirrored (t - m) (solved m (unit k) (t - m)));
  place = λ t k. pick (ltb t m) k (2 * m - 1 - k);
  is = λ c t. backward-parts m c t (ltb t m);
}

-- ---- each end

-- as many coefficients as there are orders count
solved-none : (m : ℕ) → 2 ≤ m → m ≤ 3 → (o : ℕ) → o < m → (k : ℕ) → m ≤ k → k < 3 → solved m (unit k) o ≡ pos 0
unfolding solved multiplier pick
solved-none =
    by-m (λ m. (o : ℕ) → o < m → (k : ℕ) → m ≤ k → k < 3 → solved m (unit k) o ≡ pos 0)
    (λ o l k g p. let e : k ≡ 2 = omega arith in ap (λ (i : ℕ). solved 2 (unit i) o) e
    ∙ by_2 (λ o. solved 2 (unit 2) o ≡ pos 0) refl refl o l)
    (λ o l k g p. absurd (omega arith))

pub solved-sum : (m : ℕ) → 2 ≤ m → m ≤ 3 → (y : ℕ → ℤ) (o : ℕ) → o < m → solved m y o ≡ sum m (λ k. solved m (unit k) o *ℤ y k)
solved-sum m m2 m3 y o l = solved-linear m y o
    ∙ sum-three m m2 m3 (λ k. solved m (unit k) o *ℤ y k) (λ k g p. ap (λ z. z *ℤ y k) (solved-none m m2 m3 o l k g p) ∙ zero-*ℤ (y k))

pub solved-ext : (m : ℕ) → 2 ≤ m → m ≤ 3 → (x y : ℕ → ℤ) (o : ℕ) → o < m → ((k : ℕ) → k < m → x k ≡ y k) → solved m x o ≡ solved m y o
solved-ext m m2 m3 x y o l h =
    solved-sum m m2 m3 x o l ∙ sum-ext m (λ t. solved m (unit t) o *ℤ x t) (λ t. solved m (unit t) o *ℤ y t)
    (λ t p. ap (λ z. solved m (unit t) o *ℤ z) (h t p)) ∙ sym (solved-sum m m2 m3 y o l)

-- twice an end's numbers from its coefficients, and its coefficients from these
solved-table : (m : ℕ) → 2 ≤ m → m ≤ 3 → (o : ℕ) → o < m → (y : ℕ → ℤ)
    → solved m (λ k. sum m (λ p. multiplier m k p *ℤ y p)) o ≡ pos 2 *ℤ y o
unfolding solved sum multiplier
solved-table = by_order (λ m o. (y : ℕ → ℤ) → solved m (λ k. sum m (λ p. multiplier m k p *ℤ y p)) o ≡ pos 2 *ℤ y o)
    (λ y. ring! (y 0 ∷ y 1 ∷ []) (search quotes depth 40) tt)
    (λ y. ring! (y 0 ∷ y 1 ∷ []) (search quotes depth 40) tt)
    (λ y. ring! (y 0 ∷ y 1 ∷ y 2 ∷ []) (search quotes depth 40) tt)
    (λ y. ring! (y 0 ∷ y 1 ∷ y 2 ∷ []) (search quotes depth 40) tt)
    (λ y. ring! (y 0 ∷ y 1 ∷ y 2 ∷ []) (record { left = search quotes depth 40 fits 4000; right = search quotes depth 40 }) tt)

table-solved : (m : ℕ) → 2 ≤ m → m ≤ 3 → (k : ℕ) → k < m → (y : ℕ → ℤ) → sum m (λ o. multiplier m k o *ℤ solved m y o) ≡ pos 2 *ℤ y k
unfolding solved sum multiplier
table-solved = by_order (λ m k. (y : ℕ → ℤ) → sum m (λ o. multiplier m k o *ℤ solved m y o) ≡ pos 2 *ℤ y k)
    (λ y. ring! (y 0 ∷ y 1 ∷ []) (search quotes depth 40) tt)
    (λ y. ring! (y 0 ∷ y 1 ∷ []) (search quotes depth 40) tt)
    (λ y. ring! (y 0 ∷ y 1 ∷ y 2 ∷ []) (search quotes depth 40) tt)
    (λ y. ring! (y 0 ∷ y 1 ∷ y 2 ∷ []) (search quotes depth 40) tt)
    (λ y. ring! (y 0 ∷ y 1 ∷ y 2 ∷ []) (search quotes depth 40) tt)

-- ---- both ends

mirrored-back : (o : ℕ) (z : ℤ) → mirrored o (mirrored o z) ≡ z
unfolding mirrored
mirrored-back zero z = refl
mirrored-back (suc zero) z = neg_ℤ-neg_ℤ z
mirrored-back (suc (suc o)) z = mirrored-back o z

module _ (m : ℕ) (m2 : 2 ≤ m) (m3 : m ≤ 3) where
  pub backward-low : (c : ℕ → ℤ) (o : ℕ) → o < m → backward m c o ≡ solved m c o
  unfolding backward
  backward-low c o l = pick_true (ltb o m) (solved m c o) (mirrored (o - m) (solved m (λ k. c (2 * m - 1 - k)) (o - m))) (lt-ltb o m l)

  pub backward-high : (c : ℕ → ℤ) (o : ℕ) → backward m c (m + o) ≡ mirrored o (solved m (λ k. c (2 * m - 1 - k)) o)
  unfolding backward
  backward-high c o =
      pick-false (ltb (m + o) m) (solved m c (m + o)) (mirrored (m + o - m) (solved m (λ k. c (2 * m - 1 - k)) (m + o - m)))
      (le-ltb (m + o) m (omega arith))
      ∙ ap (λ (p : ℕ). mirrored p (solved m (λ k. c (2 * m - 1 - k)) p)) (omega arith)

  -- back of the coefficients is twice the numbers
  pub back-forth : (x : ℕ → ℤ) (t : ℕ) → t < 2 * m → backward m (forward m 0 x) t ≡ pos 2 *ℤ x t
  back-forth x = by_place m (λ t. backward m (forward m 0 x) t ≡ pos 2 *ℤ x t)
      (λ o l. backward-low (forward m 0 x) o l
      ∙ solved-ext m m2 m3 (forward m 0 x) (λ k. sum m (λ p. multiplier m k p *ℤ x (m * 0 + p))) o l (λ k p. forward-low m 0 m2 m3 x k p)
      ∙ solved-table m m2 m3 o l (λ p. x (m * 0 + p)) ∙ ap (λ (i : ℕ). pos 2 *ℤ x i) (omega arith))
      (λ o l. backward-high (forward m 0 x) o
      ∙ ap (mirrored o) (solved-ext m m2 m3 (λ k. forward m 0 x (2 * m - 1 - k))
      (λ k. sum m (λ p. multiplier m k p *ℤ mirrored p (x (m * 0 + (m + p))))) o l (λ k p. forward-high m 0 m2 m3 x k p)
      ∙ solved-table m m2 m3 o l (λ p. mirrored p (x (m * 0 + (m + p)))) ∙ mul-mirrored o (pos 2) (x (m * 0 + (m + o))))
      ∙ mirrored-back o (pos 2 *ℤ x (m * 0 + (m + o))) ∙ ap (λ (i : ℕ). pos 2 *ℤ x i) (omega arith))

  -- the coefficients of what back gives are twice the coefficients
  pub forth-back : (c : ℕ → ℤ) (i : ℕ) → i < 2 * m → forward m 0 (backward m c) i ≡ pos 2 *ℤ c i
  forth-back c = by_count m (λ i. forward m 0 (backward m c) i ≡ pos 2 *ℤ c i)
      (λ k l. forward-low m 0 m2 m3 (backward m c) k l
      ∙ sum-ext m (λ o. multiplier m k o *ℤ backward m c (m * 0 + o)) (λ o. multiplier m k o *ℤ solved m c o)
      (λ o p. ap (λ z. multiplier m k o *ℤ z) (ap (backward m c) (omega arith) ∙ backward-low c o p)) ∙ table-solved m m2 m3 k l c)
      (λ k l. forward-high m 0 m2 m3 (backward m c) k l
      ∙ sum-ext m (λ o. multiplier m k o *ℤ mirrored o (backward m c (m * 0 + (m + o))))
      (λ o. multiplier m k o *ℤ solved m (λ j. c (2 * m - 1 - j)) o)
      (λ o p. ap (λ z. multiplier m k o *ℤ z)
      (ap (mirrored o) (ap (backward m c) (omega arith) ∙ backward-high c o) ∙ mirrored-back o (solved m (λ j. c (2 * m - 1 - j)) o)))
      ∙ table-solved m m2 m3 k l (λ j. c (2 * m - 1 - j)))

-- ---- sizes

row-total : (m : ℕ) → 2 ≤ m → m ≤ 3 → (k : ℕ) → k < m → total m (λ o. nat_abs (multiplier m k o) * 2 ^ o) ≤ 32
unfolding total multiplier
row-total = by_order (λ m k. total m (λ o. nat_abs (multiplier m k o) * 2 ^ o) ≤ 32) (lit≤ tt) (lit≤ tt) (lit≤ tt) (lit≤ tt) (lit≤ tt)

module _ (m : ℕ) (m2 : 2 ≤ m) (m3 : m ≤ 3) (B : ℕ) where
  -- numbers within B, doubled with each order, have coefficients within 32 B
  pub forward-size : (c : ℕ) (x : ℕ → ℤ) → ((t : ℕ) → t < 2 * m → nat_abs (x (m * c + t)) ≤ B * 2 ^ (t % m)) → (i : ℕ) → i < 2 * m
      → nat_abs (forward m c x i) ≤ 32 * B
  forward-size c x h =
      by_count m (λ i. nat_abs (forward m c x i) ≤ 32 * B)
      (λ k l. le_trans (le_of_eq (ap nat_abs (forward-low m c m2 m3 x k l)))
      (end (λ o. x (m * c + o)) (λ o p. subst (λ (i : ℕ). nat_abs (x (m * c + o)) ≤ B * 2 ^ i) (mod-eq_of_lt p) (h o (omega arith))) k l))
      (λ k l. le_trans (le_of_eq (ap nat_abs (forward-high m c m2 m3 x k l)))
      (end (λ o. mirrored o (x (m * c + (m + o))))
      (λ o p. le_trans (le_of_eq (mirrored-size o (x (m * c + (m + o)))))
      (subst (λ (i : ℕ). nat_abs (x (m * c + (m + o))) ≤ B * 2 ^ i) (high o p) (h (m + o) (omega arith)))) k l))
    where
      end : (y : ℕ → ℤ) → ((o : ℕ) → o < m → nat_abs (y o) ≤ B * 2 ^ o) → (k : ℕ) → k < m
          → nat_abs (sum m (λ o. multiplier m k o *ℤ y o)) ≤ 32 * B
      end y h k l = le_trans (graded-sum m (multiplier m k) y (λ o. 2 ^ o) B h) (mul-le-mul_right B (row-total m m2 m3 k l))

      high : (o : ℕ) → o < m → (m + o) % m ≡ o
      high o p = add-mod_left m o ∙ mod-eq_of_lt p
