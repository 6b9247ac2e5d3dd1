-- A corner's block, signed and solved, is the corner's coefficients: from the rule of each end, axis by axis.
use mathlib.Core.Path.{◌≡◌, refl, sym, ap, ◌∙◌, fun_ext}
use mathlib.Core.Bool.{Bool, false}
use Prim.Native.Nat.{ℕ, zero, suc, ◌+◌, ◌*◌, ◌-◌, ◌/◌, ◌%◌, ◌^◌, ◌≤◌, ◌<◌}
use native.Mathlib.Decide.{dec_lt}
use native.Mathlib.Omega.{arith}
use lib.Dec.{lit<}
use lib.IntN.{ℤ, ◌*ℤ◌}
use Rattle.arith.specs.Choice.{pick}
use Rattle.arith.specs.Int.{◌^ℤ◌}
use Rattle.arith.proofs.Sums.{sum-ext}
use Rattle.lattice.specs.Digits.{number, digit}
use Rattle.lattice.specs.Axes.{Place, Field, origin, sweep, axes}
use Rattle.lattice.proofs.Along.{Fresh, distinct-axes, each-axes, sweep-fuse}
use Rattle.lattice.proofs.Local.{used, Paired, sweep-carries}
use Rattle.lattice.proofs.DigitsLaws.{digit-below, Digits, digits_in, number_in, of-digits, high_digit, low_digit}
use Rattle.hermite.specs.Hermite.{multiplier, mirrored, forward, end_rule}
use Rattle.hermite.proofs.HermiteLaws.{forward-low, forward-high}
use Rattle.hermite.proofs.EndLaws.{end-linear, end-depends}
use Rattle.cell.specs.Coefficients.{coefficients}
use Rattle.cell.specs.Corners.{corner_entry}
use Rattle.coefficients.specs.Blocks.{end_sign, block_sign, coefficient_number, block_numbers, solved_block}
use Rattle.coefficients.proofs.SignLaws.{low-sign, high-sign, signs-are, signing, signing-linear, sweep-signing}
use Rattle.coefficients.proofs.Below.{depends-carries, agree}
use Rattle.coefficients.proofs.SpotLaws.{mirror-low, mirror-high, block_in}

-- ---- one axis

pub from_low : (m t : ℕ) → m * 0 + t ≡ t
from_low m t = omega arith

module _ (m : ℕ) (m2 : 2 ≤ m) (m3 : m ≤ 3) where
  -- the coefficient of number k of the high end
  pub high-place : (k : ℕ) → k < m → coefficient_number m (m * 1 + k) ≡ 2 * m - 1 - k
  high-place k l =
      let z : m * 1 + k ≡ m + k = omega arith in
      let w : 3 * m - 1 - (m + k) ≡ 2 * m - 1 - k = omega arith in
      ap (coefficient_number m) z ∙ mirror-high m (m + k) (omega arith) ∙ w

  -- the coefficients of an end, counted from it
  forward-end : (e : ℕ) → e < 2 → (x y : ℕ → ℤ) → ((t : ℕ) → t < m → x (m * e + t) ≡ y t) → (k : ℕ) → k < m
      → forward m 0 x (coefficient_number m (m * e + k)) ≡ end_rule false m (signing (λ o. end_sign e ^ℤ o) y) k
  unfolding end_rule pick
  forward-end zero l x y h k p =
      ap (λ (i : ℕ). forward m 0 x (coefficient_number m i)) (from_low m k) ∙ ap (forward m 0 x) (mirror-low m k p)
      ∙ forward-low m 0 m2 m3 x k p
      ∙ sum-ext m (λ o. multiplier m k o *ℤ x (m * 0 + o)) (λ o. multiplier m k o *ℤ (end_sign 0 ^ℤ o *ℤ y o))
      (λ o q. ap (λ z. multiplier m k o *ℤ z) (h o q ∙ sym (low-sign o (y o))))
  forward-end (suc zero) l x y h k p =
      ap (forward m 0 x) (high-place k p) ∙ forward-high m 0 m2 m3 x k p
      ∙ sum-ext m (λ o. multiplier m k o *ℤ mirrored o (x (m * 0 + (m + o)))) (λ o. multiplier m k o *ℤ (end_sign 1 ^ℤ o *ℤ y o))
      (λ o q. ap (λ z. multiplier m k o *ℤ z) (ap (mirrored o) (ap x (there m o) ∙ h o q) ∙ sym (high-sign o (y o))))
    where
      there : (m o : ℕ) → m * 0 + (m + o) ≡ m * 1 + o
      there m o = omega arith
  forward-end (suc (suc e)) l x y h k p = absurd (omega arith)

-- only the numbers of the block count
pub solved-same : (back : Bool) (m n : ℕ) → 2 ≤ m → m ≤ 3 → (xs ys : ℕ → ℤ) → ((j : ℕ) → j < m ^ n → xs j ≡ ys j) → (k : ℕ) → k < m ^ n
    → solved_block back m n xs k ≡ solved_block back m n ys k
unfolding solved_block
solved-same back m n m2 m3 xs ys h k l =
    agree n m (λ a. end_rule back m) (each-axes n _ (λ a l. depends-carries n m (end-depends back m m2 m3) a l))
    (λ p. xs (number n (λ b. m) p)) (λ p. ys (number n (λ b. m) p))
    (λ p d. h (number n (λ b. m) p) (number_in n m p d)) (digit (λ b. m) k) (digits_in n m k (omega arith) l)

-- ---- all axes

-- place s on axis a is that of order t; 0 on an unused axis
pub record Order (m n : ℕ) (F : ℕ → ℕ → ℕ) (a s t : ℕ) : Type 0 where
  pub is : s ≡ F a t
  pub below : t < m
  pub none : n ≤ a → t ≡ 0

module _ (m n : ℕ) where
  -- a fact of the orders of a used axis
  pub reads : (F : ℕ → ℕ → ℕ) (x y : ℕ → ℤ) (a : ℕ) → a < n → ((s t : ℕ) → Order m n F a s t → x s ≡ y t) → (t : ℕ) → t < m
      → x (F a t) ≡ y t
  reads F x y a l h t q = h (F a t) t (record { is = refl; below = q; none = λ b. absurd (apart b) })
    where
      apart : n ≤ a → ⊥
      apart b = omega arith

  pub orders-in : (F : ℕ → ℕ → ℕ) (p q : Place) → ((a : ℕ) → Order m n F a (p a) (q a)) → (p ≡ (λ a. F a (q a))) × Digits n m q
  orders-in F p q h = (fun_ext (λ a. (h a).is), record { used = λ a l. (h a).below; unused = λ a l. (h a).none l })

  -- number k of the block on each axis
  pub paired : 0 < m → (F G : ℕ → ℕ → ℕ) (p : Place) (k : ℕ) → k < m ^ n
      → ((a : ℕ) → p a ≡ F a (digit (λ b. m) k a)) → ((a : ℕ) → n ≤ a → p a ≡ G a (digit (λ b. m) k a))
      → Paired (Order m n F) (Order m n G) (axes n) p (digit (λ b. m) k)
  paired some F G p k hk f g = record {
    done = λ a z. record { is = f a; below = digit-below (λ b. m) k a some; none = order.unused a };
    left = λ a z. record { is = g a (beyond a z); below = digit-below (λ b. m) k a some; none = order.unused a };
  }
    where
      order : Digits n m (digit (λ b. m) k)
      order = digits_in n m k some hk

      beyond : (a : ℕ) → Fresh a (axes n) → n ≤ a
      beyond a f = go (dec_lt a n)
        where
          go : Dec (a < n) → n ≤ a
          go (yes l) = absurd (used n a l f)
          go (no l) = omega (arith, l)

-- ---- all axes of a corner

abbrev pub end : ℕ → ℕ → ℕ
end c a = digit (λ b. 2) c a

pub end_low : (c a : ℕ) → end c a < 2
end_low c a = digit-below (λ b. 2) c a (lit< tt)

-- number t of the corner's end, and its coefficient
abbrev pub joined : ℕ → ℕ → ℕ → ℕ → ℕ
joined m c a t = m * end c a + t

abbrev pub counted : ℕ → ℕ → ℕ → ℕ → ℕ
counted m c a t = coefficient_number m (m * end c a + t)

-- on an unused axis a number and its coefficient are 0
pub both-none : (m n c : ℕ) → 0 < m → c < 2 ^ n → (k : ℕ) → k < m ^ n → (a : ℕ) → n ≤ a
    → coefficient_number m (block_numbers m c k a) ≡ block_numbers m c k a
both-none m n c some hc k hk a l =
    let z = (block_in m n some c k hc hk).unused a l in
    ap (coefficient_number m) z ∙ mirror-low m 0 some ∙ sym z

-- number k of the corner's block is its coefficient
module _ (m n : ℕ) (m2 : 2 ≤ m) (m3 : m ≤ 3) (c : ℕ) (hc : c < 2 ^ n) (r : ℕ → ℤ) where
  some : 0 < m
  some = omega arith

  entries-are : (p q : Place) → ((a : ℕ) → Order m n (joined m c) a (p a) (q a))
      → r (corner_entry m n p) ≡ r (m ^ n * c + number n (λ b. m) q)
  unfolding corner_entry
  entries-are p q h =
      ap r
      (ap (λ (e : Place). m ^ n * number n (λ b. 2) e + number n (λ b. m) (λ a. p a % m))
      (fun_ext (λ a. ap (λ (k : ℕ). k / m) (h a).is ∙ high_digit m (end c a) (q a) (h a).below))
      ∙ ap (λ (o : Place). m ^ n * number n (λ b. 2) (end c) + number n (λ b. m) o)
      (fun_ext (λ a. ap (λ (k : ℕ). k % m) (h a).is ∙ low_digit m (end c a) (q a) (h a).below))
      ∙ ap (λ (k : ℕ). m ^ n * k + number n (λ b. m) q) (of-digits n 2 c hc))

  -- its sign along axis a
  abbrev along-axis : ℕ → ℕ → ℤ
  along-axis a o = end_sign (end c a) ^ℤ o

  pub forward-block : n ≤ 3 → (k : ℕ) → k < m ^ n
      → solved_block false m n (λ j. block_sign m c j *ℤ r (m ^ n * c + j)) k
      ≡ coefficients m n origin (λ t. r (corner_entry m n t)) (λ a. coefficient_number m (block_numbers m c k a))
  unfolding coefficients block_numbers solved_block
  forward-block few k hk =
      sym (sweep-carries (Order m n (counted m c)) (Order m n (joined m c)) (λ a. forward m 0)
      (λ a x. end_rule false m (signing (along-axis a) x)) (axes n) (distinct-axes n)
      (each-axes n _ (λ a l x y j t s h.
      ap (forward m 0 x) s.is ∙ forward-end m m2 m3 (end c a) (end_low c a) x y (reads m n (joined m c) x y a l h) t s.below))
      (λ t. r (corner_entry m n t)) plain entries-are (λ a. coefficient_number m (block_numbers m c k a)) (digit (λ b. m) k)
      (paired m n some (counted m c) (joined m c) (λ a. coefficient_number m (block_numbers m c k a)) k hk (λ a. refl)
      (both-none m n c some hc k hk))
      ∙ sym (ap (λ (g : Field). g (digit (λ b. m) k))
      (sweep-fuse (axes n) (distinct-axes n) (λ a. end_rule false m) (λ a. signing (along-axis a)) (λ a. end-linear false m)
      (λ a. signing-linear (along-axis a)) plain))
      ∙ agree n m (λ a. end_rule false m) (each-axes n _ (λ a l. depends-carries n m (end-depends false m m2 m3) a l))
      (sweep (axes n) (λ a. signing (along-axis a)) plain) (λ q. block_sign m c (number n (λ b. m) q) *ℤ plain q)
      (λ p d. sweep-signing n along-axis plain p ∙ ap (λ z. z *ℤ plain p) (signs-are m n c few p d))
      (digit (λ b. m) k) (digits_in n m k some hk))
    where
      plain : Field
      plain q = r (m ^ n * c + number n (λ b. m) q)
