-- The signs of a corner: they change no size, and to sign a block as a whole is to sign along each axis where its rule is applied.
use mathlib.Core.Path.{◌≡◌, refl, sym, ap, ap₂, ◌∙◌}
use mathlib.Core.List.{List, [], ◌∷◌}
use Prim.Native.Nat.{ℕ, zero, suc, ◌+◌, ◌-◌, ◌*◌, ◌/◌, ◌%◌, ◌^◌, ◌≤◌, ◌<◌}
use native.Mathlib.Nat.{zero-add, mod-eq_of_lt, mod-lt, le_trans, le_of_eq}
use native.Mathlib.Omega.{arith}
use lib.Dec.{eqb, lit<, lit≤}
use lib.IntN.{ℤ, pos, neg_ℤ, ◌*ℤ◌, nat_abs, neg_ℤ-neg_ℤ}
use mir.Syntax.{w64}
use mir.Val.{SFits}
use mir.Facts.{to_z-of_z}
use Rattle.arith.specs.Choice.{pick}
use Rattle.arith.specs.Int.{◌^ℤ◌}
use Rattle.arith.specs.Sum.{product}
use Rattle.arith.proofs.Abs.{abs-mul}
use Rattle.arith.proofs.Laws.{negℤ-*ℤ, *ℤ-assoc, *ℤ-pos-one, pos-one-*ℤ}
use Rattle.arith.proofs.Choices.{by_2, by-3}
use Rattle.arith.proofs.Machine.{sized, sizes, fits?, kept}
use Rattle.arith.proofs.Sums.{sum_first}
use Rattle.lattice.specs.Digits.{number, digit}
use Rattle.lattice.specs.Axes.{Place, Field, Rule, sweep, axes}
use Rattle.lattice.proofs.Along.{Linear, put_same}
use Rattle.lattice.proofs.DigitsLaws.{digit-below, Digits, of_number, high_digit, low_digit}
use Rattle.hermite.specs.Hermite.{mirrored}
use Rattle.hermite.proofs.HermiteLaws.{mirrored-size}
use Rattle.hermite.proofs.DotLaws.{held}
use Rattle.coefficients.specs.declared.Row.{Row}
use Rattle.coefficients.specs.Blocks.{RowOf, end_sign, block_sign}

-- ---- one axis

pub low-sign : (o : ℕ) (z : ℤ) → end_sign 0 ^ℤ o *ℤ z ≡ z
unfolding end_sign
low-sign zero z = pos-one-*ℤ z
low-sign (suc o) z = ap (λ y. y *ℤ z) (pos-one-*ℤ (end_sign 0 ^ℤ o)) ∙ low-sign o z

minus : (y : ℤ) → end_sign 1 *ℤ y ≡ neg_ℤ y
unfolding end_sign
minus y = negℤ-*ℤ (pos 1) y ∙ ap neg_ℤ (pos-one-*ℤ y)

pub high-sign : (o : ℕ) (z : ℤ) → end_sign 1 ^ℤ o *ℤ z ≡ mirrored o z
unfolding mirrored
high-sign zero z = pos-one-*ℤ z
high-sign (suc zero) z = ap (λ y. y *ℤ z) (*ℤ-pos-one (end_sign 1)) ∙ minus z
high-sign (suc (suc o)) z =
    *ℤ-assoc (end_sign 1) (end_sign 1 *ℤ end_sign 1 ^ℤ o) z ∙ minus (end_sign 1 *ℤ end_sign 1 ^ℤ o *ℤ z)
    ∙ ap neg_ℤ (*ℤ-assoc (end_sign 1) (end_sign 1 ^ℤ o) z ∙ minus (end_sign 1 ^ℤ o *ℤ z))
    ∙ neg_ℤ-neg_ℤ (end_sign 1 ^ℤ o *ℤ z) ∙ high-sign o z

pub sign-size : (b o : ℕ) (z : ℤ) → b < 2 → nat_abs (end_sign b ^ℤ o *ℤ z) ≡ nat_abs z
sign-size zero o z l = ap nat_abs (low-sign o z)
sign-size (suc zero) o z l = ap nat_abs (high-sign o z) ∙ mirrored-size o z
sign-size (suc (suc b)) o z l = absurd (omega arith)

-- ---- all axes

module _ (f : ℕ → ℤ) where
  product-size : (ls : List ℕ) (z : ℤ) → ((a : ℕ) (y : ℤ) → nat_abs (f a *ℤ y) ≡ nat_abs y) → nat_abs (product ls f *ℤ z) ≡ nat_abs z
  unfolding product
  product-size [] z h = ap nat_abs (pos-one-*ℤ z)
  product-size (a ∷ ls) z h = ap nat_abs (*ℤ-assoc (f a) (product ls f) z) ∙ h a (product ls f *ℤ z) ∙ product-size ls z h

  -- factors 1 on further axes
  product-more : (n k : ℕ) → ((a : ℕ) → n ≤ a → f a ≡ pos 1) → product (axes (k + n)) f ≡ product (axes n) f
  unfolding product axes
  product-more n zero h = ap (λ (k : ℕ). product (axes k) f) (zero-add n)
  product-more n (suc k) h =
      ap (λ (i : ℕ). product (axes i) f) (let e : suc k + n ≡ suc (k + n) = omega arith in e)
      ∙ ap (λ z. z *ℤ product (axes (k + n)) f) (h (k + n) (omega arith)) ∙ pos-one-*ℤ (product (axes (k + n)) f) ∙ product-more n k h

pub block-sign-size : (m c k : ℕ) (z : ℤ) → nat_abs (block_sign m c k *ℤ z) ≡ nat_abs z
unfolding block_sign
block-sign-size m c k z =
    product-size (λ a. end_sign (digit (λ b. 2) c a) ^ℤ digit (λ b. m) k a) (axes 3) z
    (λ a y. sign-size (digit (λ b. 2) c a) (digit (λ b. m) k a) y (digit-below (λ b. 2) c a (lit< tt)))

-- a number of a row: the sign of the row, and of its order along x
module _ (m c y z : ℕ) (few : c < 8) (ly : y < m) (lz : z < m) where
  pub row-signs : (t : ℕ) → t < m → block_sign m c (m * (m * z + y) + t)
      ≡ end_sign (c / 2 / 2) ^ℤ z *ℤ end_sign (c / 2 % 2) ^ℤ y *ℤ end_sign (c % 2) ^ℤ t
  unfolding block_sign product axes digit
  row-signs t l =
      rw (
        low_digit m (m * z + y) t l,
        high_digit m (m * z + y) t l,
        low_digit m z y ly,
        high_digit m z y ly,
        mod-eq_of_lt lz,
        mod-eq_of_lt half,
      )
      (ap (λ w. end_sign (c / 2 / 2) ^ℤ z *ℤ (end_sign (c / 2 % 2) ^ℤ y *ℤ w)) (*ℤ-pos-one (end_sign (c % 2) ^ℤ t))
      ∙ sym (*ℤ-assoc (end_sign (c / 2 / 2) ^ℤ z) (end_sign (c / 2 % 2) ^ℤ y) (end_sign (c % 2) ^ℤ t)))
    where
      half : c / 2 / 2 < 2
      half = omega arith

-- order 2 keeps the sign of order 0
even : (b : ℕ) → b < 2 → end_sign b ^ℤ 2 ≡ pos 1
unfolding end_sign
even = by_2 (λ b. end_sign b ^ℤ 2 ≡ pos 1) refl refl

pub order-sign : (s : ℤ) (b : ℕ) → b < 2 → (t : ℕ) → t < 3 → s *ℤ end_sign b ^ℤ t ≡ pick (eqb t 1) (s *ℤ end_sign b ^ℤ 1) s
unfolding pick
order-sign s b l =
    by-3 (λ t. s *ℤ end_sign b ^ℤ t ≡ pick (eqb t 1) (s *ℤ end_sign b ^ℤ 1) s) (*ℤ-pos-one s) refl
    (ap (λ z. s *ℤ z) (even b l) ∙ *ℤ-pos-one s)

-- a number by a sign does not overflow
module _ (s x : ℤ) (hs : nat_abs s ≤ 1) (hx : nat_abs x ≤ 2 ^ 50) where
  fits : SFits w64 (s *ℤ x)
  fits = fits? (search (sizes, sized, hs, hx) depth 40) (omega arith)

  pub sign_fits : SFits w64 (held s *ℤ held x)
  sign_fits = rw (kept s 1 hs (lit< tt), kept x (2 ^ 50) hx (lit< tt)) fits

  pub sign_kept : held (held s *ℤ held x) ≡ s *ℤ x
  sign_kept = rw (kept s 1 hs (lit< tt), kept x (2 ^ 50) hx (lit< tt)) (to_z-of_z {w = w64} fits)

-- the signs of a row as they are held: that of the row and that of order 1 along x, each 1 or −1
module _ (m c g : ℕ) (o : Row) (m3 : m ≤ 3) (few : c < 8) (of_row : RowOf m g o) (lz : o.z < m) (row along : ℤ)
    (row_is : (row ≡ end_sign (c / 2 / 2) ^ℤ o.z *ℤ end_sign (c / 2 % 2) ^ℤ o.y) × (nat_abs row ≡ 1))
    (along-is : (along ≡ end_sign (c % 2) ^ℤ 1) × (nat_abs along ≡ 1)) where
  along-small : nat_abs along ≤ 2 ^ 50
  along-small = le_trans (le_of_eq along-is.1) (lit≤ tt)

  row_kept : held row ≡ row
  row_kept = kept row 1 (le_of_eq row_is.1) (lit< tt)

  pub row_one : nat_abs (held row) ≡ 1
  row_one = ap nat_abs row_kept ∙ row_is.1

  both : held (held row *ℤ held along) ≡ row *ℤ along
  both = sign_kept row along (le_of_eq row_is.1) along-small

  pub both_one : nat_abs (held (held row *ℤ held along)) ≡ 1
  both_one = ap nat_abs both ∙ abs-mul row along ∙ ap₂ ◌*◌ row_is.1 along-is.1

  pub both-fit : SFits w64 (held row *ℤ held along)
  both-fit = sign_fits row along (le_of_eq row_is.1) along-small

  -- number t of the row
  pub row_number : (t : ℕ) → t < m → pick (eqb t 1) (held (held row *ℤ held along)) (held row) ≡ block_sign m c (m * g + t)
  row_number t l =
      ap (λ z. pick (eqb t 1) (held (held row *ℤ held along)) z) row_kept
      ∙ ap (λ z. pick (eqb t 1) z row) (both ∙ ap (λ z. row *ℤ z) along-is.0)
      ∙ sym (order-sign row (c % 2) (mod-lt c (lit< tt)) t (omega arith)) ∙ ap (λ z. z *ℤ end_sign (c % 2) ^ℤ t) row_is.0
      ∙ sym (ap (λ (k : ℕ). block_sign m c (m * k + t)) of_row.number_is ∙ row-signs m c o.y o.z few of_row.low lz t l)

-- the sign of the orders p
pub signs-are : (m n c : ℕ) → n ≤ 3 → (p : Place) → Digits n m p
    → product (axes n) (λ a. end_sign (digit (λ b. 2) c a) ^ℤ p a) ≡ block_sign m c (number n (λ b. m) p)
unfolding block_sign
signs-are m n c few p d =
    sym (ap (λ (q : Place). product (axes 3) (λ a. end_sign (digit (λ b. 2) c a) ^ℤ q a)) (of_number n m p d)
    ∙ ap (λ (k : ℕ). product (axes k) (λ a. end_sign (digit (λ b. 2) c a) ^ℤ p a)) (let e : 3 ≡ 3 - n + n = omega arith in e)
    ∙ product-more (λ a. end_sign (digit (λ b. 2) c a) ^ℤ p a) n (3 - n)
    (λ a l. ap (λ (o : ℕ). end_sign (digit (λ b. 2) c a) ^ℤ o) (d.unused a l)))

-- the rule that signs along an axis
abbrev pub signing : (ℕ → ℤ) → Rule
signing σ x t = σ t *ℤ x t

pub signing-linear : (σ : ℕ → ℤ) → Linear (signing σ)
signing-linear σ = record {
  width = 1;
  factor = λ j t. σ j;
  place = λ j t. j;
  is = λ x j. sym (sum_first 1 (lit< tt) (λ t. σ j *ℤ x j) (λ i p q. absurd (apart i p q)));
}
  where
    apart : (i : ℕ) → 0 < i → i < 1 → ⊥
    apart i p q = omega arith

pub sweep-signing : (n : ℕ) (σ : ℕ → ℕ → ℤ) (g : Field) (p : Place)
    → sweep (axes n) (λ a. signing (σ a)) g p ≡ product (axes n) (λ a. σ a (p a)) *ℤ g p
unfolding sweep axes product
sweep-signing zero σ g p = sym (pos-one-*ℤ (g p))
sweep-signing (suc n) σ g p =
    ap (λ (q : Place). σ n (p n) *ℤ sweep (axes n) (λ a. signing (σ a)) g q) (put_same n p)
    ∙ ap (λ y. σ n (p n) *ℤ y) (sweep-signing n σ g p)
    ∙ sym (*ℤ-assoc (σ n (p n)) (product (axes n) (λ a. σ a (p a))) (g p))
