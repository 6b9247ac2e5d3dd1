-- The code's weights are the definition's, case by case, and how large they are.
use mathlib.Core.Path.{◌≡◌, sym, ap, ap₂, ◌∙◌}
use mathlib.Core.List.{[], ◌∷◌}
use Prim.Native.Nat.{ℕ, zero, suc, ◌+◌, ◌*◌, ◌-◌, ◌^◌, ◌≤◌, ◌<◌}
use native.Mathlib.Nat.{le_trans, le_of_eq, mul_comm, mul-le-mul_right, pow-suc, pow-le-pow_right, sub-zero}
use native.Mathlib.Omega.{arith}
use lib.Dec.{lit≤, lit<}
use lib.Pow.{pow-add}
use lib.IntN.{ℤ, pos, negsuc, ◌-ℤ◌, ◌*ℤ◌, nat_abs, zero-*ℤ}
use mir.Syntax.{w64}
use mir.Val.{SFits}
use mir.Facts.{to_z-of_z}
use Rattle.arith.specs.Int.{◌^ℤ◌}
use Rattle.arith.proofs.Abs.{abs-mul-le, abs-minus}
use Rattle.arith.proofs.Machine.{sized, sizes, fits?, value?}
use Rattle.arith.proofs.Laws.{*ℤ-assoc, pos-one-*ℤ}
use Rattle.arith.proofs.Order.{subℕ-pos}
use Rattle.arith.proofs.Quote.{quotes, ring! }
use Rattle.lattice.specs.Buffer.{at}
use Rattle.arith.specs.Sum.{sum}
use Rattle.hermite.specs.Hermite.{weight}
use Rattle.hermite.specs.Stage.{RowsOn}
use Rattle.arith.proofs.Choices.{by-3}
use Rattle.hermite.proofs.DotLaws.{held}

-- ---- as the code writes them

module _ (a b : ℤ) where
  -- weights are made of these, as many as the code takes
  abbrev pub product : ℕ → ℕ → ℤ
  product m k = a ^ℤ (2 * m - 2 - k) *ℤ b ^ℤ k

  pub cubic-products : (a *ℤ a ≡ product 2 0) × (a *ℤ b ≡ product 2 1) × (b *ℤ b ≡ product 2 2)
  cubic-products = (
    ring! (a ∷ b ∷ []) (search quotes depth 40) tt,
    ring! (a ∷ b ∷ []) (search quotes depth 40) tt,
    ring! (a ∷ b ∷ []) (search quotes depth 40) tt,
  )

  pub quintic-products : (a *ℤ a *ℤ (a *ℤ a) ≡ product 3 0) × (a *ℤ a *ℤ (a *ℤ b) ≡ product 3 1) × (a *ℤ b *ℤ (a *ℤ b) ≡ product 3 2)
  quintic-products = (
    ring! (a ∷ b ∷ []) (search quotes depth 40) tt,
    ring! (a ∷ b ∷ []) (search quotes depth 40) tt,
    ring! (a ∷ b ∷ []) (search quotes depth 40) tt,
  )

  pub products-row : (m n : ℕ) → m ≡ n → (x y z : ℤ) → x ≡ product n 0 → y ≡ product n 1 → z ≡ product n 2 → (k : ℕ) → k < 3
      → at (x ∷ y ∷ z ∷ []) k ≡ product m k
  products-row m n e x y z p q r k l = by-3 (λ k. at (x ∷ y ∷ z ∷ []) k ≡ product n k) p q r k l ∙ ap (λ (i : ℕ). product i k) (sym e)

  -- of a dose: one factor more, for every degree and number
  pub value-weight : (m k : ℕ) → k + 2 ≤ 2 * m → a *ℤ product m k ≡ weight 0 a b (2 * m - 1) k
  unfolding weight
  value-weight m k h =
      let e : suc (2 * m - 2 - k) ≡ 2 * m - 1 - k = omega arith in
      sym (*ℤ-assoc a (a ^ℤ (2 * m - 2 - k)) (b ^ℤ k)) ∙ ap (λ (i : ℕ). a ^ℤ i *ℤ b ^ℤ k) e

  -- of a slope: two products, of which the first counts k times and the second d − k times, for every degree and number
  slope-weight : (m k : ℕ) → pos k *ℤ product m (k - 1) -ℤ pos (2 * m - 1 - k) *ℤ product m k ≡ weight 1 a b (2 * m - 1) k
  unfolding weight
  slope-weight m k = ap (λ (d : ℕ). pos k *ℤ (a ^ℤ (d - (k - 1)) *ℤ b ^ℤ (k - 1)) -ℤ pos (2 * m - 1 - k) *ℤ (a ^ℤ (d - k) *ℤ b ^ℤ k))
      (less m)
    where
      less : (m : ℕ) → 2 * m - 2 ≡ 2 * m - 1 - 1
      less m = omega arith

  -- the three of an end, as the code writes them
  pub record SlopeWeights (m : ℕ) : Type 0 where
    pub first : pos 0 -ℤ pos (2 * m - 1) *ℤ product m 0 ≡ weight 1 a b (2 * m - 1) 0
    pub second : product m 0 -ℤ (pos (2 * m - 1) -ℤ pos 1) *ℤ product m 1 ≡ weight 1 a b (2 * m - 1) 1
    pub third : pos 2 *ℤ product m 1 -ℤ (pos (2 * m - 1) -ℤ pos 2) *ℤ product m 2 ≡ weight 1 a b (2 * m - 1) 2

  pub slope-weights : (m : ℕ) → 2 ≤ m → SlopeWeights m
  slope-weights m h = record {
    first = ap₂ (λ (x : ℤ) (e : ℕ). x -ℤ pos e *ℤ product m 0) (sym (zero-*ℤ (product m 0))) (sym (sub-zero (2 * m - 1)))
        ∙ slope-weight m 0;
    second = ap₂ (λ x y. x -ℤ y *ℤ product m 1) (sym (pos-one-*ℤ (product m 0))) (subℕ-pos (2 * m - 1) 1 (omega arith)) ∙ slope-weight m 1;
    third = ap (λ y. pos 2 *ℤ product m 1 -ℤ y *ℤ product m 2) (subℕ-pos (2 * m - 1) 2 (omega arith)) ∙ slope-weight m 2;
  }

  -- of a curvature, in degree 5: three rows by the products of degree 3
  pub curvature-weights : (x y z : ℤ) → x ≡ a *ℤ (a *ℤ a) → y ≡ a *ℤ (a *ℤ b) → z ≡ b *ℤ (a *ℤ b) → (r : ℕ → ℤ)
      → RowsOn (at (pos 20 ∷ pos 0 ∷ pos 0 ∷ [])) (at (negsuc 7 ∷ pos 12 ∷ pos 0 ∷ [])) (at (pos 2 ∷ negsuc 11 ∷ pos 6 ∷ []))
      (at (x ∷ y ∷ z ∷ [])) r
      → (k : ℕ) → k < 3 → r k ≡ weight 2 a b 5 k
  unfolding weight sum
  curvature-weights x y z p q s r h =
      by-3 (λ k. r k ≡ weight 2 a b 5 k) (h.first ∙ rw (p, q, s) (ring! (a ∷ b ∷ []) (search quotes depth 40) tt))
      (h.second ∙ rw (p, q, s) (ring! (a ∷ b ∷ []) (search quotes depth 40) tt))
      (h.third ∙ rw (p, q, s) (ring! (a ∷ b ∷ []) (search quotes depth 40) tt))

-- three weights as an array, for the order of a branch
pub weights-row : (order k : ℕ) → order ≡ k → (a b : ℤ) (d : ℕ) (x y z : ℤ) → x ≡ weight k a b d 0 → y ≡ weight k a b d 1
    → z ≡ weight k a b d 2
    → (i : ℕ) → i < 3 → at (x ∷ y ∷ z ∷ []) i ≡ weight order a b d i
weights-row order k e a b d x y z p q r i l = by-3 (λ i. at (x ∷ y ∷ z ∷ []) i ≡ weight k a b d i) p q r i l
    ∙ ap (λ (s : ℕ). weight s a b d i) (sym e)

-- ---- sizes

power-within : (a : ℤ) (e : ℕ) → nat_abs a ≤ 256 → nat_abs (a ^ℤ e) ≤ 256 ^ e
power-within a zero h = lit≤ tt
power-within a (suc e) h = le_trans (abs-mul-le a (a ^ℤ e) h (power-within a e h)) (le_of_eq (mul_comm 256 (256 ^ e) ∙ sym (pow-suc 256 e)))

pair_size : (a b : ℤ) (i j : ℕ) → nat_abs a ≤ 256 → nat_abs b ≤ 256 → i + j ≤ 5 → nat_abs (a ^ℤ i *ℤ b ^ℤ j) ≤ 256 ^ 5
pair_size a b i j ha hb h =
    le_trans (abs-mul-le (a ^ℤ i) (b ^ℤ j) (power-within a i ha) (power-within b j hb))
    (le_trans (le_of_eq (sym (pow-add 256 i j))) (pow-le-pow_right {n = 256} (lit< tt) h))

pub product-size : (m : ℕ) → 2 ≤ m → m ≤ 3 → (a b : ℤ) → nat_abs a ≤ 256 → nat_abs b ≤ 256 → (k : ℕ) → k < 3
    → nat_abs (product a b m k) ≤ 2 ^ 40
product-size m m2 m3 a b ha hb k l = le_trans (pair_size a b (2 * m - 2 - k) k ha hb (omega arith)) (lit≤ tt)

-- each derivative is at most seven times as large as the one before
module _ (a b : ℤ) (ha : nat_abs a ≤ 256) (hb : nat_abs b ≤ 256) where
  each-size : (k d : ℕ) → d ≤ 5 → (i : ℕ) → i < 3 → nat_abs (weight k a b d i) ≤ 8 ^ k * 2 ^ 40
  unfolding weight
  each-size zero d l i p = le_trans (pair_size a b (d - i) i ha hb (omega arith)) (lit≤ tt)
  each-size (suc k) d l i p =
      let up = abs-mul-le (pos i) (weight k a b (d - 1) (i - 1)) {A = 2} (omega arith)
      (each-size k (d - 1) (omega arith) (i - 1) (omega arith)) in
      let down = abs-mul-le (pos (d - i)) (weight k a b (d - 1) i) {A = 5} (omega arith) (each-size k (d - 1) (omega arith) i p) in
      let e = pow-suc 8 k in
      le_trans (abs-minus (pos i *ℤ weight k a b (d - 1) (i - 1)) (pos (d - i) *ℤ weight k a b (d - 1) i)) (omega arith)

pub weight-size : (k : ℕ) → k ≤ 2 → (d : ℕ) (a b : ℤ) → d ≤ 5 → nat_abs a ≤ 256 → nat_abs b ≤ 256 → (i : ℕ) → i < 3
    → nat_abs (weight k a b d i) ≤ 2 ^ 46
weight-size k h d a b l ha hb i p =
    le_trans (each-size a b ha hb k d l i p) (le_trans (mul-le-mul_right (2 ^ 40) (pow-le-pow_right {n = 8} (lit< tt) h)) (lit≤ tt))

-- ---- of numbers as the machine holds them

-- the weights of a slope: no step overflows
pub record Slopes (d x y z : ℤ) : Type 0 where
  pub dx : SFits w64 (d *ℤ x)
  pub less-dx : SFits w64 (pos 0 -ℤ held (d *ℤ x))
  pub e : SFits w64 (d -ℤ pos 1)
  pub ey : SFits w64 (held (d -ℤ pos 1) *ℤ y)
  pub less-ey : SFits w64 (x -ℤ held (held (d -ℤ pos 1) *ℤ y))
  pub yy : SFits w64 (pos 2 *ℤ y)
  pub f : SFits w64 (d -ℤ pos 2)
  pub fz : SFits w64 (held (d -ℤ pos 2) *ℤ z)
  pub less-fz : SFits w64 (held (pos 2 *ℤ y) -ℤ held (held (d -ℤ pos 2) *ℤ z))
  pub first : held (pos 0 -ℤ held (d *ℤ x)) ≡ pos 0 -ℤ d *ℤ x
  pub second : held (x -ℤ held (held (d -ℤ pos 1) *ℤ y)) ≡ x -ℤ (d -ℤ pos 1) *ℤ y
  pub third : held (held (pos 2 *ℤ y) -ℤ held (held (d -ℤ pos 2) *ℤ z)) ≡ pos 2 *ℤ y -ℤ (d -ℤ pos 2) *ℤ z

module _ (d x y z : ℤ) (hd : nat_abs d ≤ 5) (hx : nat_abs x ≤ 2 ^ 40) (hy : nat_abs y ≤ 2 ^ 40) (hz : nat_abs z ≤ 2 ^ 40) where
  pub slopes-fit : Slopes d x y z
  slopes-fit = record {
    dx = fits? (search (sizes, sized, hd, hx) depth 40) (omega arith);
    less-dx = fits? (search (sizes, sized, hd, hx) depth 40) (omega arith);
    e = fits? (search (sizes, sized, hd) depth 40) (omega arith);
    ey = fits? (search (sizes, sized, hd, hy) depth 40) (omega arith);
    less-ey = fits? (search (sizes, sized, hd, hx, hy) depth 40) (omega arith);
    yy = fits? (search (sizes, sized, hy) depth 40) (omega arith);
    f = fits? (search (sizes, sized, hd) depth 40) (omega arith);
    fz = fits? (search (sizes, sized, hd, hz) depth 40) (omega arith);
    less-fz = fits? (search (sizes, sized, hd, hy, hz) depth 40) (omega arith);
    first = value? (search (sizes, sized, hd, hx) depth 40) (omega arith);
    second = value? (search (sizes, sized, hd, hx, hy) depth 40) (omega arith);
    third = value? (search (sizes, sized, hd, hy, hz) depth 40) (omega arith);
  }

module _ (a b : ℤ) (fa : SFits w64 a) (fb : SFits w64 b) where
  pub weight-held : (kind d k : ℕ) → weight kind (held a) (held b) d k ≡ weight kind a b d k
  weight-held kind d k = ap₂ (λ x y. weight kind x y d k) (to_z-of_z fa) (to_z-of_z fb)

pub held-size : (a : ℤ) → SFits w64 a → {B : ℕ} → nat_abs a ≤ B → nat_abs (held a) ≤ B
held-size a f h = le_trans (le_of_eq (ap nat_abs (to_z-of_z f))) h
