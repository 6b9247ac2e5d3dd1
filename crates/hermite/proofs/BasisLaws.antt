-- The code's basis is the definition's: the columns of the table by three weights, and the high end's numbers mirrored.
use mathlib.Core.Path.{◌≡◌, refl, sym, ap, ap₂, ◌∙◌}
use mathlib.Core.List.{List, [], ◌∷◌}
use Prim.Native.Nat.{ℕ, ◌+◌, ◌*◌, ◌-◌, ◌^◌, ◌≤◌, ◌<◌}
use native.Mathlib.Nat.{le_trans, le_of_eq, mul-le-mul_right}
use native.Mathlib.Omega.{arith}
use borrow.Author.Tests.{lt-ltb, ltb-true, ltb-false}
use lib.Dec.{ltb, lit≤, lit<}
use lib.IntN.{ℤ, pos, neg_ℤ, ◌+ℤ◌, ◌-ℤ◌, ◌*ℤ◌, nat_abs, +ℤ_idl, zero-*ℤ}
use Rattle.arith.proofs.Choices.{by-m, on-pick, pick_true, by-3}
use Rattle.arith.proofs.Machine.{kept}
use Rattle.arith.proofs.Quote.{quotes, ring! }
use Rattle.arith.proofs.Sums.{abs-weighted, sum-ext, sum-three, sum-zero}
use Rattle.arith.specs.Choice.{pick}
use Rattle.arith.specs.Sum.{sum, total}
use Rattle.lattice.specs.Buffer.{at}
use Rattle.hermite.specs.declared.Basis.{Basis}
use Rattle.hermite.specs.Hermite.{steps, multiplier, mirrored, weight, basis}
use Rattle.hermite.specs.Stage.{Smooth, RowsOn, Folds}
use Rattle.hermite.proofs.DotLaws.{held}
use Rattle.hermite.proofs.HermiteLaws.{mirrored-none, end_basis, basis-low, basis-high}
use Rattle.hermite.proofs.WeightLaws.{weight-size}

-- ---- the high end

-- as the code writes the two cases
module _ (x : List ℤ) (p q r : ℤ) (order : ℕ) where
  pub mirror-even : order < 3 → (order ≡ 1 → ⊥) → p ≡ at x 0 → q ≡ pos 0 -ℤ at x 1 → r ≡ at x 2 → (o : ℕ) → o < 3
      → at (p ∷ q ∷ r ∷ []) o ≡ mirrored (o + order) (at x o)
  unfolding mirrored
  mirror-even h n a b c =
      by-3 (λ k. (k ≡ 1 → ⊥) → (o : ℕ) → o < 3 → at (p ∷ q ∷ r ∷ []) o ≡ mirrored (o + k) (at x o))
      (λ n. by-3 (λ o. at (p ∷ q ∷ r ∷ []) o ≡ mirrored (o + 0) (at x o)) a (b ∙ +ℤ_idl (neg_ℤ (at x 1))) c)
      (λ n. absurd (n refl))
      (λ n. by-3 (λ o. at (p ∷ q ∷ r ∷ []) o ≡ mirrored (o + 2) (at x o)) a (b ∙ +ℤ_idl (neg_ℤ (at x 1))) c) order h n

  pub mirror-odd : order ≡ 1 → p ≡ pos 0 -ℤ at x 0 → q ≡ at x 1 → r ≡ pos 0 -ℤ at x 2 → (o : ℕ) → o < 3
      → at (p ∷ q ∷ r ∷ []) o ≡ mirrored (o + order) (at x o)
  unfolding mirrored
  mirror-odd e a b c o l =
      by-3 (λ o. at (p ∷ q ∷ r ∷ []) o ≡ mirrored (o + 1) (at x o)) (a ∙ +ℤ_idl (neg_ℤ (at x 0))) b (c ∙ +ℤ_idl (neg_ℤ (at x 2))) o l
      ∙ ap (λ (i : ℕ). mirrored (o + i) (at x o)) (sym e)

-- ---- the table as the code reads it

pub multiplier-size : (m : ℕ) → 2 ≤ m → m ≤ 3 → (k : ℕ) → k < 3 → (o : ℕ) → o < 3 → nat_abs (multiplier m k o) ≤ 20
unfolding multiplier
multiplier-size =
    by-m (λ m. (k : ℕ) → k < 3 → (o : ℕ) → o < 3 → nat_abs (multiplier m k o) ≤ 20)
    (by-3 (λ k. (o : ℕ) → o < 3 → nat_abs (multiplier 2 k o) ≤ 20) (row 2 0 (lit≤ tt) (lit≤ tt) (lit≤ tt))
    (row 2 1 (lit≤ tt) (lit≤ tt) (lit≤ tt)) (row 2 2 (lit≤ tt) (lit≤ tt) (lit≤ tt)))
    (by-3 (λ k. (o : ℕ) → o < 3 → nat_abs (multiplier 3 k o) ≤ 20) (row 3 0 (lit≤ tt) (lit≤ tt) (lit≤ tt))
    (row 3 1 (lit≤ tt) (lit≤ tt) (lit≤ tt)) (row 3 2 (lit≤ tt) (lit≤ tt) (lit≤ tt)))
  where
    row : (m k : ℕ) → nat_abs (multiplier m k 0) ≤ 20 → nat_abs (multiplier m k 1) ≤ 20 → nat_abs (multiplier m k 2) ≤ 20 → (o : ℕ) → o < 3
        → nat_abs (multiplier m k o) ≤ 20
    row m k = by-3 (λ o. nat_abs (multiplier m k o) ≤ 20)

-- a number that is a multiplier
module _ (m : ℕ) (m2 : 2 ≤ m) (m3 : m ≤ 3) (k : ℕ) (lk : k < 3) (o : ℕ) (lo : o < 3) (z : ℤ) (e : z ≡ multiplier m k o) where
  pub multiplier-small : nat_abs z ≤ 20
  multiplier-small = le_trans (le_of_eq (ap nat_abs e)) (multiplier-size m m2 m3 k lk o lo)

  pub multiplier-read : held z ≡ multiplier m k o
  multiplier-read = ap held e ∙ kept (multiplier m k o) 20 (multiplier-size m m2 m3 k lk o lo) (lit< tt)

-- rows that are A's, by numbers that are X's
pub rows_on : (a b c x r : ℕ → ℤ) → RowsOn a b c x r → (A : ℕ → ℕ → ℤ) (X : ℕ → ℤ)
    → ((i : ℕ) → i < 3 → a i ≡ A 0 i) → ((i : ℕ) → i < 3 → b i ≡ A 1 i) → ((i : ℕ) → i < 3 → c i ≡ A 2 i) → ((i : ℕ) → i < 3 → x i ≡ X i)
    → (o : ℕ) → o < 3 → r o ≡ sum 3 (λ i. A o i *ℤ X i)
rows_on a b c x r h A X ha hb hc hx =
    by-3 (λ o. r o ≡ sum 3 (λ i. A o i *ℤ X i)) (h.first ∙ one a 0 ha) (h.second ∙ one b 1 hb) (h.third ∙ one c 2 hc)
  where
    one : (f : ℕ → ℤ) (o : ℕ) → ((i : ℕ) → i < 3 → f i ≡ A o i) → sum 3 (λ i. f i *ℤ x i) ≡ sum 3 (λ i. A o i *ℤ X i)
    one f o g = sum-ext 3 (λ i. f i *ℤ x i) (λ i. A o i *ℤ X i) (λ i l. ap₂ ◌*ℤ◌ (g i l) (hx i l))

-- ---- both ends

-- a cubic has no third coefficient from an end, and no numbers of order 2
no_row : (m : ℕ) → 2 ≤ m → m ≤ 3 → (o : ℕ) → o < 3 → (k : ℕ) → m ≤ k → k < 3 → multiplier m k o ≡ pos 0
unfolding multiplier
no_row =
    by-m (λ m. (o : ℕ) → o < 3 → (k : ℕ) → m ≤ k → k < 3 → multiplier m k o ≡ pos 0)
    (λ o l k h p. let e : k ≡ 2 = omega arith in ap (λ (i : ℕ). multiplier 2 i o) e
    ∙ by-3 (λ o. multiplier 2 2 o ≡ pos 0) refl refl refl o l)
    (λ o l k h p. absurd (omega arith))

pub no-order : (m : ℕ) → 2 ≤ m → m ≤ 3 → (o : ℕ) → m ≤ o → o < 3 → (k : ℕ) → k < 3 → multiplier m k o ≡ pos 0
unfolding multiplier
no-order =
    by-m (λ m. (o : ℕ) → m ≤ o → o < 3 → (k : ℕ) → k < 3 → multiplier m k o ≡ pos 0)
    (λ o h p k l. let e : o ≡ 2 = omega arith in ap (λ (i : ℕ). multiplier 2 k i) e
    ∙ by-3 (λ k. multiplier 2 k 2 ≡ pos 0) refl refl refl k l)
    (λ o h p k l. absurd (omega arith))

module _ (k m : ℕ) (m2 : 2 ≤ m) (m3 : m ≤ 3) (a b : ℤ) (o : ℕ) (l : o < 3) where
  part-inside : o < m → sum 3 (λ i. multiplier m i o *ℤ weight k a b (2 * m - 1) i) ≡ end_basis k m a b o
  unfolding end_basis
  part-inside h = sum-three m m2 m3 (λ i. multiplier m i o *ℤ weight k a b (2 * m - 1) i)
      (λ i g p. ap (λ z. z *ℤ weight k a b (2 * m - 1) i) (no_row m m2 m3 o l i g p) ∙ zero-*ℤ (weight k a b (2 * m - 1) i))

  part-beyond : m ≤ o → sum 3 (λ i. multiplier m i o *ℤ weight k a b (2 * m - 1) i) ≡ pos 0
  part-beyond h = sum-zero 3 (λ i. multiplier m i o *ℤ weight k a b (2 * m - 1) i)
      (λ i p. ap (λ z. z *ℤ weight k a b (2 * m - 1) i) (no-order m m2 m3 o h l i p) ∙ zero-*ℤ (weight k a b (2 * m - 1) i))

-- by cases of the order
by-kept : (m : ℕ) (x z : ℤ) (o : ℕ) → (o < m → x ≡ z) → (m ≤ o → x ≡ pos 0) → x ≡ pick (ltb o m) z (pos 0)
by-kept m x z o f g = on-pick (λ y. x ≡ y) (ltb o m) z (pos 0) (λ e. f (ltb-true o m e)) (λ e. g (ltb-false o m e))

module _ (k m u : ℕ) (m2 : 2 ≤ m) (m3 : m ≤ 3) (o : ℕ) (l : o < 3) where
  -- an end's part by three weights
  abbrev part : ℤ → ℤ → ℤ
  part a b = sum 3 (λ i. multiplier m i o *ℤ weight k a b (2 * m - 1) i)

  low-kept : part (pos (steps - u)) (pos u) ≡ pick (ltb o m) (basis k m steps u o) (pos 0)
  low-kept =
      by-kept m (part (pos (steps - u)) (pos u)) (basis k m steps u o) o
      (λ h. part-inside k m m2 m3 (pos (steps - u)) (pos u) o l h ∙ sym (basis-low k m steps u m2 m3 o h))
      (part-beyond k m m2 m3 (pos (steps - u)) (pos u) o l)

  high-kept : mirrored (o + k) (part (pos u) (pos (steps - u))) ≡ pick (ltb o m) (basis k m steps u (m + o)) (pos 0)
  high-kept =
      by-kept m (mirrored (o + k) (part (pos u) (pos (steps - u)))) (basis k m steps u (m + o)) o
      (λ h. ap (mirrored (o + k)) (part-inside k m m2 m3 (pos u) (pos (steps - u)) o l h) ∙ sym (basis-high k m steps u m2 m3 o h))
      (λ h. ap (mirrored (o + k)) (part-beyond k m m2 m3 (pos u) (pos (steps - u)) o l h) ∙ mirrored-none (o + k))

-- how large an end's part is
three : (f : ℕ → ℕ) → f 0 ≤ 20 → f 1 ≤ 20 → f 2 ≤ 20 → total 3 f ≤ 60
unfolding total
three f a b c = omega arith

pub part-size : (k m : ℕ) → Smooth k m → 2 ≤ m → m ≤ 3 → (a b : ℤ) → nat_abs a ≤ 256 → nat_abs b ≤ 256 → (o : ℕ) → o < 3
    → nat_abs (sum 3 (λ i. multiplier m i o *ℤ weight k a b (2 * m - 1) i)) ≤ 2 ^ 62
part-size k m smooth m2 m3 a b ha hb o l =
    le_trans (abs-weighted 3 (λ i. multiplier m i o) (weight k a b (2 * m - 1)) (2 ^ 46)
    (weight-size k (omega (arith, smooth)) (2 * m - 1) a b (omega arith) ha hb))
    (le_trans (mul-le-mul_right (2 ^ 46) (three (λ i. nat_abs (multiplier m i o)) (few 0 (lit< tt)) (few 1 (lit< tt)) (few 2 (lit< tt))))
    (lit≤ tt))
  where
    few : (k : ℕ) → k < 3 → nat_abs (multiplier m k o) ≤ 20
    few k h = multiplier-size m m2 m3 k h o l

-- the parts of both ends as the code has them make a basis
module _ (k m u : ℕ) (b : Basis) (smooth : Smooth k m) (m2 : 2 ≤ m) (m3 : m ≤ 3) (h : u ≤ steps) (p q : ℤ) (ep : p ≡ pos (steps - u))
    (eq : q ≡ pos u) (E : ℕ → ℤ) where
  abbrev parts : ℤ → ℤ → ℕ → ℤ
  parts x y o = sum 3 (λ i. multiplier m i o *ℤ weight k x y (2 * m - 1) i)

  pub folds : ((o : ℕ) → o < 3 → at b.low o ≡ parts p q o) → ((o : ℕ) → o < 3 → E o ≡ parts q p o)
      → ((o : ℕ) → o < 3 → at b.high o ≡ mirrored (o + k) (E o)) → Folds k m u b
  folds low high mirror = record {
    smooth = smooth;
    m-low = m2;
    m-high = m3;
    step = h;
    low = λ o l. low o l ∙ ap₂ (λ x y. parts x y o) ep eq ∙ low-kept k m u m2 m3 o l;
    high = λ o l. mirror o l ∙ ap (mirrored (o + k)) (high o l ∙ ap₂ (λ x y. parts x y o) eq ep) ∙ high-kept k m u m2 m3 o l;
  }

-- the high end's value by both values
pub folds-value : (k m u : ℕ) (low high : List ℤ) (f d t v : ℤ) → Folds k m u (record { low = low; high = high })
    → basis k m steps u 0 +ℤ basis k m steps u m ≡ v → f ≡ v -ℤ at low 0 → d ≡ at high 1 → t ≡ at high 2
    → Folds k m u (record { low = low; high = f ∷ d ∷ t ∷ [] })
folds-value k m u low high f d t v b both ef ed et = record {
  smooth = b.smooth;
  m-low = b.m-low;
  m-high = b.m-high;
  step = b.step;
  low = b.low;
  high = by-3 (λ o. at (f ∷ d ∷ t ∷ []) o ≡ pick (ltb o m) (basis k m steps u (m + o)) (pos 0))
      (ef ∙ ap₂ ◌-ℤ◌ (sym both) (b.low 0 (lit< tt) ∙ inside (basis k m steps u 0))
      ∙ left (basis k m steps u 0) (basis k m steps u m) ∙ ap (basis k m steps u) first ∙ sym (inside (basis k m steps u (m + 0))))
      (ed ∙ b.high 1 (lit< tt)) (et ∙ b.high 2 (lit< tt));
}
  where
    inside : (z : ℤ) → pick (ltb 0 m) z (pos 0) ≡ z
    inside z = pick_true (ltb 0 m) z (pos 0) (lt-ltb 0 m (omega (arith, b.m-low)))

    first : m ≡ m + 0
    first = omega arith

    left : (x y : ℤ) → x +ℤ y -ℤ x ≡ y
    left x y = ring! (x ∷ y ∷ []) (search quotes depth 40) tt
