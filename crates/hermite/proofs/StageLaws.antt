-- The code's stage: the sum by the folded basis is the document's, and no sum on the way leaves 64 bits where the numbers are within 2^21,
-- doubled with each order.
use mathlib.Core.Bool.{Bool, true, false}
use mathlib.Core.Path.{◌≡◌, refl, sym, ap, ap₂, ◌∙◌}
use Prim.Native.Nat.{ℕ, zero, suc, ◌+◌, ◌*◌, ◌-◌, ◌%◌, ◌^◌, ◌≤◌, ◌<◌}
use native.Mathlib.Nat.{le_refl, le_trans, le_of_eq, lt_of_le_of_lt, add-le-add, mul-le-mul, zero-mul, mul_comm, pow-suc}
use native.Mathlib.Omega.{arith}
use borrow.Author.Tests.{lt-ltb, le-ltb}
use lib.Dec.{ltb, lit≤, lit<}
use lib.Pow.{pow_pos, pow_mono, pow-add}
use lib.IntN.{ℤ, pos, ◌+ℤ◌, ◌*ℤ◌, nat_abs, zero-*ℤ}
use lib.Signed.{mag}
use mir.Syntax.{w64}
use mir.Val.{SFits}
use mir.Facts.{to_z-of_z}
use Rattle.arith.proofs.Abs.{abs-add, sfits-abs}
use Rattle.arith.proofs.Choices.{pick_true, pick-false, on-pick, by_order}
use Rattle.arith.proofs.Sums.{sum-ext, total_ext, dot-sum, sum-three, total-three, total-ends}
use Rattle.arith.specs.Choice.{pick}
use Rattle.arith.specs.Sum.{sum, total}
use Rattle.lattice.specs.Buffer.{at}
use Rattle.hermite.specs.declared.Basis.{Basis}
use Rattle.hermite.specs.Hermite.{steps, divisor, basis, stage_sum}
use Rattle.hermite.specs.Stage.{Smooth, Folds, weighted, load, eighths_in, shift_of}
use Rattle.hermite.proofs.DotLaws.{held}
use Rattle.arith.proofs.Machine.{read}
use Rattle.hermite.proofs.StagePoint.{by-ends}
use Rattle.hermite.proofs.Reach.{coarse, growth, coarse-growth}
use Rattle.hermite.proofs.Sizes.{stage-total}

-- ---- one end

-- three numbers x by a row that has nothing from order m on
module _ (m : ℕ) (m2 : 2 ≤ m) (m3 : m ≤ 3) (r x : ℕ → ℤ) (none : (o : ℕ) → m ≤ o → o < 3 → r o ≡ pos 0) where
  -- they count as far as order m only
  pub end-sum : (B y : ℕ → ℤ) → ((o : ℕ) → o < m → r o ≡ B o) → ((o : ℕ) → o < m → x o ≡ y o)
      → sum 3 (λ o. r o *ℤ x o) ≡ sum m (λ o. B o *ℤ y o)
  end-sum B y is same =
      sum-three m m2 m3 (λ o. r o *ℤ x o) (λ o h l. ap (λ z. z *ℤ x o) (none o h l) ∙ zero-*ℤ (x o))
      ∙ sum-ext m (λ o. r o *ℤ x o) (λ o. B o *ℤ y o) (λ o l. ap₂ ◌*ℤ◌ (is o l) (same o l))

  end-total : (B y : ℕ → ℤ) → ((o : ℕ) → o < m → r o ≡ B o) → ((o : ℕ) → o < m → x o ≡ y o)
      → total 3 (λ o. nat_abs (r o) * nat_abs (x o)) ≡ total m (λ o. nat_abs (B o) * nat_abs (y o))
  end-total B y is same =
      total-three m m2 m3 (λ o. nat_abs (r o) * nat_abs (x o))
      (λ o h l. ap (λ z. nat_abs z * nat_abs (x o)) (none o h l) ∙ zero-mul (nat_abs (x o)))
      ∙ total_ext m (λ o. nat_abs (r o) * nat_abs (x o)) (λ o. nat_abs (B o) * nat_abs (y o))
      (λ o l. ap₂ (λ z w. nat_abs z * nat_abs w) (is o l) (same o l))

-- a basis has nothing from order m on
pub folds-none : {k m u : ℕ} {b : Basis} → Folds k m u b → (o : ℕ) → m ≤ o → o < 3 → (at b.low o ≡ pos 0) × (at b.high o ≡ pos 0)
folds-none {k} {m} {u} f o h l = (
  f.low o l ∙ pick-false (ltb o m) (basis k m steps u o) (pos 0) (le-ltb o m h),
  f.high o l ∙ pick-false (ltb o m) (basis k m steps u (m + o)) (pos 0) (le-ltb o m h),
)

-- ---- a stage by its basis

growth-small : (m : ℕ) → 2 ≤ m → m ≤ 3 → (k : ℕ) → Smooth k m → growth k * divisor k m steps ≤ 2 ^ 44
unfolding growth divisor
growth-small = by_order (λ m k. growth k * divisor k m steps ≤ 2 ^ 44) (lit≤ tt) (lit≤ tt) (lit≤ tt) (lit≤ tt) (lit≤ tt)

-- numbers of two ends, which are the numbers y of a cell
module _ {k m u : ℕ} {b : Basis} (f : Folds k m u b) (low high y : ℕ → ℤ)
    (lows : (o : ℕ) → o < m → low o ≡ y o) (highs : (o : ℕ) → o < m → high o ≡ y (m + o)) where
  low-is : (o : ℕ) → o < m → at b.low o ≡ basis k m steps u o
  low-is o l = f.low o (let h = f.m-high in omega arith) ∙ pick_true (ltb o m) (basis k m steps u o) (pos 0) (lt-ltb o m l)

  high_is : (o : ℕ) → o < m → at b.high o ≡ basis k m steps u (m + o)
  high_is o l = f.high o (let h = f.m-high in omega arith) ∙ pick_true (ltb o m) (basis k m steps u (m + o)) (pos 0) (lt-ltb o m l)

  none : (o : ℕ) → m ≤ o → o < 3 → (at b.low o ≡ pos 0) × (at b.high o ≡ pos 0)
  none = folds-none f

  from_first : (t : ℕ) → y t ≡ y (m * 0 + t)
  from_first t = ap y (omega arith)

  pub stage-folded : weighted b low high ≡ stage_sum k m steps 0 u y 0
  unfolding weighted
  stage-folded =
      ap₂ ◌+ℤ◌
      (end-sum m f.m-low f.m-high (at b.low) low (λ o h l. (none o h l).0) (basis k m steps u) (λ o. y (m * 0 + o)) low-is
      (λ o l. lows o l ∙ from_first o))
      (end-sum m f.m-low f.m-high (at b.high) high (λ o h l. (none o h l).1) (λ o. basis k m steps u (m + o))
      (λ o. y (m * 0 + (m + o))) high_is
      (λ o l. highs o l ∙ from_first (m + o)))
      ∙ sym (by-ends k m steps 0 u f.m-low f.m-high y 0)

  module _ (B : ℕ) (small : (t : ℕ) → t < 2 * m → nat_abs (y t) ≤ B * 2 ^ (t % m)) where
    load-size : load b low high ≤ coarse k m steps u * B
    unfolding load
    load-size =
        le_trans
        (le_of_eq
        (ap₂ ◌+◌ (end-total m f.m-low f.m-high (at b.low) low (λ o h l. (none o h l).0) (basis k m steps u) y low-is lows)
        (end-total m f.m-low f.m-high (at b.high) high (λ o h l. (none o h l).1) (λ o. basis k m steps u (m + o))
        (λ o. y (m + o)) high_is highs)
        ∙ sym (total-ends m f.m-low f.m-high (λ t. nat_abs (basis k m steps u t) * nat_abs (y t)))
        ∙ total_ext (2 * m) (λ t. nat_abs (basis k m steps u t) * nat_abs (y t))
        (λ t. nat_abs (basis k m steps u t) * nat_abs (y (m * 0 + t)))
        (λ t l. ap (λ z. nat_abs (basis k m steps u t) * nat_abs z) (from_first t))))
        (stage-total k m steps 0 u y B (λ t l. le_trans (le_of_eq (ap nat_abs (sym (from_first t)))) (small t l)))

    -- what a stage asks for
    pub stage-fits : B ≤ 2 ^ 21 → load b low high ≤ 2 ^ 63 - 2 ^ 45
    stage-fits h =
        let c = mul-le-mul (le_trans (coarse-growth k m steps u f.smooth f.m-low f.m-high f.step)
        (growth-small m f.m-low f.m-high k f.smooth)) h in
        let l = load-size in
        omega arith

-- ---- in units or in eighths

-- a number in units counts 2^3 eighths
eighths : Bool → ℕ
eighths b = pick b 3 0

few-eighths : (b : Bool) → eighths b ≤ 3
unfolding eighths
few-eighths b = on-pick (λ (i : ℕ). i ≤ 3) b 3 0 (λ e. lit≤ tt) (λ e. lit≤ tt)

worth-power : (b : Bool) → eighths_in b ≡ 2 ^ (3 - eighths b)
unfolding eighths_in eighths pick
worth-power true = refl
worth-power false = refl

pub worth-some : (b : Bool) → 0 < eighths_in b
worth-some b = rw (worth-power b) (pow_pos (3 - eighths b))

byte_power : (n : ℕ) → 256 ^ n ≡ 2 ^ (8 * n)
byte_power zero = refl
byte_power (suc n) = pow-suc 256 n ∙ ap (λ (i : ℕ). i * 256) (byte_power n) ∙ sym (ap (λ (i : ℕ). 2 ^ i) (more n) ∙ pow-add 2 (8 * n) 8)
  where
    more : (n : ℕ) → 8 * suc n ≡ 8 * n + 8
    more n = omega arith

-- the shift of a stage stands for its divisor
pub record Shifted (k m : ℕ) (from to : Bool) : Type 0 where
  pub low : shift_of k m from to ≤ 44
  pub is : 2 ^ (shift_of k m from to + 1) * eighths_in from ≡ divisor k m steps * eighths_in to

pub shifted : (k m : ℕ) (from to : Bool) → Smooth k m → 2 ≤ m → m ≤ 3 → Shifted k m from to
unfolding shift_of divisor eighths
shifted k m from to smooth m2 m3 =
    let f = few-eighths from in
    let t = few-eighths to in
    let n = 2 * m - 1 - k in
    let less : 3 ≤ 8 * (2 * m - 1 - k) = omega (arith, smooth) in
    record {
      low = omega arith;
      is =
          ap (λ (i : ℕ). 2 ^ (8 * n + eighths from - eighths to + 1) * i) (worth-power from)
          ∙ sym (pow-add 2 (8 * n + eighths from - eighths to + 1) (3 - eighths from)) ∙ ap (λ (i : ℕ). 2 ^ i) (omega arith)
          ∙ pow-add 2 (8 * n + 1) (3 - eighths to)
          ∙ ap₂ ◌*◌ (pow-add 2 (8 * n) 1 ∙ ap (λ (i : ℕ). i * 2) (sym (byte_power n)) ∙ mul_comm (256 ^ n) 2) (sym (worth-power to));
    }

-- ---- as the machine works it out

module _ (b : Basis) (low high : ℕ → ℤ) (small : load b low high ≤ 2 ^ 63 - 2 ^ 45) where
  pub low_fits : total 3 (λ o. nat_abs (at b.low o) * nat_abs (low o)) < 2 ^ 63
  unfolding load
  low_fits = omega arith

  pub high_fits : total 3 (λ o. nat_abs (at b.high o) * nat_abs (high o)) < 2 ^ 63
  unfolding load
  high_fits = omega arith

  -- the two sums, added
  module _ (p q : ℤ) (hp : mag p < 2 ^ 63) (hq : mag q < 2 ^ 63) (ep : p ≡ sum 3 (λ o. at b.low o *ℤ low o))
      (eq : q ≡ sum 3 (λ o. at b.high o *ℤ high o)) where
    added : held p +ℤ held q ≡ weighted b low high
    unfolding weighted
    added = ap₂ ◌+ℤ◌ (read p hp ∙ ep) (read q hq ∙ eq)

    added-size : nat_abs (held p +ℤ held q) ≤ 2 ^ 63 - 2 ^ 45
    unfolding load weighted
    added-size =
        le_trans (le_of_eq (ap nat_abs added))
        (le_trans (abs-add (sum 3 (λ o. at b.low o *ℤ low o)) (sum 3 (λ o. at b.high o *ℤ high o)))
        (le_trans (add-le-add (part (at b.low) low) (part (at b.high) high)) small))
      where
        part : (f g : ℕ → ℤ) → nat_abs (sum 3 (λ o. f o *ℤ g o)) ≤ total 3 (λ o. nat_abs (f o) * nat_abs (g o))
        part f g = dot-sum 3 f g (total 3 (λ o. nat_abs (f o) * nat_abs (g o))) (le_refl (total 3 (λ o. nat_abs (f o) * nat_abs (g o)))) 3
            (lit≤ tt)

    pub added-fits : SFits w64 (held p +ℤ held q)
    added-fits = sfits-abs (held p +ℤ held q) (lt_of_le_of_lt added-size (lit< tt))

    -- what rounding asks for, and what is dropped by it
    pub rounding-asks : (k : ℕ) → k ≤ 44 → (k ≤ 61) × (nat_abs (held (held p +ℤ held q)) + 2 ^ k < 2 ^ 63)
    rounding-asks k h =
        let e = ap nat_abs (to_z-of_z added-fits) in
        let l = added-size in
        let g : 2 ^ k ≤ 2 ^ 44 = pow_mono h in
        (omega arith, omega arith)

    pub dropping-asks : (k : ℕ) → k ≤ 44 → (k ≤ 60) × (nat_abs (held (held p +ℤ held q)) + 2 ^ (k + 1) ≤ 2 ^ 63)
    dropping-asks k h =
        let e = ap nat_abs (to_z-of_z added-fits) in
        let l = added-size in
        let i : k + 1 ≤ 45 = omega arith in
        let g : 2 ^ (k + 1) ≤ 2 ^ 45 = pow_mono i in
        (omega arith, omega arith)

    -- the sum is that of the two ends by the basis
    pub sum_is : held (held p +ℤ held q) ≡ weighted b low high
    sum_is = to_z-of_z added-fits ∙ added
