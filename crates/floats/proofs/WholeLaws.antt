-- The whole number of a float: its exact value, and the float of a whole number below 2^24 in size has it.
use mathlib.Core.Path.{◌≡◌, refl, sym, ap, ◌∙◌, subst}
use mathlib.Core.Bool.{Bool, true, false, not, ◌&&◌, false≢true}
use mathlib.Core.Option.{none, some, none-ne-some, some-injective}
use Prim.Native.Nat.{ℕ, zero, suc, ◌*◌, ◌/◌, ◌%◌, ◌^◌, ◌<◌}
use native.Mathlib.Nat.{le_of_lt, mul-one, zero-mul, mul-pos, mul_comm, zero-lt-suc, mul-div_cancel, mul-mod_left, div-add-mod}
use native.Mathlib.Omega.{arith}
use lib.Dec.{T, eqb, eqb-suc-zero}
use lib.IntN.{ℤ, pos, negsuc, nat_abs, ◌*ℤ◌}
use lib.Ieee.{Float, nan, inf, fin, binary32, up, down, fits, round, of_int}
use lib.Ieee.Back.{round_whole, whole_unique}
use lib.Ieee.Exact.{HasValue}
use lib.Ieee.Fits.{up_pos, down_pos}
use lib.Ieee.Positive.{den}
use lib.Ieee.Scale.{finite}
use borrow.Author.Tests.{eqb-true}
use Rattle.arith.specs.Choice.{pick}
use Rattle.arith.proofs.Choices.{pick_true, and-true}
use Rattle.floats.specs.Step.{signed, numerator}
use Rattle.floats.specs.Whole.{whole_of}
use Rattle.floats.proofs.StepLaws.{signed_mul, abs-signed}

-- ---- what the definition says of a float
taken : {A : Type 0} (b : Bool) (x y : A) → pick b (some x) none ≡ some y → (b ≡ true) × (x ≡ y)
unfolding pick
taken true x y e = (refl, some-injective x y e)
taken false x y e = absurd (none-ne-some y e)

-- its exact value is the whole number
pub whole-exact : (x : Float) (v : ℤ) → whole_of x ≡ some v → T (finite x) × (numerator x ≡ v *ℤ pos (den x))
unfolding whole_of
whole-exact nan v h = absurd (none-ne-some v h)
whole-exact (inf s) v h = absurd (none-ne-some v h)
whole-exact (fin s m e) v h =
    let a = m * up e in
    let d = down e in
    let t = taken (eqb (a % d) 0 && not (s && eqb m 0)) (signed s (a / d)) v h in
    let r = eqb-true (a % d) 0 (and-true (eqb (a % d) 0) (not (s && eqb m 0)) t.0).0 in
    (tt, ap (signed s) (divides a d r) ∙ sym (signed_mul s (a / d) d) ∙ ap (λ z. z *ℤ pos d) t.1)
  where
    divides : (a d : ℕ) → a % d ≡ 0 → a ≡ a / d * d
    divides a d r = omega (arith, div-add-mod a d, mul_comm d (a / d))

-- and zero is plus zero
pub whole-zero : (x : Float) → T (fits binary32 x) → whole_of x ≡ some (pos 0) → x ≡ fin false 0 (pos 0)
unfolding whole_of fits
whole-zero nan f h = absurd (none-ne-some (pos 0) h)
whole-zero (inf s) f h = absurd (none-ne-some (pos 0) h)
whole-zero (fin s m e) f h =
    let a = m * up e in
    let t = taken (eqb (a % down e) 0 && not (s && eqb m 0)) (signed s (a / down e)) (pos 0) h in
    let n : a ≡ 0 = sym (abs-signed s a) ∙ ap nat_abs ((whole-exact (fin s m e) (pos 0) h).1 ∙ ap pos (zero-mul (down e))) in
    whole_unique binary32 (fin s m e) (fin false 0 (pos 0)) false 0 f tt (
      plus s m (no-digits m (up e) n (up_pos e)) (and-true (eqb (a % down e) 0) (not (s && eqb m 0)) t.0).1,
      ap (λ (i : ℕ). i * 1) n
          ∙ sym (zero-mul (down e)),
    ) (refl, refl)
  where
    no-digits : (m u : ℕ) → m * u ≡ 0 → 0 < u → m ≡ 0
    no-digits zero u h p = refl
    no-digits (suc m) u h p = absurd (omega arith)

    plus : (s : Bool) (m : ℕ) → m ≡ 0 → not (s && eqb m 0) ≡ true → s ≡ false
    plus false m z h = refl
    plus true m z h = absurd (false≢true (subst (λ (i : ℕ). not (eqb i 0) ≡ true) z h))

-- ---- the float of a whole number
cut : (m : ℕ) (e : ℤ) (n : ℕ) → m * up e * 1 ≡ n * down e → (m * up e / down e ≡ n) × (m * up e % down e ≡ 0)
cut m e n h =
    let q : m * up e ≡ n * down e = sym (mul-one (m * up e)) ∙ h in
    (ap (λ (x : ℕ). x / down e) q ∙ mul-div_cancel n (down_pos e), ap (λ (x : ℕ). x % down e) q ∙ mul-mod_left n (down e))

of-value : (x : Float) (s : Bool) (n : ℕ) → HasValue x s n 1 → (s ≡ true → 0 < n) → whole_of x ≡ some (signed s n)
unfolding whole_of
of-value nan s n h p = absurd h
of-value (inf t) s n h p = absurd h
of-value (fin t m e) s n h p =
    let k = cut m e n h.1 in
    rw (h.0, k.0, k.1) (pick_true (not (s && eqb m 0)) (some (signed s n)) none (not-minus-zero s m h.1 p))
  where
    positive : (u k : ℕ) → 0 * u * 1 ≡ k → 0 < k → ⊥
    positive u k h p = omega arith

    not-minus-zero : (s : Bool) (m : ℕ) → m * up e * 1 ≡ n * down e → (s ≡ true → 0 < n) → not (s && eqb m 0) ≡ true
    not-minus-zero false m h p = refl
    not-minus-zero true zero h p = absurd (positive (up e) (n * down e) h (mul-pos (p refl) (down_pos e)))
    not-minus-zero true (suc m) h p = ap not (eqb-suc-zero m)

pub whole_float : (v : ℤ) → nat_abs v < 2 ^ 24 → whole_of (of_int binary32 v) ≡ some v
unfolding of_int
whole_float (pos n) h = of-value (round binary32 false n 1) false n (round_whole binary32 false n (le_of_lt h)) (λ t. absurd (false≢true t))
whole_float (negsuc n) h =
    of-value (round binary32 true (suc n) 1) true (suc n) (round_whole binary32 true (suc n) (le_of_lt h)) (λ t. zero-lt-suc n)
