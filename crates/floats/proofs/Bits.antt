-- The nearest whole number to a float, by the fields of its bits: the sign, the exponent's field x, and the digits t below the leading one.
use mathlib.Core.Path.{◌≡◌, refl, sym, ap, ap₂, ◌∙◌, subst}
use mathlib.Core.Logic.{inl, inr}
use Prim.Native.Nat.{ℕ, zero, suc, ◌+◌, ◌-◌, ◌*◌, ◌/◌, ◌%◌, ◌^◌, ◌≤◌, ◌<◌}
use native.Mathlib.Nat.{lt_of_not-le, lt_of_le_of_lt, lt_of_lt_of_le, mul_assoc, mul-le-mul, mul-le-mul_left, mul-le-mul_right, mul-lt-mul_of_pos_right, mul-lt-mul_of_pos_left, not-suc-le-zero, le_of_suc-le-suc, eq-or-lt_of_le, mod-lt, zero-lt-suc}
use native.Mathlib.Omega.{arith}
use mathlib.Core.Bool.{Bool, true, false, not, cond}
use lib.IntN.{ℤ, pos, nat_abs}
use lib.Dec.{T, leb, eqb, eqb→eq, not_T, lit<, lit≤}
use lib.Pow.{pow-add, pow_pos, pow_mono}
use lib.Ieee.{Float, nan, inf, binary32, is_nan, odd, of_fields, of_bits}
use lib.Ieee.Bits.{cond_no}
use lib.Ieee.Exact.{HasValue, odd_sign}
use Rattle.arith.specs.Int.{round_half_up}
use Rattle.arith.proofs.Round.{sound-size, half-up-sound, round_same, round-small}
use Rattle.floats.specs.Step.{signed, clamped}
use Rattle.floats.specs.Bits.{exponent, significand_of, nearest_held}
use Rattle.floats.proofs.StepLaws.{clamped-fits, abs-signed, signed_mul, clamped-far, held-value}

-- a field above 0 and below 255 is that of (8388608 + t) · 2^(x − 150)
normal : (s : Bool) (x t : ℕ) → suc x < 255 → HasValue (of_fields binary32 s (suc x) t) s ((8388608 + t) * 2 ^ x) (2 ^ 149)
unfolding of_fields
normal s x t h =
    subst (λ (v : Float). HasValue v s ((8388608 + t) * 2 ^ x) (2 ^ 149))
    (sym (cond_no (eqb (suc x) 255) (cond (eqb t 0) (inf s) nan) (odd 24 s (8388608 + t) x 149)
    (not_T (eqb (suc x) 255) (λ (u : T (eqb (suc x) 255)). differ (suc x) h (eqb→eq (suc x) 255 u)))))
    (odd_sign 24 s (8388608 + t) x 149)
  where
    differ : (x : ℕ) → x < 255 → x ≡ 255 → ⊥
    differ x h e = omega arith

-- ---- below a half
small : (v : Float) (s : Bool) (n : ℕ) → HasValue v s n (2 ^ 149) → n < 2 ^ 148 → nearest_held v ≡ pos 0
small v s n h l =
    let twice : 2 * nat_abs (signed s n) < 2 ^ 149 = rw abs-signed (mul-lt-mul_of_pos_left l (zero-lt-suc 1)) in
    held-value v s n (2 ^ 149) (pow_pos 149) h ∙ ap clamped (round-small (signed s n) (2 ^ 149) (pow_pos 149) twice)
    ∙ clamped-fits (pos 0) (lit< tt)

subnormal : (s : Bool) (t : ℕ) → HasValue (of_fields binary32 s zero t) s (t * 2 ^ 0) (2 ^ 149)
unfolding of_fields
subnormal s t = odd_sign 24 s t 0 149

fields-low : (s : Bool) (x t : ℕ) → t < 8388608 → x < 126 → nearest_held (of_fields binary32 s x t) ≡ pos 0
fields-low s zero t d h =
    small (of_fields binary32 s zero t) s (t * 2 ^ 0) (subnormal s t) (lt_of_lt_of_le (mul-lt-mul_of_pos_right d (pow_pos 0)) (lit≤ tt))
fields-low s (suc x) t d h =
    small (of_fields binary32 s (suc x) t) s ((8388608 + t) * 2 ^ x) (normal s x t (omega arith))
    (lt_of_le_of_lt (mul-le-mul_left (8388608 + t) (pow_mono {j = 124} (omega arith)))
    (mul-lt-mul_of_pos_right {n = 2 ^ 24} (omega arith) (pow_pos 124)))

-- ---- 2^31 and more
at_top : (s : Bool) (t : ℕ) → T (not (is_nan (of_fields binary32 s 255 t))) → nearest_held (of_fields binary32 s 255 t) ≡ nearest_held
    (inf s)
unfolding of_fields is_nan
at_top s t = go (eqb t 0)
  where
    go : (b : Bool) → T (not (is_nan (cond b (inf s) nan))) → nearest_held (cond b (inf s) nan) ≡ nearest_held (inf s)
    go true h = refl
    go false h = absurd h

large : (s : Bool) (x t : ℕ) → 157 ≤ x → suc x < 255 → nearest_held (of_fields binary32 s (suc x) t) ≡ nearest_held (inf s)
large s x t l h =
    let n = (8388608 + t) * 2 ^ x in
    held-value (of_fields binary32 s (suc x) t) s n (2 ^ 149) (pow_pos 149) (normal s x t h)
    ∙ clamped-far s n (2 ^ 149) (pow_pos 149) (mul-le-mul {n₁ = 8388608} {m₁ = 2 ^ 157} (omega arith) (pow_mono l))

fields-high : (s : Bool) (x t : ℕ) → 158 ≤ x → x ≤ 255 → T (not (is_nan (of_fields binary32 s x t)))
    → nearest_held (of_fields binary32 s x t) ≡ nearest_held (inf s)
fields-high s zero t l h n = absurd (not-suc-le-zero l)
fields-high s (suc x) t l h n = elim (eq-or-lt_of_le h) [
  | inl e ↦ subst (λ (i : ℕ). T (not (is_nan (of_fields binary32 s i t))) → nearest_held (of_fields binary32 s i t) ≡ nearest_held (inf s))
      (sym e) (at_top s t) n
  | inr g ↦ large s x t (le_of_suc-le-suc l) g
]

-- ---- between
fields-mid : (s : Bool) (x t : ℕ) → 126 ≤ x → x < 158
    → nearest_held (of_fields binary32 s x t) ≡ clamped (round_half_up (signed s ((t + 8388608) * 512)) (2 ^ (158 - x + 1)))
fields-mid s zero t l h = absurd (not-suc-le-zero l)
fields-mid s (suc x) t l h =
    let k = 158 - suc x + 1 in
    let n = (8388608 + t) * 2 ^ x in
    held-value (of_fields binary32 s (suc x) t) s n (2 ^ 149) (pow_pos 149) (normal s x t (omega arith))
    ∙ ap clamped (round_same (signed s n) (signed s ((t + 8388608) * 512)) (2 ^ 149) (2 ^ k) (pow_pos 149) (pow_pos k)
    (signed_mul s n (2 ^ k) ∙ ap (signed s) (shifted (8388608 + t) (t + 8388608) x k (omega arith) (omega arith))
    ∙ sym (signed_mul s ((t + 8388608) * 512) (2 ^ 149))))
  where
    shifted : (p q x k : ℕ) → p ≡ q → x + k ≡ 158 → p * 2 ^ x * 2 ^ k ≡ q * 512 * 2 ^ 149
    shifted p q x k e f = mul_assoc p (2 ^ x) (2 ^ k) ∙ ap₂ ◌*◌ e (sym (pow-add 2 x k) ∙ ap (λ (i : ℕ). 2 ^ i) f)
        ∙ sym (mul_assoc q 512 (2 ^ 149))

-- ---- by a pattern
module _ (b : ℕ) where
  field_is : b % 2147483648 / 8388608 ≡ exponent b
  field_is = omega arith

  pub bits-low : exponent b < 126 → nearest_held (of_bits binary32 b) ≡ pos 0
  unfolding of_bits
  bits-low h = fields-low (leb 2147483648 b) (b % 2147483648 / 8388608) (b % 8388608) (mod-lt b (lit< tt)) (omega arith)

  pub bits-mid : 126 ≤ exponent b → exponent b < 158
      → nearest_held (of_bits binary32 b) ≡ clamped (round_half_up (significand_of b) (2 ^ (158 - exponent b + 1)))
  unfolding of_bits
  bits-mid l h =
      fields-mid (leb 2147483648 b) (b % 2147483648 / 8388608) (b % 8388608) (omega arith) (omega arith)
      ∙ ap (λ (x : ℕ). clamped (round_half_up (significand_of b) (2 ^ (158 - x + 1)))) field_is

  pub bits-high : 158 ≤ exponent b → T (not (is_nan (of_bits binary32 b)))
      → nearest_held (of_bits binary32 b) ≡ nearest_held (inf (leb 2147483648 b))
  unfolding of_bits
  bits-high l n = fields-high (leb 2147483648 b) (b % 2147483648 / 8388608) (b % 8388608) (omega arith) (omega arith) n

  pub digits-size : nat_abs (significand_of b) ≤ 16777215 * 512
  digits-size = rw (abs-signed (leb 2147483648 b) ((b % 8388608 + 8388608) * 512)) (omega arith)

-- ---- what is rounded between them fits 32 signed bits
size : (r n y : ℕ) → 4 ≤ y → n ≤ 16777215 * 512 → 2 * (r * y) ≤ 2 * n + y → r < 2 ^ 31
size r n y l h e = lt_of_not-le (λ (g : 2147483648 ≤ r). omega (arith, mul-le-mul_right y g))

pub rounded-size : (x : ℤ) (k : ℕ) → nat_abs x ≤ 16777215 * 512 → 1 ≤ k → nat_abs (round_half_up x (2 ^ (k + 1))) < 2 ^ 31
rounded-size x k h l =
    size (nat_abs (round_half_up x (2 ^ (k + 1)))) (nat_abs x) (2 ^ (k + 1)) (pow_mono {i = 2} (omega arith)) h
    (sound-size half-up-sound x (2 ^ (k + 1)) (pow_pos (k + 1)))
