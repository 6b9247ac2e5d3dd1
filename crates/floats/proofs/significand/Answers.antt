-- `floats::significand` meets its contract: the digits are few enough for the machine to read them, and their negative, as signed.
use mathlib.Core.Path.{◌≡◌, sym, subst, ap, ◌∙◌}
use Prim.Native.Nat.{ℕ, ◌+◌, ◌*◌, ◌%◌, ◌≤◌}
use native.Mathlib.Nat.{lt_of_le_of_lt}
use native.Mathlib.Omega.{arith}
use lib.Dec.{lit<}
use lib.IntN.{pos, neg_ℤ, ◌-ℤ◌, +ℤ_idl}
use mir.Syntax.{w64}
use mir.Facts.{to_z-of_z}
use mir.Val.{SFits, to_z, of_z}
use borrow.Author.Tests.{le-leb}
use Rattle.arith.proofs.Abs.{abs_neg, sfits-abs}
use Rattle.arith.proofs.Machine.{is-nat}
use Rattle.floats.specs.Step.{signed}
use Rattle.floats.proofs.significand.Goals as goal

-- the digits as a signed number, and its negative
module _ (n : ℕ) (h : n ≤ 8589934592) where
  plain : to_z w64 n ≡ pos n
  plain = is-nat w64 n 8589934592 h (lit< tt)

  negated : pos 0 -ℤ to_z w64 n ≡ neg_ℤ (pos n)
  negated = ap (λ z. pos 0 -ℤ z) plain ∙ +ℤ_idl (neg_ℤ (pos n))

  fits-negated : SFits w64 (neg_ℤ (pos n))
  fits-negated = sfits-abs (neg_ℤ (pos n)) (rw abs_neg (lt_of_le_of_lt h (lit< tt)))

small : (b : ℕ) → (b % 8388608 + 8388608) * 512 ≤ 8589934592
small b = omega arith

pub overflow_sub-result : goal.overflow_sub-result
overflow_sub-result c =
    let b = c.args.b in
    let n = (b % 8388608 + 8388608) * 512 in
    subst (SFits w64) (sym (negated n (small b))) (fits-negated n (small b))

pub returns-else-b-lt2147483648 : goal.returns-else-b-lt2147483648
returns-else-b-lt2147483648 c =
    let b = c.args.b in
    let n = (b % 8388608 + 8388608) * 512 in
    ap (λ z. to_z w64 (of_z w64 z)) (negated n (small b)) ∙ to_z-of_z (fits-negated n (small b))
    ∙ ap (λ t. signed t n) (sym (le-leb 2147483648 b c.if-b-lt2147483648.false))
