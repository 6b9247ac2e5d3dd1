-- `put_signed` meets its contract: a minus sign before the size of a number below 0.
use mathlib.Core.Path.{◌≡◌, sym, ap, ◌∙◌}
use mathlib.Core.Bool.{true, false}
use mathlib.Core.List.{◌∷◌}
use Prim.Native.Nat.{ℕ, ◌<◌, ◌^◌}
use native.Mathlib.Omega.{arith}
use lib.IntN.{ℤ, pos, nat_abs}
use lib.ListN.{length, length-set}
use lib.Signed.{lt_z, mag}
use mir.Syntax.{w64}
use mir.Val.{of_z, to_z}
use Rattle.arith.proofs.Machine.{read}
use Rattle.text.specs.Decimal.{decimal, signed_decimal}
use Rattle.text.proofs.DecimalLaws.{below-zero, not-below}
use Rattle.text.proofs.LineLaws.{put_as, put_then, put_byte}
use Rattle.text.proofs.put_signed.Goals as goal

-- the digits of a number as the code holds it, with n its size
module _ (x : ℤ) (n : ℕ) (fits : mag x < 2 ^ 63) (size : n ≡ nat_abs (to_z w64 (of_z w64 x))) where
  negative : lt_z (to_z w64 (of_z w64 x)) (pos 0) ≡ true → signed_decimal x ≡ 45 ∷ decimal n
  negative t = below-zero x (rw (read x fits) at t) ∙ ap (λ (k : ℕ). 45 ∷ decimal k) (sym (size ∙ ap nat_abs (read x fits)))

  positive : lt_z (to_z w64 (of_z w64 x)) (pos 0) ≡ false → signed_decimal x ≡ decimal n
  positive t = not-below x (rw (read x fits) at t) ∙ ap decimal (sym (size ∙ ap nat_abs (read x fits)))

pub returns-then-x-lt0 : goal.returns-then-x-lt0
returns-then-x-lt0 c =
    put_as (sym (negative c.args.x _ c.ranges.x.sfits c.unsigned_abs-size.ensures.value c.if-x-lt0.true))
    (put_then (put_byte _ _ 45) c.put_number.ensures)

pub bounds-out-at : goal.bounds-out-at
bounds-out-at c = omega (arith, ap length (negative c.args.x _ c.ranges.x.sfits c.unsigned_abs-size.ensures.value c.if-x-lt0.true))

pub overflow_add-at : goal.overflow_add-at
overflow_add-at c = omega (arith, ap length (negative c.args.x _ c.ranges.x.sfits c.unsigned_abs-size.ensures.value c.if-x-lt0.true))

pub put_number-requires : goal.put_number-requires
put_number-requires c =
    simp length-set
    (omega (arith, ap length (negative c.args.x _ c.ranges.x.sfits c.unsigned_abs-size.ensures.value c.if-x-lt0.true)))

pub shape_of-out-then-x-lt0 : goal.shape_of-out-then-x-lt0
shape_of-out-then-x-lt0 c = simp length-set at c.put_number.auto.out

pub put_number-requires-2 : goal.put_number-requires-2
put_number-requires-2 c =
    omega (arith, ap length (positive c.args.x _ c.ranges.x.sfits c.unsigned_abs-size.ensures.value c.if-x-lt0.false))

pub returns : goal.returns
returns c = put_as (sym (positive c.args.x _ c.ranges.x.sfits c.unsigned_abs-size.ensures.value c.if-x-lt0.false)) c.put_number-2.ensures
