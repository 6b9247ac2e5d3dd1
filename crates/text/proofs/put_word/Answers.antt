-- `put_word` meets its contract: one store after the number.
use mathlib.Core.Path.{◌≡◌, ap}
use Prim.Native.Nat.{◌+◌}
use native.Mathlib.Omega.{arith}
use lib.ListN.{length}
use mir.Syntax.{w64}
use mir.Val.{to_z, of_z}
use Rattle.arith.proofs.Machine.{read}
use Rattle.text.specs.Decimal.{signed_decimal}
use Rattle.text.specs.Lines.{word}
use Rattle.text.proofs.LineLaws.{put_as, put_then, put_byte, length-word}
use Rattle.text.proofs.put_word.Goals as goal

pub returns : goal.returns
returns c =
    let a = c.args in
    let same = ap signed_decimal (read a.x c.ranges.x.sfits) in
    put_then (put_as same c.put_signed-end.ensures) (put_byte _ _ a.after)

pub put_signed-end-requires : goal.put_signed-end-requires
put_signed-end-requires c =
    let a = c.args in
    let same = ap signed_decimal (read a.x c.ranges.x.sfits) in
    let sizes : length (signed_decimal (to_z w64 (of_z w64 a.x))) + 1 ≡ length (word (signed_decimal a.x) a.after) =
    omega (arith, ap length same, length-word (signed_decimal a.x) a.after)
    in
    omega (arith, sizes)

pub bounds-out-end : goal.bounds-out-end
bounds-out-end c =
    let a = c.args in
    let same = ap signed_decimal (read a.x c.ranges.x.sfits) in
    let sizes : length (signed_decimal (to_z w64 (of_z w64 a.x))) + 1 ≡ length (word (signed_decimal a.x) a.after) =
    omega (arith, ap length same, length-word (signed_decimal a.x) a.after)
    in
    omega (arith, sizes)

pub overflow_add-result : goal.overflow_add-result
overflow_add-result c =
    let a = c.args in
    let same = ap signed_decimal (read a.x c.ranges.x.sfits) in
    let sizes : length (signed_decimal (to_z w64 (of_z w64 a.x))) + 1 ≡ length (word (signed_decimal a.x) a.after) =
    omega (arith, ap length same, length-word (signed_decimal a.x) a.after)
    in
    omega (arith, sizes)
