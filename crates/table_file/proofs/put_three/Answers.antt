-- `put_three` meets its contract: count 1 and the number 2 in edition two, nothing in edition one.
use native.Mathlib.Omega.{arith}
use Rattle.table_file.proofs.WriteLaws.{two-room, two-put, one-put}
use Rattle.table_file.proofs.put_three.Goals as goal

pub put_number-requires-then-second : goal.put_number-requires-then-second
put_number-requires-then-second c =
    let a = c.args in
    omega (arith, two-room a.second a.start a.bytes.now c.if-second.true c.requires, c.put_number.auto.bytes)

pub returns-then-second : goal.returns-then-second
returns-then-second c =
    two-put _ _ _ c.if-second.true c.put_number.ensures c.put_number-then-second.ensures

pub returns-else-second : goal.returns-else-second
returns-else-second c = one-put _ _ _ c.if-second.false

pub put_number-requires : goal.put_number-requires
put_number-requires c =
    let a = c.args in
    omega (arith, two-room a.second a.start a.bytes.now c.if-second.true c.requires)
