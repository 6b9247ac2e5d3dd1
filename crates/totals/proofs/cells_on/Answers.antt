-- `totals::cells_on` meets its contract: one more than the distance of both indices.
use native.Mathlib.Omega.{arith}
use mathlib.Core.Path.{sym}
use Prim.Native.Nat.{◌+◌, ◌-◌}
use lib.Dec.{ltb}
use borrow.Author.Tests.{lt-ltb, le-ltb}
use Rattle.arith.proofs.Choices.{pick_true, pick-false}
use Rattle.totals.proofs.cells_on.Goals as goal

-- src/lib.rt:247:1
pub returns-then-axis-n : goal.returns-then-axis-n
returns-then-axis-n c =
    let a = c.args in
    let h = c.requires in
    let e = pick_true (ltb a.axis a.n) (a.to + 1 - a.from) 0 (lt-ltb a.axis a.n c.if-axis-n.true) in
    omega arith

-- src/lib.rt:247:1
pub returns-else-axis-n : goal.returns-else-axis-n
returns-else-axis-n c =
    let a = c.args in
    sym (pick-false (ltb a.axis a.n) (a.to + 1 - a.from) 0 (le-ltb a.axis a.n c.if-axis-n.false))
