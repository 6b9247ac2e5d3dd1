-- `ramp::is_new` meets its contract: the cell held is another one.
use native.Mathlib.Omega.{arith}
use lib.ListN.{length}
use mathlib.Core.Path.{◌≡◌, ◌∙◌}
use Rattle.ramp.proofs.NewCells.{differ-lists}
use Rattle.ramp.proofs.is_new.Goals as goal

pub returns-in-Some : goal.returns-in-Some
returns-in-Some c =
    let k : length c.in-Some.cell ≡ 3 = omega arith in
    rw c.in-Some.is (c.ne.ensures ∙ differ-lists c.in-Some.cell c.args.here k (omega (arith, c.well_formed)))
