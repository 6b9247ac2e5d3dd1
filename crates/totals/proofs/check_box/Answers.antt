-- `totals::check_box` meets its contract: the tests of three axes.
use mathlib.Core.Bool.{◌&&◌}
use mathlib.Core.Path.{◌∙◌}
use Prim.Native.Nat.{◌+◌}
use lib.Dec.{leb, ltb, eqb}
use Rattle.arith.specs.Choice.{pick}
use Rattle.lattice.specs.Shape.{count}
use Rattle.lattice.proofs.OutcomeLaws.{axis-by-axis}
use Rattle.cell.specs.Cell.{place_at}
use Rattle.totals.specs.Totals.{box_outcome}
use Rattle.totals.proofs.check_box.Goals as goal

pub returns : goal.returns
unfolding box_outcome place_at count pick
returns c =
    let a = c.args in
    c.check_on_axes.ensures ∙ axis-by-axis 29 _ (λ i. leb (place_at a.from i) (place_at a.to i)
    && pick (ltb i a.s.axes) (leb (place_at a.to i + 2) (count a.s i)) (eqb (place_at a.to i) 0))
    c.indices_allowed-on_x.ensures c.indices_allowed-on_y.ensures c.indices_allowed-on_z.ensures
