-- `lattice::steps_allowed` meets its contract: the tests of a used and of an unused axis.
use mathlib.Core.Path.{ap, ◌∙◌}
use mathlib.Core.Bool.{Bool}
use lib.Dec.{ltb, eqb}
use Rattle.arith.specs.Choice.{pick}
use Rattle.lattice.specs.Shape.{steps_allowed}
use Rattle.lattice.proofs.steps_allowed.Goals as goal

pub returns : goal.returns
unfolding steps_allowed
returns c =
    let a = c.args in
    c.by_use.ensures ∙ ap (λ (b : Bool). pick (ltb a.axis a.n) b (eqb a.steps 1)) c.step_number.ensures
