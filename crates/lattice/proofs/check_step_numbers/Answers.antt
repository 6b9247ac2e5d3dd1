-- `lattice::check_step_numbers` meets its contract: the tests of three axes.
use Rattle.lattice.specs.Shape.{step_numbers_outcome, steps_allowed}
use Rattle.lattice.proofs.OutcomeLaws.{axis-by-axis}
use Rattle.lattice.proofs.check_step_numbers.Goals as goal
use mathlib.Core.Path.{◌∙◌}
use lib.ListN.{get_or}

pub returns : goal.returns
unfolding step_numbers_outcome
returns c = c.check_on_axes.ensures ∙ axis-by-axis 26 _ (λ a. steps_allowed c.args.n (get_or c.args.steps a 0) a)
    c.steps_allowed-on_x.ensures c.steps_allowed-on_y.ensures c.steps_allowed-on_z.ensures
