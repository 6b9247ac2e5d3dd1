-- `lattice::check_full` meets its contract: 1, 2 and 3, then 26.
use Rattle.lattice.specs.Shape.{full_outcome, steps_on}
use Rattle.lattice.proofs.OutcomeLaws.{stopped, went-on}
use Rattle.lattice.proofs.check_full.Goals as goal

pub returns-in_err-check_shape : goal.returns-in_err-check_shape
unfolding full_outcome steps_on
returns-in_err-check_shape c = stopped _ _ _ _ c.from_residual.ensures c.in_err-check_shape.ensures

pub returns : goal.returns
unfolding full_outcome steps_on
returns c = went-on _ _ _ c.in_ok-check_shape.ensures c.check_step_numbers.ensures
