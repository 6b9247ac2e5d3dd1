-- `lattice::check_shape` meets its contract: 1, then 2 and 3.
use Rattle.lattice.specs.Shape.{shape_outcome}
use Rattle.lattice.proofs.OutcomeLaws.{stopped, went-on}
use Rattle.lattice.proofs.check_shape.Goals as goal

pub returns-in_err-check_axes : goal.returns-in_err-check_axes
unfolding shape_outcome
returns-in_err-check_axes c = stopped _ _ _ _ c.from_residual.ensures c.in_err-check_axes.ensures

pub returns : goal.returns
unfolding shape_outcome
returns c = went-on _ _ _ c.in_ok-check_axes.ensures c.check_table.ensures
