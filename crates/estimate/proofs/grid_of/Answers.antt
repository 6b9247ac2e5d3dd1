-- `estimate::grid_of` meets its contract.
use Rattle.estimate.specs.Passes.{grid_of}
use Rattle.estimate.proofs.grid_of.Goals as goal

pub returns : goal.returns
unfolding grid_of
returns c = rw (c.axis_of.ensures, c.axis_of-2.ensures, c.axis_of-3.ensures)
