-- `lattice::finest_steps` meets its contract: the step number of each axis.
use Rattle.lattice.proofs.finest_steps.Goals as goal

pub returns : goal.returns
returns c = cc
