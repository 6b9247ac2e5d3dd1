-- `check_length` meets its contract: 4.
use Rattle.pool.specs.Pool.{length_outcome}
use Rattle.pool.proofs.check_length.Goals as goal

pub returns : goal.returns
unfolding length_outcome
returns c = cc
