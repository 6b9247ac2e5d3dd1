-- `estimate::estimate_limit` meets its contract: a shift is a division by a power of two.
use mathlib.Core.Path.{refl}
use native.Mathlib.Omega.{arith}
use Rattle.estimate.specs.Estimate.{estimate_limit}
use Rattle.estimate.proofs.estimate_limit.Goals as goal

pub returns : goal.returns
unfolding estimate_limit
returns c = refl

pub overflow_shr-result : goal.overflow_shr-result
overflow_shr-result c = omega arith
