-- `query::rest_of` meets its contract: the difference.
use mathlib.Core.Path.{refl}
use native.Mathlib.Omega.{arith}
use Rattle.query.proofs.rest_of.Goals as goal

pub overflow_mul-result : goal.overflow_mul-result
overflow_mul-result c = let h = c.requires in let f = c.ranges.p.fits in record { fits = omega arith }

pub overflow_sub-result : goal.overflow_sub-result
overflow_sub-result c = c.requires

pub returns : goal.returns
returns c = refl
