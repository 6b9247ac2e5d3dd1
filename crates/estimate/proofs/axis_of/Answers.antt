-- `axis_of` meets its contract.
use mathlib.Core.Path.{refl}
use Rattle.lattice.specs.Shape.{count}
use Rattle.estimate.proofs.axis_of.Goals as goal

pub returns : goal.returns
unfolding count
returns c = rw c.orders_on.ensures refl
