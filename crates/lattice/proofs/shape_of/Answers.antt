-- `lattice::shape_of` meets its contract: the three fields.
use mathlib.Core.Path.{refl}
use Rattle.lattice.proofs.shape_of.Goals as goal

pub returns : goal.returns
returns c = refl
