-- `evaluate::axis_of` meets its contract: the basis of its step, the shift of its rounding, and the strides that it was given.
use mathlib.Core.Path.{refl}
use Rattle.evaluate.proofs.axis_of.Goals as goal

pub returns : goal.returns
returns c = record { folds = c.basis_at-basis.ensures; node-is = refl; order_is = refl; shift_is = c.shift-shift.ensures }
