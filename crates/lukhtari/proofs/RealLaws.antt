-- A float result, as the host sees it.
use mathlib.Core.Path.{◌≡◌, refl}
use lib.IntN.{ℤ}
use Rattle.lattice.specs.Outcome.{Outcome, done, refused}
use Rattle.evaluate.specs.Evaluate.{Want, dose, derivative_along}
use Rattle.float_query.specs.Answers.{in_float}
use Rattle.lukhtari.specs.Host.{real_from, real_of}

-- a dose or slope that a float holds is the whole number
pub real-held : (want : Want) (o : Outcome ℤ) → real_of (in_float want o) ≡ real_from o
real-held dose (done v) = refl
real-held (derivative_along order l) (done v) = refl
real-held want (refused n p) = refl
