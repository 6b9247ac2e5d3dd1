-- What a float answer says: a dose or a slope, with the whole number that its float equals, or the number and place of the refusal.
use Rattle.std.proofs.Math.Option.{Option, some}
use Rattle.std.specs.Prelude.{ℤ}
use Rattle.lattice.specs.Answers.{number_of}
use Rattle.lattice.specs.Outcome.{Outcome, done, refused}
use Rattle.floats.specs.Whole.{whole_of}
use Rattle.evaluate.specs.Evaluate.{Want, dose, derivative_along}
use Rattle.float_query.specs.declared.FloatReading.{FloatReading}
use Rattle.float_query.specs.declared.FloatReading.TheVariants.{Dose, Slope, Refused}

-- which of the two, and the whole number that the float equals exactly; none for a float that is not whole, and for minus zero
pub data FloatValue : Type 0 where
  as_dose : Option ℤ → FloatValue
  as_slope : Option ℤ → FloatValue

abbrev pub outcome_of_float : FloatReading → Outcome FloatValue
outcome_of_float (Dose x) = done (as_dose (whole_of x))
outcome_of_float (Slope x) = done (as_slope (whole_of x))
outcome_of_float (Refused r) = refused (number_of r.reason) r.place

-- a whole-number answer, to be held in a float; of the derivatives only slopes are asked for by float
abbrev pub float_value : Want → ℤ → FloatValue
float_value dose v = as_dose (some v)
float_value (derivative_along order l) v = as_slope (some v)

abbrev pub in_float : Want → Outcome ℤ → Outcome FloatValue
in_float want (done v) = done (float_value want v)
in_float want (refused number place) = refused number place
