-- What float queries promise: the steps are nearest, the answer is that of the query by position at the steps, and its float has exactly
-- this value.
use mathlib.Core.Path.{◌≡◌, refl, ap, ◌∙◌}
use mathlib.Core.Bool.{true}
use mathlib.Core.List.{List}
use mathlib.Core.Option.{Option, none, some}
use Prim.Native.Nat.{ℕ, ◌<◌}
use lib.Dec.{T}
use lib.Ieee.{Float}
use lib.Ieee.Positive.{den}
use lib.Ieee.Scale.{finite}
use lib.IntN.{ℤ, pos, ◌*ℤ◌}
use Rattle.arith.proofs.Choices.{clash}
use Rattle.arith.proofs.Round.{Nearest}
use Rattle.lattice.specs.declared.FullShape.{FullShape}
use Rattle.lattice.specs.Outcome.{Outcome, Check, done, refused, refuse_unless, first}
use Rattle.lattice.proofs.OutcomeLaws.{first-passed, passes, first_of-same}
use Rattle.floats.specs.Step.{numerator}
use Rattle.floats.proofs.StepLaws.{step-nearest}
use Rattle.floats.proofs.WholeLaws.{whole-exact}
use Rattle.evaluate.specs.Evaluate.{Want, dose, derivative_along}
use Rattle.query.specs.Queries.{asked_outcome, reading, position_outcome, position_cell, position_step, by_position}
use Rattle.float_query.specs.declared.FloatReading.{FloatReading}
use Rattle.float_query.specs.declared.FloatReading.TheVariants.{Dose, Slope, Refused}
use Rattle.float_query.specs.Floats.{float_steps, steps_of, float_outcome, by_float}
use Rattle.float_query.specs.Answers.{FloatValue, as_dose, as_slope, outcome_of_float, float_value, in_float}
use Rattle.float_query.proofs.FloatLaws.{steps-at}

-- −1/2 < step − N x ≤ 1/2, all times 2 · den x, N being the number of steps that a cell is for the float
pub float-step : (t : FullShape) (x : ℕ → Float) (a : ℕ) → a < 3
    → Nearest (pos (float_steps t a) *ℤ numerator (x a)) (den (x a)) (steps_of t x a)
float-step t x a l = rw (steps-at t x a l) (step-nearest (float_steps t a) (x a))

-- finite floats ask what their steps ask
pub by-float-is : (t : FullShape) (rs : List ℤ) (want : Want) (x : ℕ → Float) → ((a : ℕ) → a < 3 → finite (x a) ≡ true)
    → by_float t rs want x ≡ by_position t rs want (steps_of t x)
unfolding by_float by_position float_outcome
by-float-is t rs want x h =
    ap (λ (o : Check). first (asked_outcome t rs want)
    (first o (reading t rs want (position_cell t (steps_of t x)) (position_step t (steps_of t x)))))
    (first_of-same 3 (float_outcome t x) (position_outcome t (steps_of t x))
    (λ a l. first-passed (refuse_unless (finite (x a)) 10 a) (position_outcome t (steps_of t x) a) (passes (finite (x a)) 10 a (h a l))))

-- the float of an answer that is not refused is finite, and its exact value is the whole number
abbrev Exactly : FloatReading → ℤ → Type 0
Exactly (Dose y) v = T (finite y) × (numerator y ≡ v *ℤ pos (den y))
Exactly (Slope y) v = T (finite y) × (numerator y ≡ v *ℤ pos (den y))
Exactly (Refused r) v = ⊥

-- the whole number of an outcome
number : Outcome FloatValue → Option ℤ
number (done (as_dose v)) = v
number (done (as_slope v)) = v
number (refused n p) = none

number_is : (want : Want) (v : ℤ) → number (done (float_value want v)) ≡ some v
unfolding number
number_is dose v = refl
number_is (derivative_along order l) v = refl

pub float-exact : (want : Want) (r : FloatReading) (v : ℤ) → outcome_of_float r ≡ in_float want (done v) → Exactly r v
unfolding number
float-exact want (Dose y) v e = whole-exact y v (ap number e ∙ number_is want v)
float-exact want (Slope y) v e = whole-exact y v (ap number e ∙ number_is want v)
float-exact want (Refused r) v e = clash (cc)
