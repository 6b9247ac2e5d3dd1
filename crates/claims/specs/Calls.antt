-- What `estimate_and_ask` is asked and what it gives, in the terms of the third demand.
use Rattle.std.specs.Prelude.{◌≡◌, ℤ, Result, Ok, Err}
use Rattle.lattice.specs.declared.refusal.Refusal.{Refusal}
use Rattle.lattice.specs.Outcome.{Outcome, refused}
use Rattle.lattice.specs.Answers.{number_of}
use Rattle.evaluate.specs.Evaluate.{Want}
use Rattle.query.specs.Answers.{outcome_of_reading}
use Rattle.float_query.specs.Floats.{floats_at}
use Rattle.float_query.specs.Answers.{FloatValue, outcome_of_float, in_float}
use Rattle.claims.specs.declared.Question.{Question}
use Rattle.claims.specs.declared.Question.TheVariants.{Position, Cell, Floats}
use Rattle.claims.specs.declared.Answer.{Answer}
use Rattle.claims.specs.declared.Answer.TheVariants.{Whole, Float}
use Rattle.claims.specs.Third.{Query, at_position, in_cell, at_floats}

-- the query of each case
abbrev pub query_of : Question → Query
query_of (Position p) = at_position p
query_of (Cell c u) = in_cell c u
query_of (Floats p) = at_floats (floats_at p)

-- what each case says, for a dose or a derivative; a refusal of estimation stands by itself
abbrev pub outcome_of_reply : Want → Result Answer Refusal → Outcome FloatValue
outcome_of_reply want (Ok (Whole r)) = in_float want (outcome_of_reading r)
outcome_of_reply want (Ok (Float r)) = outcome_of_float r
outcome_of_reply want (Err r) = refused (number_of r.reason) r.place

-- the outcome that a reply gives
abbrev pub Gives : Want → Result Answer Refusal → Outcome ℤ → Type 0
Gives want r outcome = outcome_of_reply want r ≡ in_float want outcome
