-- The whole number of an answer, or the number and place of the refusal; and the mark of an exact answer.
use Rattle.std.specs.Prelude.{◌≡◌, Bool, true, false, List, ℕ, ℤ, Result, Ok, Err}
use Rattle.lattice.specs.declared.FullShape.{FullShape}
use Rattle.lattice.specs.declared.refusal.Refusal.{Refusal}
use Rattle.lattice.specs.Outcome.{Outcome, done, refused, passed}
use Rattle.lattice.specs.Answers.{number_of}
use Rattle.lattice.specs.Shape.{full_outcome}
use Rattle.evaluate.specs.declared.Value.{Value}
use Rattle.query.specs.Parts.{Finest}

-- a dose or derivative, exact or not, or a refusal
abbrev pub Reading : Type 0
Reading = Result Value Refusal

abbrev pub outcome_of_reading : Reading → Outcome ℤ
outcome_of_reading (Ok v) = done v.number
outcome_of_reading (Err r) = refused (number_of r.reason) r.place

abbrev pub is_exact : Reading → Bool
is_exact (Ok v) = v.exact
is_exact (Err r) = false

-- the mark of a reading that is not refused
abbrev pub Marks : Reading → Bool → Type 0
Marks r mark = passed (outcome_of_reading r) ≡ true → is_exact r ≡ mark

-- three numbers of steps in steps of 256, or the refusal of the table's shape
abbrev pub InFinest : FullShape → List ℕ → Result (List ℕ) Refusal → Type 0
InFinest t from (Ok to) = Finest t from to
InFinest t from (Err r) = full_outcome t ≡ refused (number_of r.reason) r.place
