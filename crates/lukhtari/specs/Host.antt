-- What the host sees of an outcome: number 0 and place 0 where the call is not refused, and values 0 or false where it is.
use Rattle.std.specs.Prelude.{ℕ, Bool, false, [], ◌∷◌, ℤ, pos}
use Rattle.std.proofs.Math.Option.{Option, some}
use Rattle.lattice.specs.Outcome.{Outcome, Check, done, refused}
use Rattle.floats.specs.Whole.{whole_of}
use Rattle.float_query.specs.Answers.{FloatValue, as_dose, as_slope}
use Rattle.table_file.specs.File.{Header}
use Rattle.lukhtari.specs.declared.Done.{Done}
use Rattle.lukhtari.specs.declared.Whole.{Whole}
use Rattle.lukhtari.specs.declared.Marked.{Marked}
use Rattle.lukhtari.specs.declared.Real.{Real}
use Rattle.lukhtari.specs.declared.Table.{Table}
use Rattle.lukhtari.specs.declared.Ramped.{Ramped}
use Rattle.lukhtari.specs.declared.Total.{Total}
use Rattle.lukhtari.specs.declared.Written.{Written}

abbrev pub done_of : Check → Done
done_of (done u) = record { number = 0; place = 0 }
done_of (refused n p) = record { number = n; place = p }

abbrev pub whole_from : Outcome ℤ → Whole
whole_from (done v) = record { number = 0; place = 0; value = v }
whole_from (refused n p) = record { number = n; place = p; value = pos 0 }

-- a dose with its mark
abbrev pub marked_from : Outcome ℤ → Bool → Marked
marked_from (done v) mark = record { number = 0; place = 0; value = v; exact = mark }
marked_from (refused n p) mark = record { number = n; place = p; value = pos 0; exact = false }

-- a float result: the whole number that the float equals exactly, which minus zero does not
pub record RealValue : Type 0 where
  pub number : ℕ
  pub place : ℕ
  pub value : Option ℤ

abbrev pub real_value : Real → RealValue
real_value r = record { number = r.number; place = r.place; value = whole_of r.value }

abbrev pub real_from : Outcome ℤ → RealValue
real_from (done v) = record { number = 0; place = 0; value = some v }
real_from (refused n p) = record { number = n; place = p; value = some (pos 0) }

-- the same of a dose or slope that a float holds
abbrev pub real_of : Outcome FloatValue → RealValue
real_of (done (as_dose w)) = record { number = 0; place = 0; value = w }
real_of (done (as_slope w)) = record { number = 0; place = 0; value = w }
real_of (refused n p) = record { number = n; place = p; value = some (pos 0) }

abbrev pub table_from : Outcome Header → Table
table_from (done h) = record {
  number = 0;
  place = 0;
  axes = h.axes;
  counts = h.counts;
  steps = h.steps;
  second_edition = h.second;
}
table_from (refused n p) = record {
  number = n;
  place = p;
  axes = 0;
  counts = 0 ∷ 0 ∷ 0 ∷ [];
  steps = 0 ∷ 0 ∷ 0 ∷ [];
  second_edition = false;
}

abbrev pub ramped_from : Outcome ℕ → Ramped
ramped_from (done k) = record { number = 0; place = 0; fetches = k }
ramped_from (refused n p) = record { number = n; place = p; fetches = 0 }

abbrev pub total_from : Outcome ℤ → Total
total_from (done v) = record { number = 0; place = 0; numerator = v }
total_from (refused n p) = record { number = n; place = p; numerator = pos 0 }

abbrev pub written_from : Outcome ℕ → Written
written_from (done k) = record { number = 0; place = 0; length = k }
written_from (refused n p) = record { number = n; place = p; length = 0 }
