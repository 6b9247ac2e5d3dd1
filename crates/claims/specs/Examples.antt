-- The worked examples with a star, of edition one: one table, computed by the definitions, and one claim that covers all its rows.
use Rattle.std.specs.Prelude.{◌≡◌, Bool, false, List, [], ◌∷◌, map, ℕ, ℤ, pos, negsuc, ◌-ℤ◌, ◌*ℤ◌}
use Rattle.arith.specs.Int.{round_half_up, floor_div}
use Rattle.lattice.specs.declared.Shape.{Shape}
use Rattle.lattice.specs.declared.FullShape.{FullShape}
use Rattle.lattice.specs.Outcome.{Outcome, done, refused, first}
use Rattle.lattice.specs.Buffer.{tabulate}
use Rattle.lattice.specs.Shape.{shape_of, full_shape, finest_steps, orders_of, orders, size}
use Rattle.lattice.specs.Axes.{origin, along}
use Rattle.lattice.specs.Records.{records_field}
use Rattle.estimate.specs.Estimate.{table_records, records_of, estimate_outcome}
use Rattle.coefficients.specs.Coefficients.{coefficient_list, coefficients_outcome}
use Rattle.corners.specs.Corners.{entry_list, back_outcome}
use Rattle.evaluate.specs.Evaluate.{Want, dose, slope_along, exact_sum, exact_divisor, to_eighth, in_eighths}
use Rattle.claims.specs.Third.{at_position, both_calls, asked}

-- a shape and samples
pub record Table : Type 0 where
  pub shape : Shape
  pub samples : List ℤ

-- with 256 steps on each used axis, in an edition
abbrev pub in_edition : (second_edition : Bool) → Shape → FullShape
in_edition second_edition s = full_shape s (finest_steps s.axes) second_edition

abbrev pub full : Shape → FullShape
full = in_edition false

-- ---- what a row computes

abbrev pub listed : Outcome ℤ → Outcome (List ℤ)
listed (done v) = done (v ∷ [])
listed (refused number place) = refused number place

unfoldable pub records_from : Table → Outcome (List ℤ)
records_from t = first (estimate_outcome (full t.shape) t.samples (size t.shape)) (done (records_of t.shape t.samples))

-- of the cell at the origin, from records
unfoldable pub coefficients_of : Shape → List ℤ → Outcome (List ℤ)
coefficients_of s rs =
    first (coefficients_outcome (full s) rs origin 216) (done (coefficient_list (orders s) s.axes origin (records_field s rs)))

-- and from samples
unfoldable pub coefficients_from : Table → Outcome (List ℤ)
coefficients_from t = coefficients_of t.shape (records_of t.shape t.samples)

-- corner records, into a slice of `room` numbers
unfoldable pub back_into : ℕ → ℕ → ℕ → List ℤ → Outcome (List ℤ)
back_into room n degree cs = first (back_outcome n degree cs room) (done (entry_list (orders_of degree) n cs))

abbrev pub back_from : ℕ → ℕ → List ℤ → Outcome (List ℤ)
back_from = back_into 216

-- along x, in eighths
unfoldable pub first_stage : Table → List ℤ → Outcome (List ℤ)
first_stage t p =
    done (along 0 (to_eighth round_half_up (asked (full t.shape) dose (at_position p)) 0)
    (in_eighths (table_records t.shape t.samples)) origin ∷ [])

-- the exact value in ten-thousandths, and what is left
unfoldable pub exactly : Table → Want → List ℤ → Outcome (List ℤ)
exactly t want p =
    let q = asked (full t.shape) want (at_position p) in
    let x = pos 10000 *ℤ exact_sum q (table_records t.shape t.samples) in
    let v = floor_div x (exact_divisor q) in
    done (v ∷ (x -ℤ v *ℤ pos (exact_divisor q)) ∷ [])

-- estimation, then the query by position, in an edition
unfoldable pub answer_in : (second_edition : Bool) → Table → Want → List ℤ → Outcome (List ℤ)
answer_in second_edition t want p =
    listed (both_calls (in_edition second_edition t.shape) t.samples (tabulate (size t.shape) (λ i. pos 0)) want (at_position p))

abbrev pub answer_to : Table → Want → List ℤ → Outcome (List ℤ)
answer_to = answer_in false

-- ---- rows

pub record Row : Type 0 where
  pub computed : Outcome (List ℤ)
  pub printed : Outcome (List ℤ)

infix 3 ◌gives◌
abbrev pub ◌gives◌ : Outcome (List ℤ) → List ℤ → Row
e gives xs = record { computed = e; printed = done xs }

infix 3 ◌refused_as◌at_place◌
abbrev pub ◌refused_as◌at_place◌ : Outcome (List ℤ) → ℕ → ℕ → Row
e refused_as number at_place place = record { computed = e; printed = refused number place }

-- every row computes what is printed
abbrev pub AllRows : List Row → Type 0
AllRows rows = map (λ (r : Row). r.computed) rows ≡ map (λ (r : Row). r.printed) rows

-- ---- the examples

-- one axis, two samples
abbrev pub pair : ℕ → ℤ → ℤ → Table
pair degree x y = record { shape = shape_of 1 degree (2 ∷ 1 ∷ 1 ∷ []); samples = x ∷ y ∷ [] }

abbrev pub rising : ℕ → Table
rising degree = pair degree (pos 0) (pos 100)

-- two axes 2 by 2, samples 0, 100, 0, 100
abbrev pub square : Table
square =
    record { shape = shape_of 2 3 (2 ∷ 2 ∷ 1 ∷ []); samples = pos 0 ∷ pos 100 ∷ pos 0 ∷ pos 100 ∷ [] }

-- a position on x, 0 on the other axes
abbrev pub at_x : ℕ → List ℤ
at_x p = pos p ∷ pos 0 ∷ pos 0 ∷ []

unfoldable pub table : List Row
table =
    (records_from (rising 3) gives pos 0 ∷ pos 200 ∷ pos 100 ∷ pos 200 ∷ [])
    ∷ (coefficients_from (rising 3) gives pos 0 ∷ pos 200 ∷ pos 400 ∷ pos 200 ∷ [])
    ∷ (coefficients_from (rising 5) gives pos 0 ∷ pos 200 ∷ pos 800 ∷ pos 1200 ∷ pos 800 ∷ pos 200 ∷ [])
    ∷ (answer_to (rising 3) dose (at_x 128) gives pos 50 ∷ [])
    ∷ (answer_to (rising 5) dose (at_x 128) gives pos 50 ∷ [])
    ∷ (answer_to (rising 3) dose (at_x 64) gives pos 25 ∷ [])
    ∷ (exactly (rising 3) dose (at_x 64) gives pos 250000 ∷ pos 0 ∷ [])
    ∷ (answer_to (rising 5) dose (at_x 64) gives pos 25 ∷ [])
    ∷ (exactly (rising 5) dose (at_x 64) gives pos 250000 ∷ pos 0 ∷ [])
    ∷ (answer_to (rising 3) (slope_along 0) (at_x 0) gives pos 100 ∷ [])
    ∷ (answer_to (rising 3) (slope_along 0) (at_x 128) gives pos 100 ∷ [])
    ∷ (answer_to (rising 3) dose (at_x 256) gives pos 100 ∷ [])
    ∷ (answer_to (rising 5) dose (at_x 256) gives pos 100 ∷ [])
    ∷ (answer_to (rising 3) dose (at_x 257) refused_as 11 at_place 0)
    ∷ (answer_to (rising 5) dose (at_x 257) refused_as 11 at_place 0)
    ∷ (answer_to (pair 3 (pos 0) (pos 1)) dose (at_x 128) gives pos 1 ∷ [])
    ∷ (answer_to (pair 3 (pos 0) (negsuc 0)) dose (at_x 128) gives pos 0 ∷ [])
    ∷ (back_from 1 3 (pos 0 ∷ pos 100 ∷ pos 500 ∷ pos 200 ∷ []) gives pos 0 ∷ pos 100 ∷ pos 100 ∷ pos 100 ∷ [])
    ∷ (back_from 1 3 (pos 1 ∷ pos 0 ∷ pos 0 ∷ pos 0 ∷ []) refused_as 13 at_place 0)
    ∷ (first_stage square (at_x 64) gives pos 200 ∷ [])
    ∷ (answer_to square dose (at_x 64) gives pos 25 ∷ [])
    ∷ []
