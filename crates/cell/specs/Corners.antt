-- Corner records by themselves: corners in order with x fastest, entries by number. m is 2 for degree 3 and 3 for degree 5.
use Rattle.std.specs.Prelude.{ℕ, ◌+◌, ◌*◌, ◌/◌, ◌%◌, ◌^◌, List, [], ◌∷◌, ltb, ℤ}
use Rattle.arith.specs.Choice.{pick}
use Rattle.lattice.specs.declared.Shape.{Shape}
use Rattle.lattice.specs.Buffer.{at, tabulate}
use Rattle.lattice.specs.Digits.{number, digit}
use Rattle.lattice.specs.Shape.{shape_of, orders}
use Rattle.lattice.specs.Axes.{Place, Field}
use Rattle.lattice.specs.Records.{records_field}
use Rattle.cell.specs.Cell.{corner_place}
use Rattle.cell.specs.Coefficients.{coefficient_count}

-- number t = m·end + order of entry i along each axis
unfoldable pub corner_numbers : ℕ → ℕ → ℕ → Place
corner_numbers m n i a = m * digit (λ b. 2) (i / m ^ n) a + digit (λ b. m) (i % m ^ n) a

-- the entry of these numbers
unfoldable pub corner_entry : ℕ → ℕ → Place → ℕ
corner_entry m n t = m ^ n * number n (λ a. 2) (λ a. t a / m) + number n (λ a. m) (λ a. t a % m)

unfoldable pub corners_field : ℕ → ℕ → List ℤ → Field
corners_field m n r t = at r (corner_entry m n t)

-- the corner records of a cell of a table
unfoldable pub corner_records : Shape → List ℤ → Place → List ℤ
corner_records s rs cell = tabulate (coefficient_count (orders s) s.axes) (λ i. records_field s rs (corner_place s cell i))

-- the table of one cell: its records are the corner records
unfoldable pub one_cell : ℕ → ℕ → Shape
one_cell n degree = shape_of n degree (2 ∷ pick (ltb 1 n) 2 1 ∷ pick (ltb 2 n) 2 1 ∷ [])
