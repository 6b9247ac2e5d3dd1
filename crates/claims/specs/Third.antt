-- The third demand, in the words of document 01, "Terms of the third demand": estimation, and then a query that is lent the records that it
-- wrote.
use Rattle.std.specs.Prelude.{◌≡◌, true, List, ℕ, zero, suc, ◌+◌, ◌*◌, ◌-◌, ◌≤◌, ◌<◌, Float, length, take, ℤ, pos, nat_abs, ◌-ℤ◌, ◌*ℤ◌, ◌≤ℤ◌}
use Rattle.std.specs.Float.Ieee.Scale.{finite}
use Rattle.lattice.specs.declared.Shape.{Shape}
use Rattle.lattice.specs.declared.FullShape.{FullShape}
use Rattle.lattice.specs.Outcome.{Outcome, done, first}
use Rattle.lattice.specs.Shape.{shape_of, full_shape, count, steps_on, orders, size}
use Rattle.lattice.specs.Axes.{Place, OnUsed}
use Rattle.lattice.specs.Records.{samples_field}
use Rattle.hermite.specs.Stage.{Smooth}
use Rattle.cell.specs.Cell.{place_at, Accepted}
use Rattle.estimate.specs.Estimate.{table_records, estimate_outcome, estimate_writes}
use Rattle.evaluate.specs.Evaluate.{Want, dose, derivative_along, order_wanted, Ask, exact_sum, exact_divisor}
use Rattle.query.specs.Queries.{Position, position_at, position_cell, position_step, ask_in, by_cell, by_position}
use Rattle.float_query.specs.Floats.{steps_of, by_float}

-- ---- queries and points

-- by position, by cell and u, or by float: three numbers of each
pub data Query : Type 0 where
  at_position : List ℤ → Query
  in_cell : List ℕ → List ℕ → Query
  at_floats : (ℕ → Float) → Query

-- what a query gives from the records that it is lent
unfoldable pub queried : FullShape → List ℤ → Want → Query → Outcome ℤ
queried t rs want (at_position p) = by_position t rs want (position_at p)
queried t rs want (in_cell cell u) = by_cell t rs want (place_at cell) (place_at u)
queried t rs want (at_floats x) = by_float t rs want x

-- the point of a query: for a cell and u, on each axis, the axis's number of steps times the cell's index plus u; for a float the step it
-- becomes
unfoldable pub point_of : FullShape → Query → Position
point_of t (at_position p) = position_at p
point_of t (in_cell cell u) = λ a. pos (steps_on t a * place_at cell a + place_at u a)
point_of t (at_floats x) = steps_of t x

-- the cell that a query reads
unfoldable pub cell_read : FullShape → Query → Place
cell_read t (at_position p) = position_cell t (position_at p)
cell_read t (in_cell cell u) = place_at cell
cell_read t (at_floats x) = position_cell t (steps_of t x)

-- its u there
unfoldable pub step_read : FullShape → Query → Place
step_read t (at_position p) = position_step t (position_at p)
step_read t (in_cell cell u) = place_at u
step_read t (at_floats x) = position_step t (steps_of t x)

-- a point of the table: a position per axis, from 0 to that of the last node, 0 on an unused axis
pub record Point (t : FullShape) (p : Position) : Type 0 where
  pub low : (a : ℕ) → a < t.shape.axes → pos 0 ≤ℤ p a
  pub high : (a : ℕ) → a < t.shape.axes → p a ≤ℤ pos (steps_on t a * (count t.shape a - 1))
  pub unused : (a : ℕ) → t.shape.axes ≤ a → p a ≡ pos 0

-- a cell contains a point: on each used axis the position less the number of steps times the cell's index is u, from 0 to that number
pub record Contains (t : FullShape) (cell u : Place) (p : Position) : Type 0 where
  pub is : (a : ℕ) → a < t.shape.axes → p a -ℤ pos (steps_on t a * cell a) ≡ pos (u a)
  pub upto : (a : ℕ) → a < t.shape.axes → u a ≤ steps_on t a

-- ---- the two calls

-- estimation takes the samples, and has room for the records
abbrev pub AcceptedTable : FullShape → List ℤ → List ℤ → Type 0
AcceptedTable t xs old = estimate_outcome t xs (length old) ≡ done tt

-- estimation of the samples `xs` into the slice `old`, then the query, which is lent exactly the records that estimation wrote
unfoldable pub both_calls : FullShape → List ℤ → List ℤ → Want → Query → Outcome ℤ
both_calls t xs old want q =
    first (estimate_outcome t xs (length old)) (queried t (take (size t.shape) (estimate_writes t xs old)) want q)

-- ---- distance

pub record Fraction : Type 0 where
  pub top : ℕ
  pub bottom : ℕ

infix 7 ◌over◌
abbrev pub ◌over◌ : ℕ → ℕ → Fraction
a over b = record { top = a; bottom = b }

-- the distance allowed by the order of the derivative, on one, two, three axes; in 256ths 128, 148, 173 for a dose, 128, 208, 308 for a
-- slope and 128, 384, 704 for a curvature
unfoldable pub allowed_distance : ℕ → ℕ → Fraction
allowed_distance order zero = 0 over 1
allowed_distance order (suc zero) = 1 over 2
allowed_distance zero (suc (suc zero)) = 37 over 64
allowed_distance zero (suc (suc (suc n))) = 173 over 256
allowed_distance (suc zero) (suc (suc zero)) = 13 over 16
allowed_distance (suc zero) (suc (suc (suc n))) = 77 over 64
allowed_distance (suc (suc order)) (suc (suc zero)) = 3 over 2
allowed_distance (suc (suc order)) (suc (suc (suc n))) = 11 over 4

-- v is within the distance f of x / y, multiplied out
abbrev pub WithinDistance : Fraction → ℤ → ℤ → ℕ → Type 0
WithinDistance f v x y = f.bottom * nat_abs (v *ℤ pos y -ℤ x) ≤ f.top * y

-- the question that a query asks of the cell that it reads
abbrev pub asked : FullShape → Want → Query → Ask
asked t want q = ask_in t want (cell_read t q) (step_read t q)

-- a number that is given lies near the exact interpolant: the exact value at the cell that the query reads, from the records that the rules
-- under Estimates give
abbrev pub Distance : FullShape → List ℤ → Want → Query → Outcome ℤ → Type 0
Distance t xs want q given =
    (v : ℤ) → given ≡ done v
    → WithinDistance (allowed_distance (order_wanted want) t.shape.axes) v (exact_sum (asked t want q) (table_records t.shape xs))
    (exact_divisor (asked t want q))

-- ---- agreement

-- a query of the same table gives the same number, where its cell and the one that q reads contain one point
abbrev pub Agreement : FullShape → List ℤ → Want → Query → Outcome ℤ → Type 0
Agreement t xs want q given =
    (old : List ℤ) (r : Query) (p : Position) (v w : ℤ)
    → Contains t (cell_read t q) (step_read t q) p → Contains t (cell_read t r) (step_read t r) p
    → given ≡ done v → both_calls t xs old want r ≡ done w → v ≡ w

-- ---- locality

-- on one axis: a node from one below the cell's index to two above it, as far as there is one
pub record NearCell (count c i : ℕ) : Type 0 where
  pub low : c ≤ i + 1
  pub high : i ≤ c + 2
  pub there : i < count

-- a node of the block of a cell
abbrev pub InBlock : Shape → Place → Place → Type 0
InBlock s cell = OnUsed s.axes (λ a i. NearCell (count s a) (cell a) i)

-- a shape with other node counts
abbrev pub recounted : Shape → List ℕ → Shape
recounted s counts = shape_of s.axes s.degree counts

-- two tables agree on the block of a cell: on each axis both have the same of its nodes, and each of these nodes has the same sample in
-- both
pub record AgreeOnBlock (s t : Shape) (cell : Place) (xs ys : List ℤ) : Type 0 where
  pub there : (a : ℕ) → a < s.axes → (i : ℕ) → NearCell (count s a) (cell a) i → i < count t a
  pub back : (a : ℕ) → a < s.axes → (i : ℕ) → NearCell (count t a) (cell a) i → i < count s a
  pub samples : (p : Place) → InBlock s cell p → samples_field s xs p ≡ samples_field t ys p

-- with the same step numbers and edition
abbrev pub resized : FullShape → List ℕ → FullShape
resized t counts = full_shape (recounted t.shape counts) t.steps t.second_edition

-- a query that reads the same cell in two tables of the same step numbers and edition, which agree on its block, has the same answer in
-- both; the tables may differ in size
abbrev pub Locality : FullShape → List ℤ → List ℤ → Want → Query → Outcome ℤ → Type 0
Locality t xs old want q given =
    (counts : List ℕ) (ys new : List ℤ) → AcceptedTable t xs old → AcceptedTable (resized t counts) ys new
    → AgreeOnBlock t.shape (recounted t.shape counts) (cell_read t q) xs ys → cell_read (resized t counts) q ≡ cell_read t q
    → given ≡ both_calls (resized t counts) ys new want q

-- ---- no gap

-- a dose, or a derivative along a used axis of an order to which cells join smoothly
unfoldable pub Askable : Shape → Want → Type 0
Askable s dose = Unit {0}
Askable s (derivative_along order l) = (l < s.axes) × Smooth order (orders s)

-- a step of the table, or an accepted cell with u from 0 to the number of steps
unfoldable pub Inside : FullShape → Query → Type 0
Inside t (at_position p) = Point t (position_at p)
Inside t (in_cell cell u) = Accepted t.shape (place_at cell) × OnUsed t.shape.axes (λ a i. i ≤ steps_on t a) (place_at u)
Inside t (at_floats x) = ((a : ℕ) → a < 3 → finite (x a) ≡ true) × Point t (steps_of t x)

-- every such query of an accepted table has an answer
abbrev pub NoGap : FullShape → List ℤ → List ℤ → Want → Query → Outcome ℤ → Type 0
NoGap t xs old want q given = AcceptedTable t xs old → Askable t.shape want → Inside t q → (v : ℤ) × (given ≡ done v)

-- ---- the whole

-- a query that is answered reads an accepted cell, which contains its point
pub record Reads (t : FullShape) (q : Query) : Type 0 where
  pub point : Point t (point_of t q)
  pub accepted : Accepted t.shape (cell_read t q)
  pub contains : Contains t (cell_read t q) (step_read t q) (point_of t q)

-- what is claimed of what the two calls give
pub record Claimed (t : FullShape) (xs old : List ℤ) (want : Want) (q : Query) (given : Outcome ℤ) : Type 0 where
  pub reads : (v : ℤ) → given ≡ done v → Reads t q
  pub distance : Distance t xs want q given
  pub agreement : Agreement t xs want q given
  pub locality : Locality t xs old want q given
  pub no_gap : NoGap t xs old want q given

-- for all tables, whatever their step numbers and edition, and all queries
abbrev pub ThirdDemand : Type 0
ThirdDemand = (t : FullShape) (xs old : List ℤ) (want : Want) (q : Query) → Claimed t xs old want q (both_calls t xs old want q)
