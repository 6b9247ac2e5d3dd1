-- What the inner functions state, on 256 steps: where a position stands, corner records as they are held, and a table that is ready.
use Rattle.std.specs.Prelude.{◌≡◌, ℕ, ◌+◌, ◌*◌, ◌/◌, ◌%◌, ◌≤◌, ◌<◌, List, [], ◌∷◌, ℤ, length, get_or, take}
use Rattle.lattice.specs.declared.Shape.{Shape}
use Rattle.lattice.specs.declared.FullShape.{FullShape}
use Rattle.lattice.specs.Outcome.{Check, done, first_of}
use Rattle.lattice.specs.Buffer.{at}
use Rattle.lattice.specs.Shape.{size, shape_outcome, Shaped}
use Rattle.lattice.specs.Axes.{Place, origin}
use Rattle.hermite.specs.Hermite.{steps}
use Rattle.cell.specs.declared.Layout.{Layout}
use Rattle.cell.specs.Cell.{place_at, corners_outcome, Accepted, start_of}
use Rattle.cell.specs.Corners.{corner_records, one_cell}
use Rattle.evaluate.specs.declared.Axis.{Axis}
use Rattle.query.specs.Parts.{renumbered, position_number, scaled_position}
use Rattle.query.specs.Queries.{Position, position_outcome, position_cell, position_step, steps_outcome}
use Rattle.ramp.specs.declared.Spot.{Spot}
use Rattle.ramp.specs.Ramp.{queries}

-- the table of one cell, of the same axes and degree
abbrev pub one : Shape → Shape
one s = one_cell s.axes s.degree

-- what the tests of lengths leave: a table, its records, and whole triples
pub record Listed (s : Shape) (rs ps : List ℤ) : Type 0 where
  pub shape : shape_outcome s ≡ done tt
  pub long : length rs ≡ size s
  pub whole : length ps ≡ 3 * queries ps
  pub few : queries ps ≤ 256

-- ---- a position

-- the tests of a position, by its cell and in-cell step
unfoldable pub spot_outcome : FullShape → Place → Place → Check
spot_outcome t cell step = renumbered (position_number cell step) (steps_outcome t step)

-- the cell and the in-cell step of a position, which are tested as the position is
pub record Stands (t : FullShape) (p : Position) (spot : Spot) : Type 0 where
  pub tests : spot_outcome t (place_at spot.cell) (place_at spot.step) ≡ first_of 3 (position_outcome t p)
  pub here : Accepted t.shape (place_at spot.cell)
  pub cell-is : first_of 3 (position_outcome t p) ≡ done tt → place_at spot.cell ≡ position_cell t p
  pub step_is : first_of 3 (position_outcome t p) ≡ done tt → place_at spot.step ≡ position_step t p

-- the numbers of a list of positions in finer steps, by the factors of three axes
pub record Finer (factors : List ℕ) (ps held : List ℤ) : Type 0 where
  pub long : length held ≡ 768
  pub is : (j : ℕ) → j < length ps → at held j ≡ scaled_position (get_or factors (j % 3) 0) (at ps j)

-- ---- corner records

-- entry i of the corner records, e entries each, by the layout
abbrev pub corner_entry_at : Layout → List ℤ → ℕ → ℕ → ℤ
corner_entry_at l rs e i = at rs (start_of l (i / e) + i % e)

-- where they stand by themselves
abbrev pub layout_alone : ℕ → ℕ → Layout
layout_alone m e = record { orders = m; entries = e; base = 0; strides = e ∷ 2 * e ∷ 4 * e ∷ [] }

-- the first k of them stand in front of an array
pub record Copied (l : Layout) (rs : List ℤ) (e k : ℕ) (held : List ℤ) : Type 0 where
  pub long : length held ≡ 216
  pub is : (i : ℕ) → i < k → at held i ≡ corner_entry_at l rs e i

-- an array holds the corner records of a cell
pub record Held (s : Shape) (rs : List ℤ) (cell : Place) (held : List ℤ) : Type 0 where
  pub long : length held ≡ 216
  pub is : take (size (one s)) held ≡ corner_records s rs cell

-- corner records within their limits, and a step of their cell
pub record Readable (s : Shape) (held : List ℤ) (step : Place) : Type 0 where
  pub shape : Shaped s
  pub long : length held ≡ size (one s)
  pub within : corners_outcome (one s) held origin ≡ done tt
  pub steps_low : (a : ℕ) → a < s.axes → step a ≤ steps

-- ---- stages in the table of one cell of three axes

-- the strides of axis x, and of axis y
pub record AlongX (m : ℕ) (x : Axis) : Type 0 where
  pub node-is : x.node ≡ m * m * m
  pub order_is : x.order ≡ 1

pub record AlongY (m : ℕ) (y : Axis) : Type 0 where
  pub node-is : y.node ≡ 2 * (m * m * m)
  pub order_is : y.order ≡ m
