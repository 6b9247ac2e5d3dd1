-- The queries by cell and in-cell step, and by table position: what each is refused for, in the order of document 01, and what it gives.
use Rattle.std.specs.Prelude.{ℕ, ◌*◌, ◌-◌, ◌/◌, min, Bool, ◌||◌, List, leb, ltb, eqb, ℤ, pos, nat_abs, length}
use Rattle.std.specs.Int.Signed.{non_neg}
use Rattle.arith.specs.Choice.{pick}
use Rattle.lattice.specs.declared.Shape.{Shape}
use Rattle.lattice.specs.declared.FullShape.{FullShape}
use Rattle.lattice.specs.Outcome.{Outcome, Check, done, refuse_unless, first, first_of}
use Rattle.lattice.specs.Buffer.{at}
use Rattle.lattice.specs.Shape.{rounding_in, count, steps_on, orders, size, full_outcome}
use Rattle.lattice.specs.Axes.{Place}
use Rattle.lattice.specs.Records.{records_field}
use Rattle.cell.specs.Cell.{cell_outcome, corners_outcome}
use Rattle.evaluate.specs.Evaluate.{Want, dose, derivative_along, Ask, ask_of, answer_by, exact_by}

-- 12: the derivative's axis is not used; then 21: its order is m or more, which order 2 is in degree 3
unfoldable pub want_outcome : Shape → Want → Check
want_outcome s dose = done tt
want_outcome s (derivative_along order l) = first (refuse_unless (ltb l s.axes) 12 0) (refuse_unless (ltb order (orders s)) 21 0)

-- 1, 2, 3, 26, 4, 12, 21, common to all queries
unfoldable pub asked_outcome : FullShape → List ℤ → Want → Check
asked_outcome t rs want =
    first (full_outcome t) (first (refuse_unless (eqb (length rs) (size t.shape)) 4 0) (want_outcome t.shape want))

-- what is asked of a table, each axis having its own number of steps
abbrev pub ask_in : FullShape → Want → Place → Place → Ask
ask_in t want cell step = ask_of t.shape want (steps_on t) cell step

-- 5 on the corners, then the dose or derivative
unfoldable pub reading : FullShape → List ℤ → Want → Place → Place → Outcome ℤ
reading t rs want cell step =
    first (corners_outcome t.shape rs cell)
    (done (answer_by (rounding_in t) (ask_in t want cell step) (records_field t.shape rs)))

-- ---- a position on an axis

-- 23: not 0 on an unused axis; then 22: below 0; then 11: beyond the last; place is the axis
unfoldable pub position_test : Shape → ℕ → ℤ → ℕ → Check
position_test s last p a =
    first (refuse_unless (ltb a s.axes || eqb (nat_abs p) 0) 23 a)
    (first (refuse_unless (non_neg p) 22 a) (refuse_unless (leb (nat_abs p) last) 11 a))

-- ---- by cell and in-cell step

-- u on each axis, the last being the number of its steps; never below 0
unfoldable pub steps_outcome : FullShape → Place → Check
steps_outcome t step = first_of 3 (λ a. position_test t.shape (steps_on t a) (pos (step a)) a)

-- then 14; then on each axis 23, 11
unfoldable pub tested_outcome : FullShape → List ℤ → Want → Place → Place → Check
tested_outcome t rs want cell step = first (asked_outcome t rs want) (first (cell_outcome t.shape cell) (steps_outcome t step))

-- then 5
unfoldable pub by_cell : FullShape → List ℤ → Want → Place → Place → Outcome ℤ
by_cell t rs want cell step = first (tested_outcome t rs want cell step) (reading t rs want cell step)

-- ---- by table position

-- a table position on each axis
abbrev pub Position : Type 0
Position = ℕ → ℤ

-- the position of three numbers
unfoldable pub position_at : List ℤ → Position
position_at xs a = pick (ltb a 3) (at xs a) (pos 0)

-- on one axis, the last being that of the last node
unfoldable pub position_outcome : FullShape → Position → ℕ → Check
position_outcome t p a = position_test t.shape (steps_on t a * (count t.shape a - 1)) (p a) a

-- of an axis of N steps a cell: the smaller of p/N rounded down and count − 2; the last node belongs to the last cell
unfoldable pub cell_of : ℕ → ℕ → ℕ → ℕ
cell_of N count p = min (p / N) (count - 2)

unfoldable pub position_cell : FullShape → Position → Place
position_cell t p a = cell_of (steps_on t a) (count t.shape a) (nat_abs (p a))

-- p less N times the cell
unfoldable pub position_step : FullShape → Position → Place
position_step t p a = nat_abs (p a) - steps_on t a * position_cell t p a

-- then on each axis 23, 22, 11; then 5
unfoldable pub by_position : FullShape → List ℤ → Want → Position → Outcome ℤ
by_position t rs want p =
    first (asked_outcome t rs want) (first (first_of 3 (position_outcome t p)) (reading t rs want (position_cell t p) (position_step t p)))

-- ---- the mark of an answer that is not refused

unfoldable pub cell_mark : FullShape → List ℤ → Want → Place → Place → Bool
cell_mark t rs want cell step = exact_by (rounding_in t) (ask_in t want cell step) (records_field t.shape rs)

unfoldable pub position_mark : FullShape → List ℤ → Want → Position → Bool
position_mark t rs want p = cell_mark t rs want (position_cell t p) (position_step t p)
