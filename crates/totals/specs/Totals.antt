-- Totals, request U13 of document 02: the integral of the exact interpolant over a cell and over a box of cells, as whole numerators over
-- 24^n for degree 3 and over 120^n for degree 5. m is 2 for degree 3 and 3 for degree 5, n the number of axes.
use Rattle.std.specs.Prelude.{ℕ, ◌+◌, ◌*◌, ◌-◌, ◌/◌, ◌^◌, Bool, true, ◌&&◌, List, [], ◌∷◌, leb, ltb, eqb, ℤ, pos, nat_abs, ◌*ℤ◌, length, get_or}
use Rattle.arith.specs.Choice.{pick, all}
use Rattle.arith.specs.Sum.{sum, product}
use Rattle.lattice.specs.declared.Shape.{Shape}
use Rattle.lattice.specs.declared.FullShape.{FullShape}
use Rattle.lattice.specs.Outcome.{Outcome, Check, done, refuse_unless, first, first_of, on_axes}
use Rattle.lattice.specs.Buffer.{at}
use Rattle.lattice.specs.Shape.{count, orders, size, full_outcome}
use Rattle.lattice.specs.Axes.{Place, Field, origin, sweep, axes}
use Rattle.lattice.specs.Records.{records_field, entry_place, entry_limit}
use Rattle.cell.specs.Cell.{cell_outcome, corners_outcome}
use Rattle.cell.specs.Coefficients.{coefficients}
use Rattle.evaluate.specs.Evaluate.{sum_over}

-- ---- a cell

-- the one-axis multipliers of degree 3, over 24, and of degree 5, over 120
abbrev pub multipliers : List (List ℤ)
multipliers =
    (pos 3 ∷ pos 1 ∷ pos 1 ∷ pos 3 ∷ []) ∷ (pos 10 ∷ pos 2 ∷ pos 1 ∷ pos 1 ∷ pos 2 ∷ pos 10 ∷ []) ∷ []

-- that of coefficient i
unfoldable pub total_multiplier : ℕ → ℕ → ℤ
total_multiplier m i = get_or (get_or multipliers (m - 2) []) i (pos 0)

-- 24^n or 120^n
unfoldable pub total_divisor : ℕ → ℕ → ℕ
total_divisor m n = pick (eqb m 2) 24 120 ^ n

-- the sum over all coefficients of coefficient times multipliers; g is what the records hold
unfoldable pub cell_numerator : ℕ → ℕ → Place → Field → ℤ
cell_numerator m n cell g =
    sum_over (axes n) (2 * m) (λ i. coefficients m n cell g i *ℤ product (axes n) (λ a. total_multiplier m (i a))) origin

-- ---- a box: the cells from index `from` to index `to` on each axis

unfoldable pub over_cells : Place → Place → Field → ℤ
over_cells from to f = sweep (axes 3) (λ a x j. sum (to a + 1 - from a) (λ k. x (from a + k))) f origin

-- the sum of its cells
unfoldable pub box_numerator : ℕ → ℕ → Place → Place → Field → ℤ
box_numerator m n from to g = over_cells from to (λ cell. cell_numerator m n cell g)

-- ---- the calls

-- 1, 2, 3, 26, 4
unfoldable pub table_outcome : FullShape → (given : ℕ) → Check
table_outcome t given = first (full_outcome t) (refuse_unless (eqb given (size t.shape)) 4 0)

-- then 14, and 5 in corner order
unfoldable pub cell_total : FullShape → List ℤ → Place → Outcome ℤ
cell_total t rs cell =
    first (table_outcome t (length rs))
    (first (cell_outcome t.shape cell)
    (first (corners_outcome t.shape rs cell)
    (done (cell_numerator (orders t.shape) t.shape.axes cell (records_field t.shape rs)))))

-- 29: a first index above its last, or a last index above count − 2, above 0 on an unused axis; place is the axis
unfoldable pub box_outcome : Shape → Place → Place → Check
box_outcome s from to =
    on_axes 29 (λ a. leb (from a) (to a) && pick (ltb a s.axes) (leb (to a + 2) (count s a)) (eqb (to a) 0))

-- a node of the cells of a box: its index on each axis is from the first to one above the last
unfoldable pub in_box : Place → Place → Place → Bool
in_box from to node = all 3 (λ a. leb (from a) (node a) && leb (node a) (to a + 1))

-- 5: an entry of such a node's record beyond its limit; place is its index, the smallest one
unfoldable pub records_outcome : Shape → List ℤ → Place → Place → Check
records_outcome s rs from to =
    first_of (size s)
    (λ i. refuse_unless
    (pick (in_box from to (λ a. entry_place s i a / orders s))
    (leb (nat_abs (at rs i)) (entry_limit (orders s) s.axes (entry_place s i))) true) 5 i)

unfoldable pub box_total : FullShape → List ℤ → Place → Place → Outcome ℤ
box_total t rs from to =
    first (table_outcome t (length rs))
    (first (box_outcome t.shape from to)
    (first (records_outcome t.shape rs from to)
    (done (box_numerator (orders t.shape) t.shape.axes from to (records_field t.shape rs)))))
