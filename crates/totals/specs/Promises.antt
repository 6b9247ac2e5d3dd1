-- What the totals promise together: cut boxes, the whole table, and the integral.
use Rattle.std.specs.Prelude.{◌≡◌, ℕ, ◌+◌, ◌*◌, ◌-◌, ◌/◌, ◌^◌, ◌≤◌, ◌<◌, List, eqb, ℤ, pos, nat_abs, ◌+ℤ◌, ◌*ℤ◌}
use Rattle.arith.specs.Choice.{pick}
use Rattle.arith.specs.Int.{◌^ℤ◌}
use Rattle.arith.specs.Sum.{sum, product, times}
use Rattle.lattice.specs.declared.FullShape.{FullShape}
use Rattle.lattice.specs.Outcome.{done}
use Rattle.lattice.specs.Shape.{orders}
use Rattle.lattice.specs.Axes.{Place, Field, origin, put, axes}
use Rattle.lattice.specs.Records.{records_field}
use Rattle.cell.specs.Cell.{place_at}
use Rattle.cell.specs.Cells.{cells_along, cell_count, cell_at}
use Rattle.evaluate.specs.Evaluate.{dose, sum_over, exact_sum, exact_divisor, ask_of}
use Rattle.totals.specs.Totals.{total_divisor, cell_total, box_total}

-- a box cut by a plane between cells c and c + 1 of axis a has the sum of its two parts, neither of which is refused
abbrev pub CutBox : Type 0
CutBox =
    (t : FullShape) (rs : List ℤ) (from to : Place) (a c : ℕ) (v : ℤ)
    → a < 3 → from a ≤ c → c < to a → box_total t rs from to ≡ done v
    → (x : ℤ) × (y : ℤ) × (box_total t rs from (put a c to) ≡ done x) × (box_total t rs (put a (c + 1) from) to ≡ done y) × (v ≡ x +ℤ y)

-- the whole table is the sum of all its cells, none of which is refused
abbrev pub WholeTable : Type 0
WholeTable =
    (t : FullShape) (rs : List ℤ) (v : ℤ) → box_total t rs origin (λ a. cells_along t.shape a - 1) ≡ done v
    → (f : ℕ → ℤ)
    × ((i : ℕ) → i < cell_count t.shape → cell_total t rs (place_at (cell_at t.shape i)) ≡ done (f i))
    × (v ≡ sum (cell_count t.shape) f)

-- every numerator fits 64 signed bits
abbrev pub TotalsFit : Type 0
TotalsFit =
    (t : FullShape) (rs : List ℤ) (first last : List ℕ) (v : ℤ)
    → box_total t rs (place_at first) (place_at last) ≡ done v → nat_abs v ≤ 2 ^ 60

-- ---- equation 83 of source document 000: the integral of x^i·y^j·z^k over a cell is 1/((i+1)(j+1)(k+1))

-- a polynomial in n variables, of degree 2m − 1 in each, by its coefficients of powers; at step u of N on each axis, multiplied by N^(2m−1)
unfoldable pub polynomial_at : ℕ → ℕ → Field → Place → Place → ℤ
polynomial_at m n c N u =
    sum_over (axes n) (2 * m) (λ k. c k *ℤ product (axes n) (λ a. pos (u a) ^ℤ k a *ℤ pos (N a) ^ℤ (2 * m - 1 - k a))) origin

-- a multiple of every k + 1 below 2m + 1
unfoldable pub power_multiple : ℕ → ℕ
power_multiple m = pick (eqb m 2) 12 60

-- the integral of x^k over a cell, multiplied by it
unfoldable pub power_integral : ℕ → ℕ → ℕ
power_integral m k = power_multiple m / (k + 1)

-- its integral, multiplied by 12^n or 60^n
unfoldable pub integral_of : ℕ → ℕ → Field → ℤ
integral_of m n c = sum_over (axes n) (2 * m) (λ k. c k *ℤ product (axes n) (λ a. pos (power_integral m (k a)))) origin

-- the exact interpolant of a cell is a polynomial over 2^n, and the cell's total is its integral: over 24^n = 2^n·12^n or 120^n = 2^n·60^n
abbrev pub IsIntegral : Type 0
IsIntegral =
    (t : FullShape) (rs : List ℤ) (cell : Place) (v : ℤ) → cell_total t rs cell ≡ done v
    → (c : Field)
    × ((N u : Place) → ((a : ℕ) → a < t.shape.axes → u a ≤ N a)
    → (exact_sum (ask_of t.shape dose N cell u) (records_field t.shape rs) ≡ polynomial_at (orders t.shape) t.shape.axes c N u)
    × (exact_divisor (ask_of t.shape dose N cell u)
    ≡ 2 ^ t.shape.axes * times (axes t.shape.axes) (λ a. N a ^ (2 * orders t.shape - 1))))
    × (v ≡ integral_of (orders t.shape) t.shape.axes c)
    × (total_divisor (orders t.shape) t.shape.axes ≡ 2 ^ t.shape.axes * power_multiple (orders t.shape) ^ t.shape.axes)

abbrev pub WholeIntegrals : Type 0
WholeIntegrals = (m : ℕ) → 2 ≤ m → m ≤ 3 → (k : ℕ) → k < 2 * m → (k + 1) * power_integral m k ≡ power_multiple m
