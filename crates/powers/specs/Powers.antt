-- Power coefficients, request U8 of document 02: in a cell of a two-axis cubic table the exact value is a polynomial in x and y, which run
-- from 0 to 1 in the cell. Source document 001 gives the coefficient of power i of x and j of y the number 1 + i + 4j; counted from 0, as
-- everything here, it is i + 4j.
use Rattle.std.specs.Prelude.{◌≡◌, ℕ, ◌+◌, ◌*◌, ◌-◌, ◌/◌, ◌%◌, ◌^◌, ◌≤◌, ◌&&◌, List, [], ◌∷◌, leb, eqb, ℤ, pos, negsuc, ◌*ℤ◌, length, get_or}
use Rattle.arith.specs.Int.{◌^ℤ◌}
use Rattle.arith.specs.Sum.{sum}
use Rattle.lattice.specs.declared.FullShape.{FullShape}
use Rattle.lattice.specs.Outcome.{Check, done, refuse_unless, first, when_done}
use Rattle.lattice.specs.Buffer.{at, tabulate, overwrite}
use Rattle.lattice.specs.Shape.{size, full_outcome}
use Rattle.lattice.specs.Axes.{Place, Field}
use Rattle.lattice.specs.Records.{records_field}
use Rattle.cell.specs.Cell.{place_at, cell_outcome, corners_outcome}
use Rattle.cell.specs.Corners.{corner_numbers}
use Rattle.evaluate.specs.Evaluate.{dose, exact_sum, exact_divisor, ask_of}

-- ---- the matrix of table II

-- equation 8: the coefficients of powers 0 to 3 from f and its slope at the low end, then f and its slope at the high end; `negsuc n` is
-- -(n + 1)
abbrev pub equation8 : List (List ℤ)
equation8 =
    (pos 1 ∷ pos 0 ∷ pos 0 ∷ pos 0 ∷ [])
    ∷ (pos 0 ∷ pos 1 ∷ pos 0 ∷ pos 0 ∷ [])
    ∷ (negsuc 2 ∷ negsuc 1 ∷ pos 3 ∷ negsuc 0 ∷ [])
    ∷ (pos 2 ∷ pos 1 ∷ negsuc 1 ∷ pos 1 ∷ [])
    ∷ []

-- the one-axis entry: what the coefficient of power i takes of number t = 2·end + order
unfoldable pub one_axis : ℕ → ℕ → ℤ
one_axis i t = get_or (get_or equation8 i []) t (pos 0)

-- the columns are f at the four corners with x fastest, then ∂f/∂x, ∂f/∂y and ∂²f/∂x∂y there: column K has entry K/4 of corner K%4, which
-- is this one of the corner records
unfoldable pub column_entry : ℕ → ℕ
column_entry K = 4 * (K % 4) + K / 4

-- its number t along each axis
unfoldable pub column_numbers : ℕ → Place
column_numbers K = corner_numbers 2 2 (column_entry K)

-- row i + 4j, column K: the product of the two one-axis entries
unfoldable pub matrix : ℕ → ℕ → ℤ
matrix R K = one_axis (R % 4) (column_numbers K 0) *ℤ one_axis (R / 4) (column_numbers K 1)

-- row by row
unfoldable pub table_two : List ℤ
table_two = tabulate 256 (λ n. matrix (n / 16) (n % 16))

-- ---- the export

-- 4 times what column K stands for, from the record's entry: 4f; 2D along x or along y, D being twice the slope; D along both
unfoldable pub factor : ℕ → ℤ
factor K = get_or (pos 4 ∷ pos 2 ∷ pos 2 ∷ pos 1 ∷ []) (K / 4) (pos 0)

-- 4 times coefficient R = i + 4j of a cell, g being what the records hold
unfoldable pub power_coefficient : Place → Field → ℕ → ℤ
power_coefficient cell g R = sum 16 (λ K. matrix R K *ℤ (factor K *ℤ g (λ a. 2 * cell a + column_numbers K a)))

unfoldable pub power_list : Place → Field → List ℤ
power_list cell g = tabulate 16 (power_coefficient cell g)

-- ---- the call

-- 1, 2, 3, 26, then 24: the table is not two-axis cubic; 4, 9, 14
unfoldable pub request_outcome : FullShape → ℕ → Place → ℕ → Check
request_outcome t given cell room =
    first (full_outcome t)
    (first (refuse_unless (eqb t.shape.axes 2 && eqb t.shape.degree 3) 24 0)
    (first (refuse_unless (eqb given (size t.shape)) 4 0) (first (refuse_unless (leb 16 room) 9 0) (cell_outcome t.shape cell))))

-- and then 5
unfoldable pub powers_outcome : FullShape → List ℤ → Place → ℕ → Check
powers_outcome t rs cell room = first (request_outcome t (length rs) cell room) (corners_outcome t.shape rs cell)

-- what the lent slice holds afterwards
unfoldable pub powers_writes : FullShape → List ℤ → Place → List ℤ → List ℤ
powers_writes t rs cell out =
    when_done (powers_outcome t rs cell (length out)) (overwrite (power_list cell (records_field t.shape rs)) out) out

-- ---- the exported polynomial over 4 is the exact value

-- (u/N)^i, multiplied by N³
unfoldable pub power_of : ℕ → ℕ → ℕ → ℤ
power_of N u i = pos u ^ℤ i *ℤ pos N ^ℤ (3 - i)

-- the polynomial of 16 coefficients at step u of N on each axis, multiplied by N³ of x and N³ of y
unfoldable pub polynomial_at : List ℤ → Place → Place → ℤ
polynomial_at cs N u = sum 4 (λ j. sum 4 (λ i. at cs (i + 4 * j) *ℤ (power_of (N 0) (u 0) i *ℤ power_of (N 1) (u 1) j)))

-- at every step pair of every cell that the call exports, for every number of steps
abbrev pub ExactlyExported : Type 0
ExactlyExported =
    (t : FullShape) (rs out : List ℤ) (cell : List ℕ) (N u : Place)
    → powers_outcome t rs (place_at cell) (length out) ≡ done tt → u 0 ≤ N 0 → u 1 ≤ N 1
    → (exact_sum (ask_of t.shape dose N (place_at cell) u) (records_field t.shape rs)
    ≡ polynomial_at (powers_writes t rs (place_at cell) out) N u)
    × (exact_divisor (ask_of t.shape dose N (place_at cell) u) ≡ 4 * (N 0 ^ 3 * N 1 ^ 3))
