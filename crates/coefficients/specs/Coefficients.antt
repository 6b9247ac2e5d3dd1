-- The coefficients of a cell as a list, and the call. m is 2 for degree 3 and 3 for degree 5, n the number of axes.
use Rattle.std.specs.Prelude.{ℕ, ◌*◌, List, leb, eqb, ℤ, length, Result, Ok, Err}
use Rattle.lattice.specs.declared.FullShape.{FullShape}
use Rattle.lattice.specs.declared.refusal.Refusal.{Refusal}
use Rattle.lattice.specs.Answers.{number_of}
use Rattle.lattice.specs.Outcome.{Check, done, refused, refuse_unless, first, when_done}
use Rattle.lattice.specs.Buffer.{tabulate, overwrite}
use Rattle.lattice.specs.Digits.{digit}
use Rattle.lattice.specs.Shape.{orders, size, full_outcome}
use Rattle.lattice.specs.Axes.{Place, Field}
use Rattle.lattice.specs.Records.{records_field}
use Rattle.cell.specs.Cell.{cell_outcome, corners_outcome}
use Rattle.cell.specs.Coefficients.{coefficients, coefficient_count}

-- the coefficients of a cell, x index fastest
unfoldable pub coefficient_list : ℕ → ℕ → Place → Field → List ℤ
coefficient_list m n cell g = tabulate (coefficient_count m n) (λ K. coefficients m n cell g (digit (λ b. 2 * m) K))

-- 1, 2, 3, 26, 4, 9, 14
unfoldable pub request_outcome : FullShape → ℕ → Place → ℕ → Check
request_outcome t given cell room =
    first (full_outcome t)
    (first (refuse_unless (eqb given (size t.shape)) 4 0)
    (first (refuse_unless (leb (coefficient_count (orders t.shape) t.shape.axes) room) 9 0) (cell_outcome t.shape cell)))

-- and then 5
unfoldable pub coefficients_outcome : FullShape → List ℤ → Place → ℕ → Check
coefficients_outcome t rs cell room = first (request_outcome t (length rs) cell room) (corners_outcome t.shape rs cell)

-- what the lent slice holds afterwards
unfoldable pub coefficients_writes : FullShape → List ℤ → Place → List ℤ → List ℤ
coefficients_writes t rs cell out =
    when_done (coefficients_outcome t rs cell (length out))
    (overwrite (coefficient_list (orders t.shape) t.shape.axes cell (records_field t.shape rs)) out) out

-- whether a call was refused, and by what
abbrev pub check_of : {A : Type 0} → Result A Refusal → Check
check_of (Ok a) = done tt
check_of (Err r) = refused (number_of r.reason) r.place
