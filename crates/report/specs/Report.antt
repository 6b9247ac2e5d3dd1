-- The program's text for its whole input: one line for each cell of the table, x fastest, or the line of a refusal.
use Rattle.std.specs.Prelude.{ℕ, zero, suc, List, [], ◌++◌, leb, ltb, ℤ, length}
use Rattle.arith.specs.Choice.{pick}
use Rattle.lattice.specs.declared.Shape.{Shape}
use Rattle.lattice.specs.declared.FullShape.{FullShape}
use Rattle.lattice.specs.Shape.{shape_of, full_shape, rounding_in, size}
use Rattle.lattice.specs.Outcome.{Outcome, Check, done, refused, refuse_unless, first}
use Rattle.lattice.specs.Axes.{Place}
use Rattle.cell.specs.Cell.{place_at}
use Rattle.cell.specs.Cells.{cell_count, cell_at}
use Rattle.estimate.specs.Estimate.{table_records, estimate_outcome}
use Rattle.evaluate.specs.Evaluate.{dose, answer_by}
use Rattle.query.specs.Queries.{ask_in}
use Rattle.table_file.specs.File.{Header, samples_in, read_outcome}
use Rattle.text.specs.Lines.{cell_line, refused_line}

-- the program holds 512 nodes and 4,096 bytes
abbrev pub held_nodes : ℕ
held_nodes = 512

abbrev pub held_bytes : ℕ
held_bytes = 4096

-- ---- the line of a cell

-- in-cell step 128 of each used axis
unfoldable pub middle : ℕ → Place
middle axes a = pick (ltb a axes) 128 0

abbrev pub with_degree : Header → ℕ → Shape
with_degree h degree = shape_of h.axes degree h.counts

-- with the step numbers and the edition of the file
abbrev pub table_with : Header → ℕ → FullShape
table_with h degree = full_shape (with_degree h degree) h.steps h.second

-- the dose there, from the records of one degree that the rules under Estimates give
unfoldable pub dose_in : FullShape → List ℤ → List ℕ → ℤ
dose_in t samples cell =
    answer_by (rounding_in t) (ask_in t dose (place_at cell) (middle t.shape.axes)) (table_records t.shape samples)

-- the cubic dose and the quintic dose
unfoldable pub line_in : Header → List ℤ → List ℕ → List ℕ
line_in h samples cell =
    cell_line cell (dose_in (table_with h 3) samples cell) (dose_in (table_with h 5) samples cell)

-- ---- the text

-- f 0, f 1, .., f (n - 1), one after the other
unfoldable pub joined : ℕ → (ℕ → List ℕ) → List ℕ
joined zero f = []
joined (suc n) f = joined n f ++ f n

-- for each cell, which both degrees have alike
unfoldable pub cell_lines : Header → List ℤ → List ℕ
cell_lines h samples = joined (cell_count (with_degree h 3)) (λ i. line_in h samples (cell_at (with_degree h 3) i))

-- a longer input is refused 9 before anything else
unfoldable pub input_outcome : List ℕ → Outcome Header
input_outcome input = first (refuse_unless (leb (length input) held_bytes) 9 0) (read_outcome input held_nodes)

-- a table that estimation takes, or its refusal: both degrees have the same limit
unfoldable pub table_text : Check → Header → List ℤ → List ℕ
table_text (done u) h samples = cell_lines h samples
table_text (refused number place) h samples = refused_line number

unfoldable pub text_of : Outcome Header → List ℤ → List ℕ
text_of (done h) samples = table_text (estimate_outcome (table_with h 3) samples (size (with_degree h 3))) h samples
text_of (refused number place) samples = refused_line number

unfoldable pub report_text : List ℕ → List ℕ
report_text input = text_of (input_outcome input) (samples_in input)
