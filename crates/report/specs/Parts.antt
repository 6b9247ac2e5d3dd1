-- What the inner functions give and ask for. The promises of `report` mention none of this.
use Rattle.std.specs.Prelude.{◌≡◌, ℕ, ◌*◌, ◌≤◌, List, ℤ, length, take, Result, Ok, Err}
use Rattle.lattice.specs.declared.FullShape.{FullShape}
use Rattle.lattice.specs.declared.refusal.Refusal.{Refusal}
use Rattle.lattice.specs.Answers.{number_of}
use Rattle.lattice.specs.Outcome.{done, refused}
use Rattle.lattice.specs.Shape.{rounding_in, size, full_outcome}
use Rattle.lattice.specs.Axes.{Place}
use Rattle.lattice.specs.Records.{records_field, limit_outcome}
use Rattle.cell.specs.Cell.{place_at, Accepted, corners_outcome}
use Rattle.cell.specs.Cells.{cell_count, cell_at}
use Rattle.estimate.specs.Estimate.{records_of, estimate_limit, estimate_outcome}
use Rattle.evaluate.specs.Evaluate.{dose, answer_by}
use Rattle.query.specs.Queries.{ask_in}
use Rattle.table_file.specs.File.{Header, PermittedTable}
use Rattle.text.specs.Lines.{Put, cell_line, refused_line}
use Rattle.report.specs.Report.{middle, with_degree, table_with, held_nodes, joined}

-- records that refuse no cell
pub record Answers (t : FullShape) (rs : List ℤ) : Type 0 where
  pub shape : full_outcome t ≡ done tt
  pub long : length rs ≡ size t.shape
  pub corners : (cell : Place) → Accepted t.shape cell → corners_outcome t.shape rs cell ≡ done tt

-- the dose at the middle of a cell, from the records that a slice holds
unfoldable pub dose_from : FullShape → List ℤ → List ℕ → ℤ
dose_from t rs cell = answer_by (rounding_in t) (ask_in t dose (place_at cell) (middle t.shape.axes)) (records_field t.shape rs)

unfoldable pub line_from : Header → List ℤ → List ℤ → List ℕ → List ℕ
line_from h cubic quintic cell =
    cell_line cell (dose_from (table_with h 3) cubic cell) (dose_from (table_with h 5) quintic cell)

abbrev pub lines_from : Header → List ℤ → List ℤ → List ℕ
lines_from h cubic quintic = joined (cell_count (with_degree h 3)) (λ i. line_from h cubic quintic (cell_at (with_degree h 3) i))

-- the longest line: three indices of two digits, two numbers of ten digits and a sign
abbrev pub line_limit : ℕ
line_limit = 33

-- a table that the program holds
pub record HeldTable (h : Header) (samples : List ℤ) : Type 0 where
  pub permitted : PermittedTable h samples
  pub few : length samples ≤ held_nodes

-- and that estimation takes, in both degrees
pub record TakenTable (h : Header) (samples : List ℤ) : Type 0 where
  pub held : HeldTable h samples
  pub small : limit_outcome 19 (estimate_limit h.axes) samples ≡ done tt

-- the records at the front of a slice and the number of their entries, or the refusal of estimation
abbrev pub Estimates : FullShape → List ℤ → List ℤ → List ℤ → Result ℕ Refusal → Type 0
Estimates t samples old now (Ok n) =
    (estimate_outcome t samples (length old) ≡ done tt) × (n ≤ length now) × (take n now ≡ records_of t.shape samples)
Estimates t samples old now (Err r) = estimate_outcome t samples (length old) ≡ refused (number_of r.reason) r.place

-- a text at the front of a slice and its length, or the refusal whose line the text is
abbrev pub Gives : List ℕ → List ℕ → List ℕ → Result ℕ Refusal → Type 0
Gives old text now (Ok n) = Put old 0 text now n × (n ≤ held_nodes * line_limit)
Gives old text now (Err r) = (text ≡ refused_line (number_of r.reason)) × (now ≡ old)
