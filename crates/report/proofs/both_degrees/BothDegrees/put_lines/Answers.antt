-- `BothDegrees::put_lines` meets its contract: after i turns the lines of the first i cells stand at the front.
use mathlib.Core.Path.{◌≡◌, ap, ◌∙◌}
use mathlib.Core.List.{List}
use Prim.Native.Nat.{ℕ, ◌*◌, ◌≤◌}
use native.Mathlib.Nat.{mul-le-mul}
use native.Mathlib.Omega.{arith}
use lib.Dec.{lit<}
use lib.IntN.{ℤ}
use lib.ListN.{get_or}
use Rattle.lattice.specs.declared.Shape.{Shape}
use Rattle.lattice.specs.Buffer.{tabulate}
use Rattle.lattice.specs.Shape.{Shaped}
use Rattle.lattice.specs.Digits.{digit}
use Rattle.lattice.proofs.ShapeLaws.{shaped}
use Rattle.lattice.proofs.StepLaws.{full-shape}
use Rattle.table_file.specs.File.{Header}
use Rattle.text.proofs.LineLaws.{put_as, put-length}
use Rattle.table_file.specs.Answers.{read_header}
use Rattle.cell.specs.Cells.{cells_along, cell_count, cell_at, Between}
use Rattle.cell.proofs.CellsLaws.{cells-between, cell-accepted, cell-between, cell-is, total-is}
use Rattle.report.specs.Report.{with_degree, table_with}
use Rattle.report.specs.Parts.{Answers, line_from}
use Rattle.report.proofs.LineLaws.{lines_none, lines_more}
use Rattle.report.proofs.both_degrees.BothDegrees.put_lines.Invariants.{line_at}
use Rattle.report.proofs.both_degrees.BothDegrees.put_lines.Goals as goal

-- a table's shape, and the cells that it has
module _ (h : Header) where
  abbrev table : Shape
  table = with_degree h 3

  shape : (rs : List ℤ) → Answers (table_with h 3) rs → Shaped table
  shape rs known = shaped table (full-shape _ known.shape)

  module _ (s : Shape) (cells : List ℕ) (same : s ≡ table) (told : cells ≡ tabulate 3 (cells_along s)) where
    cells_are : cells ≡ tabulate 3 (cells_along table)
    cells_are = told ∙ ap (λ (s : Shape). tabulate 3 (cells_along s)) same

    between : (rs : List ℤ) → Answers (table_with h 3) rs → Between 1 64 cells
    between rs known = rw cells_are (cells-between table (shape rs known))

    total : get_or cells 0 0 * (get_or cells 1 0 * get_or cells 2 0) ≡ cell_count table
    total = total-is table cells cells_are

    -- the cell of a turn
    cell : (r : List ℕ) (i : ℕ) → r ≡ tabulate 3 (digit (λ a. get_or cells a 0) i) → r ≡ cell_at table i
    cell r i e = e ∙ cell-is table cells i cells_are

pub cells_of-cells-requires : goal.cells_of-cells-requires
cells_of-cells-requires c = rw c.shape.ensures (shape (read_header c.args.self.header) _ c.args.self.cubic_answers)

pub overflow_mul-i-end : goal.overflow_mul-i-end
overflow_mul-i-end c =
    let cells = c.cells_of-cells.result in
    let b = between (read_header c.args.self.header) c.shape.result cells c.shape.ensures c.cells_of-cells.ensures _
    c.args.self.cubic_answers in
    let h : get_or cells 1 0 * get_or cells 2 0 ≤ 64 * 64 = mul-le-mul (b.most 1 (lit< tt)) (b.most 2 (lit< tt)) in
    omega arith

pub overflow_mul-i-end-2 : goal.overflow_mul-i-end-2
overflow_mul-i-end-2 c = omega (
  arith,
  total (read_header c.args.self.header) c.shape.result c.cells_of-cells.result c.shape.ensures c.cells_of-cells.ensures,
  c.requires.0,
)

pub cell_at-requires : goal.cell_at-requires
cell_at-requires c = between (read_header c.args.self.header) c.shape.result c.cells_of-cells.result c.shape.ensures
    c.cells_of-cells.ensures _
    c.args.self.cubic_answers

pub put_line-at-requires : goal.put_line-at-requires
put_line-at-requires c =
    let h : Header = read_header c.args.self.header in
    let ok : Shaped (table h) = shape h _ c.args.self.cubic_answers in
    let cells = c.cells_of-cells in
    let l = c.loop-i in
    let e = cell h c.shape.result cells.result c.shape.ensures cells.ensures c.cell_at.result l.i c.cell_at.ensures in
    let n = total h c.shape.result cells.result c.shape.ensures cells.ensures in
    record {
      accepted = (
        rw e (cell-accepted (table h) ok l.i),
        rw e (cell-between (table h) ok l.i),
        omega (arith, n, put-length l.invariant.1, c.requires, l.invariant.0, c.loop-i-test.true),
      );
    }

pub loop-i-init : goal.loop-i-init
loop-i-init c =
    let a = c.args in
    (omega arith, lines_none (line_at (read_header c.args.self.header) a.self.cubic.now a.self.quintic.now) a.out.now)

pub loop-i-preserved : goal.loop-i-preserved
loop-i-preserved c =
    let a = c.args.self in
    let h : Header = read_header a.header in
    let cells = c.cells_of-cells in
    let p = c.put_line-at in
    let l = c.loop-i in
    let e = ap (line_from h a.cubic.now a.quintic.now)
    (cell h c.shape.result cells.result c.shape.ensures cells.ensures c.cell_at.result l.i c.cell_at.ensures) in (
      omega (arith, p.ensures.1, l.invariant.0),
      lines_more (line_at h a.cubic.now a.quintic.now) l.i l.invariant.1 (put_as e p.ensures.0),
    )

pub returns : goal.returns
returns c =
    let h : Header = read_header c.args.self.header in
    let l = c.loop-i in
    let n = total h c.shape.result c.cells_of-cells.result c.shape.ensures c.cells_of-cells.ensures in
    let e : l.i ≡ cell_count (table h) = omega (arith, n, l.auto.i-end, c.loop-i-test.false) in
    (rw e at l.invariant.1, omega (arith, e, l.invariant.0, c.requires.0))
