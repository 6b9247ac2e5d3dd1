-- `BothDegrees::put_lines` meets its contract: after i turns the lines of the first i cells stand at the front.
use mathlib.Core.List.{List}
use Prim.Native.Nat.{ℕ, ◌*◌, ◌≤◌}
use lib.IntN.{ℤ}
use Rattle.table_file.specs.Answers.{read_header}
use Rattle.table_file.specs.File.{Header}
use Rattle.text.specs.Lines.{Put}
use Rattle.cell.specs.Cells.{cell_at}
use Rattle.report.specs.Report.{with_degree, joined}
use Rattle.report.specs.Parts.{line_from, line_limit}
use Rattle.report.proofs.both_degrees.BothDegrees.put_lines.Given as goal

abbrev pub line_at : Header → List ℤ → List ℤ → ℕ → List ℕ
line_at h cubic quintic i = line_from h cubic quintic (cell_at (with_degree h 3) i)

abbrev pub invariant-loop-i : goal.invariant-loop-i
invariant-loop-i l = (l.at ≤ line_limit * l.i)
    × Put l.initial.out 0 (joined l.i (line_at (read_header l.fn.self.header) l.fn.self.cubic.now l.fn.self.quintic.now)) l.out l.at
