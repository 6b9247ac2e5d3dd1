-- `put_table` meets its contract: two estimates, then the lines.
use mathlib.Core.Path.{refl, sym, ap₂, ◌∙◌}
use Rattle.lattice.proofs.OutcomeLaws.{done_refused}
use Rattle.lattice.specs.Outcome.{done}
use Rattle.table_file.specs.Answers.{read_header}
use Rattle.table_file.specs.File.{Header}
use Rattle.text.proofs.LineLaws.{put_as}
use Rattle.report.specs.Report.{table_with, text_of}
use Rattle.report.specs.Parts.{lines_from, Gives}
use Rattle.report.proofs.DoseLaws.{answers}
use Rattle.report.proofs.InputLaws.{on-err}
use Rattle.report.proofs.TableLaws.{taken, cubic-taken, quintic-taken, few-cells, lines_are, refused-text, taken-text}
use Rattle.report.proofs.put_table.Goals as goal

pub returns-in_err-low : goal.returns-in_err-low
returns-in_err-low c =
    let a = c.args in
    let h : Header = read_header a.header in
    on-err (Gives a.out.now (text_of (done h) a.samples.now) a.out.now) _ _ c.from_residual.ensures
    (sym (refused-text h a.samples.now c.requires.0 c.in_err-low.ensures), refl)

pub returns-in_err-high : goal.returns-in_err-high
returns-in_err-high c =
    let h : Header = read_header c.args.header in
    let k = taken h c.args.samples.now c.requires.0 c.in_ok-low.ensures.0 in
    absurd (done_refused _ _ _ (quintic-taken h c.args.samples.now k) c.in_err-high.ensures)

pub invariant_of-table : goal.invariant_of-table
invariant_of-table c =
    let h : Header = read_header c.args.header in
    let xs = c.args.samples.now in
    let k = taken h xs c.requires.0 c.in_ok-low.ensures.0 in
    record {
      cubic_answers = rw c.in_ok-low.ensures.2 (answers (table_with h 3) xs 4096 (cubic-taken h xs k));
      quintic_answers = rw c.in_ok-high.ensures.2 (answers (table_with h 5) xs 13824 (quintic-taken h xs k));
    }

pub put_lines-requires : goal.put_lines-requires
put_lines-requires c = (few-cells (read_header c.args.header) c.args.samples.now c.requires.0, c.requires.1)

pub returns : goal.returns
returns c =
    let h : Header = read_header c.args.header in
    let xs = c.args.samples.now in
    let k = taken h xs c.requires.0 c.in_ok-low.ensures.0 in
    let p = c.put_lines in (
      put_as (ap₂ (lines_from h) c.in_ok-low.ensures.2 c.in_ok-high.ensures.2 ∙ lines_are h xs k
          ∙ taken-text h xs c.requires.0 c.in_ok-low.ensures.0) p.ensures.0,
      p.ensures.1,
    )
