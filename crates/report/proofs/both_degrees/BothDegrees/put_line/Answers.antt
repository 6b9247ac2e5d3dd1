-- `BothDegrees::put_line` meets its contract: two doses and a line.
use mathlib.Core.Path.{◌≡◌, ap₂, ◌∙◌}
use mathlib.Core.List.{List}
use Prim.Native.Nat.{ℕ, ◌^◌, ◌≤◌, ◌<◌}
use native.Mathlib.Omega.{arith}
use lib.IntN.{ℤ}
use lib.ListN.{length}
use lib.Signed.{mag}
use mir.Syntax.{w32}
use mir.Val.{to_z, of_z}
use Rattle.arith.proofs.Machine.{element, near}
use Rattle.table_file.specs.File.{Header}
use Rattle.table_file.specs.Answers.{read_header}
use Rattle.cell.specs.Cells.{Between}
use Rattle.text.specs.Lines.{cell_line}
use Rattle.text.proofs.LineLaws.{put_as}
use Rattle.report.specs.Report.{table_with}
use Rattle.report.specs.Parts.{dose_from, line_from, line_limit}
use Rattle.report.proofs.TableLaws.{any-degree}
use Rattle.report.proofs.LineLaws.{line-short}
use Rattle.report.proofs.both_degrees.BothDegrees.put_line.Goals as goal

-- the line of the two doses
module _ (x y : ℤ) (cell : List ℕ) (fit-x : mag x < 2 ^ 31) (fit-y : mag y < 2 ^ 31) where
  short : Between 0 99 cell → length (cell_line cell (to_z w32 (of_z w32 x)) (to_z w32 (of_z w32 y))) ≤ line_limit
  short k = rw (element x fit-x, element y fit-y) (line-short cell x y k (near x fit-x) (near y fit-y))

  line : (h : Header) (cubic quintic : List ℤ) → x ≡ dose_from (table_with h 3) cubic cell → y ≡ dose_from (table_with h 5) quintic cell
      → cell_line cell (to_z w32 (of_z w32 x)) (to_z w32 (of_z w32 y)) ≡ line_from h cubic quintic cell
  unfolding line_from
  line h cubic quintic d e = ap₂ (cell_line cell) (element x fit-x ∙ d) (element y fit-y ∙ e)

pub dose_at-b-requires : goal.dose_at-b-requires
dose_at-b-requires c =
    let a = c.args.self in
    record { answers = a.quintic_answers; accepted = any-degree (read_header a.header) 3 5 c.args.cell c.requires.accepted.0 }

pub returns : goal.returns
returns c =
    let a = c.args.self in
    let p = c.put_cell_line in
    let x = c.dose_at-a in
    let y = c.dose_at-b in (
      put_as (line x.result y.result c.args.cell x.type_inv y.type_inv (read_header a.header) a.cubic.now a.quintic.now x.ensures y.ensures)
          (record { written = p.ensures.out_after; ended = p.ensures.value }),
      omega (arith, p.ensures.value, short x.result y.result c.args.cell x.type_inv y.type_inv c.requires.accepted.1),
    )

pub put_cell_line-requires : goal.put_cell_line-requires
put_cell_line-requires c =
    let x = c.dose_at-a in
    let y = c.dose_at-b in
    omega (arith, c.requires.accepted.2, short x.result y.result c.args.cell x.type_inv y.type_inv c.requires.accepted.1)
