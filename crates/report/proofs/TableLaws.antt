-- A table that the program holds: estimation refuses 19 in both degrees or in none, and its lines are those from the records of the rules.
use mathlib.Core.Path.{◌≡◌, refl, sym, ap, ap₂, ◌∙◌}
use mathlib.Core.List.{List}
use Prim.Native.Nat.{ℕ, ◌*◌, ◌^◌, ◌≤◌, ◌<◌}
use native.Mathlib.Nat.{mul-le-mul, le_refl, le_trans, le_of_eq}
use native.Mathlib.Omega.{arith}
use borrow.Author.Tests.{le-leb, eq-eqb}
use lib.Dec.{leb, eqb, lit<}
use lib.IntN.{ℤ}
use lib.ListN.{length}
use Rattle.arith.specs.Choice.{pick}
use Rattle.lattice.specs.declared.Shape.{Shape}
use Rattle.lattice.specs.Outcome.{Check, done, refused, refuse_unless}
use Rattle.lattice.specs.Shape.{count, orders_of, nodes, entries, size, axes_outcome, degree_outcome, shape_outcome, steps_on, full_outcome, Shaped}
use Rattle.lattice.specs.Records.{limit_outcome}
use Rattle.lattice.proofs.OutcomeLaws.{first-passed, passes}
use Rattle.lattice.proofs.ShapeLaws.{shaped, pow-range}
use Rattle.cell.specs.Cell.{place_at, Accepted}
use Rattle.cell.specs.Cells.{cell_count, cell_at}
use Rattle.cell.proofs.CellsLaws.{cells-few, cell-accepted}
use Rattle.estimate.specs.Estimate.{records_of, estimate_limit, estimate_outcome}
use Rattle.table_file.specs.File.{Header, count_of, step_of, nodes_of}
use Rattle.text.specs.Lines.{cell_line, refused_line}
use Rattle.report.specs.Report.{held_nodes, with_degree, table_with, line_in, cell_lines, table_text, text_of}
use Rattle.report.specs.Parts.{HeldTable, TakenTable, line_from, lines_from}
use Rattle.report.proofs.DoseLaws.{dose-same}
use Rattle.report.proofs.LineLaws.{joined_same}

-- the cells of a table do not depend on the degree
pub any-degree : (h : Header) (d e : ℕ) (cell : List ℕ) → Accepted (with_degree h d) (place_at cell)
    → Accepted (with_degree h e) (place_at cell)
unfolding count
any-degree h d e cell k = record { used = k.used; unused = k.unused }

module _ (h : Header) (xs : List ℤ) (held : HeldTable h xs) where
  pub nodes-are : (d : ℕ) → nodes (with_degree h d) ≡ length xs
  unfolding nodes nodes_of count count_of
  nodes-are d = sym held.permitted.counted

  shape-passes : (d : ℕ) → degree_outcome d ≡ done tt → shape_outcome (with_degree h d) ≡ done tt
  unfolding shape_outcome count count_of
  shape-passes d e =
      first-passed (axes_outcome h.axes) _ held.permitted.axes-ok ∙ first-passed (degree_outcome d) _ e ∙ held.permitted.counts-ok

  pub cubic-shaped : Shaped (with_degree h 3)
  unfolding degree_outcome
  cubic-shaped = shaped (with_degree h 3) (shape-passes 3 refl)

  -- a shape of at most 512 nodes has at most 512 · m^3 entries
  size_low : (d m : ℕ) → degree_outcome d ≡ done tt → orders_of d ≤ m → 0 < m → size (with_degree h d) ≤ held_nodes * m ^ 3
  unfolding size entries
  size_low d m e k l =
      mul-le-mul (le_trans (le_of_eq (nodes-are d)) held.few)
      (pow-range m (orders_of d) h.axes k (shaped (with_degree h d) (shape-passes d e)).axes-high l)

  full-passes : (d : ℕ) → degree_outcome d ≡ done tt → full_outcome (table_with h d) ≡ done tt
  unfolding full_outcome steps_on step_of
  full-passes d e = first-passed (shape_outcome (with_degree h d)) _ (shape-passes d e) ∙ held.permitted.steps-ok

  -- in a slice that is long enough, estimation refuses nothing but 19
  tested : (d room : ℕ) → degree_outcome d ≡ done tt → size (with_degree h d) ≤ room
      → estimate_outcome (table_with h d) xs room ≡ limit_outcome 19 (estimate_limit h.axes) xs
  unfolding estimate_outcome
  tested d room e k =
      let s : Shape = with_degree h d in
      first-passed (full_outcome (table_with h d)) _ (full-passes d e)
      ∙ first-passed (refuse_unless (eqb (length xs) (nodes s)) 4 0) _
      (passes (eqb (length xs) (nodes s)) 4 0 (eq-eqb (length xs) (nodes s) (sym (nodes-are d))))
      ∙ first-passed (refuse_unless (leb (size s) room) 9 0) (limit_outcome 19 (estimate_limit h.axes) xs)
      (passes (leb (size s) room) 9 0 (le-leb (size s) room k))

  cubic-tested : estimate_outcome (table_with h 3) xs 4096 ≡ limit_outcome 19 (estimate_limit h.axes) xs
  unfolding degree_outcome orders_of pick
  cubic-tested = tested 3 4096 refl (size_low 3 2 refl (omega arith) (lit< tt))

  quintic-tested : estimate_outcome (table_with h 5) xs 13824 ≡ limit_outcome 19 (estimate_limit h.axes) xs
  unfolding degree_outcome orders_of pick
  quintic-tested = tested 5 13824 refl (size_low 5 3 refl (omega arith) (lit< tt))

  -- the program's slice, and one that is just long enough
  same-room : estimate_outcome (table_with h 3) xs 4096 ≡ estimate_outcome (table_with h 3) xs (size (with_degree h 3))
  unfolding degree_outcome
  same-room = cubic-tested ∙ sym (tested 3 (size (with_degree h 3)) refl (le_refl (size (with_degree h 3))))

  pub taken : estimate_outcome (table_with h 3) xs 4096 ≡ done tt → TakenTable h xs
  taken e = record { held = held; small = sym cubic-tested ∙ e }

  -- the text of a table by what estimation says
  pub refused-text : {number place : ℕ} → estimate_outcome (table_with h 3) xs 4096 ≡ refused number place
      → refused_line number ≡ text_of (done h) xs
  unfolding text_of table_text
  refused-text e = ap (λ (o : Check). table_text o h xs) (sym e ∙ same-room)

  pub taken-text : estimate_outcome (table_with h 3) xs 4096 ≡ done tt → cell_lines h xs ≡ text_of (done h) xs
  unfolding text_of table_text
  taken-text e = ap (λ (o : Check). table_text o h xs) (sym e ∙ same-room)

  pub few-cells : cell_count (with_degree h 3) ≤ held_nodes
  few-cells = le_trans (cells-few (with_degree h 3) cubic-shaped) (le_trans (le_of_eq (nodes-are 3)) held.few)

module _ (h : Header) (xs : List ℤ) (ok : TakenTable h xs) where
  pub cubic-taken : estimate_outcome (table_with h 3) xs 4096 ≡ done tt
  cubic-taken = cubic-tested h xs ok.held ∙ ok.small

  pub quintic-taken : estimate_outcome (table_with h 5) xs 13824 ≡ done tt
  quintic-taken = quintic-tested h xs ok.held ∙ ok.small

  -- the lines
  pub lines_are : lines_from h (records_of (with_degree h 3) xs) (records_of (with_degree h 5) xs) ≡ cell_lines h xs
  unfolding cell_lines line_from line_in
  lines_are = joined_same (cell_count (with_degree h 3)) _ _ (λ i.
      let cell = cell_at (with_degree h 3) i in
      let here = cell-accepted (with_degree h 3) (cubic-shaped h xs ok.held) i in
      ap₂ (cell_line cell) (dose-same (table_with h 3) xs 4096 cubic-taken cell here)
      (dose-same (table_with h 5) xs 13824 quintic-taken cell (any-degree h 3 5 cell here)))
