-- `totals::cell_total` meets its contract: 1, 2, 3, 26, 4, 14, then the total of the box of one cell, or 5.
use mathlib.Core.Path.{◌≡◌, sym, ap, ap₂, ◌∙◌}
use lib.IntN.{ℤ}
use Prim.Native.Nat.{ℕ}
use mathlib.Core.List.{List}
use lib.ListN.{length}
use Rattle.lattice.specs.declared.FullShape.{FullShape}
use Rattle.lattice.specs.Answers.{outcome_of}
use Rattle.lattice.specs.Outcome.{Check, done, first}
use Rattle.lattice.specs.Shape.{orders}
use Rattle.lattice.specs.Records.{records_field}
use Rattle.lattice.proofs.OutcomeLaws.{stopped, went-on, first_done, first-assoc}
use Rattle.cell.specs.Cell.{place_at, cell_outcome, Accepted}
use Rattle.cell.proofs.CellLaws.{accepted, place-beyond}
use Rattle.totals.specs.Totals.{table_outcome, cell_total}
use Rattle.totals.proofs.CallLaws.{Tabled, tabled, cell-boxed, corners-records, one_cell, both-tests}
use Rattle.totals.proofs.cell_total.Goals as goal

-- not refused
module _ (t : FullShape) (given : ℕ) (k : List ℕ) (tested : first (table_outcome t given) (cell_outcome t.shape (place_at k)) ≡ done tt)
  where
    passed : (table_outcome t given ≡ done tt) × (cell_outcome t.shape (place_at k) ≡ done tt)
    passed = first_done (table_outcome t given) (cell_outcome t.shape (place_at k)) tt tested

    facts : Tabled t.shape given
    facts = tabled t given passed.0

    here : Accepted t.shape (place_at k)
    here = accepted t.shape k facts.shape.axes-high passed.1

pub returns-in_err-and : goal.returns-in_err-and
unfolding cell_total
returns-in_err-and c =
    let a = c.args in
    stopped _ _ _ _ c.from_residual.ensures
    (ap outcome_of c.in_err-and.ensures ∙ both-tests _ _ ∙ ap₂ first c.check_table.ensures c.check_cell.ensures)
    ∙ first-assoc (table_outcome a.t (length a.records.now)) (cell_outcome a.t.shape (place_at a.cell)) _

pub total_in-requires : goal.total_in-requires
total_in-requires c =
    let a = c.args in
    let given = length a.records.now in
    let tested = sym (ap outcome_of c.in_ok-and.ensures ∙ both-tests _ _ ∙ ap₂ first c.check_table.ensures c.check_cell.ensures) in
    let f = facts a.t given a.cell tested in
    (f.shape, f.many, cell-boxed a.t.shape f.shape (place_at a.cell) (here a.t given a.cell tested))

pub returns : goal.returns
unfolding cell_total
returns c =
    let a = c.args in
    let p = place_at a.cell in
    let rs = a.records.now in
    let tests = ap outcome_of c.in_ok-and.ensures ∙ both-tests _ _ ∙ ap₂ first c.check_table.ensures c.check_cell.ensures in
    let f = facts a.t (length rs) a.cell (sym tests) in
    went-on _ _ _ tests
    (c.total_in.ensures
    ∙ ap₂ (λ (o : Check) (v : ℤ). first o (done v)) (sym (corners-records a.t.shape f.shape p (here a.t (length rs) a.cell (sym tests)) rs))
    (one_cell p (place-beyond a.cell) (orders a.t.shape) a.t.shape.axes (records_field a.t.shape rs)))
    ∙ first-assoc (table_outcome a.t (length rs)) (cell_outcome a.t.shape p) _
