-- `totals::box_total` meets its contract: 1, 2, 3, 26, 4, 29, then the total or 5.
use mathlib.Core.Path.{sym, ap, ap₂, ◌∙◌}
use lib.ListN.{length}
use Rattle.lattice.specs.Answers.{outcome_of}
use Rattle.lattice.specs.Outcome.{first}
use Rattle.lattice.proofs.OutcomeLaws.{stopped, went-on, first_done, first-assoc}
use Rattle.cell.specs.Cell.{place_at}
use Rattle.totals.specs.Totals.{table_outcome, box_outcome, box_total}
use Rattle.totals.proofs.CallLaws.{tabled, boxed, both-tests}
use Rattle.totals.proofs.box_total.Goals as goal

pub returns-in_err-and : goal.returns-in_err-and
unfolding box_total
returns-in_err-and c =
    let a = c.args in
    stopped _ _ _ _ c.from_residual.ensures
    (ap outcome_of c.in_err-and.ensures ∙ both-tests _ _ ∙ ap₂ first c.check_table.ensures c.check_box.ensures)
    ∙ first-assoc (table_outcome a.t (length a.records.now)) (box_outcome a.t.shape (place_at a.from) (place_at a.to)) _

pub total_in-requires : goal.total_in-requires
total_in-requires c =
    let a = c.args in
    let p = first_done (table_outcome a.t (length a.records.now)) (box_outcome a.t.shape (place_at a.from) (place_at a.to)) tt
    (sym (ap outcome_of c.in_ok-and.ensures ∙ both-tests _ _ ∙ ap₂ first c.check_table.ensures c.check_box.ensures)) in
    let t = tabled a.t (length a.records.now) p.0 in
    (t.shape, t.many, boxed a.t.shape a.from a.to t.shape.axes-high p.1)

pub returns : goal.returns
unfolding box_total
returns c =
    let a = c.args in
    went-on _ _ _ (ap outcome_of c.in_ok-and.ensures ∙ both-tests _ _ ∙ ap₂ first c.check_table.ensures c.check_box.ensures)
    c.total_in.ensures
    ∙ first-assoc (table_outcome a.t (length a.records.now)) (box_outcome a.t.shape (place_at a.from) (place_at a.to)) _
