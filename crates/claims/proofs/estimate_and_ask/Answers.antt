-- `claims::estimate_and_ask` meets its contract: a refusal of estimation is that of both calls; else the query is lent the records, and the
-- third demand is proved of what it gives.
use mathlib.Core.Path.{sym, ap, ap₂, ◌∙◌}
use mathlib.Core.List.{List}
use native.Mathlib.Nat.{le_trans, le_of_eq}
use native.Mathlib.Omega.{arith}
use lib.IntN.{ℤ}
use lib.ListN.{length, take, length-take}
use mathlib.Core.Path.{◌≡◌}
use Rattle.std.specs.Prelude.{Result, Ok, Err, IsErr}
use Rattle.std.specs.Result.{IsErrAnd}
use Rattle.lattice.specs.declared.refusal.Refusal.{Refusal}
use Rattle.lattice.specs.Answers.{number_of}
use Rattle.lattice.specs.Outcome.{refused}
use Rattle.evaluate.specs.Evaluate.{Want}
use Rattle.claims.specs.declared.Answer.{Answer}
use Rattle.estimate.proofs.CallLaws.{estimated}
use Rattle.evaluate.specs.Wants.{wanted}
use Rattle.float_query.specs.Answers.{in_float}
use Rattle.claims.specs.Third.{AcceptedTable, queried}
use Rattle.claims.specs.Calls.{query_of, outcome_of_reply}
use Rattle.estimated.proofs.Estimated.{lent-room}
use Rattle.claims.proofs.Demand.{both-refused, both-asked, claimed-told}
use Prim.Native.Nat.{◌≤◌}
use Rattle.claims.proofs.estimate_and_ask.Goals as goal

pub table_entries-n-requires : goal.table_entries-n-requires
table_entries-n-requires c =
    let a = c.args in
    (estimated a.t a.samples.now (length a.records.now) (sym c.in_ok-estimate.ensures.answer)).shape

pub slice_bounds-ask-end : goal.slice_bounds-ask-end
slice_bounds-ask-end c =
    let a = c.args in
    le_trans (le_of_eq c.table_entries-n.ensures)
    (le_trans (lent-room a.t a.samples.now a.records.now (sym c.in_ok-estimate.ensures.answer))
    (le_of_eq (ap length (sym c.estimate.ensures.written))))

pub slice_bounds-ask-end-2 : goal.slice_bounds-ask-end-2
slice_bounds-ask-end-2 c =
    let a = c.args in
    let h : c.table_entries-n.result ≤ length c.estimate.new.records =
    le_trans (le_of_eq c.table_entries-n.ensures)
    (le_trans (lent-room a.t a.samples.now a.records.now (sym c.in_ok-estimate.ensures.answer))
    (le_of_eq (ap length (sym c.estimate.ensures.written)))) in
    simp length-take (omega arith)

-- what is handed on of a refusal
handed : (want : Want) (r : Result Answer Refusal) (e : Refusal) → IsErr r × IsErrAnd r (λ x. x ≡ e)
    → outcome_of_reply want r ≡ refused (number_of e.reason) e.place
handed want (Ok a) e h = let f = h.0 in cc
handed want (Err x) e h = ap (λ (y : Refusal). refused (number_of y.reason) y.place) h.1

pub returns-in_err-estimate : goal.returns-in_err-estimate
returns-in_err-estimate c =
    let a = c.args in
    let want = wanted a.derivative in
    let question = query_of a.q in
    let e = c.in_err-estimate.ensures in
    let g = handed want c.from_residual.result _ c.from_residual.ensures
    ∙ ap (in_float want) (both-refused a.t a.samples.now a.records.now want question (sym e.answer)) in
    record { given = g; written = e.written; claimed = claimed-told a.t a.samples.now a.records.now want question _ g }

pub returns : goal.returns
returns c =
    let a = c.args in
    let want = wanted a.derivative in
    let question = query_of a.q in
    let taken : AcceptedTable a.t a.samples.now a.records.now = sym c.in_ok-estimate.ensures.answer in
    let written = c.in_ok-estimate.ensures.written in
    let lends = ap₂ take c.table_entries-n.ensures written in
    let g = c.ask.ensures
    ∙ ap (in_float want) (ap (λ (rs : List ℤ). queried a.t rs want question) lends
    ∙ both-asked a.t a.samples.now a.records.now want question taken) in
    record { given = g; written = written; claimed = claimed-told a.t a.samples.now a.records.now want question _ g }
