-- `ramp` meets its contract: answers are written where no query is refused; where the list is refused, nothing is.
use mathlib.Core.Path.{◌≡◌, refl, sym, ◌∙◌}
use mathlib.Core.List.{List}
use Prim.Native.Nat.{ℕ, ◌≤◌}
use lib.IntN.{ℤ}
use lib.ListN.{length}
use Rattle.lattice.specs.declared.FullShape.{FullShape}
use native.Mathlib.Omega.{arith}
use Rattle.lattice.specs.Outcome.{done}
use Rattle.lattice.specs.Shape.{full_outcome}
use Rattle.lattice.proofs.OutcomeLaws.{stopped, went-on, handed_on, when-done, when-refused}
use Rattle.ramp.specs.Ramp.{queries, own_call, answer_of, list_outcome, queries_outcome, ramp_outcome, ramp_writes}
use Rattle.std.proofs.lemmas.List.{length-take-le}
use Rattle.ramp.specs.Parts.{Listed}
use Rattle.ramp.proofs.ListLaws.{listed, front, overwritten}
use Rattle.ramp.proofs.ramp.Goals as goal

pub returns-in_err-check_list : goal.returns-in_err-check_list
unfolding ramp_outcome ramp_writes
returns-in_err-check_list c =
    let a = c.args in
    let r = stopped c.from_residual.result _ (list_outcome a.t (length a.records.now) (length a.positions.now) (length a.answers.now))
    (queries_outcome a.t a.records.now a.positions.now) c.from_residual.ensures c.in_err-check_list.ensures in
    record { answer = r; written = when-refused _ a.answers.now (sym r ∙ handed_on _ _ c.from_residual.ensures) }

-- what the tests of the lengths leave
module _ (t : FullShape) (rs ps : List ℤ) (room : ℕ) (tested : done tt ≡ list_outcome t (length rs) (length ps) room) where
  ready : Listed t.shape rs ps × (queries ps ≤ room) × (full_outcome t ≡ done tt)
  ready = listed t rs ps room (sym tested)

pub invariant_of-list : goal.invariant_of-list
invariant_of-list c =
    let a = c.args in
    let l = ready a.t a.records.now a.positions.now (length a.answers.now) c.in_ok-check_list.ensures in
    record { full = l.2; listed = l.0 }

pub returns-in_err-fetches : goal.returns-in_err-fetches
unfolding ramp_outcome ramp_writes
returns-in_err-fetches c =
    let a = c.args in
    let r = went-on (list_outcome a.t (length a.records.now) (length a.positions.now) (length a.answers.now))
    (queries_outcome a.t a.records.now a.positions.now) _ c.in_ok-check_list.ensures
    (handed_on _ _ c.from_residual-in_err-fetches.ensures ∙ c.in_err-fetches.ensures.result_value) in
    record { answer = r; written = when-refused _ a.answers.now (sym r ∙ handed_on _ _ c.from_residual-in_err-fetches.ensures) }

pub slice_bounds-copy_from_slice-end : goal.slice_bounds-copy_from_slice-end
slice_bounds-copy_from_slice-end c =
    let a = c.args in
    (ready a.t a.records.now a.positions.now (length a.answers.now) c.in_ok-check_list.ensures).1

pub slice_bounds-copy_from_slice-end-2 : goal.slice_bounds-copy_from_slice-end-2
slice_bounds-copy_from_slice-end-2 c =
    let a = c.args in
    sym (length-take-le (queries a.positions.now) a.answers.now
    (ready a.t a.records.now a.positions.now (length a.answers.now) c.in_ok-check_list.ensures).1)

pub copy_from_slice-requires : goal.copy_from_slice-requires
copy_from_slice-requires c =
    let a = c.args in
    let l = ready a.t a.records.now a.positions.now (length a.answers.now) c.in_ok-check_list.ensures in
    length-take-le (queries a.positions.now) a.answers.now l.1
    ∙ sym (length-take-le (queries a.positions.now) c.answer.new.found (let e = c.answer.array_long in let h = l.0.few in omega arith))

pub returns : goal.returns
unfolding ramp_outcome ramp_writes
returns c =
    let a = c.args in
    let n = queries a.positions.now in
    let l = ready a.t a.records.now a.positions.now (length a.answers.now) c.in_ok-check_list.ensures in
    let f = λ (i : ℕ). answer_of (own_call a.t a.records.now a.positions.now i) in
    let r = went-on (list_outcome a.t (length a.records.now) (length a.positions.now) (length a.answers.now))
    (queries_outcome a.t a.records.now a.positions.now) _ c.in_ok-check_list.ensures c.in_ok-fetches.ensures.result_value in
    record {
      answer = r;
      written = overwritten c.copy_from_slice.new.self a.answers.now n f
          (c.copy_from_slice.ensures.after ∙ front c.answer.new.found n f (let e = c.answer.array_long in let h = l.0.few in omega arith)
          (c.in_ok-fetches.ensures.by_index _ refl))
          ∙ when-done _ a.answers.now (sym r);
    }
