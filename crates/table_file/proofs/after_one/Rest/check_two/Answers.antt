-- `Rest::check_two` meets its contract: 6, then 8 and 6 with the number that was read.
use mathlib.Core.Path.{sym, ap, ◌∙◌}
use Prim.Native.Nat.{ℕ}
use native.Mathlib.Omega.{arith}
use lib.Dec.{eqb}
use Rattle.lattice.specs.Outcome.{refuse_unless}
use Rattle.lattice.proofs.OutcomeLaws.{stopped, went-on}
use Rattle.table_file.specs.File.{complete}
use Rattle.table_file.proofs.ReadLaws.{complete-holds, two_is, start_is}
use Rattle.table_file.proofs.after_one.Rest.check_two.Goals as goal

pub returns-in_err-check_complete : goal.returns-in_err-check_complete
returns-in_err-check_complete c =
    let a = c.args.self in
    stopped _ _ _ _ c.from_residual.ensures c.in_err-check_complete.ensures ∙ sym (two_is a.bytes.now a.axes a.nodes a.known)

pub returns-in_err-refuse_unless : goal.returns-in_err-refuse_unless
returns-in_err-refuse_unless c =
    let a = c.args.self in
    let read = ap (λ (k : ℕ). refuse_unless (eqb k a.nodes) 8 0) c.number_at-count.ensures in
    went-on _ _ _ c.in_ok-check_complete.ensures
    (stopped _ _ _ _ c.from_residual-in_err-refuse_unless.ensures (c.in_err-refuse_unless.ensures ∙ read))
    ∙ sym (two_is a.bytes.now a.axes a.nodes a.known)

pub returns : goal.returns
returns c =
    let a = c.args.self in
    let read = ap (λ (k : ℕ). refuse_unless (eqb k a.nodes) 8 0) c.number_at-count.ensures in
    went-on _ _ _ c.in_ok-check_complete.ensures
    (went-on _ _ _ (c.in_ok-refuse_unless.ensures ∙ read) (c.check_complete-2.ensures ∙ ap (complete a.bytes.now)
    (c.start_of_three.ensures.0 ∙ sym (start_is _ _ _ a.known).0)))
    ∙ sym (two_is a.bytes.now a.axes a.nodes a.known)

pub number_at-count-requires : goal.number_at-count-requires
number_at-count-requires c = omega (arith, c.args.self.known, complete-holds _ _ (sym c.in_ok-check_complete.ensures))
