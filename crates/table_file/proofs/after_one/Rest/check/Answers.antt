-- `Rest::check` meets its contract: sections two and three, then 9, then 5 for the samples that are there.
use mathlib.Core.Path.{sym, ap, ◌∙◌}
use mathlib.Core.List.{List}
use lib.IntN.{ℤ}
use Rattle.lattice.specs.Records.{sample_limit, limit_outcome}
use Rattle.lattice.proofs.OutcomeLaws.{stopped, went-on}
use Rattle.table_file.proofs.ReadLaws.{rest-is, two_facts, samples-are}
use Rattle.table_file.proofs.after_one.Rest.check.Goals as goal

pub returns-in_err-check_two : goal.returns-in_err-check_two
returns-in_err-check_two c =
    let a = c.args.self in
    stopped _ _ _ _ c.from_residual.ensures c.in_err-check_two.ensures ∙ sym (rest-is a.bytes.now a.axes a.nodes a.known c.args.room)

pub returns-in_err-check_three : goal.returns-in_err-check_three
returns-in_err-check_three c =
    let a = c.args.self in
    went-on _ _ _ c.in_ok-check_two.ensures
    (stopped _ _ _ _ c.from_residual-in_err-check_three.ensures c.in_err-check_three.ensures)
    ∙ sym (rest-is a.bytes.now a.axes a.nodes a.known c.args.room)

pub returns-in_err-refuse_unless : goal.returns-in_err-refuse_unless
returns-in_err-refuse_unless c =
    let a = c.args.self in
    went-on _ _ _ c.in_ok-check_two.ensures
    (went-on _ _ _ c.in_ok-check_three.ensures
    (stopped _ _ _ _ c.from_residual-in_err-refuse_unless.ensures c.in_err-refuse_unless.ensures))
    ∙ sym (rest-is a.bytes.now a.axes a.nodes a.known c.args.room)

pub returns : goal.returns
returns c =
    let a = c.args.self in
    went-on _ _ _ c.in_ok-check_two.ensures
    (went-on _ _ _ c.in_ok-check_three.ensures
    (went-on _ _ _ c.in_ok-refuse_unless.ensures
    (c.check_samples.ensures ∙ ap (λ (xs : List ℤ). limit_outcome 5 sample_limit xs) (c.samples.ensures ∙ sym
    (samples-are _ _ _ a.known)))))
    ∙ sym (rest-is a.bytes.now a.axes a.nodes a.known c.args.room)

pub samples-requires : goal.samples-requires
samples-requires c = (two_facts _ (sym c.in_ok-check_two.ensures)).1
