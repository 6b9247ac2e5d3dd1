-- `Rest::check_three` meets its contract: nothing in edition one; in edition two 6, then 25 and 7 with both numbers that were read.
use mathlib.Core.Path.{sym, ap, ◌∙◌}
use Prim.Native.Nat.{ℕ}
use native.Mathlib.Omega.{arith}
use lib.Dec.{eqb}
use Rattle.lattice.specs.Outcome.{Check, refuse_unless}
use Rattle.lattice.proofs.OutcomeLaws.{stopped, went-on}
use Rattle.table_file.proofs.ReadLaws.{complete-holds, three-tests, three-absent}
use Rattle.table_file.proofs.after_one.Rest.check_three.Goals as goal

-- the test of a number that was read
abbrev is : ℕ → ℕ → Check
is wanted v = refuse_unless (eqb v wanted) 25 0

pub returns-then-not-second_in : goal.returns-then-not-second_in
returns-then-not-second_in c = sym (three-absent _ (sym c.second_in.ensures ∙ c.if-not-second_in.true))

pub returns-in_err-check_complete : goal.returns-in_err-check_complete
returns-in_err-check_complete c =
    let two = sym c.second_in.ensures ∙ c.if-not-second_in.false in
    stopped _ _ _ _ c.from_residual.ensures c.in_err-check_complete.ensures ∙ sym
    (three-tests _ two c.start_of_three-start.result c.start_of_three-start.ensures.0)

pub returns-in_err-refuse_unless : goal.returns-in_err-refuse_unless
returns-in_err-refuse_unless c =
    let two = sym c.second_in.ensures ∙ c.if-not-second_in.false in
    went-on _ _ _ c.in_ok-check_complete.ensures
    (stopped _ _ _ _ c.from_residual-in_err-refuse_unless.ensures (c.in_err-refuse_unless.ensures ∙ ap (is 1) c.number_at-count.ensures))
    ∙ sym (three-tests _ two c.start_of_three-start.result c.start_of_three-start.ensures.0)

pub returns-in_err-refuse_unless-2 : goal.returns-in_err-refuse_unless-2
returns-in_err-refuse_unless-2 c =
    let two = sym c.second_in.ensures ∙ c.if-not-second_in.false in
    went-on _ _ _ c.in_ok-check_complete.ensures
    (went-on _ _ _ (c.in_ok-refuse_unless.ensures ∙ ap (is 1) c.number_at-count.ensures)
    (stopped _ _ _ _ c.from_residual-in_err-refuse_unless-2.ensures (c.in_err-refuse_unless-2.ensures ∙ ap
    (is 2) c.number_at-edition.ensures)))
    ∙ sym (three-tests _ two c.start_of_three-start.result c.start_of_three-start.ensures.0)

pub returns : goal.returns
returns c =
    let two = sym c.second_in.ensures ∙ c.if-not-second_in.false in
    went-on _ _ _ c.in_ok-check_complete.ensures
    (went-on _ _ _ (c.in_ok-refuse_unless.ensures ∙ ap (is 1) c.number_at-count.ensures)
    (went-on _ _ _ (c.in_ok-refuse_unless-2.ensures ∙ ap (is 2) c.number_at-edition.ensures) c.refuse_unless-3.ensures))
    ∙ sym (three-tests _ two c.start_of_three-start.result c.start_of_three-start.ensures.0)

pub number_at-count-requires : goal.number_at-count-requires
number_at-count-requires c = omega (arith, complete-holds _ _ (sym c.in_ok-check_complete.ensures))

pub number_at-edition-requires : goal.number_at-edition-requires
number_at-edition-requires c = omega (arith, complete-holds _ _ (sym c.in_ok-check_complete.ensures))
