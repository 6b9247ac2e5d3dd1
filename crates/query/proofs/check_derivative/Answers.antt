-- `query::check_derivative` meets its contract: 12, then 21.
use mathlib.Core.Path.{ap, ◌∙◌}
use Prim.Native.Nat.{ℕ}
use lib.Dec.{ltb}
use Rattle.lattice.specs.Outcome.{refuse_unless}
use Rattle.lattice.proofs.OutcomeLaws.{stopped, went-on}
use Rattle.query.specs.Queries.{want_outcome}
use Rattle.query.proofs.check_derivative.Goals as goal

pub returns-in_err-refuse_unless : goal.returns-in_err-refuse_unless
unfolding want_outcome
returns-in_err-refuse_unless c = stopped _ _ _ _ c.from_residual.ensures
    (c.in_err-refuse_unless.ensures ∙ ap (λ (n : ℕ). refuse_unless (ltb c.args.d.axis n) 12 0) c.requires)

pub returns : goal.returns
unfolding want_outcome
returns c = went-on _ _ _ (c.in_ok-refuse_unless.ensures ∙ ap (λ (n : ℕ). refuse_unless (ltb c.args.d.axis n) 12 0) c.requires)
    (c.refuse_unless-2.ensures ∙ ap (λ (m : ℕ). refuse_unless (ltb c.args.d.order m) 21 0) c.orders.ensures)
