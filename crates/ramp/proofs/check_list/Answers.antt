-- `ramp::check_list` meets its contract: 1, 2, 3 and 26 from the shape, then 20, 4 and 9.
use mathlib.Core.Path.{sym, ap, ◌∙◌}
use mathlib.Core.Bool.{Bool}
use Prim.Native.Nat.{ℕ}
use lib.Dec.{eqb}
use Rattle.lattice.specs.Outcome.{refuse_unless}
use Rattle.lattice.proofs.OutcomeLaws.{stopped, went-on}
use Rattle.lattice.proofs.ShapeLaws.{shaped}
use Rattle.lattice.proofs.StepLaws.{full-shape}
use Rattle.ramp.specs.Ramp.{list_outcome}
use Rattle.ramp.proofs.check_list.Goals as goal

pub returns-in_err-check_full : goal.returns-in_err-check_full
unfolding list_outcome
returns-in_err-check_full c = stopped _ _ _ _ c.from_residual.ensures c.in_err-check_full.ensures

pub table_entries-requires : goal.table_entries-requires
table_entries-requires c = shaped c.args.t.shape (full-shape c.args.t (sym c.in_ok-check_full.ensures))

pub returns-in_err-refuse_unless : goal.returns-in_err-refuse_unless
unfolding list_outcome
returns-in_err-refuse_unless c =
    went-on _ _ _ c.in_ok-check_full.ensures
    (stopped _ _ _ _ c.from_residual-in_err-refuse_unless.ensures
    (c.in_err-refuse_unless.ensures ∙ ap (λ (b : Bool). refuse_unless b 20 0) c.is_list.ensures))

pub returns-in_err-refuse_unless-2 : goal.returns-in_err-refuse_unless-2
unfolding list_outcome
returns-in_err-refuse_unless-2 c =
    went-on _ _ _ c.in_ok-check_full.ensures
    (went-on _ _ _ (c.in_ok-refuse_unless.ensures ∙ ap (λ (b : Bool). refuse_unless b 20 0) c.is_list.ensures)
    (stopped _ _ _ _ c.from_residual-in_err-refuse_unless-2.ensures
    (c.in_err-refuse_unless-2.ensures ∙ ap (λ (n : ℕ). refuse_unless (eqb c.args.given n) 4 0) c.table_entries.ensures)))

pub returns : goal.returns
unfolding list_outcome
returns c =
    went-on _ _ _ c.in_ok-check_full.ensures
    (went-on _ _ _ (c.in_ok-refuse_unless.ensures ∙ ap (λ (b : Bool). refuse_unless b 20 0) c.is_list.ensures)
    (went-on _ _ _ (c.in_ok-refuse_unless-2.ensures ∙ ap (λ (n : ℕ). refuse_unless (eqb c.args.given n) 4 0) c.table_entries.ensures)
    c.refuse_unless-3.ensures))
