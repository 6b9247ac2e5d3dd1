-- `totals::check_table` meets its contract: 1, 2, 3, 26, and then 4.
use mathlib.Core.Path.{sym, ap, ◌∙◌}
use Prim.Native.Nat.{ℕ}
use lib.Dec.{eqb}
use Rattle.lattice.specs.Outcome.{refuse_unless}
use Rattle.lattice.proofs.OutcomeLaws.{stopped, went-on}
use Rattle.lattice.proofs.ShapeLaws.{shaped}
use Rattle.lattice.proofs.StepLaws.{full-shape}
use Rattle.totals.specs.Totals.{table_outcome}
use Rattle.totals.proofs.check_table.Goals as goal

pub returns-in_err-check_full : goal.returns-in_err-check_full
unfolding table_outcome
returns-in_err-check_full c = stopped _ _ _ _ c.from_residual.ensures c.in_err-check_full.ensures

pub table_entries-requires : goal.table_entries-requires
table_entries-requires c = shaped c.args.t.shape (full-shape c.args.t (sym c.in_ok-check_full.ensures))

pub returns : goal.returns
unfolding table_outcome
returns c = went-on _ _ _ c.in_ok-check_full.ensures
    (c.refuse_unless.ensures ∙ ap (λ (n : ℕ). refuse_unless (eqb c.args.given n) 4 0) c.table_entries.ensures)
