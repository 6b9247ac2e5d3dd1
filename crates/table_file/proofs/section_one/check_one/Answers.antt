-- `check_one` meets its contract: 6, then 1, then the node counts.
use mathlib.Core.Path.{sym, ap, ◌∙◌}
use Prim.Native.Nat.{ℕ}
use native.Mathlib.Omega.{arith}
use Rattle.lattice.specs.Outcome.{first_of}
use Rattle.lattice.specs.Shape.{axes_outcome}
use Rattle.lattice.proofs.OutcomeLaws.{stopped, went-on}
use Rattle.lattice.proofs.ShapeLaws.{axes-range}
use Rattle.table_file.specs.File.{count_outcome, one_outcome}
use Rattle.table_file.proofs.ReadLaws.{complete-holds}
use Rattle.table_file.proofs.section_one.check_one.Goals as goal

pub returns-in_err-check_complete : goal.returns-in_err-check_complete
unfolding one_outcome
returns-in_err-check_complete c = stopped _ _ _ _ c.from_residual.ensures c.in_err-check_complete.ensures

pub returns-in_err-check_axes : goal.returns-in_err-check_axes
unfolding one_outcome
returns-in_err-check_axes c = went-on _ _ _ c.in_ok-check_complete.ensures
    (stopped _ _ _ _ c.from_residual-in_err-check_axes.ensures (c.in_err-check_axes.ensures ∙ ap axes_outcome c.number_at-axes.ensures))

pub returns : goal.returns
unfolding one_outcome
returns c = went-on _ _ _ c.in_ok-check_complete.ensures
    (went-on _ _ _ (c.in_ok-check_axes.ensures ∙ ap axes_outcome c.number_at-axes.ensures)
    (c.check_counts.ensures ∙ ap (λ (n : ℕ). first_of n (count_outcome c.args.bytes.now)) c.number_at-axes.ensures))

pub invariant_of-check_counts : goal.invariant_of-check_counts
invariant_of-check_counts c = record {
  known = (c.number_at-axes.ensures, (axes-range _ (sym c.in_ok-check_axes.ensures)).1);
}

pub number_at-axes-requires : goal.number_at-axes-requires
number_at-axes-requires c = omega (arith, complete-holds _ _ (sym c.in_ok-check_complete.ensures))
