-- `lattice::check_table` meets its contract: 2, then 3.
use mathlib.Core.Path.{◌∙◌, ap}
use Prim.Native.Nat.{ℕ}
use Rattle.lattice.specs.Shape.{counts_outcome, count}
use Rattle.lattice.proofs.OutcomeLaws.{stopped, went-on}
use Rattle.lattice.proofs.check_table.Goals as goal

pub returns-in_err-check_degree : goal.returns-in_err-check_degree
returns-in_err-check_degree c = stopped _ _ _ _ c.from_residual.ensures c.in_err-check_degree.ensures

pub returns : goal.returns
unfolding count
returns c = went-on _ _ _ c.in_ok-check_degree.ensures (c.check_counts.ensures ∙ ap (λ (n : ℕ). counts_outcome n
    (count c.args.s)) c.requires)
