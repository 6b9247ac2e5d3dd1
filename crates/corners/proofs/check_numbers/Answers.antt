-- `corners::check_numbers` meets its contract: 1, 2, 15, 9.
use lib.Dec.{leb, eqb}
use mathlib.Core.Path.{sym, ap, ◌∙◌}
use Prim.Native.Nat.{ℕ}
use Rattle.lattice.specs.Outcome.{refuse_unless}
use Rattle.lattice.proofs.OutcomeLaws.{stopped, went-on}
use Rattle.lattice.proofs.ShapeLaws.{axes-range}
use Rattle.corners.specs.Corners.{numbers_outcome}
use Rattle.corners.proofs.check_numbers.Goals as goal

pub returns-in_err-check_axes : goal.returns-in_err-check_axes
unfolding numbers_outcome
returns-in_err-check_axes c = stopped _ _ _ _ c.from_residual.ensures c.in_err-check_axes.ensures

pub returns-in_err-check_degree : goal.returns-in_err-check_degree
unfolding numbers_outcome
returns-in_err-check_degree c =
    went-on _ _ _ c.in_ok-check_axes.ensures
    (stopped _ _ _ _ c.from_residual-in_err-check_degree.ensures c.in_err-check_degree.ensures)

pub coefficient_count-count-requires : goal.coefficient_count-count-requires
coefficient_count-count-requires c = (axes-range c.args.axes (sym c.in_ok-check_axes.ensures)).1

pub returns-in_err-refuse_unless : goal.returns-in_err-refuse_unless
unfolding numbers_outcome
returns-in_err-refuse_unless c =
    went-on _ _ _ c.in_ok-check_axes.ensures
    (went-on _ _ _ c.in_ok-check_degree.ensures
    (stopped _ _ _ _ c.from_residual-in_err-refuse_unless.ensures
    (c.in_err-refuse_unless.ensures
    ∙ ap (λ (n : ℕ). refuse_unless (eqb c.args.given n) 15 0) c.coefficient_count-count.ensures.0)))

pub returns : goal.returns
unfolding numbers_outcome
returns c =
    went-on _ _ _ c.in_ok-check_axes.ensures
    (went-on _ _ _ c.in_ok-check_degree.ensures
    (went-on _ _ _
    (c.in_ok-refuse_unless.ensures ∙ ap (λ (n : ℕ). refuse_unless (eqb c.args.given n) 15 0) c.coefficient_count-count.ensures.0)
    (c.refuse_unless-2.ensures ∙ ap (λ (n : ℕ). refuse_unless (leb n c.args.room) 9 0) c.coefficient_count-count.ensures.0)))
