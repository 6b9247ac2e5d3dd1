-- `query::check_steps` meets its contract: the tests of three axes, of which the first refusal stands.
use mathlib.Core.Path.{◌≡◌, ap, ◌∙◌}
use Prim.Native.Nat.{ℕ}
use lib.Dec.{leb, ltb, eqb}
use lib.IntN.{pos}
use lib.ListN.{get_or}
use Rattle.arith.specs.Choice.{pick}
use Rattle.lattice.specs.declared.Shape.{Shape}
use Rattle.lattice.specs.Outcome.{refuse_unless}
use Rattle.lattice.specs.Shape.{finest_on}
use Rattle.lattice.proofs.OutcomeLaws.{stopped, went-on}
use Rattle.hermite.specs.Hermite.{steps}
use Rattle.query.specs.Queries.{position_test}
use Rattle.query.proofs.QueryLaws.{step-test, steps-scanned}
use Rattle.query.proofs.check_steps.Goals as goal

-- one axis, as the code has it
on-axis : (s : Shape) (n u a : ℕ) → n ≡ s.axes
    → refuse_unless (pick (ltb a n) (leb u steps) (eqb u 0)) (pick (ltb a n) 11 23) a ≡ position_test s (finest_on s.axes a) (pos u) a
on-axis s n u a e =
    ap (λ (n : ℕ). refuse_unless (pick (ltb a n) (leb u steps) (eqb u 0)) (pick (ltb a n) 11 23) a) e ∙ step-test s u a

pub returns-in_err-check_step : goal.returns-in_err-check_step
returns-in_err-check_step c even =
    let a = c.args in
    stopped _ _ _ _ c.from_residual.ensures (c.in_err-check_step.ensures ∙ on-axis a.s a.n (get_or a.step 0 0) 0 c.requires)
    ∙ steps-scanned a.s even a.step

pub returns-in_err-check_step-2 : goal.returns-in_err-check_step-2
returns-in_err-check_step-2 c even =
    let a = c.args in
    went-on _ _ _ (c.in_ok-check_step.ensures ∙ on-axis a.s a.n (get_or a.step 0 0) 0 c.requires)
    (stopped _ _ _ _ c.from_residual-in_err-check_step-2.ensures
    (c.in_err-check_step-2.ensures ∙ on-axis a.s a.n (get_or a.step 1 0) 1 c.requires))
    ∙ steps-scanned a.s even a.step

pub returns : goal.returns
returns c even =
    let a = c.args in
    went-on _ _ _ (c.in_ok-check_step.ensures ∙ on-axis a.s a.n (get_or a.step 0 0) 0 c.requires)
    (went-on _ _ _ (c.in_ok-check_step-2.ensures ∙ on-axis a.s a.n (get_or a.step 1 0) 1 c.requires)
    (c.check_step-3.ensures ∙ on-axis a.s a.n (get_or a.step 2 0) 2 c.requires))
    ∙ steps-scanned a.s even a.step
