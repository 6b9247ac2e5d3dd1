-- `query::factor_on` meets its contract: the factor of a used and of an unused axis.
use mathlib.Core.Path.{refl, sym, ◌∙◌}
use lib.Dec.{ltb, lit≤}
use borrow.Author.Tests.{eq-eqb, ne_eqb, lt-ltb, le-ltb}
use Rattle.arith.proofs.Choices.{clash, pick_true, pick-false}
use Rattle.lattice.proofs.StepLaws.{steps-used-is, steps-unused-is}
use Rattle.query.specs.Parts.{factor_for}
use Rattle.query.proofs.factor_on.Goals as goal

pub returns-then-axis-n : goal.returns-then-axis-n
unfolding factor_for
returns-then-axis-n c =
    let u = c in
    let a = u.args in
    let is = steps-used-is a.n a.steps a.axis u.if-axis-n.true in
    let f = c.factor_of.ensures in (
      λ h. f.0 (sym is ∙ h) ∙ sym (pick_true (ltb a.axis a.n) _ 1 (lt-ltb a.axis a.n u.if-axis-n.true)),
      λ h. f.1 (sym is ∙ h),
      f.2,
    )

pub returns-then-steps-eq1 : goal.returns-then-steps-eq1
unfolding factor_for
returns-then-steps-eq1 c =
    let a = c.args in
    let l = c.if-axis-n.false in
    let is = steps-unused-is a.n a.steps a.axis l ∙ eq-eqb a.steps 1 c.if-steps-eq1.true in (
      λ h. sym (pick-false (ltb a.axis a.n) _ 1 (le-ltb a.axis a.n l)),
      λ h. clash (cc),
      lit≤ tt,
    )

pub returns-else-steps-eq1 : goal.returns-else-steps-eq1
returns-else-steps-eq1 c =
    let a = c.args in
    let is = steps-unused-is a.n a.steps a.axis c.if-axis-n.false ∙ ne_eqb a.steps 1 c.if-steps-eq1.false in (
      λ h. clash (cc),
      λ h. refl,
      lit≤ tt,
    )
