-- `evaluate::one_axis_by_kind` meets its contract: the orders that are left are 1.
use mathlib.Core.Path.{sym, ◌∙◌}
use native.Mathlib.Omega.{arith}
use Rattle.evaluate.proofs.StageOrder.{workable-as}
use Rattle.evaluate.proofs.one_axis_by_kind.Goals as goal

pub one_axis-requires-then-m-eq2 : goal.one_axis-requires-then-m-eq2
one_axis-requires-then-m-eq2 c =
    workable-as _ _ _ _ _ _ _ _ _ (c.if-m-eq2.true ∙ sym c.cubic-then-m-eq2.ensures)
    (omega (arith, c.requires.smooth, c.if-m-eq2.true, c.if-order-eq0.false)) _ c.requires

pub one_axis-requires-2 : goal.one_axis-requires-2
one_axis-requires-2 c =
    let m = c.args.m in
    workable-as _ _ _ _ _ _ _ _ _ (omega (arith, m.bounds.0, m.bounds.1, c.if-m-eq2.false, c.quintic-2.ensures))
    (omega (arith, m.bounds.1, c.requires.smooth, c.if-order-eq0-2.false, c.if-order-eq2.false)) _ c.requires
