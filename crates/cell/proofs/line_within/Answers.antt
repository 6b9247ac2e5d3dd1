-- `cell::line_within` meets its contract: the sizes of each degree as literals are those of the cell.
use mathlib.Core.Path.{refl, ◌∙◌}
use lib.Dec.{lit≤}
use Rattle.cell.proofs.LayoutLaws.{Called, called, quintic-orders}
use Rattle.cell.proofs.line_within.Goals as goal
use Rattle.cell.proofs.line_within.Goals.{After-all_within-arg-1, After-all_within-arg-2-1}

cubic : (c : After-all_within-arg-1) → Called c.args.s c.args.cell c.args.l c.args.records.now c.entry_limits.result.limits 2 1
cubic c = called c.args.s c.args.cell c.args.l c.requires.accepted.1 2 1 2 1 c.if-l-eq2.true c.requires.axes_value refl refl
    c.args.records.now c.entry_limits.result.limits c.requires.shaped.0 c.requires.shaped.1 c.requires.accepted.0
    c.cubic.result.count c.cubic.ensures c.entry_limits.ensures (lit≤ tt) (lit≤ tt) (lit≤ tt)

quintic : (c : After-all_within-arg-2-1) → Called c.args.s c.args.cell c.args.l c.args.records.now c.entry_limits-2.result.limits 3 1
quintic c = called c.args.s c.args.cell c.args.l c.requires.accepted.1 3 1 3 1
    (quintic-orders c.args.s c.args.cell c.args.l c.requires.accepted.1 c.if-l-eq2.false) c.requires.axes_value refl refl
    c.args.records.now c.entry_limits-2.result.limits c.requires.shaped.0 c.requires.shaped.1 c.requires.accepted.0
    c.quintic.result.count c.quintic.ensures c.entry_limits-2.ensures (lit≤ tt) (lit≤ tt) (lit≤ tt)

pub all_within-requires : goal.all_within-requires
all_within-requires c = (cubic c).asked

pub returns-then-l-eq2 : goal.returns-then-l-eq2
returns-then-l-eq2 c = c.all_within.ensures ∙ (cubic c.before).same

pub all_within-requires-2 : goal.all_within-requires-2
all_within-requires-2 c = (quintic c).asked

pub returns : goal.returns
returns c = c.all_within-2.ensures ∙ (quintic c.before).same
