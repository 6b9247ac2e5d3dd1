-- `query::cell_on` meets its contract: the cell of a used axis, 0 on an unused one.
use mathlib.Core.Path.{sym, ◌∙◌}
use borrow.Author.Tests.{lt-ltb, le-ltb}
use Rattle.arith.proofs.Choices.{pick_true, pick-false}
use Rattle.lattice.specs.Shape.{count}
use Rattle.query.specs.Parts.{cell_on}
use Rattle.query.proofs.cell_on.Goals as goal

pub returns-then-axis-s : goal.returns-then-axis-s
unfolding cell_on count
returns-then-axis-s c = c.cell_of.ensures ∙ sym (pick_true _ _ _ (lt-ltb _ _ c.if-axis-s.true))

pub returns-else-axis-s : goal.returns-else-axis-s
unfolding cell_on
returns-else-axis-s c = sym (pick-false _ _ _ (le-ltb _ _ c.if-axis-s.false))
