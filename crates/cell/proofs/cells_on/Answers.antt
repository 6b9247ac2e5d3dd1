-- `cell::cells_on` meets its contract: one test.
use mathlib.Core.Path.{sym}
use borrow.Author.Tests.{lt-ltb, le-ltb}
use Rattle.arith.proofs.Choices.{pick_true, pick-false}
use Rattle.cell.proofs.cells_on.Goals as goal

pub returns-then-axis-n : goal.returns-then-axis-n
returns-then-axis-n c = sym (pick_true _ _ _ (lt-ltb _ _ c.if-axis-n.true))

pub returns-else-axis-n : goal.returns-else-axis-n
returns-else-axis-n c = sym (pick-false _ _ _ (le-ltb _ _ c.if-axis-n.false))
