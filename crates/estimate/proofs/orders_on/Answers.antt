-- `estimate::orders_on` meets its contract, on a used axis and on an unused one.
use mathlib.Core.Path.{sym, ◌∙◌}
use native.Mathlib.Omega.{arith}
use Rattle.estimate.proofs.EntryLaws.{orders-used, orders-unused}
use Rattle.estimate.proofs.orders_on.Goals as goal

pub returns-then-axis-s : goal.returns-then-axis-s
returns-then-axis-s c = let a = c.args in c.orders.ensures ∙ sym (orders-used a.s a.axis (omega arith))

pub returns-else-axis-s : goal.returns-else-axis-s
returns-else-axis-s c = let a = c.args in sym (orders-unused a.s a.axis (omega arith))
