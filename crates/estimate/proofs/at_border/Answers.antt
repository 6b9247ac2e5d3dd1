-- `estimate::at_border` meets its contract, at the first node and behind it.
use mathlib.Core.Path.{sym, ◌∙◌}
use borrow.Author.Tests.{eq-eqb}
use Rattle.estimate.proofs.PassesLaws.{first-border, later-border}
use Rattle.estimate.proofs.at_border.Goals as goal

pub returns-then-i-eq0 : goal.returns-then-i-eq0
returns-then-i-eq0 c = eq-eqb c.args.i 0 c.if-i-eq0.true ∙ sym (first-border c.args.count c.args.i c.if-i-eq0.true)

pub returns-else-i-eq0 : goal.returns-else-i-eq0
returns-else-i-eq0 c = later-border c.args.count c.args.i c.if-i-eq0.false
