-- `query::check_step` meets its contract: the tests of a used and of an unused axis.
use mathlib.Core.Path.{refl, ◌∙◌}
use borrow.Author.Tests.{lt-ltb, le-ltb}
use Rattle.arith.specs.Choice.{pick}
use Rattle.query.proofs.check_step.Goals as goal

pub returns-then-axis-n : goal.returns-then-axis-n
unfolding pick
returns-then-axis-n c = c.refuse_unless.ensures ∙ rw (lt-ltb c.args.axis c.args.n c.if-axis-n.true) refl

pub returns-else-axis-n : goal.returns-else-axis-n
unfolding pick
returns-else-axis-n c = c.refuse_unless-else-axis-n.ensures ∙ rw (le-ltb c.args.axis c.args.n c.if-axis-n.false) refl
