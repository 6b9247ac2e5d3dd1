-- `estimate::node_behind` meets its contract.
use Rattle.estimate.proofs.PassesLaws.{behind-is, behind-none}
use Rattle.estimate.proofs.node_behind.Goals as goal

pub returns-then-i-count : goal.returns-then-i-count
returns-then-i-count c = (behind-is c.args.count c.args.i c.if-i-count.true, c.if-i-count.true)

pub returns-else-i-count : goal.returns-else-i-count
returns-else-i-count c = (behind-none c.args.count c.args.i c.if-i-count.false, c.requires)
