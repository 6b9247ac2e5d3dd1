-- `middle_of` meets its contract: half the finest steps as a place.
use Rattle.report.proofs.DoseLaws.{middle-halves}
use Rattle.report.proofs.middle_of.Goals as goal

pub returns : goal.returns
returns c = middle-halves c.args.axes c.finest_steps.result c.requires c.finest_steps.ensures
