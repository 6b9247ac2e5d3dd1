-- `table_with` meets its contract: the three fields.
use mathlib.Core.Path.{refl}
use Rattle.report.proofs.table_with.Goals as goal

pub returns : goal.returns
returns c = rw (c.finest_steps.ensures, c.shape.ensures) refl
