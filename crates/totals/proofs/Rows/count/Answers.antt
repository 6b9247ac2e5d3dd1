-- `totals::Rows::count` meets its contract: at most 64 nodes along y and along z.
use mathlib.Core.Path.{refl}
use Rattle.totals.specs.Parts.{row_count}
use Rattle.totals.proofs.RowLaws.{rows_few}
use Rattle.totals.proofs.Rows.count.Goals as goal

pub returns : goal.returns
unfolding row_count
returns c = (refl, rows_few c.args.self.now.cells c.args.self.now.walk.cells-few)
