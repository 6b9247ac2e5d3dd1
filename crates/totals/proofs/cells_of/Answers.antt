-- `totals::cells_of` meets its contract: the cells along three axes.
use Rattle.arith.specs.Choice.{pick}
use Rattle.arith.proofs.Choices.{by-3}
use Rattle.cell.specs.Cell.{place_at}
use Rattle.totals.proofs.cells_of.Goals as goal

pub returns : goal.returns
unfolding place_at pick
returns c =
    let y = c in
    let x = y in
    by-3 _ x.cells_on-x.ensures y.cells_on-y.ensures c.cells_on-z.ensures

pub cells_on-x-requires : goal.cells_on-x-requires
unfolding place_at pick
cells_on-x-requires c = c.requires 0

pub cells_on-y-requires : goal.cells_on-y-requires
unfolding place_at pick
cells_on-y-requires c = c.requires 1

pub cells_on-z-requires : goal.cells_on-z-requires
unfolding place_at pick
cells_on-z-requires c = c.requires 2
