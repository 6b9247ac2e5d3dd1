-- `cell::cells_of` meets its contract: three counts.
use lib.Dec.{lit<}
use Rattle.lattice.specs.Shape.{count}
use Rattle.cell.specs.Cells.{cells_along}
use Rattle.cell.proofs.CellsLaws.{counts-between, three-same}
use Rattle.cell.proofs.cells_of.Goals as goal
use Rattle.cell.proofs.cells_of.Goals.{After-cells_on-z, Start}

abbrev begun : After-cells_on-z → Start
begun c = c.before.before.before.before.before.before

pub returns : goal.returns
unfolding cells_along count
returns c =
    three-same _ _ _ (cells_along (begun c).args.s)
    c.cells_on-x.ensures
    c.cells_on-y.ensures
    c.cells_on-z.ensures

pub cells_on-x-requires : goal.cells_on-x-requires
cells_on-x-requires c = (counts-between _ c.requires).least 0 (lit< tt)

pub cells_on-y-requires : goal.cells_on-y-requires
cells_on-y-requires c = (counts-between _ c.requires).least 1 (lit< tt)

pub cells_on-z-requires : goal.cells_on-z-requires
cells_on-z-requires c = (counts-between _ c.requires).least 2 (lit< tt)
