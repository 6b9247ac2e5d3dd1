-- `cell::index_allowed` meets its contract: the tests of a used and of an unused axis.
use Rattle.cell.proofs.index_allowed.Goals as goal

pub returns : goal.returns
returns c = c.by_use.ensures
