-- `lattice::count_allowed` meets its contract: the tests of a used and of an unused axis.
use borrow.Author.Tests.{le-leb, lt-leb}
use Rattle.lattice.specs.Shape.{count_allowed}
use mathlib.Core.Path.{◌∙◌}
use Rattle.lattice.proofs.count_allowed.Goals as goal
use Rattle.lattice.proofs.count_allowed.Goals.{else-count-ge2, then-count-ge2}

pub returns : goal.returns
unfolding count_allowed
returns c = c.by_use.ensures
    ∙ elim c.if-count-ge2.branch [
      | then-count-ge2 w ↦ simp (w.by_use-is, le-leb _ _ w.if-count-ge2.true)
      | else-count-ge2 w ↦ simp
          (w.by_use-is, lt-leb _ _ w.if-count-ge2.false)
    ]
