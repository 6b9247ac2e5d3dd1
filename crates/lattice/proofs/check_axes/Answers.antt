-- `lattice::check_axes` meets its contract: the test is the definition's.
use borrow.Author.Tests.{le-leb, lt-leb}
use Rattle.lattice.specs.Shape.{axes_outcome}
use mathlib.Core.Path.{◌∙◌}
use Rattle.lattice.proofs.check_axes.Goals as goal
use Rattle.lattice.proofs.check_axes.Goals.{else-n-ge1, then-n-ge1}

pub returns : goal.returns
unfolding axes_outcome
returns c = c.refuse_unless.ensures
    ∙ elim c.if-n-ge1.branch [
      | then-n-ge1 w ↦ simp (w.refuse_unless-is, le-leb _ _ w.if-n-ge1.true)
      | else-n-ge1 w ↦ simp
          (w.refuse_unless-is, lt-leb _ _ w.if-n-ge1.false)
    ]
