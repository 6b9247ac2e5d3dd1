-- `lattice::check_degree` meets its contract: the test is the definition's.
use borrow.Author.Tests.{eq-eqb, ne_eqb}
use Rattle.lattice.specs.Shape.{degree_outcome}
use mathlib.Core.Path.{◌∙◌}
use Rattle.lattice.proofs.check_degree.Goals as goal
use Rattle.lattice.proofs.check_degree.Goals.{else-degree-eq3, then-degree-eq3}

pub returns : goal.returns
unfolding degree_outcome
returns c = c.refuse_unless.ensures
    ∙ elim c.if-degree-eq3.branch [
      | then-degree-eq3 w ↦ simp (w.refuse_unless-is, eq-eqb _ _ w.if-degree-eq3.true)
      | else-degree-eq3 w ↦
          simp (w.refuse_unless-is, ne_eqb _ _ w.if-degree-eq3.false)
    ]
