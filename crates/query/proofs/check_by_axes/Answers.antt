-- `query::check_by_axes` meets its contract: the number of axes as a literal is the number of axes; any other is refused 1.
use mathlib.Core.Path.{sym, ◌∙◌}
use native.Mathlib.Omega.{arith}
use Rattle.lattice.specs.Shape.{shape_outcome, full_outcome}
use Rattle.lattice.proofs.OutcomeLaws.{refused-first}
use Rattle.lattice.proofs.ShapeLaws.{no-axes}
use Rattle.query.specs.Queries.{asked_outcome, tested_outcome}
use Rattle.query.proofs.check_by_axes.Goals as goal

pub returns : goal.returns
unfolding asked_outcome tested_outcome full_outcome shape_outcome
returns c = λ even rs e. c.refuse_unless.ensures
    ∙ sym (refused-first _ (refused-first _
    (refused-first _ (refused-first _
    (no-axes c.args.s.axes (omega (arith, c.if-n-eq1.false, c.if-n-eq2.false, c.if-n-eq3.false)))))))
