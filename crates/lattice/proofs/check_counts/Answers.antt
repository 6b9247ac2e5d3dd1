-- `lattice::check_counts` meets its contract: the tests of three axes.
use Rattle.lattice.specs.Shape.{counts_outcome, count_allowed}
use Rattle.lattice.proofs.OutcomeLaws.{axis-by-axis}
use Rattle.lattice.proofs.check_counts.Goals as goal
use mathlib.Core.Path.{◌∙◌}
use lib.ListN.{get_or}

pub returns : goal.returns
unfolding counts_outcome
returns c = c.check_on_axes.ensures ∙ axis-by-axis 3 _ (λ a. count_allowed c.args.n (get_or c.args.counts a 0) a)
    c.count_allowed-on_x.ensures c.count_allowed-on_y.ensures c.count_allowed-on_z.ensures
