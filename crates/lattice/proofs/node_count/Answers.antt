-- `lattice::node_count` meets its contract: the product of three counts, which fits.
use Rattle.lattice.specs.Shape.{count}
use Rattle.lattice.proofs.ShapeLaws.{plane-high, nodes-high, nodes-is}
use mathlib.Core.Path.{sym}
use native.Mathlib.Omega.{arith}
use Rattle.lattice.proofs.node_count.Goals as goal

pub overflow_mul-result : goal.overflow_mul-result
unfolding count
overflow_mul-result c = omega (arith, plane-high c.args.s c.requires)

pub overflow_mul-result-2 : goal.overflow_mul-result-2
unfolding count
overflow_mul-result-2 c = omega (
  arith,
  nodes-is c.args.s,
  nodes-high c.args.s c.requires,
)

pub returns : goal.returns
unfolding count
returns c = sym (nodes-is c.args.s)
