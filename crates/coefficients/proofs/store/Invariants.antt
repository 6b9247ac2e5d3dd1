-- `coefficients::store` meets its contract: the numbers are scattered to their places.
use mathlib.Core.Path.{◌≡◌}
use Rattle.lattice.specs.Buffer.{at}
use Rattle.coefficients.specs.Blocks.{coefficient_index, scatter}
use Rattle.coefficients.proofs.store.Given as goal

abbrev pub invariant-loop-k : goal.invariant-loop-k
invariant-loop-k l = l.out ≡ scatter l.k (coefficient_index l.fn.b.orders.count l.c) (at l.zs) l.initial.out
