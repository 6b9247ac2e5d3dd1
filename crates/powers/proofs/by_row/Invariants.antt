-- `powers::by_row` meets its contract. The invariant: the sum of the first products.
use mathlib.Core.Path.{◌≡◌}
use lib.IntN.{◌*ℤ◌}
use lib.ListN.{length}
use Rattle.arith.specs.Sum.{sum}
use Rattle.lattice.specs.Buffer.{at}
use Rattle.powers.proofs.by_row.Given as goal

abbrev pub invariant-loop-a : goal.invariant-loop-a
invariant-loop-a l = l.sum ≡ sum (length l.yielded) (λ K. at l.row K *ℤ at l.xs K)
