-- `pass_with` meets its contract. The invariant: the orders of the numbers so far are written.
use Rattle.lattice.specs.Buffer.{at}
use Rattle.estimate.specs.Estimate.{by_order}
use Rattle.estimate.specs.Passes.{lower, upper}
use Rattle.estimate.proofs.PlacedLaws.{Written}
use Rattle.estimate.proofs.pass_with.Given as goal

abbrev pub invariant-loop-i : goal.invariant-loop-i
invariant-loop-i g l =
    Written g.row.M (λ i o. by_order o (lower l.border (at l.low i) (at l.mid i) (at l.high i)) (at l.mid i)
    (upper l.border (at l.low i) (at l.mid i) (at l.high i))) l.initial.out l.i l.out
