-- `corners::gather` meets its contract: the array is filled from the front.
use Rattle.corners.specs.Back.{Gathers}
use Rattle.corners.proofs.gather.Given as goal

abbrev pub invariant-loop-k : goal.invariant-loop-k
invariant-loop-k l = Gathers l.fn.b.orders.count l.fn.c l.k l.cs l.xs
