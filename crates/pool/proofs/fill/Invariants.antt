-- `fill` meets its contract. The invariant: the front of the slice holds the first i pooled samples.
use Rattle.lattice.proofs.BufferLaws.{Filled}
use Rattle.pool.specs.Pool.{pooled_at}
use Rattle.pool.proofs.fill.Given as goal

abbrev pub invariant-loop-i : goal.invariant-loop-i
invariant-loop-i l = Filled (pooled_at l.a.samples.now l.a.weight l.b.samples.now l.b.weight) l.initial.out l.i l.out
