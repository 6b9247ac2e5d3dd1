-- `cell::beyond_in` meets its contract: the bits joined so far are 0 where no entry so far of both records is beyond its limit.
use mathlib.Core.Path.{◌≡◌}
use mathlib.Core.Bool.{◌&&◌}
use Prim.Native.Nat.{◌+◌}
use lib.Dec.{eqb}
use Rattle.lattice.specs.Outcome.{first_of, passed}
use Rattle.cell.proofs.LimitLaws.{test}
use Rattle.cell.proofs.beyond_in.Given as goal

abbrev pub invariant-loop-e : goal.invariant-loop-e
invariant-loop-e l =
    eqb l.over 0 ≡ (passed (first_of l.e (test l.limits l.records l.start)) && passed
    (first_of l.e (test l.limits l.records (l.start + l.n))))
