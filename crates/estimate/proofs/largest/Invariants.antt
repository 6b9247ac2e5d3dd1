-- `largest` meets its contract: no number so far is beyond the greatest.
use Prim.Native.Nat.{ℕ, ◌≤◌, ◌<◌}
use lib.IntN.{nat_abs}
use Rattle.lattice.specs.Buffer.{at}
use Rattle.estimate.proofs.largest.Given as goal

abbrev pub invariant-loop-x : goal.invariant-loop-x
invariant-loop-x l = (j : ℕ) → j < l.x-index → nat_abs (at l.xs j) ≤ l.largest
