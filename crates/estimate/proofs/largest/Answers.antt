-- `largest` meets its contract: no number so far is beyond the greatest.
use mathlib.Core.Path.{ap}
use native.Mathlib.Nat.{le_trans}
use native.Mathlib.Omega.{arith}
use Prim.Native.Nat.{ℕ, ◌≤◌}
use lib.IntN.{nat_abs}
use borrow.Author.Count.{below_more}
use Rattle.std.specs.Ordering.{ord_max, nat_cmp}
use Rattle.arith.proofs.Machine.{element}
use Rattle.lattice.specs.Buffer.{at}
use Rattle.estimate.proofs.largest.Goals as goal

left : (a b : ℕ) → a ≤ ord_max nat_cmp a b
left a b = grind arith

right : (a b : ℕ) → b ≤ ord_max nat_cmp a b
right a b = grind arith

pub loop-x-preserved : goal.loop-x-preserved
loop-x-preserved c =
    below_more _ c.loop-x.x-index
    (λ j l. le_trans (c.loop-x.invariant j l) (rw c.max-largest.ensures (left _ _)))
    (rw c.max-largest.ensures (omega (
      arith,
      right c.loop-x.largest c.unsigned_abs.result,
      c.unsigned_abs.ensures.value,
      ap nat_abs
          (element (at c.args.xs.now c.loop-x.x-index) c.x-1.given),
    )))
