-- `totals::record_sum` meets its contract. The invariant: the sum of the first g groups.
use mathlib.Core.Path.{◌≡◌}
use Prim.Native.Nat.{ℕ, ◌+◌, ◌*◌, ◌^◌, ◌≤◌, ◌<◌}
use lib.IntN.{nat_abs}
use Rattle.lattice.specs.Buffer.{at}
use Rattle.totals.specs.Parts.{group_sum, record_sum}
use Rattle.totals.proofs.record_sum.Given as goal

abbrev pub invariant-loop-g : goal.invariant-loop-g
invariant-loop-g l =
    (l.sum ≡ record_sum l.m.count l.g (at l.x) (at l.ys) l.records l.p)
    × ((g : ℕ) → g < l.g → nat_abs (group_sum l.m.count (at l.x) l.records (l.p + l.m.count * g)) ≤ 2 ^ 38)
