-- `totals::Rows::sum` meets its contract. The invariant: the sum of the first r rows.
use mathlib.Core.Path.{◌≡◌}
use Prim.Native.Nat.{◌/◌}
use lib.ListN.{get_or}
use Rattle.arith.specs.Sum.{sum}
use Rattle.totals.specs.Parts.{row_start, across, row_sum}
use Rattle.totals.proofs.Rows.sum.Given as goal

abbrev pub invariant-loop-r : goal.invariant-loop-r
invariant-loop-r q =
    q.sum ≡ sum q.r (λ r. row_sum q.self.layout.orders (q.self.layout.entries / q.self.layout.orders) (get_or q.self.cells 0 0)
    (across q.self.layout.orders q.self.cells r) q.self.records.now (row_start q.self.layout q.self.cells r))
