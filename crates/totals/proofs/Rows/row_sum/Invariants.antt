-- `totals::Rows::row_sum` meets its contract. The invariant: the sum of the first i records.
use mathlib.Core.Path.{◌≡◌}
use Prim.Native.Nat.{ℕ, ◌^◌, ◌≤◌, ◌<◌}
use lib.IntN.{nat_abs}
use lib.ListN.{length, get_or}
use Rattle.arith.specs.Sum.{sum}
use Rattle.totals.proofs.RowLaws.{record-of}
use Rattle.totals.proofs.Rows.row_sum.Given as goal

abbrev pub invariant-loop-i : goal.invariant-loop-i
invariant-loop-i l =
    (l.sum ≡ sum l.i (record-of l.self.layout.orders (length l.ys) (get_or l.self.cells 0 0) l.ys l.row))
    × ((i : ℕ) → i < l.i → nat_abs (record-of l.self.layout.orders (length l.ys) (get_or l.self.cells 0 0) l.ys l.row i) ≤ 2 ^ 52)
