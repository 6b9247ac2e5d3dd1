-- `fill_sheet` meets its contract. The loop's invariant: the records of the rows before row y are written.
use Prim.Native.Nat.{◌*◌}
use mathlib.Core.Path.{◌≡◌}
use lib.ListN.{length}
use Rattle.estimate.specs.Passes.{row_yz, row_size, row_on}
use Rattle.estimate.proofs.PlacedLaws.{Written}
use Rattle.estimate.proofs.fill_sheet.Given as goal

abbrev pub invariant-loop-y : goal.invariant-loop-y
invariant-loop-y l = Written (row_size l.g) (λ v. row_on l.g (row_yz l.g l.xs v 0)) l.initial.out l.y l.out × (l.g.y.orders *
    (l.g.z.orders * l.g.x.count) ≡ length l.row)
