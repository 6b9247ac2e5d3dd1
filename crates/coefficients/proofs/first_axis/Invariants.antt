-- `coefficients::first_axis` meets its contract: row after row is signed and converted, and each row of the results is filled by one number
-- more.
use mathlib.Core.Path.{◌≡◌}
use mathlib.Core.Bool.{false}
use Prim.Native.Nat.{◌+◌, ◌*◌, ◌^◌}
use lib.IntN.{◌*ℤ◌}
use lib.ListN.{length}
use Rattle.lattice.specs.Buffer.{at}
use Rattle.hermite.specs.Hermite.{end_rule}
use Rattle.coefficients.specs.Blocks.{RowOf, block_sign, AllWithin}
use Rattle.coefficients.proofs.BlockLaws.{Rows}
use Rattle.coefficients.proofs.first_axis.Given as goal

abbrev pub invariant-loop-g : goal.invariant-loop-g
invariant-loop-g l =
    RowOf l.m.count l.g l.o × (length l.zs ≡ 27) × Rows l.m.count l.r
    (λ k j. end_rule false l.m.count
    (λ t. block_sign l.m.count l.c (l.m.count * j + t) *ℤ at l.numbers (l.m.count * j + t)) k) l.g l.zs
    × AllWithin (2 ^ 31) (l.m.count * l.g) (λ k. block_sign l.m.count l.c k *ℤ at l.numbers k)
