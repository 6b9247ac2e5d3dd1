-- `coefficients::signed` meets its contract: row after row, each number by the sign of its orders.
use mathlib.Core.Path.{◌≡◌}
use Prim.Native.Nat.{◌*◌}
use lib.IntN.{◌*ℤ◌}
use Rattle.lattice.specs.Buffer.{at}
use Rattle.coefficients.specs.Blocks.{RowOf, block_sign, scatter}
use Rattle.coefficients.proofs.signed.Given as goal

abbrev pub invariant-loop-g : goal.invariant-loop-g
invariant-loop-g l =
    RowOf l.b.orders.count l.g l.o
    × (l.zs ≡ scatter (l.b.orders.count * l.g) (λ j. j) (λ j. block_sign l.b.orders.count l.c j *ℤ at l.xs j) l.initial.zs)
