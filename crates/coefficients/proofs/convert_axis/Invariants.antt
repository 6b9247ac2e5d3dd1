-- `coefficients::convert_axis` meets its contract: group after group, each row of the results is filled by one number more.
use mathlib.Core.Path.{◌≡◌}
use Prim.Native.Nat.{◌+◌, ◌*◌}
use lib.ListN.{length}
use Rattle.lattice.specs.Buffer.{at}
use Rattle.hermite.specs.Hermite.{end_rule}
use Rattle.coefficients.proofs.BlockLaws.{Rows}
use Rattle.coefficients.proofs.convert_axis.Given as goal

abbrev pub invariant-loop-g : goal.invariant-loop-g
invariant-loop-g l =
    (length l.zs ≡ 27) × Rows l.m.count l.r (λ k j. end_rule l.back l.m.count (λ t. at l.xs (l.m.count * j + t)) k) l.g l.zs
