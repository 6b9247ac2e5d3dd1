-- `coefficients::put_group` meets its contract: the numbers are scattered to their rows.
use mathlib.Core.Path.{◌≡◌}
use Prim.Native.Nat.{◌+◌, ◌*◌}
use Rattle.lattice.specs.Buffer.{at}
use Rattle.coefficients.specs.Blocks.{scatter}
use Rattle.coefficients.proofs.put_group.Given as goal

abbrev pub invariant-loop-k : goal.invariant-loop-k
invariant-loop-k l = l.zs ≡ scatter l.k (λ j. l.r * j + l.g) (at l.z) l.initial.zs
