-- `corners::store` meets its contract: number after number passes its test and is written; the first that does not ends the loop.
use mathlib.Core.Path.{◌≡◌}
use Prim.Native.Nat.{◌+◌, ◌^◌}
use Rattle.arith.specs.Int.{floor_div}
use Rattle.lattice.specs.Outcome.{done, first_of}
use Rattle.lattice.specs.Buffer.{at}
use Rattle.coefficients.specs.Blocks.{scatter}
use Rattle.corners.specs.Back.{block_test}
use Rattle.corners.proofs.store.Given as goal

abbrev pub invariant-loop-k : goal.invariant-loop-k
invariant-loop-k l = (first_of l.k (block_test l.b.axes l.limits.limits (at l.zs)) ≡ done tt)
    × (l.out ≡ scatter l.k (λ j. l.first + j) (λ j. floor_div (at l.zs j) (2 ^ l.b.axes)) l.initial.out)
