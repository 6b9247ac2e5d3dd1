-- `coefficients::put_group` meets its contract: the numbers are scattered to their rows.
use mathlib.Core.Path.{refl}
use Prim.Native.Nat.{◌+◌, ◌*◌}
use Rattle.arith.proofs.Machine.{read}
use Rattle.lattice.specs.Buffer.{at}
use Rattle.coefficients.specs.Blocks.{scatter}
use Rattle.coefficients.proofs.SpotLaws.{scatter-more}
use Rattle.coefficients.proofs.put_group.Goals as goal

pub loop-k-init : goal.loop-k-init
unfolding scatter
loop-k-init c = refl

pub loop-k-preserved : goal.loop-k-preserved
loop-k-preserved c =
    let a = c.args in
    let w = c.loop-k in
    scatter-more (λ j. a.r * j + a.g) (at a.z) a.zs.now w.zs w.k _ _ w.invariant refl (read (at a.z w.k) c.zs-1.given)
