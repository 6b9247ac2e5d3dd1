-- `coefficients::convert_axis` meets its contract: group after group, each row of the results is filled by one number more.
use mathlib.Core.Path.{◌≡◌, ap, ◌∙◌}
use Prim.Native.Nat.{◌+◌, ◌*◌}
use native.Mathlib.Omega.{arith}
use lib.ListN.{length}
use Rattle.lattice.specs.Buffer.{at}
use Rattle.lattice.specs.Flat.{pass}
use Rattle.hermite.specs.Hermite.{end_rule}
use Rattle.hermite.proofs.EndLaws.{end-depends}
use Rattle.coefficients.proofs.BlockLaws.{rows_more, rows_all}
use Rattle.coefficients.proofs.SpotLaws.{scatter-length}
use Rattle.coefficients.proofs.convert_axis.Goals as goal

pub loop-g-preserved : goal.loop-g-preserved
loop-g-preserved c =
    let a = c.args in
    let m = a.m.count in
    let w = c.loop-g in
    let long = w.invariant.0 in
    let room = c.requires.0 in (
      ap length c.put_group.ensures ∙ scatter-length _ _ _ _ ∙ w.invariant.0,
      rw c.put_group.ensures
          (rows_more m a.r (λ k j. end_rule a.back m (λ t. at a.xs.now (m * j + t)) k) w.g c.loop-g-test.true
          (at c.convert_end-z.result)
          (λ k l. c.convert_end-z.ensures k (let m3 = a.m.bounds.1 in omega arith)
          ∙ end-depends a.back m a.m.bounds.0 a.m.bounds.1 (at c.group_at.result) (λ t. at a.xs.now (m * w.g + t)) k l
          c.group_at.ensures.0)
          w.zs (omega arith) w.invariant.1),
    )

pub returns : goal.returns
unfolding pass
returns c =
    let a = c.args in
    let m = a.m.count in
    let w = c.loop-g in
    let e : w.g ≡ a.r = omega arith in
    record {
      long = w.invariant.0;
      is =
          rows_all m a.r (λ k j. end_rule a.back m (λ t. at a.xs.now (m * j + t)) k) w.zs
          (λ k j l q. w.invariant.1 k j l (omega arith));
    }
