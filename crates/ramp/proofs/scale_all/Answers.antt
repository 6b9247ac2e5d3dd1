-- `ramp::scale_all` meets its contract. The invariant: the first j numbers are scaled.
use Prim.Native.Nat.{◌%◌}
use native.Mathlib.Nat.{not-suc-le-zero}
use native.Mathlib.Omega.{arith}
use lib.ListN.{length-set, get_or}
use Rattle.lattice.specs.Buffer.{at}
use Rattle.lattice.proofs.BufferLaws.{fill}
use Rattle.query.specs.Parts.{scaled_position}
use Rattle.query.proofs.Coarse.{position-held}
use Rattle.ramp.proofs.scale_all.Goals as goal

pub loop-j-init : goal.loop-j-init
loop-j-init c = (c.told-finer, λ i l. absurd (not-suc-le-zero l))

pub loop-j-preserved : goal.loop-j-preserved
loop-j-preserved c =
    let a = c.args in
    let w = c.loop-j in (
      simp length-set w.invariant.0,
      fill w.finer w.j (λ i. scaled_position (get_or a.factors (i % 3) 0) (at a.positions.now i)) _
          (let n = w.invariant.0 in let h = c.requires.0 in omega (arith, c.loop-j-test.true)) w.invariant.1
          (position-held _ _ _ c.p-1.given c.scaled_position.type_inv c.scaled_position.ensures),
    )

pub returns : goal.returns
returns c =
    let w = c.loop-j in
    record { long = w.invariant.0; is = λ i h. w.invariant.1 i (omega (arith, c.loop-j-test.false)) }
