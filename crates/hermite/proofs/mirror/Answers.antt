-- `hermite::mirror` meets its contract, by odd and even orders.
use lib.Dec.{T, ltb, lit<}
use Rattle.arith.proofs.Machine.{Size, sizes, fits?, value?}
use Rattle.lattice.specs.Buffer.{at}
use Rattle.hermite.proofs.DotLaws.{element}
use Rattle.hermite.proofs.BasisLaws.{mirror-even, mirror-odd}
use Prim.Native.Nat.{ℕ, ◌^◌}
use native.Mathlib.Omega.{arith}
use mir.Syntax.{w64}
use mir.Val.{to_z, of_z}
use Rattle.hermite.proofs.mirror.Goals as goal
use Rattle.hermite.proofs.mirror.Goals.{Start}

abbrev k-x : (c : Start) (i : ℕ) → T (ltb i 3) → Size (to_z w64 (of_z w64 (at c.args.x i)))
k-x c i t = element c.args.x i (2 ^ 62) (c.requires.1 i (lit< t)) (lit< tt)

ruleset known = (k-x, sizes)

pub returns-then-order-eq1 : goal.returns-then-order-eq1
returns-then-order-eq1 c =
    let s = c.before.before.before.before in
    mirror-odd s.args.x _ _ _ s.args.order (omega (arith, c.if-order-eq1.true, s.requires.0))
    (value? (search known depth 40) (omega arith))
    (value? (search known depth 40) tt) (value? (search known depth 40) (omega arith))

pub returns : goal.returns
returns c =
    let s = c.before.before.before.before in
    mirror-even s.args.x _ _ _ s.args.order s.requires.0 c.if-order-eq1.false (value? (search known depth 40) tt)
    (value? (search known depth 40) (omega arith)) (value? (search known depth 40) tt)

pub overflow_sub-result : goal.overflow_sub-result
overflow_sub-result c = fits? (search known depth 40) (omega arith)

pub overflow_sub-result-then-order-eq1 : goal.overflow_sub-result-then-order-eq1
overflow_sub-result-then-order-eq1 c = fits? (search known depth 40) (omega arith)

pub overflow_sub-result-2 : goal.overflow_sub-result-2
overflow_sub-result-2 c = fits? (search known depth 40) (omega arith)
