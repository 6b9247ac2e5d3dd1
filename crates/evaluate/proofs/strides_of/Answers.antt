-- `evaluate::strides_of` meets its contract: the axis is one of three, each with its own case.
use mathlib.Core.Path.{◌≡◌, sym, ap, ◌∙◌}
use Prim.Native.Nat.{ℕ, ◌*◌, ◌^◌, ◌≤◌}
use native.Mathlib.Nat.{pow-zero, mul-le-mul}
use native.Mathlib.Omega.{arith}
use lib.ListN.{get_or}
use Rattle.lattice.proofs.ShapeLaws.{pow-one, pow-two}
use Rattle.evaluate.specs.Stages.{strides_of}
use Rattle.evaluate.proofs.strides_of.Goals as goal
use Rattle.evaluate.proofs.strides_of.Goals.{Start}

-- the strides of the axis with number i
module _ (s : Start) (i : ℕ) (e : s.args.axis ≡ i) where
  strides : (order_stride : ℕ) → order_stride ≡ s.args.m.count ^ i
      → strides_of (get_or s.args.step i 0) (get_or s.args.l.strides i 0) order_stride ≡ strides_of (get_or s.args.step s.args.axis 0)
      (get_or s.args.l.strides s.args.axis 0) (s.args.m.count ^ s.args.axis)
  strides order_stride k =
      ap (strides_of (get_or s.args.step i 0) (get_or s.args.l.strides i 0)) k
      ∙ ap (λ (j : ℕ). strides_of (get_or s.args.step j 0) (get_or s.args.l.strides j 0) (s.args.m.count ^ j)) (sym e)

pub overflow_mul-result : goal.overflow_mul-result
overflow_mul-result c = let s = c in let m = s.args.m.count in let k : m * m ≤ 3 * 3 = mul-le-mul s.args.m.bounds.1 s.args.m.bounds.1 in
    omega arith

pub returns-then-axis-eq0 : goal.returns-then-axis-eq0
returns-then-axis-eq0 c = let s = c.before.before in strides s 0 c.if-axis-eq0.true 1 (sym (pow-zero s.args.m.count))

pub returns-then-axis-eq1 : goal.returns-then-axis-eq1
returns-then-axis-eq1 c = let s = c.before.before.before in strides s 1 c.if-axis-eq1.true s.args.m.count (sym (pow-one s.args.m.count))

pub returns : goal.returns
returns c =
    let s = c.before.before.before.before in
    let m = s.args.m.count in
    strides s 2 (omega (arith, s.requires, c.if-axis-eq0.false, c.if-axis-eq1.false)) (m * m) (sym (pow-two m))
