-- `hermite::weights` meets its contract: the weights from the products of the distances, by the three orders.
use lib.Dec.{lit<}
use Prim.Native.Nat.{ℕ, ◌<◌, ◌≤◌, ◌^◌, ◌-◌, ◌*◌}
use native.Mathlib.Nat.{le_trans, le_of_eq}
use native.Mathlib.Omega.{arith}
use mathlib.Core.Path.{◌≡◌, sym, ap, ap₂, ◌∙◌}
use lib.IntN.{pos, nat_abs, ◌*ℤ◌}
use mir.Syntax.{w64}
use mir.Val.{to_z}
use mir.Facts.{to_z-of_z}
use Rattle.arith.proofs.Machine.{Size, sized, held as known, s-mul, s-bits, kept, is-nat, fits?, value?}
use Rattle.lattice.specs.Buffer.{at}
use Rattle.hermite.specs.Hermite.{weight}
use Rattle.hermite.proofs.DotLaws.{held}
use Rattle.hermite.proofs.WeightLaws.{product, product-size, value-weight, slope-weights, weights-row, Slopes, slopes-fit}
use Rattle.hermite.proofs.weights.Goals as goal
use Rattle.hermite.proofs.weights.Goals.{After-products, Start}

abbrev begun : After-products → Start
begun c = c.before.before

module _ (c : After-products) where
  -- a product of the distances, as the array has it
  product-held : (k : ℕ) → k < 3
      → held (at c.products.result k) ≡ product (begun c).args.a (begun c).args.b (begun c).args.m.count k
  product-held k l =
      let s = begun c in
      ap held (c.products.ensures k l ∙ ap₂ (λ x y. product x y s.args.m.count k) (to_z-of_z s.ranges.a) (to_z-of_z s.ranges.b))
      ∙ kept (product s.args.a s.args.b s.args.m.count k) (2 ^ 40)
      (product-size s.args.m.count s.args.m.bounds.0 s.args.m.bounds.1 s.args.a s.args.b s.requires.1 s.requires.2 k l) (lit< tt)

  small : (k : ℕ) → k < 3 → nat_abs (held (at c.products.result k)) ≤ 2 ^ 40
  small k l = let s = begun c in
      rw (product-held k l) (product-size s.args.m.count s.args.m.bounds.0 s.args.m.bounds.1 s.args.a s.args.b s.requires.1 s.requires.2
      k l)

  -- the degree
  degree : to_z w64 (2 * (begun c).args.m.count - 1) ≡ pos (2 * (begun c).args.m.count - 1)
  degree = is-nat w64 (2 * (begun c).args.m.count - 1) 5 (omega arith) (lit< tt)

  slopes : Slopes (to_z w64 (2 * (begun c).args.m.count - 1)) (held (at c.products.result 0)) (held (at c.products.result 1))
      (held (at c.products.result 2))
  slopes = slopes-fit (to_z w64 (2 * (begun c).args.m.count - 1)) (held (at c.products.result 0)) (held (at c.products.result 1))
      (held (at c.products.result 2))
      (le_trans (le_of_eq (ap nat_abs degree)) (omega arith)) (small 0 (lit< tt)) (small 1 (lit< tt)) (small 2 (lit< tt))

  -- a weight of a dose
  abbrev times : (k : ℕ) → k < 3 → Size (held (begun c).args.a *ℤ held (at c.products.result k))
  times k l = s-mul _ _ (known w64 (begun c).args.a 256 (begun c).ranges.a (begun c).requires.1) (sized _ (2 ^ 40) (small k l))

pub returns-then-order-eq2 : goal.returns-then-order-eq2
returns-then-order-eq2 c =
    let s = c.before.before in
    let m : s.args.m.count ≡ 3 = omega (arith, c.if-order-eq2.true, s.requires.0, s.args.m.bounds.1) in
    λ k l. c.curvature_weights.ensures k l ∙ ap₂ (λ x y. weight 2 x y 5 k) (to_z-of_z s.ranges.a) (to_z-of_z s.ranges.b)
    ∙ sym (ap₂ (λ (o n : ℕ). weight o s.args.a s.args.b (2 * n - 1) k) c.if-order-eq2.true m)

pub returns-then-order-eq0 : goal.returns-then-order-eq0
returns-then-order-eq0 c =
    let q = c.before.before.before.before in
    let s = begun q in
    let w = value-weight s.args.a s.args.b s.args.m.count in
    weights-row s.args.order 0 c.if-order-eq0.true s.args.a s.args.b (2 * s.args.m.count - 1) _ _ _
    (value? (s-bits w64 _ (times q 0 (lit< tt))) (omega arith) ∙ rw (product-held q 0 (lit< tt)) (w 0 (omega arith)))
    (value? (s-bits w64 _ (times q 1 (lit< tt))) (omega arith) ∙ rw (product-held q 1 (lit< tt)) (w 1 (omega arith)))
    (value? (s-bits w64 _ (times q 2 (lit< tt))) (omega arith) ∙ rw (product-held q 2 (lit< tt)) (w 2 (omega arith)))

pub returns : goal.returns
returns c =
    let q = c.before.before.before.before.before in
    let s = begun q in
    let w = slope-weights s.args.a s.args.b s.args.m.count s.args.m.bounds.0 in
    let x = product-held q 0 (lit< tt) in
    let y = product-held q 1 (lit< tt) in
    let z = product-held q 2 (lit< tt) in
    let order : s.args.order ≡ 1 = omega (arith, c.if-order-eq0.false, q.if-order-eq2.false, s.requires.0, s.args.m.bounds.1) in
    weights-row s.args.order 1 order s.args.a s.args.b (2 * s.args.m.count - 1) _ _ _
    ((slopes q).first ∙ rw (degree q, x) w.first) ((slopes q).second ∙ rw (degree q, x, y) w.second)
    ((slopes q).third ∙ rw (degree q, y, z) w.third)

pub overflow_mul-result : goal.overflow_mul-result
overflow_mul-result c = fits? (times c.before.before.before.before 0 (lit< tt)) (omega arith)

pub overflow_mul-result-then-order-eq0 : goal.overflow_mul-result-then-order-eq0
overflow_mul-result-then-order-eq0 c = fits? (times c.before.before.before.before 1 (lit< tt)) (omega arith)

pub overflow_mul-result-then-order-eq0-2 : goal.overflow_mul-result-then-order-eq0-2
overflow_mul-result-then-order-eq0-2 c = fits? (times c.before.before.before.before 2 (lit< tt)) (omega arith)

pub overflow_mul-result-2 : goal.overflow_mul-result-2
overflow_mul-result-2 c = (slopes c.before.before.before.before.before).dx

pub overflow_sub-result : goal.overflow_sub-result
overflow_sub-result c = (slopes c.before.before.before.before.before).less-dx

pub overflow_sub-result-2 : goal.overflow_sub-result-2
overflow_sub-result-2 c = (slopes c.before.before.before.before.before).e

pub overflow_mul-result-3 : goal.overflow_mul-result-3
overflow_mul-result-3 c = (slopes c.before.before.before.before.before).ey

pub overflow_sub-result-3 : goal.overflow_sub-result-3
overflow_sub-result-3 c = (slopes c.before.before.before.before.before).less-ey

pub overflow_mul-result-4 : goal.overflow_mul-result-4
overflow_mul-result-4 c = (slopes c.before.before.before.before.before).yy

pub overflow_sub-result-4 : goal.overflow_sub-result-4
overflow_sub-result-4 c = (slopes c.before.before.before.before.before).f

pub overflow_mul-result-5 : goal.overflow_mul-result-5
overflow_mul-result-5 c = (slopes c.before.before.before.before.before).fz

pub overflow_sub-result-5 : goal.overflow_sub-result-5
overflow_sub-result-5 c = (slopes c.before.before.before.before.before).less-fz
