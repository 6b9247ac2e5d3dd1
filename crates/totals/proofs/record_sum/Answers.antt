-- `totals::record_sum` meets its contract. The invariant: the sum of the first g groups.
use mathlib.Core.Path.{◌≡◌, refl, sym, ap, ◌∙◌}
use Prim.Native.Nat.{ℕ, ◌+◌, ◌*◌, ◌^◌, ◌≤◌, ◌<◌}
use native.Mathlib.Nat.{le_trans, not-suc-le-zero}
use native.Mathlib.Omega.{arith}
use lib.Dec.{lit<, lit≤}
use lib.IntN.{ℤ, nat_abs}
use lib.ListN.{length}
use mir.Syntax.{w64}
use mir.Val.{to_z}
use Rattle.arith.specs.Sum.{sum, total}
use Rattle.arith.proofs.Sums.{total-part}
use Rattle.lattice.specs.Buffer.{at}
use Rattle.lattice.proofs.DigitsLaws.{group-room}
use Rattle.totals.specs.Parts.{group_sum, record_sum}
use Rattle.totals.proofs.SumLaws.{product-asks, product-more, more-within, weighted-low}
use Rattle.totals.proofs.record_sum.Goals as goal
use Rattle.totals.proofs.record_sum.Goals.{After-group_sum}

pub loop-g-init : goal.loop-g-init
unfolding record_sum sum
loop-g-init c = (refl, λ g h. absurd (not-suc-le-zero h))

pub overflow_mul-m : goal.overflow_mul-m
overflow_mul-m c =
    let k = group-room c.args.m.count c.loop-g.g (length c.args.ys.now) c.loop-g-test.true in
    let h = c.requires.long in
    omega arith

pub overflow_add-p : goal.overflow_add-p
overflow_add-p c =
    let k = group-room c.args.m.count c.loop-g.g (length c.args.ys.now) c.loop-g-test.true in
    let h = c.requires.long in
    omega arith

pub group_sum-requires : goal.group_sum-requires
group_sum-requires c =
    let k = group-room c.args.m.count c.loop-g.g (length c.args.ys.now) c.loop-g-test.true in
    let h = c.requires.long in
    (omega arith, c.requires.light.0)

-- the groups up to the one at hand
module _ (c : After-group_sum) where
  abbrev k : ℕ
  k = c.loop-g.g

  abbrev group : ℕ → ℤ
  group g = group_sum c.args.m.count (at c.args.x) c.args.records.now (c.args.p + c.args.m.count * g)

  light : total (k + 1) (λ g. nat_abs (at c.args.ys.now g)) ≤ 2 ^ 14
  light = le_trans (total-part (k + 1) (length c.args.ys.now) (λ g. nat_abs (at c.args.ys.now g))
      (let h : k < length c.args.ys.now = c.loop-g-test.true in omega arith)) c.requires.light.1

  low : (g : ℕ) → g < k + 1 → nat_abs (group g) ≤ 2 ^ 38
  low = more-within group (2 ^ 38) k c.loop-g.invariant.1 (rw (sym c.group_sum.ensures.value) c.group_sum.ensures.low)

pub added-sum-requires : goal.added-sum-requires
unfolding record_sum
added-sum-requires c =
    product-asks (k c + 1) (at c.args.ys.now) (group c) (2 ^ 14) (2 ^ 38) (light c) (low c) (lit≤ tt) (lit< tt) (lit< tt)
    (k c) (omega arith) (to_z w64 c.loop-g.sum-bits) c.group_sum.result c.loop-g.invariant.0 c.group_sum.ensures.value

pub loop-g-preserved : goal.loop-g-preserved
unfolding record_sum
loop-g-preserved c =
    let s = c.before in (
      product-more (k s + 1) (at c.args.ys.now) (group s) (2 ^ 14) (2 ^ 38) (light s) (low s) (lit≤ tt) (lit< tt) (lit< tt)
          (k s) (omega arith) (to_z w64 c.loop-g.sum-bits) c.group_sum.result c.loop-g.invariant.0 c.group_sum.ensures.value
          c.added-sum.result c.added-sum.ensures,
      low s,
    )

pub returns : goal.returns
unfolding record_sum
returns c =
    let a = c.args in
    let w = c.loop-g.invariant in
    let n = length a.ys.now in
    let e : c.loop-g.g ≡ n = omega arith in
    let v = w.0 ∙ ap (λ (k : ℕ). record_sum a.m.count k (at a.x) (at a.ys.now) a.records.now a.p) e in
    record {
      value = v;
      low = rw v (weighted-low n (at a.ys.now) (λ g. group_sum a.m.count (at a.x) a.records.now (a.p + a.m.count * g))
          (2 ^ 14) (2 ^ 38) c.requires.light.1 (rw e at w.1));
    }
