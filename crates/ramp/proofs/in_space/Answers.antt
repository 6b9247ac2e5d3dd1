-- `ramp::in_space` meets its contract: the stages of three axes, one above the other.
use mathlib.Core.Path.{refl, ◌∙◌}
use mathlib.Core.Bool.{Bool, true, false}
use mathlib.Core.List.{List, [], ◌∷◌}
use Prim.Native.Nat.{ℕ, ◌*◌, ◌≤◌, ◌<◌}
use native.Mathlib.Omega.{arith}
use borrow.Author.Rules.{rules, sfits_of}
use mir.Facts.{to_z-of_z}
use mir.Syntax.{w64}
use lib.IntN.{ℤ}
use lib.ListN.{length}
use Rattle.arith.specs.Int.{rounding_of}
use Rattle.lattice.specs.Buffer.{at}
use Rattle.lattice.specs.declared.order_count.Orders.{Orders}
use Rattle.evaluate.specs.declared.Axis.{Axis}
use Rattle.evaluate.specs.Stages.{strides_of, after, Made, Workable, AllPrepared, Safe}
use Rattle.evaluate.proofs.EndLaws.{stage-asks, stage-gives, safe-index}
use Rattle.evaluate.proofs.StageOrder.{three-ask, three-give}
use Rattle.ramp.proofs.in_space.Goals as goal

module _ (even : Bool) (m : Orders) (u v w : ℕ) (held : List ℤ) where
  abbrev e : ℕ
  e = m.count * m.count * m.count

  abbrev Asked : Type 0
  Asked = Workable (rounding_of even) m.count 0 (strides_of w (4 * e) (m.count * m.count))
      (strides_of v (2 * e) m.count ∷ strides_of u e 1 ∷ []) (length held) (at held) 0

  -- what the stages ask for
  module _ (asked : Asked) (z y x : Axis) (made-z : Made m.count 0 true false (strides_of w (4 * e) (m.count * m.count)) z)
      (made-y : Made m.count 0 true true (strides_of v (2 * e) m.count) y) (made-x : Made m.count 0 false true (strides_of u e 1) x) where
    asks : (AllPrepared m.count (z ∷ y ∷ x ∷ []) × (z.shift ≤ 44)) × Safe (rounding_of even) m.count (length held) (z ∷ y ∷ x ∷ [])
        (at held) 0
    asks = three-ask (strides_of v (2 * e) m.count) made-x made-z made-y true refl asked

    -- what is safe stands in what is held
    fits : (i : ℕ) → Safe (rounding_of even) m.count (length held) (y ∷ x ∷ []) (at held) i → i < length held
    fits i h = safe-index (rounding_of even) m.count (length held) (y ∷ x ∷ []) (at held) i (omega (arith, m.bounds.0)) h

pub two_ends-both-requires : goal.two_ends-both-requires
two_ends-both-requires c =
    let a = c.args in
    let asked = asks a.even a.m a.u a.v a.w a.held.now c.requires c.axis_of-z.result c.axis_of-y.result c.axis_of-x.result
    c.axis_of-z.ensures c.axis_of-y.ensures c.axis_of-x.ensures in
    record {
      fits = λ o l. let h = asked.1.0 o l in
          let low = fits a.even a.m a.u a.v a.w a.held.now c.requires c.axis_of-z.result c.axis_of-y.result c.axis_of-x.result
          c.axis_of-z.ensures c.axis_of-y.ensures c.axis_of-x.ensures _ h.0 in
          let high = fits a.even a.m a.u a.v a.w a.held.now c.requires c.axis_of-z.result c.axis_of-y.result c.axis_of-x.result
          c.axis_of-z.ensures c.axis_of-y.ensures c.axis_of-x.ensures _ h.1 in
          (search rules, search rules);
      callable = λ o l. let h = asked.1.0 o l in let k = asked.0.0.1 in (search rules, search rules);
    }

pub stage-r-requires : goal.stage-r-requires
unfolding after
stage-r-requires c =
    let a = c.args in
    let asked = asks a.even a.m a.u a.v a.w a.held.now c.requires c.axis_of-z.result c.axis_of-y.result c.axis_of-x.result
    c.axis_of-z.ensures c.axis_of-y.ensures c.axis_of-x.ensures in
    let t = c.two_ends-both.ensures (after (rounding_of a.even) a.m.count (c.axis_of-y.result ∷ c.axis_of-x.result ∷ []) (at a.held.now))
    (λ i. true)
    (λ o l. (λ r e. search rules, λ r e. search rules)) in
    let both = stage-asks asked.0.0.0 t.0 c.axis_of-z.result.shift asked.0.1 asked.1.1 in
    record { k_bound = both.0; low_value = both.1 }

pub returns : goal.returns
unfolding after
returns c =
    let a = c.args in
    let asked = asks a.even a.m a.u a.v a.w a.held.now c.requires c.axis_of-z.result c.axis_of-y.result c.axis_of-x.result
    c.axis_of-z.ensures c.axis_of-y.ensures c.axis_of-x.ensures in
    let t = c.two_ends-both.ensures (after (rounding_of a.even) a.m.count (c.axis_of-y.result ∷ c.axis_of-x.result ∷ []) (at a.held.now))
    (λ i. true)
    (λ o l. (λ r e. search rules, λ r e. search rules)) in
    three-give (strides_of a.v (2 * (a.m.count * a.m.count * a.m.count)) a.m.count) c.axis_of-x.ensures c.axis_of-z.ensures
    c.axis_of-y.ensures true refl
    (to_z-of_z {w = w64} (sfits_of c.struct_told-1.given.0.1) ∙ c.stage-r.ensures.number_value
    ∙ stage-gives asked.0.0.0 t.0 (rounding_of a.even) c.axis_of-z.result.shift)
