-- `evaluate::two_ends` meets its contract: the numbers of both ends, one after the other.
use mathlib.Core.Path.{◌≡◌, refl, sym, ap, ap₂, subst, ◌∙◌}
use mathlib.Core.Bool.{◌&&◌}
use mathlib.Core.List.{List}
use Prim.Native.Nat.{ℕ, suc, ◌+◌, ◌*◌, ◌^◌, ◌<◌}
use native.Mathlib.Nat.{not-suc-le-zero}
use native.Mathlib.Omega.{arith}
use lib.ListN.{length-set}
use lib.IntN.{ℤ}
use mir.Syntax.{w64}
use mir.Val.{to_z, of_z}
use Rattle.arith.specs.Choice.{all}
use Rattle.arith.proofs.Machine.{read}
use Rattle.arith.proofs.Bits.{or-none}
use Rattle.lattice.specs.Buffer.{at}
use Rattle.lattice.proofs.BufferLaws.{fill}
use Rattle.evaluate.specs.Stages.{place_of, Tells}
use Rattle.evaluate.proofs.EndLaws.{place-low, place-high, at_place, end-of-two, end-of-three}
use Rattle.evaluate.proofs.two_ends.Goals as goal

-- numbers that stand in n by their place
module _ (m p order node : ℕ) (n : List ℤ) (f : ℕ → ℤ) (is : (j : ℕ) → j < 2 * m → at n j ≡ f (p + place_of m order node j)) where
  -- number o of the low end, and number o of the high one, which stands at j
  low : (o i : ℕ) → o < m → p + o * order ≡ i → at n o ≡ f i
  low o i l e = is o (omega arith) ∙ ap f (ap (λ (i : ℕ). p + i) (place-low m order node o l) ∙ e)

  high : (o j i : ℕ) → o < m → m + o ≡ j → p + node + o * order ≡ i → at n j ≡ f i
  high o j i l k e =
      ap (at n) (sym k) ∙ is (m + o) (omega arith)
      ∙ ap f (ap (λ (i : ℕ). p + i) (place-high m order node o) ∙ assoc p node (o * order) ∙ e)
    where
      assoc : (p f k : ℕ) → p + (f + k) ≡ p + f + k
      assoc p f k = omega arith

pub loop-t-init : goal.loop-t-init
unfolding all
loop-t-init g c = (refl, λ f d h. (λ j l. absurd (not-suc-le-zero l), refl))

pub loop-t-preserved : goal.loop-t-preserved
unfolding all
loop-t-preserved g c =
    let a = c.args in
    let i = c.loop-t in
    let r = c.number-r in (
      simp length-set i.invariant.0,
      λ f d h.
          let told = at_place a.m.count a.order a.node (Tells (λ i r. g.F.Fn.post a.number (i, tt) r) f d) a.p h i.t c.loop-t-test.true
          r.result
          (subst (λ (k : ℕ). g.F.Fn.post a.number (a.p + k, tt) r.result) c.place_at.ensures r.ensures) in (
            fill i.n i.t (λ j. f (a.p + place_of a.m.count a.order a.node j)) (to_z w64 (of_z w64 r.result.number))
                (let e = i.invariant.0 in let few = c.loop-t-test.true in omega (arith, a.m.bounds.1)) (i.invariant.1 f d h).0
                (read r.result.number c.struct_told-1.given.0.1 ∙ told.0),
            or-none r.result.rest i.rest ∙ ap₂ ◌&&◌ told.1 (i.invariant.1 f d h).1
                ∙ ap (λ (n : ℕ). all n (λ j. d (a.p + place_of a.m.count a.order a.node j))) {x = suc i.t} {y = i.t + 1} (omega arith),
          ),
    )

pub place_at-requires : goal.place_at-requires
place_at-requires g c =
    let a = c.args in
    let here = at_place a.m.count a.order a.node (λ i. i < 2 ^ 64) a.p c.requires.fits c.loop-t.t c.loop-t-test.true in
    (c.loop-t-test.true, omega (arith, here))

pub overflow_add-p : goal.overflow_add-p
overflow_add-p g c =
    let a = c.args in
    let here = at_place a.m.count a.order a.node (λ i. i < 2 ^ 64) a.p c.requires.fits c.loop-t.t c.loop-t-test.true in
    omega (arith, here, c.place_at.ensures)

pub number-r-requires : goal.number-r-requires
number-r-requires g c =
    let a = c.args in
    subst (λ (k : ℕ). g.F.Fn.pre a.number (a.p + k, tt)) (sym c.place_at.ensures)
    (at_place a.m.count a.order a.node (λ i. g.F.Fn.pre a.number (i, tt)) a.p c.requires.callable c.loop-t.t c.loop-t-test.true)

pub returns-then-m-eq2 : goal.returns-then-m-eq2
returns-then-m-eq2 g c f d h =
    let a = c.args in
    let k = c.loop-t.invariant.1 f d h in
    let two = c.if-m-eq2.true in
    let is : (j : ℕ) → j < 2 * a.m.count → at c.loop-t.n j ≡ f (a.p + place_of a.m.count a.order a.node j) =
    λ j l. k.0 j (omega (arith, l, c.loop-t-test.false)) in
    let lo = low a.m.count a.p a.order a.node c.loop-t.n f is in
    let hi = high a.m.count a.p a.order a.node c.loop-t.n f is in (
      record {
        low = end-of-two a.m.count f a.p a.order _ _ (read _ c.result-1.given ∙ lo 0 a.p (omega arith) (omega arith))
            (read _ c.result-then-m-eq2-1.given ∙ lo 1 (a.p + a.order) (omega arith) (omega arith)) two;
        high = end-of-two a.m.count f (a.p + a.node) a.order _ _
            (read _ c.result-then-m-eq2-2-1.given ∙ hi 0 2 (a.p + a.node) (omega arith) (omega arith) (omega arith))
            (read _ c.result-then-m-eq2-3-1.given ∙ hi 1 3 (a.p + a.node + a.order) (omega arith) (omega arith) (omega arith)) two;
      },
      k.1 ∙ ap (λ (n : ℕ). all n (λ j. d (a.p + place_of a.m.count a.order a.node j))) {x = c.loop-t.t} {y = 2 * a.m.count}
          (omega (arith, c.loop-t-test.false, c.loop-t.auto.t-end)),
    )

pub returns : goal.returns
returns g c f d h =
    let a = c.args in
    let k = c.loop-t.invariant.1 f d h in
    let three : a.m.count ≡ 3 = omega (arith, a.m.bounds.0, a.m.bounds.1, c.if-m-eq2.false) in
    let is : (j : ℕ) → j < 2 * a.m.count → at c.loop-t.n j ≡ f (a.p + place_of a.m.count a.order a.node j) =
    λ j l. k.0 j (omega (arith, l, c.loop-t-test.false)) in
    let lo = low a.m.count a.p a.order a.node c.loop-t.n f is in
    let hi = high a.m.count a.p a.order a.node c.loop-t.n f is in (
      record {
        low = end-of-three a.m.count f a.p a.order _ _ (read _ c.result-2-1.given ∙ lo 0 a.p (omega arith) (omega arith))
            (read _ c.result-3-1.given ∙ lo 1 (a.p + a.order) (omega arith) (omega arith)) three _
            (read _ c.result-4-1.given ∙ lo 2 (a.p + 2 * a.order) (omega arith) refl);
        high = end-of-three a.m.count f (a.p + a.node) a.order _ _
            (read _ c.result-5-1.given ∙ hi 0 3 (a.p + a.node) (omega arith) (omega arith) (omega arith))
            (read _ c.result-6-1.given ∙ hi 1 4 (a.p + a.node + a.order) (omega arith) (omega arith) (omega arith)) three _
            (read _ c.result-7-1.given ∙ hi 2 5 (a.p + a.node + 2 * a.order) (omega arith) (omega arith) refl);
      },
      k.1 ∙ ap (λ (n : ℕ). all n (λ j. d (a.p + place_of a.m.count a.order a.node j))) {x = c.loop-t.t} {y = 2 * a.m.count}
          (omega (arith, c.loop-t-test.false, c.loop-t.auto.t-end)),
    )
