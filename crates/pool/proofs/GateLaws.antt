-- The refusals in groups, and what holds of a call that is not refused.
use mathlib.Core.Path.{◌≡◌, refl, sym, ◌∙◌}
use mathlib.Core.Bool.{Bool, true, false, ◌&&◌, ◌||◌}
use Prim.Native.Nat.{ℕ, ◌+◌, ◌<◌}
use native.Mathlib.Omega.{arith}
use lib.Dec.{leb, ltb, eqb}
use lib.ListN.{length}
use borrow.Author.Tests.{leb-true, ltb-true, eqb-true}
use Rattle.arith.proofs.Choices.{and-true, split, clash}
use Rattle.lattice.specs.declared.Shape.{Shape}
use Rattle.lattice.specs.declared.FullShape.{FullShape}
use Rattle.lattice.specs.Outcome.{Check, done, refuse_unless, first}
use Rattle.lattice.specs.Shape.{count, steps_on, nodes, axes_outcome, degree_outcome, counts_outcome, step_numbers_outcome, Shaped}
use Rattle.lattice.specs.Records.{sample_limit, limit_outcome}
use Rattle.lattice.proofs.OutcomeLaws.{first_done, refuse-done}
use Rattle.lattice.proofs.ShapeLaws.{axes-range, counts-shaped, nodes-is}
use Rattle.lattice.proofs.RecordsLaws.{limit-each}
use Rattle.pool.specs.Pool.{shapes_outcome, alike, same_shape, weights_allowed, Measurement, nodes_of, length_outcome, pool_outcome}
use Rattle.pool.specs.Parts.{Weights, Poolable}

-- ---- the shapes

module _ (a b : FullShape) where
  -- 1, 2, 3 and 26 of both
  abbrev axes : Check
  axes = first (axes_outcome a.shape.axes) (axes_outcome b.shape.axes)

  abbrev degrees : Check
  degrees = first (degree_outcome a.shape.degree) (degree_outcome b.shape.degree)

  abbrev counts : Check
  counts = first (counts_outcome a.shape.axes (count a.shape)) (counts_outcome b.shape.axes (count b.shape))

  abbrev steps : Check
  steps = first (step_numbers_outcome a.shape.axes (steps_on a)) (step_numbers_outcome b.shape.axes (steps_on b))

  -- shapes that are not refused
  pub shapes-pass : shapes_outcome a b ≡ done tt → Shaped a.shape × Shaped b.shape
  unfolding shapes_outcome
  shapes-pass h =
      let e = first_done axes (first degrees (first counts steps)) tt h in
      let f = first_done degrees (first counts steps) tt e.1 in
      let g = first_done counts steps tt f.1 in
      let n = first_done (axes_outcome a.shape.axes) (axes_outcome b.shape.axes) tt e.0 in
      let c = first_done _ (counts_outcome b.shape.axes (count b.shape)) tt g.0 in
      (one a.shape n.0 c.0, one b.shape n.1 c.1)
    where
      one : (s : Shape) → axes_outcome s.axes ≡ done tt → counts_outcome s.axes (count s) ≡ done tt → Shaped s
      one s h g = let r = axes-range s.axes h in counts-shaped s r.0 r.1 g

-- equal counts give equal numbers of nodes
pub same_nodes : (a b : FullShape) → same_shape a b ≡ true → nodes b.shape ≡ nodes a.shape
unfolding same_shape alike
same_nodes a b h =
    let s = a.shape in
    let t = b.shape in
    let e = and-true (eqb s.axes t.axes) _ h in
    let f = and-true (eqb s.degree t.degree) _ e.1 in
    let g = and-true (alike (count s) (count t)) _ f.1 in
    let x = and-true (eqb (count s 0) (count t 0)) _ g.0 in
    let y = and-true (eqb (count s 1) (count t 1)) (eqb (count s 2) (count t 2)) x.1 in
    let p = eqb-true (count s 0) (count t 0) x.0 in
    let q = eqb-true (count s 1) (count t 1) y.0 in
    let r = eqb-true (count s 2) (count t 2) y.1 in
    nodes-is t ∙ rw (p, q, r) refl ∙ sym (nodes-is s)

-- ---- the weights

pub weights-pass : (v w : ℕ) → weights_allowed v w ≡ true → Weights v w
unfolding weights_allowed
weights-pass v w h =
    let a = and-true (leb v 10000) (leb w 10000 && (ltb 0 v || ltb 0 w)) h in
    let b = and-true (leb w 10000) (ltb 0 v || ltb 0 w) a.1 in
    record { first = leb-true v 10000 a.0; second = leb-true w 10000 b.0; some = one b.1 }
  where
    none : (p q : Bool) → p ≡ false → q ≡ false → (p || q) ≡ true → 0 < v + w
    none p q e f g = clash (cc)

    one : (ltb 0 v || ltb 0 w) ≡ true → 0 < v + w
    one g =
        split (ltb 0 v) (λ e. omega (arith, ltb-true 0 v e)) (λ e.
        split (ltb 0 w) (λ f. omega (arith, ltb-true 0 w f)) (λ f. none (ltb 0 v) (ltb 0 w) e f g))

-- ---- the call

module _ (a b : Measurement) (room : ℕ) where
  -- its tests
  abbrev shapes : Check
  shapes = shapes_outcome a.shape b.shape

  abbrev same : Check
  same = refuse_unless (same_shape a.shape b.shape) 27 0

  abbrev weights : Check
  weights = refuse_unless (weights_allowed a.weight b.weight) 28 0

  abbrev long : Check
  long = first (length_outcome a) (length_outcome b)

  abbrev roomy : Check
  roomy = refuse_unless (leb (nodes_of a) room) 9 0

  abbrev limits : Check
  limits = first (limit_outcome 5 sample_limit a.samples) (limit_outcome 5 sample_limit b.samples)

  -- the call
  module _ (h : pool_outcome a b room ≡ done tt) where
    abbrev tested : (shapes ≡ done tt) × (first same (first weights (first long (first roomy limits))) ≡ done tt)
    unfolding pool_outcome
    tested = first_done shapes _ tt h

    abbrev alike_pair : (same ≡ done tt) × (first weights (first long (first roomy limits)) ≡ done tt)
    alike_pair = first_done same _ tt tested.1

    abbrev weighed : (weights ≡ done tt) × (first long (first roomy limits) ≡ done tt)
    weighed = first_done weights _ tt alike_pair.1

    abbrev counted : (long ≡ done tt) × (first roomy limits ≡ done tt)
    counted = first_done long _ tt weighed.1

    abbrev fitted : (roomy ≡ done tt) × (limits ≡ done tt)
    fitted = first_done roomy limits tt counted.1

    pair-nodes : nodes_of b ≡ nodes_of a
    pair-nodes = same_nodes a.shape b.shape (refuse-done (same_shape a.shape b.shape) 27 0 alike_pair.0)

    lengths : (length_outcome a ≡ done tt) × (length_outcome b ≡ done tt)
    lengths = first_done (length_outcome a) (length_outcome b) tt counted.0

    pub pool-length : length a.samples ≡ nodes_of a
    unfolding length_outcome
    pool-length = eqb-true (length a.samples) (nodes_of a) (refuse-done (eqb (length a.samples) (nodes_of a)) 4 0 lengths.0)

    other_length : length b.samples ≡ nodes_of b
    unfolding length_outcome
    other_length = eqb-true (length b.samples) (nodes_of b) (refuse-done (eqb (length b.samples) (nodes_of b)) 4 0 lengths.1)

    pub poolable : Poolable a.samples a.weight b.samples b.weight room
    poolable =
        let five = first_done (limit_outcome 5 sample_limit a.samples) (limit_outcome 5 sample_limit b.samples) tt fitted.1 in
        record {
          weights = weights-pass a.weight b.weight (refuse-done (weights_allowed a.weight b.weight) 28 0 weighed.0);
          same = omega (arith, pool-length, other_length, pair-nodes);
          fits = omega (arith, pool-length, leb-true (nodes_of a) room (refuse-done (leb (nodes_of a) room) 9 0 fitted.0));
          first = limit-each 5 sample_limit a.samples five.0;
          second = limit-each 5 sample_limit b.samples five.1;
        }
