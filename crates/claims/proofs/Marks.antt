-- Where no stage drops anything each number is the exact one, whatever the rounding: so a marked answer equals the exact interpolant, and
-- both editions mark the same.
use mathlib.Core.Path.{◌≡◌, refl, sym, ap, ◌∙◌}
use mathlib.Core.Bool.{Bool, true, false, ◌&&◌}
use mathlib.Core.List.{List, [], ◌∷◌}
use Prim.Native.Nat.{ℕ, ◌+◌, ◌*◌, ◌<◌}
use native.Mathlib.Omega.{arith}
use lib.Dec.{lit<}
use lib.IntN.{ℤ, pos, ◌*ℤ◌}
use Rattle.arith.specs.Choice.{all}
use Rattle.arith.specs.Int.{Rounding, rounding_of, divides}
use Rattle.arith.specs.Sum.{times}
use Rattle.arith.proofs.Choices.{clash, and-true, true-and, all-each, all-ext, all_true}
use Rattle.arith.proofs.Editions.{edition-sound}
use Rattle.arith.proofs.Laws.{pos-one-*ℤ}
use Rattle.arith.proofs.Quote.{quotes, ring! }
use Rattle.arith.proofs.Bits.{same_test}
use Rattle.arith.proofs.Rests.{kept, drops-none, same-quotient}
use Rattle.arith.proofs.Round.{Sound}
use Rattle.lattice.specs.declared.Shape.{Shape}
use Rattle.lattice.specs.declared.FullShape.{FullShape}
use Rattle.lattice.specs.Axes.{Place, Field, origin, put, along, sweep}
use Rattle.lattice.specs.Outcome.{Outcome, done, first}
use Rattle.lattice.specs.Shape.{full_shape, rounding_in, steps_on}
use Rattle.lattice.specs.Records.{records_field}
use Rattle.lattice.proofs.Along.{Each, linear-multiple, last-first, times-order}
use Rattle.lattice.proofs.OutcomeLaws.{first_done}
use Rattle.lattice.proofs.ShapeLaws.{shaped}
use Rattle.hermite.proofs.HermiteLaws.{stage-linear}
use Rattle.evaluate.specs.Evaluate.{Ask, Want, order_on, last_axis, divisor_on, stage_on, to_eighth, to_unit, in_eighths, before, exact_sum, exact_divisor, answer_by, clean, exact_by}
use Rattle.evaluate.proofs.AnswerLaws.{each-before}
use Rattle.evaluate.proofs.Exact.{exact-last}
use Rattle.query.specs.Queries.{asked_outcome, reading, position_cell, position_step, cell_mark, position_mark}
use Rattle.query.proofs.QueryLaws.{Common, asked-facts, last-used, reading-parts}
use Rattle.claims.specs.Third.{Query, at_position, in_cell, at_floats, queried, asked, cell_read, step_read}
use Rattle.claims.specs.Marks.{mark_of, MarkedExact, MarksAgree}
use Rattle.claims.proofs.General.{same_sum, divisors}
use Rattle.claims.proofs.Gates.{gate, by-gate}

module _ (q : Ask) (some : (a : ℕ) → a < q.n → 0 < divisor_on q a) (last : last_axis q.n q.want < q.n) where
  abbrev l : ℕ
  l = last_axis q.n q.want

  multiple : (a : ℕ) (z : ℤ) (x : ℕ → ℤ) (j : ℕ) → stage_on q a (λ t. z *ℤ x t) j ≡ z *ℤ stage_on q a x j
  unfolding stage_on
  multiple a z x j = linear-multiple (stage-linear (order_on q.want a) q.m (q.N a) (q.cell a) (q.step a)) z x j

  last_some : 0 < 8 * divisor_on q l
  last_some = let k = some l last in omega arith

  each-low : Each (λ a. a < q.n) (before q)
  each-low = each-before q (λ a. a < q.n) (λ a i n. i)

  -- ---- the exact interpolant

  module _ {round : Rounding} (sound : Sound round) (g : Field) where
    abbrev got : List ℕ → Field
    got ls = sweep ls (to_eighth round q) (in_eighths g)

    abbrev exact : List ℕ → Field
    exact ls = sweep ls (stage_on q) g

    abbrev scale : List ℕ → ℕ
    scale ls = times ls (divisor_on q)

    -- numbers G, over P, are the exact ones E in eighths, and a stage of them that is divided by H drops nothing
    stage-exact : (a H P : ℕ) (G E : ℕ → ℤ) (j : ℕ) → 0 < H
        → ((t : ℕ) → t < 2 * q.m → pos P *ℤ G (q.m * q.cell a + t) ≡ pos 8 *ℤ E (q.m * q.cell a + t))
        → divides H (stage_on q a G j) ≡ true → pos (H * P) *ℤ round (stage_on q a G j) H ≡ pos 8 *ℤ stage_on q a E j
    stage-exact a H P G E j some-H e none =
        turn (pos H) (pos P) (round (stage_on q a G j) H) ∙ ap (λ z. pos P *ℤ z) (drops-none (stage_on q a G j) H some-H none sound)
        ∙ sym (multiple a (pos P) G j) ∙ same_sum q a (λ t. pos P *ℤ G t) (λ t. pos 8 *ℤ E t) e j ∙ multiple a (pos 8) E j
      where
        turn : (h p r : ℤ) → h *ℤ p *ℤ r ≡ p *ℤ (h *ℤ r)
        turn h p r = ring! (h ∷ p ∷ r ∷ []) (search quotes depth 40) tt

    stages-exact : (ls : List ℕ) → Each (λ a. a < q.n) ls → (p : Place) → clean round q ls (in_eighths g) p ≡ true
        → pos (scale ls) *ℤ got ls p ≡ pos 8 *ℤ exact ls p
    unfolding sweep clean times to_eighth in_eighths
    stages-exact [] e p h = pos-one-*ℤ (pos 8 *ℤ g p)
    stages-exact (a ∷ ls) e p h =
        let k = and-true (divides (divisor_on q a) (along a (stage_on q a) (got ls) p))
        (all (2 * q.m) (λ t. clean round q ls (in_eighths g) (put a (q.m * q.cell a + t) p))) h in
        stage-exact a (divisor_on q a) (scale ls) (λ t. got ls (put a t p)) (λ t. exact ls (put a t p)) (p a) (some a e.0)
        (λ t i. stages-exact ls e.1 (put a (q.m * q.cell a + t) p)
        (all-each (2 * q.m) (λ t. clean round q ls (in_eighths g) (put a (q.m * q.cell a + t) p)) k.1 t i)) k.0

    pub marked-exact : exact_by round q g ≡ true → exact_sum q g ≡ answer_by round q g *ℤ pos (exact_divisor q)
    unfolding exact_by answer_by to_unit before exact_divisor times
    marked-exact h =
        let k = and-true (divides (8 * divisor_on q l) (along l (stage_on q l) (got (before q)) origin))
        (all (2 * q.m) (λ t. clean round q (before q) (in_eighths g) (put l (q.m * q.cell l + t) origin))) h in
        exact-last q l last g
        ∙ same-quotient 8 (lit< tt) (along l (stage_on q l) (exact (before q)) origin) (v *ℤ pos (divisor_on q l * scale (before q)))
        (sym (stage-exact l (8 * divisor_on q l) (scale (before q)) (λ t. got (before q) (put l t origin))
        (λ t. exact (before q) (put l t origin)) 0 last_some
        (λ t i. stages-exact (before q) each-low (put l (q.m * q.cell l + t) origin)
        (all-each (2 * q.m) (λ t. clean round q (before q) (in_eighths g) (put l (q.m * q.cell l + t) origin)) k.1 t i)) k.0)
        ∙ turn v (pos (divisor_on q l)) (pos (scale (before q))))
        ∙ ap (λ (y : ℕ). v *ℤ pos y) (sym (times-order (last-first q.n l last) (divisor_on q)))
      where
        v : ℤ
        v = round (stage_on q l (λ t. got (before q) (put l t origin)) 0) (8 * divisor_on q l)

        turn : (v d p : ℤ) → pos 8 *ℤ d *ℤ p *ℤ v ≡ pos 8 *ℤ (v *ℤ (d *ℤ p))
        turn v d p = ring! (v ∷ d ∷ p ∷ []) (search quotes depth 40) tt

  -- ---- two roundings

  module _ {one other : Rounding} (so : Sound one) (st : Sound other) where
    -- a number after a stage along axis a, divided by H, and those that it is made of
    abbrev Clean : Rounding → Field → ℕ → ℕ → List ℕ → Place → ℕ → Bool
    Clean round g a H ls p j =
        divides H (stage_on q a (λ t. sweep ls (to_eighth round q) g (put a t p)) j)
        && all (2 * q.m) (λ t. clean round q ls g (put a (q.m * q.cell a + t) p))

    module _ (g : Field) where
      -- where nothing is dropped it is the same to both
      abbrev Same : List ℕ → Type 0
      Same ls = (p : Place) → clean one q ls g p ≡ true
          → (sweep ls (to_eighth one q) g p ≡ sweep ls (to_eighth other q) g p) × (clean other q ls g p ≡ true)

      stage-same : (a H : ℕ) (ls : List ℕ) (p : Place) (j : ℕ) → 0 < H → Same ls → Clean one g a H ls p j ≡ true
          → (one (stage_on q a (λ t. sweep ls (to_eighth one q) g (put a t p)) j) H
          ≡ other (stage_on q a (λ t. sweep ls (to_eighth other q) g (put a t p)) j) H)
          × (Clean other g a H ls p j ≡ true)
      stage-same a H ls p j some-H same h = (
        kept S H some-H k.0 so ∙ sym (kept S H some-H k.0 st) ∙ ap (λ z. other z H) sums,
        true-and (divides H T) (all (2 * q.m) (λ t. clean other q ls g (put a (q.m * q.cell a + t) p)))
            (ap (divides H) (sym sums) ∙ k.0)
            (all-ext (2 * q.m) (λ t. clean other q ls g (put a (q.m * q.cell a + t) p)) (λ t. true) (λ t i. (each t i).1)
            ∙ all_true (2 * q.m)),
      )
        where
          S : ℤ
          S = stage_on q a (λ t. sweep ls (to_eighth one q) g (put a t p)) j

          T : ℤ
          T = stage_on q a (λ t. sweep ls (to_eighth other q) g (put a t p)) j

          k : (divides H S ≡ true) × (all (2 * q.m) (λ t. clean one q ls g (put a (q.m * q.cell a + t) p)) ≡ true)
          k = and-true (divides H S) (all (2 * q.m) (λ t. clean one q ls g (put a (q.m * q.cell a + t) p))) h

          each : (t : ℕ) → t < 2 * q.m
              → (sweep ls (to_eighth one q) g (put a (q.m * q.cell a + t) p)
              ≡ sweep ls (to_eighth other q) g (put a (q.m * q.cell a + t) p))
              × (clean other q ls g (put a (q.m * q.cell a + t) p) ≡ true)
          each t i = same (put a (q.m * q.cell a + t) p)
              (all-each (2 * q.m) (λ t. clean one q ls g (put a (q.m * q.cell a + t) p)) k.1 t i)

          sums : S ≡ T
          sums = same_sum q a (λ t. sweep ls (to_eighth one q) g (put a t p)) (λ t. sweep ls (to_eighth other q) g (put a t p))
              (λ t i. (each t i).0) j

      stages-same : (ls : List ℕ) → Each (λ a. a < q.n) ls → Same ls
      unfolding sweep clean to_eighth
      stages-same [] e p h = (refl, refl)
      stages-same (a ∷ ls) e p h = stage-same a (divisor_on q a) ls p (p a) (some a e.0) (stages-same ls e.1) h

    pub exact-too : (g : Field) → exact_by one q g ≡ true → exact_by other q g ≡ true
    unfolding exact_by
    exact-too g h =
        (stage-same (in_eighths g) l (8 * divisor_on q l) (before q) origin 0 last_some (stages-same (in_eighths g) (before q) each-low)
        h).1

-- ---- the queries

-- of a query that is answered
module _ (t : FullShape) (rs : List ℤ) (want : Want) (q : Query) (v : ℤ) (h : queried t rs want q ≡ done v) where
  abbrev tests : Outcome ℤ
  tests = first (gate t q) (reading t rs want (cell_read t q) (step_read t q))

  parts : (asked_outcome t rs want ≡ done tt) × (tests ≡ done v)
  parts = first_done (asked_outcome t rs want) tests v (sym (by-gate t rs want q) ∙ h)

  facts : Common t rs want
  facts = asked-facts t rs want parts.0

  some : (a : ℕ) → a < t.shape.axes → 0 < divisor_on (asked t want q) a
  some = divisors t facts.full want (cell_read t q) (step_read t q)

  last : last_axis t.shape.axes want < t.shape.axes
  last = last-used t.shape want (shaped t.shape facts.shape).axes-low facts.wanted

  read : answer_by (rounding_in t) (asked t want q) (records_field t.shape rs) ≡ v
  read =
      (reading-parts t rs want (cell_read t q) (step_read t q) v
      (first_done (gate t q) (reading t rs want (cell_read t q) (step_read t q)) v parts.1).1).1

-- both editions ask the same
both-mark : (s : Shape) (numbers : List ℕ) (rs : List ℤ) (want : Want) (q : Query) (v : ℤ)
    → queried (full_shape s numbers false) rs want q ≡ done v
    → let ask = asked (full_shape s numbers false) want q in
    exact_by (rounding_of true) ask (records_field s rs) ≡ exact_by (rounding_of false) ask (records_field s rs)
both-mark s numbers rs want q v h =
    let t = full_shape s numbers false in
    let ask = asked t want q in
    let g = records_field s rs in
    same_test _ _ (exact-too ask (some t rs want q v h) (last t rs want q v h) (edition-sound true) (edition-sound false) g)
    (exact-too ask (some t rs want q v h) (last t rs want q v h) (edition-sound false) (edition-sound true) g)

pub marks-agree : MarksAgree
unfolding mark_of position_mark cell_mark cell_read step_read position_cell position_step steps_on
marks-agree s numbers rs want (at_position p) v h = both-mark s numbers rs want (at_position p) v h
marks-agree s numbers rs want (in_cell cell u) v h = both-mark s numbers rs want (in_cell cell u) v h
marks-agree s numbers rs want (at_floats x) v h = refl

-- the mark is that of the cell that the query reads
mark-read : (t : FullShape) (rs : List ℤ) (want : Want) (q : Query) → mark_of t rs want q ≡ true
    → exact_by (rounding_in t) (asked t want q) (records_field t.shape rs) ≡ true
unfolding mark_of position_mark cell_mark cell_read step_read
mark-read t rs want (at_position p) h = h
mark-read t rs want (in_cell cell u) h = h
mark-read t rs want (at_floats x) h = clash (cc)

pub marked-is-exact : MarkedExact
marked-is-exact t rs want q v h mark =
    marked-exact (asked t want q) (some t rs want q v h) (last t rs want q v h) (edition-sound t.second_edition)
    (records_field t.shape rs) (mark-read t rs want q mark)
    ∙ ap (λ z. z *ℤ pos (exact_divisor (asked t want q))) (read t rs want q v h)
