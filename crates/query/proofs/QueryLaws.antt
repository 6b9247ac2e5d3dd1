-- The facts behind a query that is not refused, when it is not, and a query by position as the query by its cell and in-cell step.
use mathlib.Core.Path.{◌≡◌, refl, sym, ap, subst, ◌∙◌}
use mathlib.Core.Bool.{Bool, true, false, ◌||◌}
use mathlib.Core.List.{List, [], ◌∷◌}
use Prim.Native.Nat.{ℕ, ◌+◌, ◌*◌, ◌-◌, ◌/◌, ◌^◌, ◌≤◌, ◌<◌}
use native.Mathlib.Nat.{mul_comm}
use native.Mathlib.Decide.{dec_lt}
use native.Mathlib.Omega.{arith}
use lib.Dec.{leb, ltb, eqb}
use lib.ListN.{length, get_or}
use lib.IntN.{ℤ, pos, negsuc, nat_abs}
use lib.Signed.{non_neg}
use borrow.Author.Tests.{ltb-true, ltb-false, leb-true, eqb-true, lt-ltb, le-ltb, le-leb, eq-eqb}
use Rattle.arith.specs.Choice.{pick}
use Rattle.arith.proofs.Choices.{split, pick_true, by-3}
use Rattle.arith.specs.Int.{Rounding, rounding_of}
use Rattle.arith.proofs.Editions.{edition-sound}
use Rattle.arith.proofs.Round.{Sound}
use Rattle.lattice.specs.declared.Shape.{Shape}
use Rattle.lattice.specs.declared.FullShape.{FullShape}
use Rattle.lattice.specs.Outcome.{Check, done, refused, refuse_unless, first, first_of, passed}
use Rattle.lattice.specs.Shape.{rounding_in, count, steps_on, orders, entries, size, shape_outcome, step_number, full_outcome, finest_on, Shaped}
use Rattle.lattice.specs.Axes.{Place, Field, OnUsed}
use Rattle.lattice.specs.Records.{records_field}
use Rattle.lattice.proofs.ShapeLaws.{orders-range, shaped}
use Rattle.lattice.proofs.StepLaws.{by-step-number, step-factor, factor-range, step_range, full-shape, full-stepped}
use Rattle.lattice.proofs.OutcomeLaws.{first_done, first-passed, first-assoc, refused-first, passed-done, done-same, refuse-done, passes, first_of-each, first_of-passes}
use Rattle.hermite.specs.Hermite.{steps}
use Rattle.hermite.specs.Stage.{Smooth}
use Rattle.cell.specs.declared.Layout.{Layout}
use Rattle.cell.specs.Cell.{place_at, cell_outcome, corners_outcome, Accepted, Laid, base, node_stride}
use Rattle.cell.proofs.CellLaws.{place-beyond, accepted}
use Rattle.evaluate.specs.Stages.{Ready}
use Rattle.evaluate.proofs.Answering.{answer-fits}
use Rattle.evaluate.proofs.Scaled.{Scales, answer-scaled, exact-scaled}
use Rattle.evaluate.specs.Evaluate.{Want, dose, derivative_along, order_wanted, last_axis, ask_at, answer_by, exact_by}
use Rattle.evaluate.specs.declared.Value.{Value}
use Rattle.query.specs.Queries.{want_outcome, asked_outcome, tested_outcome, reading, ask_in, position_test, steps_outcome, by_cell, Position, position_outcome, cell_of, cell_mark}
use Rattle.query.specs.Parts.{finest}

-- a derivative that is not refused 12 or 21
pub want-parts : (s : Shape) (order a : ℕ) → want_outcome s (derivative_along order a) ≡ done tt → (a < s.axes) × Smooth order (orders s)
unfolding want_outcome
want-parts s order a h =
    let f = first_done (refuse_unless (ltb a s.axes) 12 0) (refuse_unless (ltb order (orders s)) 21 0) tt h in (
      ltb-true a s.axes (refuse-done (ltb a s.axes) 12 0 f.0),
      ltb-true order (orders s) (refuse-done (ltb order (orders s)) 21 0 f.1),
    )

pub last-used : (s : Shape) (want : Want) → 1 ≤ s.axes → want_outcome s want ≡ done tt → last_axis s.axes want < s.axes
unfolding want_outcome last_axis
last-used s dose l h = omega arith
last-used s (derivative_along order a) l h = (want-parts s order a h).0

pub want-smooth : (s : Shape) (want : Want) → want_outcome s want ≡ done tt → Smooth (order_wanted want) (orders s)
unfolding want_outcome order_wanted
want-smooth s dose h = omega (arith, (orders-range s.degree).0)
want-smooth s (derivative_along order a) h = (want-parts s order a h).1

-- ---- a position on an axis

module _ (s : Shape) (last : ℕ) (p : ℤ) (a : ℕ) where
  abbrev high : Check
  high = refuse_unless (leb (nat_abs p) last) 11 a

  -- 22, then 11, where the axis is used
  pub used-test : ltb a s.axes ≡ true → position_test s last p a ≡ first (refuse_unless (non_neg p) 22 a) high
  unfolding position_test
  used-test e = ap (λ (b : Bool). first (refuse_unless (b || eqb (nat_abs p) 0) 23 a) (first (refuse_unless (non_neg p) 22 a) high)) e

  -- 23 alone where it is not
  pub unused-test : ltb a s.axes ≡ false → position_test s last p a ≡ refuse_unless (eqb (nat_abs p) 0) 23 a
  unfolding position_test
  unused-test e =
      ap (λ (b : Bool). first (refuse_unless (b || eqb (nat_abs p) 0) 23 a) (first (refuse_unless (non_neg p) 22 a) high)) e
      ∙ split (eqb (nat_abs p) 0)
      (λ z. rw z (nothing p (eqb-true (nat_abs p) 0 z)))
      (λ z. rw z refl)
    where
      -- 0 is neither below 0 nor beyond
      nothing : (p : ℤ) → nat_abs p ≡ 0 → first (refuse_unless (non_neg p) 22 a) (refuse_unless (leb (nat_abs p) last) 11 a) ≡ done tt
      nothing (pos n) e = passes (leb n last) 11 a (le-leb n last (omega arith))
      nothing (negsuc n) e = absurd (omega arith)

  -- what the test says where it is passed, and where it is
  pub test_known : position_test s last p a ≡ done tt → (non_neg p ≡ true) × (nat_abs p ≤ last) × (s.axes ≤ a → nat_abs p ≡ 0)
  unfolding position_test
  test_known h =
      let f = first_done (refuse_unless (ltb a s.axes || eqb (nat_abs p) 0) 23 a) (first (refuse_unless (non_neg p) 22 a) high) tt h in
      let g = first_done (refuse_unless (non_neg p) 22 a) high tt f.1 in (
        refuse-done (non_neg p) 22 a g.0,
        leb-true (nat_abs p) last (refuse-done (leb (nat_abs p) last) 11 a g.1),
        λ l. eqb-true (nat_abs p) 0 (refuse-done (eqb (nat_abs p) 0) 23 a (sym (unused-test (le-ltb a s.axes l)) ∙ h)),
      )

  pub test-passes : non_neg p ≡ true → nat_abs p ≤ last → (s.axes ≤ a → nat_abs p ≡ 0) → position_test s last p a ≡ done tt
  test-passes h k none = split (ltb a s.axes)
      (λ e. used-test e ∙ first-passed (refuse_unless (non_neg p) 22 a) high (passes (non_neg p) 22 a h)
      ∙ passes (leb (nat_abs p) last) 11 a (le-leb (nat_abs p) last k))
      (λ e. unused-test e ∙ passes (eqb (nat_abs p) 0) 23 a (eq-eqb (nat_abs p) 0 (none (ltb-false a s.axes e))))

-- in-cell steps that are not refused, and back
step-known : (t : FullShape) (step : Place) → steps_outcome t step ≡ done tt → (a : ℕ) → a < 3
    → (step a ≤ steps_on t a) × (t.shape.axes ≤ a → step a ≡ 0)
unfolding steps_outcome
step-known t step h a l =
    let f = test_known t.shape (steps_on t a) (pos (step a)) a
    (first_of-each 3 (λ a. position_test t.shape (steps_on t a) (pos (step a)) a) h a l) in (f.1, f.2)

pub step-inside : (t : FullShape) (step : Place) → Shaped t.shape → steps_outcome t step ≡ done tt → (a : ℕ) → a < t.shape.axes
    → step a ≤ steps_on t a
step-inside t step f h a l = (step-known t step h a (let k = f.axes-high in omega arith)).0

pub steps-known : (t : FullShape) (xs : List ℕ) → t.shape.axes ≤ 3 → steps_outcome t (place_at xs) ≡ done tt
    → OnUsed t.shape.axes (λ a i. i ≤ steps_on t a) (place_at xs)
steps-known t xs high h = record
    { used = λ a l. (step-known t (place_at xs) h a (omega arith)).0; unused = λ a l. other a l (dec_lt a 3) }
  where
    other : (a : ℕ) → t.shape.axes ≤ a → Dec (a < 3) → place_at xs a ≡ 0
    other a l (yes k) = (step-known t (place_at xs) h a k).1 l
    other a l (no k) = place-beyond xs a (omega (arith, k))

pub steps-pass : (t : FullShape) (step : Place) → ((a : ℕ) → a < t.shape.axes → step a ≤ steps_on t a)
    → ((a : ℕ) → a < 3 → t.shape.axes ≤ a → step a ≡ 0) → steps_outcome t step ≡ done tt
unfolding steps_outcome
steps-pass t step used none =
    first_of-passes 3 (λ a. position_test t.shape (steps_on t a) (pos (step a)) a) (λ a l. go a l (dec_lt a t.shape.axes))
  where
    go : (a : ℕ) → a < 3 → Dec (a < t.shape.axes) → position_test t.shape (steps_on t a) (pos (step a)) a ≡ done tt
    go a l (yes k) = test-passes t.shape (steps_on t a) (pos (step a)) a refl (used a k) (λ n. absurd (omega arith))
    go a l (no k) =
        let e = none a l (omega (arith, k)) in
        test-passes t.shape (steps_on t a) (pos (step a)) a refl (omega arith) (λ n. e)

-- the table of 256 steps on each used axis
pub finest-on : (s : Shape) (even : Bool) (a : ℕ) → a < 3 → steps_on (finest s even) a ≡ finest_on s.axes a
unfolding steps_on
finest-on s even = by-3 (λ a. steps_on (finest s even) a ≡ finest_on s.axes a) refl refl refl

pub finest-used : (s : Shape) (even : Bool) (a : ℕ) → a < 3 → a < s.axes → steps_on (finest s even) a ≡ steps
unfolding finest_on
finest-used s even a h l = finest-on s even a h ∙ pick_true (ltb a s.axes) 256 1 (lt-ltb a s.axes l)

-- the test that the code makes of a step
pub step-test : (s : Shape) (u a : ℕ)
    → refuse_unless (pick (ltb a s.axes) (leb u steps) (eqb u 0)) (pick (ltb a s.axes) 11 23) a
    ≡ position_test s (finest_on s.axes a) (pos u) a
unfolding pick finest_on
step-test s u a = split (ltb a s.axes)
    (λ e. rw e refl ∙ sym (used-test s steps (pos u) a e) ∙ ap (λ (k : ℕ). position_test s k (pos u) a) (sym (pick_true _ 256 1 e)))
    (λ e. rw e refl ∙ sym (unused-test s (finest_on s.axes a) (pos u) a e))

-- one axis after the other
pub steps-scanned : (s : Shape) (even : Bool) (xs : List ℕ)
    → let test : ℕ → Check = λ a. position_test s (finest_on s.axes a) (pos (get_or xs a 0)) a in
    first (test 0) (first (test 1) (test 2)) ≡ steps_outcome (finest s even) (place_at xs)
unfolding steps_outcome steps_on first_of place_at pick
steps-scanned s even xs =
    let test : ℕ → Check = λ a. position_test s (finest_on s.axes a) (pos (get_or xs a 0)) a in
    sym (first-assoc (test 0) (test 1) (test 2))

-- what 1, 2, 3, 26, 4, 12 and 21 say of a query that they do not refuse
pub record Common (t : FullShape) (rs : List ℤ) (want : Want) : Type 0 where
  pub full : full_outcome t ≡ done tt
  pub shape : shape_outcome t.shape ≡ done tt
  pub long : length rs ≡ size t.shape
  pub wanted : want_outcome t.shape want ≡ done tt

pub asked-facts : (t : FullShape) (rs : List ℤ) (want : Want) → asked_outcome t rs want ≡ done tt → Common t rs want
unfolding asked_outcome
asked-facts t rs want h =
    let s = t.shape in
    let later : Check = first (refuse_unless (eqb (length rs) (size s)) 4 0) (want_outcome s want) in
    let f = first_done (full_outcome t) later tt h in
    let g = first_done (refuse_unless (eqb (length rs) (size s)) 4 0) (want_outcome s want) tt f.1 in
    record {
      full = f.0;
      shape = full-shape t f.0;
      long = eqb-true (length rs) (size s) (refuse-done (eqb (length rs) (size s)) 4 0 g.0);
      wanted = g.1;
    }

pub reading-parts : (t : FullShape) (rs : List ℤ) (want : Want) (cell step : Place) (v : ℤ) → reading t rs want cell step ≡ done v
    → (corners_outcome t.shape rs cell ≡ done tt)
    × (answer_by (rounding_in t) (ask_in t want cell step) (records_field t.shape rs) ≡ v)
unfolding reading
reading-parts t rs want cell step v h =
    let r = answer_by (rounding_in t) (ask_in t want cell step) (records_field t.shape rs) in
    let f = first_done (corners_outcome t.shape rs cell) (done r) v h in
    (f.0, done-same r v f.1)

-- and back, for a slice of the right length
pub asked-passes : (t : FullShape) (rs : List ℤ) (want : Want) → length rs ≡ size t.shape → full_outcome t ≡ done tt
    → want_outcome t.shape want ≡ done tt → asked_outcome t rs want ≡ done tt
unfolding asked_outcome
asked-passes t rs want l h w =
    let s = t.shape in
    first-passed (full_outcome t) (first (refuse_unless (eqb (length rs) (size s)) 4 0) (want_outcome s want)) h
    ∙ first-passed (refuse_unless (eqb (length rs) (size s)) 4 0) (want_outcome s want)
    (passes (eqb (length rs) (size s)) 4 0 (eq-eqb (length rs) (size s) l)) ∙ w

pub reading-passes : (t : FullShape) (rs : List ℤ) (want : Want) (cell step : Place) → corners_outcome t.shape rs cell ≡ done tt
    → reading t rs want cell step ≡ done (answer_by (rounding_in t) (ask_in t want cell step) (records_field t.shape rs))
unfolding reading
reading-passes t rs want cell step h =
    first-passed (corners_outcome t.shape rs cell)
    (done (answer_by (rounding_in t) (ask_in t want cell step) (records_field t.shape rs))) h

-- a query by cell that is not refused before 5
pub record Passed (t : FullShape) (rs : List ℤ) (want : Want) (cell step : Place) : Type 0 where
  pub asked : asked_outcome t rs want ≡ done tt
  pub cells : cell_outcome t.shape cell ≡ done tt
  pub inside : steps_outcome t step ≡ done tt

module _ (t : FullShape) (rs : List ℤ) (want : Want) (cell step : Place) where
  abbrev located-there : Check
  located-there = first (cell_outcome t.shape cell) (steps_outcome t step)

  pub tested-parts : tested_outcome t rs want cell step ≡ done tt → Passed t rs want cell step
  unfolding tested_outcome
  tested-parts h =
      let f = first_done (asked_outcome t rs want) located-there tt h in
      let g = first_done (cell_outcome t.shape cell) (steps_outcome t step) tt f.1 in
      record { asked = f.0; cells = g.0; inside = g.1 }

  pub tested-passes : Passed t rs want cell step → tested_outcome t rs want cell step ≡ done tt
  unfolding tested_outcome
  tested-passes f =
      first-passed (asked_outcome t rs want) located-there f.asked
      ∙ first-passed (cell_outcome t.shape cell) (steps_outcome t step) f.cells ∙ f.inside

  pub by-cell-reads : tested_outcome t rs want cell step ≡ done tt → by_cell t rs want cell step ≡ reading t rs want cell step
  unfolding by_cell
  by-cell-reads h = first-passed (tested_outcome t rs want cell step) (reading t rs want cell step) h

  pub by-cell-stops : {n p : ℕ} → tested_outcome t rs want cell step ≡ refused n p → by_cell t rs want cell step ≡ refused n p
  unfolding by_cell
  by-cell-stops e = refused-first (reading t rs want cell step) e

  pub by-cell-passes : length rs ≡ size t.shape → full_outcome t ≡ done tt → want_outcome t.shape want ≡ done tt
      → cell_outcome t.shape cell ≡ done tt → steps_outcome t step ≡ done tt → corners_outcome t.shape rs cell ≡ done tt
      → by_cell t rs want cell step ≡ done (answer_by (rounding_in t) (ask_in t want cell step) (records_field t.shape rs))
  by-cell-passes l h w c u k =
      by-cell-reads (tested-passes (record { asked = asked-passes t rs want l h w; cells = c; inside = u }))
      ∙ reading-passes t rs want cell step k

  -- a query by cell as its tests one after the other
  pub by-cell-is : by_cell t rs want cell step ≡ first (asked_outcome t rs want) (first located-there (reading t rs want cell step))
  unfolding by_cell tested_outcome
  by-cell-is = first-assoc (asked_outcome t rs want) located-there (reading t rs want cell step)

-- ---- coarser axes: the answer at step u of an axis of N steps is that at u·256/N of one of 256

-- in steps of which 256 are a cell
pub record Finer (t : FullShape) (step finer : Place) : Type 0 where
  pub is : (a : ℕ) → a < t.shape.axes → finer a ≡ 256 / steps_on t a * step a

module _ (t : FullShape) (want : Want) (cell step finer : Place) (full : full_outcome t ≡ done tt)
    (wanted : want_outcome t.shape want ≡ done tt) (f : Finer t step finer) (g : Field) where
  scales : Scales (ask_in t want cell step) (λ a. 256 / steps_on t a) (λ a. steps) finer
  scales =
      let ok = shaped t.shape (full-shape t full) in
      let number : (a : ℕ) → a < t.shape.axes → step_number (steps_on t a) ≡ true =
      (λ a l. (full-stepped t full).used a (let h = ok.axes-high in omega arith) l) in
      record {
        some = λ a l. (factor-range (steps_on t a) (number a l)).0;
        steps-some = λ a l. let h = (step_range (steps_on t a) (number a l)).0 in omega arith;
        number_is = λ a l. sym (step-factor (steps_on t a) (number a l)) ∙ mul_comm (steps_on t a) (256 / steps_on t a);
        step_is = f.is;
      }

  last-there : last_axis t.shape.axes want < t.shape.axes
  last-there = last-used t.shape want (shaped t.shape (full-shape t full)).axes-low wanted

  pub finer-answer : {round : Rounding} → Sound round
      → answer_by round (ask_at t.shape want cell finer) g ≡ answer_by round (ask_in t want cell step) g
  unfolding ask_at
  finer-answer ok =
      answer-scaled (ask_in t want cell step) (λ a. 256 / steps_on t a) (λ a. steps) finer scales ok last-there g

  pub finer-mark : {round : Rounding} → Sound round
      → exact_by round (ask_at t.shape want cell finer) g ≡ exact_by round (ask_in t want cell step) g
  unfolding ask_at
  finer-mark ok =
      exact-scaled (ask_in t want cell step) (λ a. 256 / steps_on t a) (λ a. steps) finer scales ok last-there g

-- on 256 steps it is the answer itself
module _ (s : Shape) (even : Bool) {rs : List ℤ} (want : Want) (cell step : Place) (a : Common (finest s even) rs want) (g : Field) where
  itself : Finer (finest s even) step step
  itself = record { is = λ b l. rw (finest-used s even b (let h = (shaped s a.shape).axes-high in omega arith) l) (omega arith) }

  pub finest-answer : answer_by (rounding_of even) (ask_at s want cell step) g
      ≡ answer_by (rounding_of even) (ask_in (finest s even) want cell step) g
  finest-answer = finer-answer (finest s even) want cell step step a.full a.wanted itself g (edition-sound even)

  pub finest-mark : exact_by (rounding_of even) (ask_at s want cell step) g
      ≡ exact_by (rounding_of even) (ask_in (finest s even) want cell step) g
  finest-mark = finer-mark (finest s even) want cell step step a.full a.wanted itself g (edition-sound even)

-- where the cell is given by three numbers: what its layout, its corners' test and its stages need
pub record Near (s : Shape) (rs : List ℤ) (cell : List ℕ) : Type 0 where
  pub shape : Shaped s
  pub long : length rs ≡ size s
  pub here : Accepted s (place_at cell)

pub near : (t : FullShape) (rs : List ℤ) (want : Want) (cell : List ℕ) (step : Place)
    → tested_outcome t rs want (place_at cell) step ≡ done tt → Near t.shape rs cell
near t rs want cell step h =
    let f = tested-parts t rs want (place_at cell) step h in
    let a = asked-facts t rs want f.asked in
    let g = shaped t.shape a.shape in
    record { shape = g; long = a.long; here = accepted t.shape cell g.axes-high f.cells }

-- on 256 steps
module _ (s : Shape) (even : Bool) (rs : List ℤ) (want : Want) (cell : List ℕ) (step : Place) where
  pub ready : tested_outcome (finest s even) rs want (place_at cell) step ≡ done tt → (l : Layout) → Laid s (place_at cell) l
      → passed (corners_outcome s rs (place_at cell)) ≡ true → Ready s rs (place_at cell) step want l
  ready t l laid k =
      let f = tested-parts (finest s even) rs want (place_at cell) step t in
      let n = near (finest s even) rs want cell step t in
      let a = asked-facts (finest s even) rs want f.asked in
      record {
        shape = n.shape;
        long = n.long;
        here = n.here;
        laid = laid;
        steps_low = λ a l. rw (← finest-used s even a (let h = n.shape.axes-high in omega arith) l)
            (step-inside (finest s even) step n.shape f.inside a l);
        last = last-used s want n.shape.axes-low a.wanted;
        smooth = want-smooth s want a.wanted;
        corners = passed-done (corners_outcome s rs (place_at cell)) k;
      }

  -- an answer is below 2^24
  pub finest-small : (v : ℤ) → by_cell (finest s even) rs want (place_at cell) step ≡ done v → nat_abs v < 2 ^ 24
  unfolding by_cell
  finest-small v h =
      let t = finest s even in
      let f = first_done (tested_outcome t rs want (place_at cell) step) (reading t rs want (place_at cell) step) v h in
      let r = reading-parts t rs want (place_at cell) step v f.1 in
      let p = tested-parts t rs want (place_at cell) step f.0 in
      subst (λ z. nat_abs z < 2 ^ 24)
      (finest-answer s even want (place_at cell) step (asked-facts t rs want p.asked) (records_field s rs) ∙ r.1)
      (answer-fits (edition-sound even) s rs (place_at cell) step want laid (ready f.0 laid is-laid (ap passed r.0)))
    where
      laid : Layout
      laid = record {
        orders = orders s;
        entries = entries s;
        base = base s (place_at cell);
        strides =
            node_stride s 0 ∷ node_stride s 1 ∷ node_stride s 2 ∷ [];
      }

      is-laid : Laid s (place_at cell) laid
      is-laid = record { orders-are = refl; entries-are = refl; base-is = refl; stride-x = refl; stride-y = refl; stride-z = refl }

-- reading a cell once the tests before 5 are passed: what its layout, the test of its corners and its stages ask for, and what is read
pub record Reader (s : Shape) (even : Bool) (rs : List ℤ) (want : Want) (cell : List ℕ) (step : Place) : Type 0 where
  pub layout-asks : Shaped s × Accepted s (place_at cell)
  pub corners-asks : (l : Layout) → Laid s (place_at cell) l
      → (Shaped s × (length rs ≡ size s)) × (Accepted s (place_at cell) × Laid s (place_at cell) l)
  pub stages-ask : (l : Layout) → Laid s (place_at cell) l → (w : Bool) → w ≡ passed (corners_outcome s rs (place_at cell)) → w ≡ true
      → Ready s rs (place_at cell) step want l
  pub answered : (w : Bool) → w ≡ passed (corners_outcome s rs (place_at cell)) → w ≡ true → (v : Value)
      → v.number ≡ answer_by (rounding_of even) (ask_at s want (place_at cell) step) (records_field s rs)
      → v.exact ≡ exact_by (rounding_of even) (ask_at s want (place_at cell) step) (records_field s rs)
      → (done v.number ≡ reading (finest s even) rs want (place_at cell) step)
      × (v.exact ≡ cell_mark (finest s even) rs want (place_at cell) step)
  pub beyond-asks : (w : Bool) → w ≡ passed (corners_outcome s rs (place_at cell)) → w ≡ false
      → passed (corners_outcome s rs (place_at cell)) ≡ false
  pub stopped : {n p : ℕ} → refused n p ≡ corners_outcome s rs (place_at cell)
      → refused n p ≡ reading (finest s even) rs want (place_at cell) step

pub reader : (s : Shape) (even : Bool) (rs : List ℤ) (want : Want) (cell : List ℕ) (step : Place)
    → tested_outcome (finest s even) rs want (place_at cell) step ≡ done tt → Reader s even rs want cell step
unfolding reading cell_mark
reader s even rs want cell step t =
    let f = near (finest s even) rs want cell step t in
    let a = asked-facts (finest s even) rs want (tested-parts (finest s even) rs want (place_at cell) step t).asked in
    record {
      layout-asks = (f.shape, f.here);
      corners-asks = λ l laid. ((f.shape, f.long), (f.here, laid));
      stages-ask = λ l laid w e h. ready s even rs want cell step t l laid (sym e ∙ h);
      answered = λ w e h v number exact. (
        ap done (number ∙ finest-answer s even want (place_at cell) step a (records_field s rs))
            ∙ sym (reading-passes (finest s even) rs want (place_at cell) step
            (passed-done (corners_outcome s rs (place_at cell)) (sym e ∙ h))),
        exact ∙ finest-mark s even want (place_at cell) step a (records_field s rs),
      );
      beyond-asks = λ w e h. sym e ∙ h;
      stopped = λ e. sym (refused-first _ (sym e));
    }

-- ---- positions

-- a position of the table: on a used axis a step of an accepted cell, on an unused one 0
pub position-range : (t : FullShape) (p : Position) → first_of 3 (position_outcome t p) ≡ done tt → (a : ℕ) → a < 3
    → (non_neg (p a) ≡ true) × (nat_abs (p a) ≤ steps_on t a * (count t.shape a - 1)) × (t.shape.axes ≤ a → nat_abs (p a) ≡ 0)
unfolding position_outcome
position-range t p h a l =
    test_known t.shape (steps_on t a * (count t.shape a - 1)) (p a) a (first_of-each 3 (position_outcome t p) h a l)

-- by the number of steps of a used axis
pub in_cell : (N : ℕ) → step_number N ≡ true → (c P : ℕ) → 2 ≤ c → P ≤ N * (c - 1)
    → (cell_of N c P + 2 ≤ c) × (N * cell_of N c P ≤ P) × (P - N * cell_of N c P ≤ N)
unfolding cell_of
in_cell N ok c P h k =
    by-step-number (λ N. P ≤ N * (c - 1) → (cell_of N c P + 2 ≤ c) × (N * cell_of N c P ≤ P) × (P - N * cell_of N c P ≤ N))
    (λ k. (omega arith, omega arith, omega arith)) (λ k. (omega arith, omega arith, omega arith))
    (λ k. (omega arith, omega arith, omega arith)) (λ k. (omega arith, omega arith, omega arith))
    (λ k. (omega arith, omega arith, omega arith)) N ok k
