-- Coarser axes as the code has them: what is read at a scaled step or position told of the table itself.
use mathlib.Core.Path.{◌≡◌, refl, sym, ap, subst, ◌∙◌}
use mathlib.Core.Bool.{Bool, true, false, not}
use mathlib.Core.List.{List, [], ◌∷◌}
use mathlib.Core.Logic.{◌⊎◌, ⊎_elim}
use Prim.Native.Nat.{ℕ, ◌^◌, ◌≤◌, ◌<◌}
use native.Mathlib.Omega.{arith}
use lib.Dec.{lit≤}
use lib.IntN.{ℤ, nat_abs}
use lib.ListN.{get_or}
use Rattle.arith.specs.Choice.{pick}
use Rattle.arith.proofs.Choices.{by-3, split, clash}
use Rattle.lattice.specs.declared.FullShape.{FullShape}
use Rattle.lattice.specs.Outcome.{done, refused, first, first_of, passed}
use Rattle.lattice.specs.Buffer.{at}
use Rattle.lattice.specs.Shape.{count, steps_on, steps_allowed, step_numbers_outcome, full_outcome, finest_on}
use Rattle.lattice.specs.Axes.{Place}
use Rattle.lattice.proofs.OutcomeLaws.{first_done, refused-first}
use Rattle.lattice.proofs.ShapeLaws.{shaped}
use Rattle.lattice.proofs.StepLaws.{steps-each, full-done, full-shape}
use Rattle.cell.specs.Cell.{place_at}
use Rattle.cell.proofs.CellLaws.{three}
use Rattle.evaluate.specs.Evaluate.{Want}
use Rattle.query.specs.Answers.{Reading, outcome_of_reading, Marks}
use Rattle.query.specs.Queries.{asked_outcome, by_cell, Position, position_at, position_outcome, position_cell, position_step, by_position, cell_mark, position_mark}
use Rattle.query.specs.Parts.{finest, factor_for, factor_on, scaled, scaled_position, Finest, StandsFor, Stand}
use Rattle.query.proofs.QueryLaws.{asked-facts, by-cell-is, finest-small}
use Rattle.query.proofs.Locate.{cell-none, by-position-is}
use Rattle.query.proofs.Coarse.{scaled-stands, scaled-one, position-beyond, scaled-steps, scaled-positions, full-same, allowed_same, finest-allows, factor-one, by-cell-scaled, cell-mark-scaled, by-position-scaled, position-mark-scaled}

-- 1, 2, 3 and 26 refuse every query
module _ (t : FullShape) (rs : List ℤ) (want : Want) {n p : ℕ} (e : full_outcome t ≡ refused n p) where
  asked-stops : asked_outcome t rs want ≡ refused n p
  unfolding asked_outcome
  asked-stops = refused-first _ e

  pub by-cell-stopped : (cell step : Place) → by_cell t rs want cell step ≡ refused n p
  by-cell-stopped cell step = by-cell-is t rs want cell step ∙ refused-first _ asked-stops

  pub by-position-stopped : (q : Position) → by_position t rs want q ≡ refused n p
  unfolding by_position
  by-position-stopped q = refused-first _ asked-stops

-- a table of 256 steps is asked for the numbers themselves
pub itself : (t : FullShape) → (1 ≤ t.shape.axes → (a : ℕ) → a < 3 → steps_on t a ≡ finest_on t.shape.axes a) → (xs ys : List ℕ)
    → ((a : ℕ) → a < 3 → get_or ys a 0 ≡ get_or xs a 0) → Finest t xs ys
itself t fine xs ys is = record {
  same = allowed_same t (λ l. finest-allows t (fine l));
  factor = λ a. 1;
  small = λ a l. lit≤ tt;
  each = λ a l. is a l ∙ sym (scaled-one (get_or xs a 0));
  right = λ full a l. sym (factor-one t (fine (shaped t.shape (full-shape t full)).axes-low) a l);
}

pub back : (b : Bool) → not b ≡ false → b ≡ true
back true e = refl
back false e = clash (cc)

-- a factor as the code finds it: 0 where the step number of axis a is not allowed
abbrev pub Factor : FullShape → ℕ → ℕ → Type 0
Factor t a r =
    let n = t.shape.axes in let k = steps_on t a in
    (steps_allowed n k a ≡ true → r ≡ factor_for n k a) × (steps_allowed n k a ≡ false → r ≡ 0) × (r ≤ 16)

pub factor-told : (t : FullShape) → full_outcome t ≡ done tt → (a : ℕ) → a < 3 → (r : ℕ) → Factor t a r → r ≡ factor_on t a
factor-told t full a l r f = f.0 (steps-each t.shape.axes (steps_on t) (full-done t full).1 a l)

-- step numbers are allowed where no factor is 0
module _ (t : FullShape) (factor : ℕ → ℕ) (is : (a : ℕ) → a < 3 → Factor t a (factor a)) where
  factors-allow : ((a : ℕ) → a < 3 → factor a ≡ 0 → ⊥) → step_numbers_outcome t.shape.axes (steps_on t) ≡ done tt
  unfolding step_numbers_outcome first_of
  factors-allow h = rw (allowed 0 (omega arith), allowed 1 (omega arith), allowed 2 (omega arith)) refl
    where
      allowed : (a : ℕ) → a < 3 → steps_allowed t.shape.axes (steps_on t a) a ≡ true
      allowed a l = split (steps_allowed t.shape.axes (steps_on t a) a) (λ e. e) (λ e. absurd (h a l ((is a l).1 e)))

  -- numbers scaled by the factors, where none is 0 or the shape is not refused
  pub in-factors : (xs ys : List ℕ) → ((a : ℕ) → a < 3 → get_or ys a 0 ≡ scaled (factor a) (get_or xs a 0))
      → (full_outcome t ≡ done tt) ⊎ ((a : ℕ) → a < 3 → factor a ≡ 0 → ⊥) → Finest t xs ys
  in-factors xs ys each came = record {
    same = ⊎_elim (full-same t) (λ h. allowed_same t (λ l. factors-allow h)) came;
    factor = factor;
    small = λ a l. (is a l).2;
    each = each;
    right = λ full a l. factor-told t full a l (factor a) (is a l);
  }

-- what is read on 256 steps told of the table itself
module _ (t : FullShape) (rs : List ℤ) (want : Want) where
  pub in-cell-told : (cell : Place) (step finer : List ℕ) → Finest t step finer
      → (r : Reading) → let f = finest t.shape t.second_edition in
      (outcome_of_reading r ≡ by_cell f rs want cell (place_at finer)) × Marks r (cell_mark f rs want cell (place_at finer))
      → (outcome_of_reading r ≡ by_cell t rs want cell (place_at step)) × Marks r (cell_mark t rs want cell (place_at step))
  unfolding place_at pick
  in-cell-told cell step finer g r h =
      let is : full_outcome t ≡ done tt → (a : ℕ) → a < 3 → place_at finer a ≡ scaled (factor_on t a) (place_at step a) =
      (λ full. by-3 (λ (a : ℕ). place_at finer a ≡ scaled (factor_on t a) (place_at step a))
      (g.each 0 (omega arith) ∙ ap (λ (f : ℕ). scaled f (get_or step 0 0)) (g.right full 0 (omega arith)))
      (g.each 1 (omega arith) ∙ ap (λ (f : ℕ). scaled f (get_or step 1 0)) (g.right full 1 (omega arith)))
      (g.each 2 (omega arith) ∙ ap (λ (f : ℕ). scaled f (get_or step 2 0)) (g.right full 2 (omega arith)))) in
      let told = h.0 ∙ by-cell-scaled t g.same rs want cell (place_at step) (place_at finer)
      (λ e. scaled-steps t (place_at step) (place_at finer) (is e)) in (
        told,
        λ given. h.1 given
            ∙ cell-mark-scaled t g.same rs want cell (place_at step) (place_at finer)
            (λ e. scaled-steps t (place_at step) (place_at finer) (is e)) (sym (ap passed told) ∙ given),
      )

  pub position-told : (p : List ℤ) (from finer : List ℕ) → Stand p from → Finest t from finer
      → (r : Reading) → let f = finest t.shape t.second_edition in
      ((q : List ℤ) → Stand q finer
      → (outcome_of_reading r ≡ by_position f rs want (position_at q)) × Marks r (position_mark f rs want (position_at q)))
      → (outcome_of_reading r ≡ by_position t rs want (position_at p)) × Marks r (position_mark t rs want (position_at p))
  unfolding position_at pick
  position-told p from finer st g r read =
      let xs = scaled_position (g.factor 0) (at p 0) ∷ scaled_position (g.factor 1) (at p 1) ∷ scaled_position (g.factor 2) (at p 2) ∷ [] in
      let q = position_at xs in
      let h = read xs (by-3 (λ (a : ℕ). StandsFor (at xs a) (get_or finer a 0)) (stands 0 (omega arith)) (stands 1 (omega arith))
      (stands 2 (omega arith))) in
      let is : full_outcome t ≡ done tt → (a : ℕ) → a < 3 → q a ≡ scaled_position (factor_on t a) (position_at p a) =
      (λ full. by-3 (λ (a : ℕ). position_at xs a ≡ scaled_position (factor_on t a) (position_at p a))
      (ap (λ (f : ℕ). scaled_position f (at p 0)) (g.right full 0 (omega arith)))
      (ap (λ (f : ℕ). scaled_position f (at p 1)) (g.right full 1 (omega arith)))
      (ap (λ (f : ℕ). scaled_position f (at p 2)) (g.right full 2 (omega arith)))) in
      let none : (a : ℕ) → 3 ≤ a → (nat_abs (position_at p a) ≡ 0) × (nat_abs (position_at xs a) ≡ 0) =
      (λ a l. (ap nat_abs (position-beyond p a l), ap nat_abs (position-beyond xs a l))) in
      let told = h.0 ∙ by-position-scaled t g.same rs want (position_at p) q (λ e. scaled-positions t (position_at p) q (is e)) none in (
        told,
        λ given. h.1 given
            ∙ position-mark-scaled t g.same rs want (position_at p) q (λ e. scaled-positions t (position_at p) q (is e)) none
            (sym (ap passed told) ∙ given),
      )
    where
      stands : (a : ℕ) → a < 3 → StandsFor (scaled_position (g.factor a) (at p a)) (get_or finer a 0)
      stands a l = subst (StandsFor (scaled_position (g.factor a) (at p a))) (sym (g.each a l))
          (scaled-stands (g.factor a) (at p a) (get_or from a 0) (g.small a l) (st a l))

-- ---- every table: an answer is below 2^24

pub by-cell-small : (t : FullShape) (rs : List ℤ) (want : Want) (cell : List ℕ) (step : Place) (v : ℤ)
    → by_cell t rs want (place_at cell) step ≡ done v → nat_abs v < 2 ^ 24
by-cell-small t rs want cell step v h =
    let full = (asked-facts t rs want
    (first_done (asked_outcome t rs want) _ v (sym (by-cell-is t rs want (place_at cell) step) ∙ h)).0).full in
    finest-small t.shape t.second_edition rs want cell (λ a. scaled (factor_on t a) (step a)) v
    (by-cell-scaled t (full-same t full) rs want (place_at cell) step (λ a. scaled (factor_on t a) (step a))
    (λ e. scaled-steps t step (λ a. scaled (factor_on t a) (step a)) (λ a l. refl)) ∙ h)

-- the cell of a position as three numbers
in_three : (t : FullShape) (p : Position) → ((a : ℕ) → 3 ≤ a → nat_abs (p a) ≡ 0)
    → place_at (position_cell t p 0 ∷ position_cell t p 1 ∷ position_cell t p 2 ∷ []) ≡ position_cell t p
unfolding position_cell
in_three t p none =
    three _ _ _ (position_cell t p) refl refl refl (λ a l. cell-none (steps_on t a) (count t.shape a) (nat_abs (p a)) (none a l))

pub by-position-small : (t : FullShape) (rs : List ℤ) (want : Want) (xs : List ℤ) (v : ℤ) → by_position t rs want (position_at xs) ≡ done v
    → nat_abs v < 2 ^ 24
unfolding by_position
by-position-small t rs want xs v h =
    let p = position_at xs in
    let f = first_done (asked_outcome t rs want) (first (first_of 3 (position_outcome t p)) _) v h in
    let k = (first_done (first_of 3 (position_outcome t p)) _ v f.1).0 in
    by-cell-small t rs want (position_cell t p 0 ∷ position_cell t p 1 ∷ position_cell t p 2 ∷ []) (position_step t p) v
    (ap (λ (c : Place). by_cell t rs want c (position_step t p)) (in_three t p (λ a l. ap nat_abs (position-beyond xs a l)))
    ∙ sym (by-position-is t rs want p k) ∙ h)
