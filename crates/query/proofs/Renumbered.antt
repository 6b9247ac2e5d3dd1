-- Refusals under another number: a query's tests one after the other, those whose numbers stay, 22 for 11 by position.
use mathlib.Core.Path.{◌≡◌, refl, sym, ap, ap₂, ◌∙◌}
use mathlib.Core.Bool.{Bool, true, false, ◌&&◌, ◌||◌}
use mathlib.Core.List.{List}
use mathlib.Core.Logic.{◌⊎◌, inl, inr}
use Prim.Native.Nat.{ℕ, zero, suc, ◌<◌}
use native.Mathlib.Omega.{arith}
use lib.Dec.{leb, ltb, eqb}
use lib.IntN.{ℤ, nat_abs}
use lib.ListN.{length}
use borrow.Author.Tests.{eqb-true}
use Rattle.arith.specs.Choice.{pick}
use Rattle.arith.proofs.Choices.{clash, split, pick_true, pick-false}
use Rattle.lattice.specs.declared.Shape.{Shape}
use Rattle.lattice.specs.declared.FullShape.{FullShape}
use Rattle.lattice.specs.Outcome.{Outcome, Check, done, refused, refuse_unless, first, first_of}
use Rattle.lattice.specs.Shape.{count, steps_on, orders, size, shape_outcome, axes_outcome, degree_outcome, counts_outcome, count_allowed, steps_allowed, step_numbers_outcome, full_outcome}
use Rattle.lattice.specs.Axes.{Place}
use Rattle.lattice.specs.Records.{records_field, entry_index, entry_limit}
use Rattle.cell.specs.Cell.{corner_entries, corner_place, entry_outcome, corners_outcome}
use Rattle.evaluate.specs.Evaluate.{Want, dose, derivative_along}
use Rattle.query.specs.Parts.{renumbered, below, position_number, number_by}
use Rattle.query.specs.Queries.{want_outcome, asked_outcome, reading}

-- the numbers of a position's test
abbrev pub of_position : ℕ → Bool
of_position n = eqb n 11 || (eqb n 22 || eqb n 23)

module _ (told : ℕ → ℕ → ℕ) where
  pub renumbered-first : {A : Type 0} (c : Check) (o : Outcome A)
      → renumbered told (first c o) ≡ first (renumbered told c) (renumbered told o)
  renumbered-first (done tt) o = refl
  renumbered-first (refused n p) o = refl

  pub renumbered-each : (n : ℕ) (f g : ℕ → Check) → ((a : ℕ) → a < n → renumbered told (f a) ≡ g a)
      → renumbered told (first_of n f) ≡ first_of n g
  unfolding first_of
  renumbered-each zero f g h = refl
  renumbered-each (suc n) f g h =
      renumbered-first (first_of n f) (f n)
      ∙ ap₂ (λ (c d : Check). first c d) (renumbered-each n f g (λ a l. h a (omega arith))) (h n (omega arith))

  pub renumbered-test : (t : Bool) (n p : ℕ) → renumbered told (refuse_unless t n p) ≡ refuse_unless t (told n p) p
  renumbered-test true n p = refl
  renumbered-test false n p = refl

  -- what is given stays
  pub renumbered-done : {A : Type 0} (o : Outcome A) (v : A) → renumbered told o ≡ done v → o ≡ done v
  renumbered-done (done w) v e = e
  renumbered-done (refused n p) v e = cc

  -- where the number stays
  pub kept_test : (t : Bool) (n p : ℕ) → told n p ≡ n → renumbered told (refuse_unless t n p) ≡ refuse_unless t n p
  kept_test t n p e = renumbered-test t n p ∙ ap (λ (k : ℕ). refuse_unless t k p) e

  pub kept-first : {A : Type 0} (c : Check) (o : Outcome A) → renumbered told c ≡ c → renumbered told o ≡ o
      → renumbered told (first c o) ≡ first c o
  kept-first c o e f = renumbered-first c o ∙ ap₂ (λ (d : Check) (q : Outcome _). first d q) e f

  -- only the numbers of a position's test are told by others
  module _ (keeps : (n p : ℕ) → of_position n ≡ false → told n p ≡ n) where
    kept-want : (s : Shape) (want : Want) → renumbered told (want_outcome s want) ≡ want_outcome s want
    unfolding want_outcome
    kept-want s dose = refl
    kept-want s (derivative_along order l) =
        kept-first _ _ (kept_test (ltb l s.axes) 12 0 (keeps 12 0 refl)) (kept_test (ltb order (orders s)) 21 0 (keeps 21 0 refl))

    kept-shape : (s : Shape) → renumbered told (shape_outcome s) ≡ shape_outcome s
    unfolding shape_outcome axes_outcome degree_outcome counts_outcome
    kept-shape s =
        kept-first _ _ (kept_test (leb 1 s.axes && leb s.axes 3) 1 0 (keeps 1 0 refl))
        (kept-first _ _ (kept_test (eqb s.degree 3 || eqb s.degree 5) 2 0 (keeps 2 0 refl))
        (renumbered-each 3 _ _ (λ a l. kept_test (count_allowed s.axes (count s a) a) 3 a (keeps 3 a refl))))

    -- 1, 2, 3, 26, 4, 12 and 21 stay
    pub kept-asked : (t : FullShape) (rs : List ℤ) (want : Want) → renumbered told (asked_outcome t rs want) ≡ asked_outcome t rs want
    unfolding asked_outcome full_outcome step_numbers_outcome
    kept-asked t rs want =
        let s = t.shape in
        kept-first _ _
        (kept-first _ _ (kept-shape s)
        (renumbered-each 3 _ _ (λ a l. kept_test (steps_allowed s.axes (steps_on t a) a) 26 a (keeps 26 a refl))))
        (kept-first _ _ (kept_test (eqb (length rs) (size s)) 4 0 (keeps 4 0 refl)) (kept-want s want))

    -- and 5
    pub kept-reading : (t : FullShape) (rs : List ℤ) (want : Want) (cell u : Place)
        → renumbered told (reading t rs want cell u) ≡ reading t rs want cell u
    unfolding reading corners_outcome entry_outcome
    kept-reading t rs want cell u =
        let s = t.shape in
        kept-first (corners_outcome s rs cell) _ (renumbered-each (corner_entries s) _ _ (λ i l.
        let p = corner_place s cell i in
        kept_test (leb (nat_abs (records_field s rs p)) (entry_limit (orders s) s.axes p)) 5 (entry_index s p)
        (keeps 5 (entry_index s p) refl))) refl

    -- a query: the common tests, the tests of its position, and what is read
    pub renumbered-query : (t : FullShape) (rs : List ℤ) (want : Want) (tests : Check) (cell u : Place)
        → renumbered told (first (asked_outcome t rs want) (first tests (reading t rs want cell u)))
        ≡ first (asked_outcome t rs want) (first (renumbered told tests) (reading t rs want cell u))
    renumbered-query t rs want tests cell u =
        renumbered-first (asked_outcome t rs want) (first tests (reading t rs want cell u))
        ∙ ap₂ (λ (c : Check) (o : Outcome ℤ). first c o) (kept-asked t rs want)
        (renumbered-first tests (reading t rs want cell u)
        ∙ ap (λ (o : Outcome ℤ). first (renumbered told tests) o) (kept-reading t rs want cell u))

-- ---- by position: 22 for 11

module _ (cell step : Place) where
  pub position-below : (n p : ℕ) → eqb n 11 ≡ true → below cell step p ≡ true → 22 ≡ position_number cell step n p
  unfolding position_number
  position-below n p f g = sym (pick_true (eqb n 11 && below cell step p) 22 n (rw (f, g) refl))

  pub position-kept : (n p : ℕ) → (eqb n 11 ≡ true → below cell step p ≡ false) → position_number cell step n p ≡ n
  unfolding position_number
  position-kept n p h = pick-false (eqb n 11 && below cell step p) 22 n (split (eqb n 11) (λ e. rw e (h e)) (λ e. rw e refl))

  pub position-keeps : (n p : ℕ) → of_position n ≡ false → position_number cell step n p ≡ n
  position-keeps n p e = position-kept n p (λ f. clash (cc))

  -- the same outcome, or 22 for 11
  pub position-or : {A : Type 0} (o : Outcome A) {q : Outcome A} → renumbered (position_number cell step) o ≡ q
      → (o ≡ q) ⊎ ((a : ℕ) × (o ≡ refused 11 a) × (q ≡ refused 22 a))
  position-or (done v) e = inl e
  position-or (refused n p) {q} e =
      split (eqb n 11)
      (λ f.
      split (below cell step p)
      (λ g. inr (
        p,
        ap (λ (k : ℕ). refused k p) (eqb-true n 11 f),
        sym e ∙ ap (λ (k : ℕ). refused k p) (sym (position-below n p f g)),
      ))
      (λ g. inl (ap (λ (k : ℕ). refused k p) (sym (position-kept n p (λ h. g))) ∙ e)))
      (λ f. inl (ap (λ (k : ℕ). refused k p) (sym (position-kept n p (λ h. clash (cc)))) ∙ e))

-- ---- by cell the number stays

module _ (cell step : Place) where
  pub number-by-cell : (n p : ℕ) → number_by true cell step n p ≡ n
  unfolding number_by pick
  number-by-cell n p = refl

  pub number-by-position : (n p : ℕ) → number_by false cell step n p ≡ position_number cell step n p
  unfolding number_by pick
  number-by-position n p = refl

  pub by-cell-stays : {A : Type 0} (o : Outcome A) → renumbered (number_by true cell step) o ≡ o
  by-cell-stays (done v) = refl
  by-cell-stays (refused n p) = ap (λ (k : ℕ). refused k p) (number-by-cell n p)

  pub by-position-told : {A : Type 0} (o : Outcome A)
      → renumbered (number_by false cell step) o ≡ renumbered (position_number cell step) o
  by-position-told (done v) = refl
  by-position-told (refused n p) = ap (λ (k : ℕ). refused k p) (number-by-position n p)

  pub number-keeps : (by_cell : Bool) (n p : ℕ) → of_position n ≡ false → number_by by_cell cell step n p ≡ n
  number-keeps true n p e = number-by-cell n p
  number-keeps false n p e = number-by-position n p ∙ position-keeps cell step n p e
