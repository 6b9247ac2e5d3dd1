-- Where a position stands: the query by position is the query by the cell and the in-cell step of the number that stands for it in two's
-- complement, but that 11 is told where the position is below 0.
use mathlib.Core.Path.{◌≡◌, refl, sym, ap, ap₂, subst, ◌∙◌, fun_ext}
use mathlib.Core.Bool.{Bool, true, false}
use mathlib.Core.List.{List, [], ◌∷◌}
use mathlib.Core.Logic.{◌⊎◌}
use Prim.Native.Nat.{ℕ, ◌+◌, ◌*◌, ◌-◌, ◌^◌, ◌≤◌, ◌<◌, min}
use native.Mathlib.Nat.{mul-zero, zero-div}
use native.Mathlib.Omega.{arith}
use native.Mathlib.Decide.{dec_lt}
use lib.Dec.{leb, ltb, eqb}
use lib.IntN.{ℤ, pos, negsuc, nat_abs}
use lib.ListN.{get_or}
use lib.Signed.{non_neg, mag}
use mir.Syntax.{w32}
use mir.Val.{Fits, to_z, of_z}
use borrow.Author.Tests.{leb-true, lt-leb, le-leb, ne_eqb, lt-ltb, le-ltb}
use Rattle.arith.specs.Choice.{pick}
use Rattle.arith.specs.Int.{unsigned_of}
use Rattle.arith.proofs.Machine.{element}
use Rattle.arith.proofs.Choices.{clash, split, pick_true, pick-false, by-3, from-3}
use Rattle.arith.proofs.Bits.{same_test}
use Rattle.lattice.specs.declared.Shape.{Shape}
use Rattle.lattice.specs.declared.FullShape.{FullShape}
use Rattle.lattice.specs.Outcome.{Outcome, Check, done, refused, refuse_unless, first, first_of, passed}
use Rattle.lattice.specs.Buffer.{at}
use Rattle.lattice.specs.Shape.{count, steps_on, full_outcome, Shaped}
use Rattle.lattice.specs.Axes.{Place}
use Rattle.lattice.proofs.ShapeLaws.{shaped}
use Rattle.lattice.proofs.StepLaws.{full-shape, full-stepped}
use Rattle.lattice.proofs.OutcomeLaws.{first_passes, first-passed, first-after}
use Rattle.hermite.specs.Hermite.{steps}
use Rattle.cell.specs.Cell.{place_at, cell_outcome}
use Rattle.cell.proofs.CellLaws.{place-beyond, indices, cell-passes}
use Rattle.evaluate.specs.Evaluate.{Want}
use Rattle.query.specs.Answers.{Reading, outcome_of_reading, Marks}
use Rattle.query.specs.Queries.{asked_outcome, reading, position_test, steps_outcome, by_cell, Position, position_at, position_outcome, cell_of, position_cell, position_step, by_position, cell_mark, position_mark}
use Rattle.query.specs.Parts.{renumbered, below, position_number, number_by, finest, cell_on, InCells, StandsFor, Stand}
use Rattle.query.proofs.QueryLaws.{asked-facts, by-cell-is, used-test, unused-test, finest-used, steps-pass, position-range, in_cell}
use Rattle.query.proofs.Renumbered.{renumbered-first, renumbered-each, renumbered-test, kept-asked, renumbered-query, position-keeps, position-or, by-cell-stays, by-position-told}

-- ---- the cell that the code finds

-- a cell starts at or below its positions
module _ (count p i : ℕ) (e : i ≡ cell_of steps count p) where
  pub cell_below : 256 * i ≤ p
  unfolding cell_of
  cell_below = omega arith

  pub cell-held : p < 2 ^ 32 → Fits w32 (256 * i)
  cell-held f = let l = cell_below in record { fits = omega arith }

pub cell-on-below : (s : Shape) (a p i : ℕ) → i ≡ cell_on s a p → 256 * i ≤ p
unfolding cell_on
cell-on-below s a p i e = split (ltb a s.axes)
    (λ h. cell_below (count s a) p i (e ∙ pick_true (ltb a s.axes) (cell_of steps (count s a) p) 0 h))
    (λ h. let f = e ∙ pick-false (ltb a s.axes) (cell_of steps (count s a) p) 0 h in omega arith)

-- ---- one axis

stands : (p : ℤ) → mag p < 2 ^ 31 → StandsFor p (unsigned_of p)
unfolding unsigned_of
stands (pos n) h = record { low = λ e. (refl, h); high = λ e. clash (cc) }
stands (negsuc n) h = record { low = λ e. clash (cc); high = λ e. omega arith }

-- as the code has it
pub stands-for : (p : ℤ) {b : ℕ} → mag p < 2 ^ 31 → b ≡ unsigned_of (to_z w32 (of_z w32 p)) → StandsFor p b
stands-for p h e = subst (StandsFor p) (sym (e ∙ ap unsigned_of (element p h))) (stands p h)

-- the tests of the in-cell step are those of the position, on a used axis
module _ (c : ℕ) (b : ℕ) where
  abbrev u : ℕ
  u = b - steps * cell_of steps c b

  beyond-same : (n : ℕ) → 2 ≤ c → b ≡ n → leb u steps ≡ leb n (steps * (c - 1))
  unfolding cell_of
  beyond-same n h e =
      same_test (leb u steps) (leb n (steps * (c - 1)))
      (λ t. le-leb n (steps * (c - 1)) (let l = leb-true u steps t in omega arith))
      (λ t. le-leb u steps (let l = leb-true n (steps * (c - 1)) t in omega arith))

  below-beyond : c ≤ 64 → 2 ^ 31 ≤ b → leb u steps ≡ false
  unfolding cell_of
  below-beyond k e = lt-leb u steps (omega arith)

  -- the cell and the in-cell step give the number back
  whole_again : steps * cell_of steps c b + u ≡ b
  unfolding cell_of
  whole_again = omega arith

-- ---- three axes

-- the cell and the in-cell step, on 256 steps, of the numbers b that stand for a position
pub record Located (s : Shape) (p : Position) (b : ℕ → ℕ) (cell step : Place) : Type 0 where
  pub stand : (a : ℕ) → a < 3 → StandsFor (p a) (b a)
  pub cell-is : (a : ℕ) → cell a ≡ cell_of steps (count s a) (b a)
  pub step_is : (a : ℕ) → step a ≡ b a - steps * cell a
  pub beyond : (a : ℕ) → 3 ≤ a → (b a ≡ 0) × (nat_abs (p a) ≡ 0)

-- 0 is in the first cell, and an unused axis has no other
pub cell-none : (N c n : ℕ) → n ≡ 0 → cell_of N c n ≡ 0
unfolding cell_of
cell-none N c n e = rw (e, zero-div N) (zero-min (c - 2))
  where
    zero-min : (k : ℕ) → min 0 k ≡ 0
    zero-min k = omega arith

pub cell-only : (N n : ℕ) → cell_of N 1 n ≡ 0
unfolding cell_of
cell-only N n = omega arith

module _ (s : Shape) (even : Bool) (p : Position) (b : ℕ → ℕ) (cell step : Place) (l : Located s p b cell step) (f : Shaped s) where
  -- no cell of a position is refused
  pub located-cells : cell_outcome s cell ≡ done tt
  unfolding cell_of
  located-cells = cell-passes s cell (λ a k. let e = l.cell-is a in let i = f.used a k in omega arith)
      (λ a h k. let e = l.cell-is a in let i = f.unused a h k in omega arith)

  abbrev pub number : ℕ → ℕ → ℕ
  number = position_number cell step

  abbrev t : FullShape
  t = finest s even

  abbrev last : ℕ → ℕ
  last a = steps * (count s a - 1)

  module _ (a : ℕ) (h : a < 3) where
    at-step : step a ≡ b a - steps * cell_of steps (count s a) (b a)
    at-step = l.step_is a ∙ ap (λ (i : ℕ). b a - steps * i) (l.cell-is a)

    -- whether the position is below 0, by its cell and step
    below-is : below cell step a ≡ leb (2 ^ 31) (b a)
    unfolding below
    below-is =
        ap₂ (λ (i j : ℕ). leb (2 ^ 31) (steps * i + j)) (l.cell-is a) at-step ∙ ap (leb (2 ^ 31)) (whole_again (count s a) (b a))

    on-used : (z : ℤ) → p a ≡ z → a < s.axes
        → refuse_unless (leb (step a) steps) (number 11 a) a
        ≡ first (refuse_unless (non_neg z) 22 a) (refuse_unless (leb (nat_abs z) (last a)) 11 a)
    unfolding position_number pick
    on-used (pos n) e k =
        let f = (l.stand a h).low (ap non_neg e) in
        let i : b a ≡ n = f.0 ∙ ap nat_abs e in
        rw (below-is, lt-leb (2 ^ 31) (b a) f.1)
        (ap (λ (t : Bool). refuse_unless t 11 a) (ap (λ (i : ℕ). leb i steps) at-step ∙ beyond-same (count s a) (b a) n (f2 k) i))
      where
        f2 : a < s.axes → 2 ≤ count s a
        f2 k = f.used a k
    on-used (negsuc n) e k =
        let g = (l.stand a h).high (ap non_neg e) in
        rw (below-is, le-leb (2 ^ 31) (b a) g)
        (ap (λ (t : Bool). refuse_unless t 22 a) (ap (λ (i : ℕ). leb i steps) at-step ∙ below-beyond (count s a) (b a) (f.high a h) g))

    on-unused : (z : ℤ) → p a ≡ z → count s a ≡ 1 → eqb (step a) 0 ≡ eqb (nat_abs z) 0
    unfolding cell_of
    on-unused (pos n) e k =
        let i : b a ≡ n = ((l.stand a h).low (ap non_neg e)).0 ∙ ap nat_abs e in
        let j = at-step in
        let same : step a ≡ n = omega arith in
        ap (λ (i : ℕ). eqb i 0) same
    on-unused (negsuc n) e k =
        let g = (l.stand a h).high (ap non_neg e) in
        let j = at-step in
        ne_eqb (step a) 0 (λ z. absurd (omega arith)) ∙ sym (ne_eqb (nat_abs (negsuc n)) 0 (λ z. absurd (omega arith)))

    one : renumbered number (position_test s (steps_on t a) (pos (step a)) a) ≡ position_test s (steps_on t a * (count s a - 1)) (p a) a
    unfolding position_number pick
    one = go (dec_lt a s.axes)
      where
        go : Dec (a < s.axes)
            → renumbered number (position_test s (steps_on t a) (pos (step a)) a) ≡ position_test s (steps_on t a * (count s a - 1)) (p a) a
        go (yes k) =
            let e = lt-ltb a s.axes k in
            rw (finest-used s even a h k)
            (ap (renumbered number) (used-test s steps (pos (step a)) a e) ∙ renumbered-test number (leb (step a) steps) 11 a
            ∙ on-used (p a) refl k ∙ sym (used-test s (last a) (p a) a e))
        go (no k) =
            let e = le-ltb a s.axes (omega (arith, k)) in
            ap (renumbered number) (unused-test s (steps_on t a) (pos (step a)) a e) ∙ renumbered-test number (eqb (step a) 0) 23 a
            ∙ ap (λ (t : Bool). refuse_unless t 23 a) (on-unused (p a) refl (f.unused a h (omega (arith, k))))
            ∙ sym (unused-test s (steps_on t a * (count s a - 1)) (p a) a e)

  -- the tests of the in-cell step, with 22 for 11 where the position is below 0, are those of the position
  pub located-tests : renumbered number (steps_outcome (finest s even) step) ≡ first_of 3 (position_outcome (finest s even) p)
  unfolding steps_outcome position_outcome
  located-tests = renumbered-each number 3 (λ a. position_test s (steps_on t a) (pos (step a)) a) (position_outcome t p) one

  only : (a : ℕ) → a < 3 → s.axes ≤ a → position_cell t p a ≡ 0
  unfolding position_cell
  only a k u = rw (f.unused a k u) (cell-only (steps_on t a) (nat_abs (p a)))

  -- the cell and the in-cell step of a position that is not refused
  module _ (h : first_of 3 (position_outcome (finest s even) p) ≡ done tt) where
    is-here : (a : ℕ) → a < 3 → b a ≡ nat_abs (p a)
    is-here a k = ((l.stand a k).low (position-range t p h a k).0).0

    pub located-cell : cell ≡ position_cell (finest s even) p
    unfolding position_cell
    located-cell = fun_ext (λ a. go a (dec_lt a 3))
      where
        there : (a : ℕ) → a < 3 → Dec (a < s.axes) → cell_of steps (count s a) (b a) ≡ cell_of (steps_on t a) (count s a) (nat_abs (p a))
        there a k (yes u) = rw (finest-used s even a k u, is-here a k) refl
        there a k (no u) = rw (f.unused a k (omega (arith, u)))
            (cell-only steps (b a) ∙ sym (cell-only (steps_on t a) (nat_abs (p a))))

        go : (a : ℕ) → Dec (a < 3) → cell a ≡ cell_of (steps_on t a) (count s a) (nat_abs (p a))
        go a (yes k) = l.cell-is a ∙ there a k (dec_lt a s.axes)
        go a (no k) =
            let e = l.beyond a (omega arith) in
            l.cell-is a ∙ cell-none steps (count s a) (b a) e.0 ∙ sym (cell-none (steps_on t a) (count s a) (nat_abs (p a)) e.1)

    pub located-step : step ≡ position_step (finest s even) p
    unfolding position_step
    located-step = fun_ext (λ a. l.step_is a ∙ go a (dec_lt a 3))
      where
        same : (a : ℕ) → cell a ≡ position_cell t p a
        same a = ap (λ (g : Place). g a) located-cell

        less : (N M b n c : ℕ) → b ≡ n → c ≡ 0 → b - N * c ≡ n - M * c
        less N M b n c e z = rw (e, z, mul-zero N, mul-zero M) refl

        there : (a : ℕ) → a < 3 → Dec (a < s.axes) → b a - steps * position_cell t p a ≡ nat_abs (p a) - steps_on t a * position_cell t p a
        there a k (yes u) = rw (finest-used s even a k u, is-here a k) refl
        there a k (no u) = less steps (steps_on t a) (b a) (nat_abs (p a)) (position_cell t p a) (is-here a k) (only a k (omega (arith, u)))

        go : (a : ℕ) → Dec (a < 3) → b a - steps * cell a ≡ nat_abs (p a) - steps_on t a * position_cell t p a
        go a (yes k) = ap (λ (i : ℕ). b a - steps * i) (same a) ∙ there a k (dec_lt a s.axes)
        go a (no k) = let e = l.beyond a (omega arith) in rw (e.0, e.1) (none (steps * cell a) (steps_on t a * position_cell t p a))
          where
            none : (i j : ℕ) → 0 - i ≡ 0 - j
            none i j = omega arith

-- the cell and the in-cell step of a position of the table pass their tests
module _ (t : FullShape) (p : Position) (h : first_of 3 (position_outcome t p) ≡ done tt) (full : full_outcome t ≡ done tt) where
  abbrev f : Shaped t.shape
  f = shaped t.shape (full-shape t full)

  low : {a : ℕ} → a < t.shape.axes → a < 3
  low l = let k = f.axes-high in omega arith

  own : (a : ℕ) → a < t.shape.axes → let N = steps_on t a in let c = count t.shape a in let P = nat_abs (p a) in
      (cell_of N c P + 2 ≤ c) × (N * cell_of N c P ≤ P) × (P - N * cell_of N c P ≤ N)
  own a l = in_cell (steps_on t a) ((full-stepped t full).used a (low l) l) (count t.shape a) (nat_abs (p a)) (f.used a l)
      (position-range t p h a (low l)).1

  own-cells : cell_outcome t.shape (position_cell t p) ≡ done tt
  unfolding position_cell
  own-cells = cell-passes t.shape (position_cell t p) (λ a l. (own a l).0)
      (λ a l k. cell-none (steps_on t a) (count t.shape a) (nat_abs (p a)) ((position-range t p h a l).2 k))

  own-steps : steps_outcome t (position_step t p) ≡ done tt
  unfolding position_cell position_step
  own-steps = steps-pass t (position_step t p) (λ a l. (own a l).2)
      (λ a l k. let e = (position-range t p h a l).2 k in omega arith)

-- on 256 steps, for every position in 32 bits: the query by position is the query by its cell and in-cell step, with 22 for 11 where it is
-- below 0, which cell and step do not tell
pub located : (s : Shape) (even : Bool) (rs : List ℤ) (want : Want) (p : Position) (b : ℕ → ℕ) (cell step : Place)
    → Located s p b cell step
    → renumbered (position_number cell step) (by_cell (finest s even) rs want cell step) ≡ by_position (finest s even) rs want p
unfolding by_position
located s even rs want p b cell step l =
    ap (renumbered number) (by-cell-is t rs want cell step)
    ∙ renumbered-query number (position-keeps cell step) t rs want (first (cell_outcome s cell) (steps_outcome t step)) cell step
    ∙ first-after (asked_outcome t rs want)
    (first (renumbered number (first (cell_outcome s cell) (steps_outcome t step))) (reading t rs want cell step))
    (first (first_of 3 (position_outcome t p)) (reading t rs want (position_cell t p) (position_step t p)))
    (λ a. let f = shaped s (asked-facts t rs want a).shape in
    ap (λ (c : Check). first (renumbered number c) (reading t rs want cell step))
    (first-passed (cell_outcome s cell) (steps_outcome t step) (located-cells s even p b cell step l f))
    ∙ ap (λ (c : Check). first c (reading t rs want cell step)) (located-tests s even p b cell step l f)
    ∙ first-after (first_of 3 (position_outcome t p)) (reading t rs want cell step)
    (reading t rs want (position_cell t p) (position_step t p))
    (λ h. ap₂ (reading t rs want) (located-cell s even p b cell step l f h) (located-step s even p b cell step l f h)))
  where
    t : FullShape
    t = finest s even

    number : ℕ → ℕ → ℕ
    number = position_number cell step

-- and so is its mark, where it is not refused
pub located-mark : (s : Shape) (even : Bool) (rs : List ℤ) (want : Want) (p : Position) (b : ℕ → ℕ) (cell step : Place)
    → Located s p b cell step → passed (by_position (finest s even) rs want p) ≡ true
    → cell_mark (finest s even) rs want cell step ≡ position_mark (finest s even) rs want p
unfolding by_position position_mark
located-mark s even rs want p b cell step l given =
    let t = finest s even in
    let read = reading t rs want (position_cell t p) (position_step t p) in
    let a = first_passes (asked_outcome t rs want) (first (first_of 3 (position_outcome t p)) read) given in
    let h = (first_passes (first_of 3 (position_outcome t p)) read a.1).0 in
    let f = shaped s (asked-facts t rs want a.0).shape in
    ap₂ (cell_mark t rs want) (located-cell s even p b cell step l f h) (located-step s even p b cell step l f h)

-- so it says the same by its cell and in-cell step, or says 22 where they say 11
pub located-or : (s : Shape) (even : Bool) (rs : List ℤ) (want : Want) (p : Position) (b : ℕ → ℕ) (cell step : Place)
    → Located s p b cell step → let t = finest s even in
    (by_cell t rs want cell step ≡ by_position t rs want p)
    ⊎ ((a : ℕ) × (by_cell t rs want cell step ≡ refused 11 a) × (by_position t rs want p ≡ refused 22 a))
located-or s even rs want p b cell step l =
    position-or cell step (by_cell (finest s even) rs want cell step) (located s even rs want p b cell step l)

-- in a table: the query by the position's own cell and step
pub by-position-is : (t : FullShape) (rs : List ℤ) (want : Want) (p : Position) → first_of 3 (position_outcome t p) ≡ done tt
    → by_position t rs want p ≡ by_cell t rs want (position_cell t p) (position_step t p)
unfolding by_position
by-position-is t rs want p h =
    first-after (asked_outcome t rs want) (first (first_of 3 (position_outcome t p)) read) (first (first cells steps-there) read)
    (λ a. let full = (asked-facts t rs want a).full in
    first-passed (first_of 3 (position_outcome t p)) read h
    ∙ sym (first-passed (first cells steps-there) read
    (first-passed cells steps-there (own-cells t p h full) ∙ own-steps t p h full)))
    ∙ sym (by-cell-is t rs want (position_cell t p) (position_step t p))
  where
    read : Outcome ℤ
    read = reading t rs want (position_cell t p) (position_step t p)

    cells : Check
    cells = cell_outcome t.shape (position_cell t p)

    steps-there : Check
    steps-there = steps_outcome t (position_step t p)

-- by what the code has of three axes
pub located-axes : (s : Shape) (xs : List ℤ) (x y z i j k : ℕ) → StandsFor (at xs 0) x → StandsFor (at xs 1) y → StandsFor (at xs 2) z
    → i ≡ cell_of steps (count s 0) x → j ≡ cell_of steps (count s 1) y → k ≡ cell_of steps (count s 2) z
    → Located s (position_at xs) (place_at (x ∷ y ∷ z ∷ [])) (place_at (i ∷ j ∷ k ∷ []))
    (place_at ((x - 256 * i) ∷ (y - 256 * j) ∷ (z - 256 * k) ∷ []))
unfolding place_at position_at pick cell_of
located-axes s xs x y z i j k p q r e f g =
    record {
      stand = by-3 (λ (a : ℕ). StandsFor (position_at xs a) (place_at numbers a)) p q r;
      cell-is = from-3 (λ a. place_at cell a ≡ cell_of steps (count s a) (place_at numbers a)) e f g
          (λ a h. let l = place-beyond numbers a h in let m = place-beyond cell a h in omega arith);
      step_is = from-3 (λ a. place_at step a ≡ place_at numbers a - steps * place_at cell a) refl refl refl
          (λ a h. let l = place-beyond numbers a h in let m = place-beyond step a h in omega arith);
      beyond = λ a h. (place-beyond numbers a h, ap nat_abs (pick-false (ltb a 3) (at xs a) (pos 0) (le-ltb a 3 h)));
    }
  where
    numbers : List ℕ
    numbers = x ∷ y ∷ z ∷ []

    cell : List ℕ
    cell = i ∷ j ∷ k ∷ []

    step : List ℕ
    step = (x - 256 * i) ∷ (y - 256 * j) ∷ (z - 256 * k) ∷ []

pub on-axes : (s : Shape) (even : Bool) (rs : List ℤ) (want : Want) (xs : List ℤ) (x y z i j k : ℕ) → StandsFor (at xs 0) x
    → StandsFor (at xs 1) y → StandsFor (at xs 2) z
    → i ≡ cell_of steps (count s 0) x → j ≡ cell_of steps (count s 1) y → k ≡ cell_of steps (count s 2) z
    → (r : Reading)
    → let t = finest s even in
    let cell = place_at (i ∷ j ∷ k ∷ []) in
    let step = place_at ((x - 256 * i) ∷ (y - 256 * j) ∷ (z - 256 * k) ∷ []) in
    (outcome_of_reading r ≡ renumbered (position_number cell step) (by_cell t rs want cell step)) × Marks r (cell_mark t rs want cell step)
    → (outcome_of_reading r ≡ by_position t rs want (position_at xs)) × Marks r (position_mark t rs want (position_at xs))
on-axes s even rs want xs x y z i j k sx sy sz e f g r h =
    let numbers = place_at (x ∷ y ∷ z ∷ []) in
    let cell = place_at (i ∷ j ∷ k ∷ []) in
    let step = place_at ((x - 256 * i) ∷ (y - 256 * j) ∷ (z - 256 * k) ∷ []) in
    let l = located-axes s xs x y z i j k sx sy sz e f g in
    let is = h.0 ∙ located s even rs want (position_at xs) numbers cell step l in
    (is, λ given. h.1 given ∙ located-mark s even rs want (position_at xs) numbers cell step l (sym (ap passed is) ∙ given))

-- the cells that the code has: 0 on an unused axis
module _ (s : Shape) (even : Bool) (rs : List ℤ) (want : Want) where
  abbrev there : FullShape
  there = finest s even

  cell-on : Shaped s → (a : ℕ) → a < 3 → (b : ℕ) → cell_on s a b ≡ cell_of steps (count s a) b
  unfolding cell_on
  cell-on f a l b = go (dec_lt a s.axes)
    where
      go : Dec (a < s.axes) → pick (ltb a s.axes) (cell_of steps (count s a) b) 0 ≡ cell_of steps (count s a) b
      go (yes k) = pick_true (ltb a s.axes) (cell_of steps (count s a) b) 0 (lt-ltb a s.axes k)
      go (no k) = let u : s.axes ≤ a = omega (arith, k) in
          pick-false (ltb a s.axes) (cell_of steps (count s a) b) 0 (le-ltb a s.axes u)
          ∙ sym (ap (λ (c : ℕ). cell_of steps c b) (f.unused a l u) ∙ cell-only steps b)

  module _ (x y z i : ℕ) where
    abbrev cell_at : ℕ → ℕ → Place
    cell_at j k = place_at (i ∷ j ∷ k ∷ [])

    abbrev step_at : ℕ → ℕ → Place
    step_at j k = place_at ((x - 256 * i) ∷ (y - 256 * j) ∷ (z - 256 * k) ∷ [])

    abbrev told_of : ℕ → ℕ → Outcome ℤ
    told_of j k = renumbered (position_number (cell_at j k) (step_at j k))
        (first (first (cell_outcome s (cell_at j k)) (steps_outcome there (step_at j k)))
        (reading there rs want (cell_at j k) (step_at j k)))

    told_at : (j k : ℕ)
        → renumbered (position_number (cell_at j k) (step_at j k)) (by_cell there rs want (cell_at j k) (step_at j k))
        ≡ first (asked_outcome there rs want) (told_of j k)
    told_at j k =
        let told = position_number (cell_at j k) (step_at j k) in
        ap (renumbered told) (by-cell-is there rs want (cell_at j k) (step_at j k))
        ∙ renumbered-first told (asked_outcome there rs want)
        (first (first (cell_outcome s (cell_at j k)) (steps_outcome there (step_at j k)))
        (reading there rs want (cell_at j k) (step_at j k)))
        ∙ ap (λ (c : Check). first c (told_of j k)) (kept-asked told (position-keeps (cell_at j k) (step_at j k)) there rs want)

    module _ (j k : ℕ) (ej : j ≡ cell_on s 1 y) (ek : k ≡ cell_on s 2 z) (r : Reading) where
      abbrev j' : ℕ
      j' = cell_of steps (count s 1) y

      abbrev k' : ℕ
      k' = cell_of steps (count s 2) z

      pub all-cells : (outcome_of_reading r
          ≡ renumbered (position_number (cell_at j k) (step_at j k)) (by_cell there rs want (cell_at j k) (step_at j k)))
          × Marks r (cell_mark there rs want (cell_at j k) (step_at j k))
          → (outcome_of_reading r
          ≡ renumbered (position_number (cell_at j' k') (step_at j' k')) (by_cell there rs want (cell_at j' k') (step_at j' k')))
          × Marks r (cell_mark there rs want (cell_at j' k') (step_at j' k'))
      all-cells h =
          let is : outcome_of_reading r ≡ first (asked_outcome there rs want) (told_of j k) = h.0 ∙ told_at j k in (
            is ∙ first-after (asked_outcome there rs want) (told_of j k) (told_of j' k') (λ a. let f = shape a in ap₂ told_of f.0 f.1)
                ∙ sym (told_at j' k'),
            λ given. h.1 given
                ∙ (let f = shape (first_passes (asked_outcome there rs want) (told_of j k) (sym (ap passed is) ∙ given)).0 in
                ap₂ (λ (j k : ℕ). cell_mark there rs want (cell_at j k) (step_at j k)) f.0 f.1),
          )
        where
          shape : asked_outcome there rs want ≡ done tt → (j ≡ j') × (k ≡ k')
          shape a =
              let f = shaped s (asked-facts there rs want a).shape in
              (ej ∙ cell-on f 1 (omega arith) y, ek ∙ cell-on f 2 (omega arith) z)

-- three numbers that are the same
three_same : {x y z u v w : ℕ} → u ≡ x → v ≡ y → w ≡ z → place_at (u ∷ v ∷ w ∷ []) ≡ place_at (x ∷ y ∷ z ∷ [])
three_same e f g = rw (e, f, g) refl

-- what the code reads at the cells and in-cell steps of a position
spot-read : (s : Shape) (even : Bool) (rs : List ℤ) (want : Want) (xs : List ℤ) (b : List ℕ) → Stand xs b → (c u : List ℕ)
    → InCells s b c u → (r : Reading)
    → let t = finest s even in
    let cell = place_at c in
    let step = place_at u in
    (outcome_of_reading r ≡ renumbered (position_number cell step) (by_cell t rs want cell step)) × Marks r (cell_mark t rs want cell step)
    → (outcome_of_reading r ≡ by_position t rs want (position_at xs)) × Marks r (position_mark t rs want (position_at xs))
spot-read s even rs want xs b st c u l r h =
    let x = get_or b 0 0 in
    let y = get_or b 1 0 in
    let z = get_or b 2 0 in
    let i = get_or c 0 0 in
    let j = get_or c 1 0 in
    let k = get_or c 2 0 in
    let t = finest s even in
    let Told : Place → Place → Type 0 = (λ (cell step : Place).
    (outcome_of_reading r ≡ renumbered (position_number cell step) (by_cell t rs want cell step)) × Marks r
    (cell_mark t rs want cell step)) in
    let steps_same : place_at u ≡ place_at ((x - 256 * i) ∷ (y - 256 * j) ∷ (z - 256 * k) ∷ []) =
    sym (indices u) ∙ three_same (l.rest 0 (omega arith)) (l.rest 1 (omega arith)) (l.rest 2 (omega arith)) in
    let there : Told (place_at (i ∷ j ∷ k ∷ [])) (place_at ((x - 256 * i) ∷ (y - 256 * j) ∷ (z - 256 * k) ∷ [])) =
    subst (λ (step : Place). Told (place_at (i ∷ j ∷ k ∷ [])) step) steps_same
    (subst (λ (cell : Place). Told cell (place_at u)) (sym (indices c)) h) in
    on-axes s even rs want xs x y z i (cell_of steps (count s 1) y) (cell_of steps (count s 2) z) (st 0 (omega arith)) (st 1 (omega arith))
    (st 2 (omega arith)) l.on_x refl refl r (all-cells s even rs want x y z i j k l.on_y l.on_z r there)

-- by cell or by position
pub spot-told : (cellwise : Bool) (s : Shape) (even : Bool) (rs : List ℤ) (want : Want) (cells inside c u : List ℕ)
    → (cellwise ≡ true → (c ≡ cells) × (u ≡ inside)) → (cellwise ≡ false → InCells s inside c u) → (r : Reading)
    → let t = finest s even in
    let cell = place_at c in
    let step = place_at u in
    (outcome_of_reading r ≡ renumbered (number_by cellwise cell step) (by_cell t rs want cell step)) × Marks r
    (cell_mark t rs want cell step)
    → (cellwise ≡ true → (outcome_of_reading r ≡ by_cell t rs want (place_at cells) (place_at inside))
    × Marks r (cell_mark t rs want (place_at cells) (place_at inside)))
    × (cellwise ≡ false → (p : List ℤ) → Stand p inside → (outcome_of_reading r ≡ by_position t rs want (position_at p))
    × Marks r (position_mark t rs want (position_at p)))
spot-told true s even rs want cells inside c u e f r h =
    let t = finest s even in
    let at_cell = ap place_at (e refl).0 in
    let at_step = ap place_at (e refl).1 in (
      λ g. (
        h.0 ∙ by-cell-stays (place_at c) (place_at u) (by_cell t rs want (place_at c) (place_at u)) ∙ ap₂
            (by_cell t rs want) at_cell at_step,
        λ given. h.1 given ∙ ap₂ (cell_mark t rs want) at_cell at_step,
      ),
      λ g. clash (cc),
    )
spot-told false s even rs want cells inside c u e f r h =
    let t = finest s even in (
      λ g. clash (cc),
      λ g p st. spot-read s even rs want p inside st c u (f refl) r
          (h.0 ∙ by-position-told (place_at c) (place_at u) (by_cell t rs want (place_at c) (place_at u)), h.1),
    )
