-- Coarser axes: a table answers at step u, and at position p, as the one of 256 steps does at the scaled ones.
use mathlib.Core.Path.{◌≡◌, refl, sym, ap, ap₂, subst, ◌∙◌, fun_ext}
use mathlib.Core.Bool.{Bool, true}
use mathlib.Core.List.{List}
use Prim.Native.Nat.{ℕ, ◌*◌, ◌-◌, ◌/◌, ◌^◌, ◌≤◌, ◌<◌}
use native.Mathlib.Nat.{le_refl, mul-le-mul}
use native.Mathlib.Decide.{dec_lt}
use native.Mathlib.Omega.{arith}
use lib.Dec.{leb, ltb, eqb}
use lib.IntN.{ℤ, pos, negsuc, nat_abs}
use lib.ListN.{length}
use lib.Signed.{non_neg, mag}
use mir.Syntax.{w32}
use mir.Val.{Fits, SFits, to_z, of_z}
use mir.Facts.{to_z-of_z}
use borrow.Author.Tests.{leb-true, lt-leb, le-leb, lt-ltb, le-ltb}
use Rattle.arith.proofs.Choices.{clash, pick_true, pick-false}
use Rattle.arith.proofs.Editions.{edition-sound}
use Rattle.arith.proofs.Machine.{element}
use Rattle.arith.proofs.Bits.{same_test}
use Rattle.lattice.specs.declared.Shape.{Shape}
use Rattle.lattice.specs.declared.FullShape.{FullShape}
use Rattle.lattice.specs.Outcome.{Outcome, Check, done, refuse_unless, first, first_of, passed}
use Rattle.lattice.specs.Buffer.{at}
use Rattle.lattice.specs.Shape.{count, steps_on, size, step_number, steps_allowed, step_numbers_outcome, shape_outcome, full_outcome, finest_on, Shaped}
use Rattle.lattice.specs.Axes.{Place}
use Rattle.lattice.specs.Records.{records_field}
use Rattle.lattice.proofs.OutcomeLaws.{first_done, first_passes, first-after, last-first, refuse-done, first_of-same}
use Rattle.lattice.proofs.ShapeLaws.{shaped}
use Rattle.lattice.proofs.StepLaws.{by-step-number, full-shape, full-stepped, finest-done, finest-outcome}
use Rattle.hermite.specs.Hermite.{steps}
use Rattle.cell.specs.Cell.{cell_outcome, corners_outcome}
use Rattle.evaluate.specs.Evaluate.{Want}
use Rattle.query.specs.Queries.{want_outcome, asked_outcome, reading, position_test, steps_outcome, by_cell, Position, position_at, position_outcome, cell_of, position_cell, position_step, by_position, cell_mark, position_mark}
use Rattle.query.specs.Parts.{finest, factor_for, factor_on, farthest, scaled, scaled_position, StandsFor}
use Rattle.query.proofs.QueryLaws.{Common, asked-facts, by-cell-is, used-test, unused-test, finest-on, finest-used, step-inside, position-range, Finer, finer-answer, finer-mark, finest-answer, finest-mark}
use Rattle.query.proofs.Locate.{cell-none, cell-only}

-- ---- one axis

-- of the five step numbers, with the factor of each
by-factor : (P : ℕ → ℕ → Type 0) → P 16 16 → P 32 8 → P 64 4 → P 128 2 → P 256 1 → (N : ℕ) → step_number N ≡ true → P N (256 / N)
by-factor P a b c d e = by-step-number (λ N. P N (256 / N)) a b c d e

-- where a number is scaled, in 32 bits
pub product-fits : (k v : ℕ) → k ≤ 16 → v ≤ farthest → Fits w32 (k * v)
product-fits k v h l = let p = mul-le-mul h l in record { fits = omega arith }

pub scaled-low : (k v : ℕ) → v ≤ farthest → scaled k v ≡ k * v
unfolding scaled
scaled-low k v h = pick_true (leb v farthest) (k * v) v (le-leb v farthest h)

pub scaled-high : (k v : ℕ) → farthest < v → scaled k v ≡ v
unfolding scaled
scaled-high k v h = pick-false (leb v farthest) (k * v) v (lt-leb v farthest h)

-- w is v in finer steps, k for one step, as far as any table reaches; beyond, both are
pub record InFiner (k v w : ℕ) : Type 0 where
  pub low : v ≤ farthest → w ≡ k * v
  pub high : farthest < v → farthest < w

-- c nodes, c − 1 cells
module _ (c v w : ℕ) (few : c ≤ 64) where
  Low : ℕ → ℕ → Type 0
  Low N k = leb (k * v) (256 * (c - 1)) ≡ leb v (N * (c - 1))

  low_same : (N k : ℕ) → (k * v ≤ 256 * (c - 1) → v ≤ N * (c - 1)) → (v ≤ N * (c - 1) → k * v ≤ 256 * (c - 1)) → Low N k
  unfolding Low
  low_same N k f g =
      same_test (leb (k * v) (256 * (c - 1))) (leb v (N * (c - 1)))
      (λ t. le-leb v (N * (c - 1)) (f (leb-true (k * v) (256 * (c - 1)) t)))
      (λ t. le-leb (k * v) (256 * (c - 1)) (g (leb-true v (N * (c - 1)) t)))

  -- the test of the finer number, on 256 steps, is that of the number
  within_same : (N : ℕ) → step_number N ≡ true → InFiner (256 / N) v w → leb w (256 * (c - 1)) ≡ leb v (N * (c - 1))
  unfolding Low
  within_same N ok f = go (dec_lt farthest v)
    where
      go : Dec (farthest < v) → leb w (256 * (c - 1)) ≡ leb v (N * (c - 1))
      go (yes h) =
          lt-leb w (256 * (c - 1)) (let k = f.high h in omega arith)
          ∙ sym (lt-leb v (N * (c - 1))
          (by-step-number (λ N. N * (c - 1) < v) (omega arith) (omega arith) (omega arith) (omega arith) (omega arith) N ok))
      go (no h) =
          ap (λ (i : ℕ). leb i (256 * (c - 1))) (f.low (omega (arith, h)))
          ∙ by-factor Low (low_same 16 16 (λ h. omega arith) (λ h. omega arith)) (low_same 32 8 (λ h. omega arith) (λ h. omega arith))
          (low_same 64 4 (λ h. omega arith) (λ h. omega arith)) (low_same 128 2 (λ h. omega arith) (λ h. omega arith))
          (low_same 256 1 (λ h. omega arith) (λ h. omega arith)) N ok

  -- within it, the cell is the same and the in-cell step is finer
  record InCell (N k : ℕ) : Type 0 where
    near : v ≤ farthest
    cell_same : cell_of steps c (k * v) ≡ cell_of N c v
    step_same : k * v - steps * cell_of N c v ≡ k * (v - N * cell_of N c v)

  in-cell-same : (N : ℕ) → step_number N ≡ true → v ≤ N * (c - 1) → InCell N (256 / N)
  unfolding cell_of
  in-cell-same N ok = by-factor (λ N k. v ≤ N * (c - 1) → InCell N k)
      (λ h. record { near = omega arith; cell_same = omega arith; step_same = omega arith })
      (λ h. record { near = omega arith; cell_same = omega arith; step_same = omega arith })
      (λ h. record { near = omega arith; cell_same = omega arith; step_same = omega arith })
      (λ h. record { near = omega arith; cell_same = omega arith; step_same = omega arith })
      (λ h. record { near = omega arith; cell_same = omega arith; step_same = omega arith }) N ok

-- a scaled number, and a product
pub scaled-finer : (k v : ℕ) → InFiner k v (scaled k v)
scaled-finer k v = record { low = scaled-low k v; high = λ h. rw (scaled-high k v h) h }

pub product-finer : (k v : ℕ) → 1 ≤ k → InFiner k v (k * v)
product-finer k v h = record { low = λ l. refl; high = λ l. let p = mul-le-mul h (le_refl v) in omega arith }

pub scaled-one : (v : ℕ) → scaled 1 v ≡ v
scaled-one v = go (dec_lt farthest v)
  where
    go : Dec (farthest < v) → scaled 1 v ≡ v
    go (yes h) = scaled-high 1 v h
    go (no h) = scaled-low 1 v (omega (arith, h)) ∙ omega arith

pub product_small : (k v : ℕ) → k ≤ 16 → v ≤ farthest → SFits w32 (pos (k * v))
product_small k v h l = let p = mul-le-mul h l in record { sfits = omega arith }

-- the number that stands for a position in two's complement, scaled or left
module _ (k : ℕ) where
  pub product_is : (p : ℤ) (v : ℕ) → StandsFor p v → k ≤ 16 → v ≤ farthest → to_z w32 (k * v) ≡ scaled_position k p
  unfolding scaled_position
  product_is (pos n) v st h l =
      let e = (st.low refl).0 in
      to_z-of_z {w = w32} (product_small k v h l) ∙ ap pos (ap (λ (i : ℕ). k * i) e ∙ sym (scaled-low k n (rw (← e) l)))
  product_is (negsuc n) v st h l = let g = st.high refl in absurd (omega arith)

  pub beyond-is : (p : ℤ) (v : ℕ) → StandsFor p v → farthest < v → p ≡ scaled_position k p
  unfolding scaled_position
  beyond-is (pos n) v st l = ap pos (sym (scaled-high k n (rw (← (st.low refl).0) l)))
  beyond-is (negsuc n) v st l = refl

-- what stands for a position, scaled, stands for the scaled position
pub scaled-stands : (k : ℕ) (p : ℤ) (b : ℕ) → k ≤ 16 → StandsFor p b → StandsFor (scaled_position k p) (scaled k b)
unfolding scaled_position
scaled-stands k (pos n) b h st =
    let e = st.low refl in
    record {
      low = λ f. (ap (scaled k) e.0, go (dec_lt farthest b));
      high = λ f. clash (cc);
    }
  where
    go : Dec (farthest < b) → scaled k b < 2 ^ 31
    go (yes l) = let i = scaled-high k b l in let j = (st.low refl).1 in omega arith
    go (no l) = let g : b ≤ farthest = omega (arith, l) in let i = scaled-low k b g in let j = mul-le-mul h g in omega arith
scaled-stands k (negsuc n) b h st =
    let g = st.high refl in
    record { low = λ f. clash (cc); high = λ f. let i = scaled-high k b (omega arith) in omega arith }

pub position-held : (k : ℕ) (p r : ℤ) → mag p < 2 ^ 31 → mag r < 2 ^ 31 → r ≡ scaled_position k (to_z w32 (of_z w32 p))
    → to_z w32 (of_z w32 r) ≡ scaled_position k p
position-held k p r hp hr e = element r hr ∙ e ∙ ap (scaled_position k) (element p hp)

pub position-one : (z : ℤ) → scaled_position 1 z ≡ z
unfolding scaled_position
position-one (pos n) = ap pos (scaled-one n)
position-one (negsuc n) = refl

position-sign : (k : ℕ) (z : ℤ) → non_neg (scaled_position k z) ≡ non_neg z
unfolding scaled_position
position-sign k (pos n) = refl
position-sign k (negsuc n) = refl

position-size : (k : ℕ) (z w : ℤ) → w ≡ scaled_position k z → non_neg z ≡ true → InFiner k (nat_abs z) (nat_abs w)
unfolding scaled_position
position-size k (pos n) w e h = subst (InFiner k n) (sym (ap nat_abs e)) (scaled-finer k n)
position-size k (negsuc n) w e h = clash (cc)

pub position-beyond : (xs : List ℤ) (a : ℕ) → 3 ≤ a → position_at xs a ≡ pos 0
unfolding position_at
position-beyond xs a l = pick-false (ltb a 3) (at xs a) (pos 0) (le-ltb a 3 l)

-- in-cell steps in finer ones
pub record FinerSteps (t : FullShape) (step finer : Place) : Type 0 where
  pub used : (a : ℕ) → a < 3 → a < t.shape.axes → InFiner (256 / steps_on t a) (step a) (finer a)
  pub unused : (a : ℕ) → a < 3 → t.shape.axes ≤ a → eqb (finer a) 0 ≡ eqb (step a) 0

-- a position in finer steps
pub record FinerPosition (t : FullShape) (p q : Position) : Type 0 where
  pub sign : (a : ℕ) → a < 3 → non_neg (q a) ≡ non_neg (p a)
  pub used : (a : ℕ) → a < 3 → a < t.shape.axes → non_neg (p a) ≡ true → InFiner (256 / steps_on t a) (nat_abs (p a)) (nat_abs (q a))
  pub unused : (a : ℕ) → a < 3 → t.shape.axes ≤ a → eqb (nat_abs (q a)) 0 ≡ eqb (nat_abs (p a)) 0

module _ (t : FullShape) where
  abbrev s : Shape
  s = t.shape

  abbrev fine : FullShape
  fine = finest t.shape t.second_edition

  pub factor-used : (a : ℕ) → a < s.axes → factor_on t a ≡ 256 / steps_on t a
  unfolding factor_for
  factor-used a l = pick_true (ltb a s.axes) (256 / steps_on t a) 1 (lt-ltb a s.axes l)

  pub factor-unused : (a : ℕ) → s.axes ≤ a → factor_on t a ≡ 1
  unfolding factor_for
  factor-unused a l = pick-false (ltb a s.axes) (256 / steps_on t a) 1 (le-ltb a s.axes l)

  -- as the code scales them
  pub scaled-steps : (step finer : Place) → ((a : ℕ) → a < 3 → finer a ≡ scaled (factor_on t a) (step a)) → FinerSteps t step finer
  scaled-steps step finer is = record {
    used = λ a l k. subst (InFiner (256 / steps_on t a) (step a)) (sym (is a l ∙ ap (λ (i : ℕ). scaled i (step a)) (factor-used a k)))
        (scaled-finer (256 / steps_on t a) (step a));
    unused = λ a l k. ap (λ (i : ℕ). eqb i 0) (is a l ∙ ap (λ (i : ℕ). scaled i (step a)) (factor-unused a k) ∙ scaled-one (step a));
  }

  pub scaled-positions : (p q : Position) → ((a : ℕ) → a < 3 → q a ≡ scaled_position (factor_on t a) (p a)) → FinerPosition t p q
  scaled-positions p q is = record {
    sign = λ a l. ap non_neg (is a l) ∙ position-sign (factor_on t a) (p a);
    used = λ a l k. position-size (256 / steps_on t a) (p a) (q a)
        (is a l ∙ ap (λ (i : ℕ). scaled_position i (p a)) (factor-used a k));
    unused = λ a l k. ap (λ (z : ℤ). eqb (nat_abs z) 0)
        (is a l ∙ ap (λ (i : ℕ). scaled_position i (p a)) (factor-unused a k) ∙ position-one (p a));
  }

  -- ---- both tables have the same tests of 1, 2, 3 and 26

  pub full-same : full_outcome t ≡ done tt → full_outcome fine ≡ full_outcome t
  full-same h = finest-outcome s t.second_edition ∙ full-shape t h ∙ sym h

  -- where 26 refuses no table that has axes
  pub allowed_same : (1 ≤ s.axes → step_numbers_outcome s.axes (steps_on t) ≡ done tt) → full_outcome fine ≡ full_outcome t
  unfolding full_outcome
  allowed_same h =
      finest-outcome s t.second_edition ∙ sym (last-first (shape_outcome s))
      ∙ first-after (shape_outcome s) (done tt) (step_numbers_outcome s.axes (steps_on t)) (λ e. sym (h (shaped s e).axes-low))

  -- a table of 256 steps
  pub finest-allows : ((a : ℕ) → a < 3 → steps_on t a ≡ finest_on s.axes a) → step_numbers_outcome s.axes (steps_on t) ≡ done tt
  unfolding step_numbers_outcome
  finest-allows h =
      first_of-same 3 (λ a. refuse_unless (steps_allowed s.axes (steps_on t a) a) 26 a)
      (λ a. refuse_unless (steps_allowed s.axes (steps_on fine a) a) 26 a)
      (λ a l. ap (λ (k : ℕ). refuse_unless (steps_allowed s.axes k a) 26 a) (h a l ∙ sym (finest-on s t.second_edition a l)))
      ∙ finest-done s t.second_edition

  pub factor-one : ((a : ℕ) → a < 3 → steps_on t a ≡ finest_on s.axes a) → (a : ℕ) → a < 3 → factor_on t a ≡ 1
  unfolding finest_on
  factor-one h a l = go (dec_lt a s.axes)
    where
      go : Dec (a < s.axes) → factor_on t a ≡ 1
      go (yes u) = factor-used a u ∙ ap (λ (k : ℕ). 256 / k) (h a l ∙ pick_true (ltb a s.axes) 256 1 (lt-ltb a s.axes u))
      go (no u) = factor-unused a (omega (arith, u))

  module _ (same : full_outcome fine ≡ full_outcome t) (rs : List ℤ) (want : Want) where
    asked-same : asked_outcome fine rs want ≡ asked_outcome t rs want
    unfolding asked_outcome
    asked-same = ap (λ (c : Check). first c (first (refuse_unless (eqb (length rs) (size s)) 4 0) (want_outcome s want))) same

    -- ---- what is read of a cell, where the in-cell step is scaled

    module _ (a : Common t rs want) (cell step finer : Place) (f : Finer t step finer) where
      abbrev fine-asked : Common fine rs want
      fine-asked = record { full = same ∙ a.full; shape = a.shape; long = a.long; wanted = a.wanted }

      reading-same : reading fine rs want cell finer ≡ reading t rs want cell step
      unfolding reading
      reading-same = ap (λ (v : ℤ). first (corners_outcome s rs cell) (done v))
          (sym (finest-answer s t.second_edition want cell finer fine-asked (records_field s rs))
          ∙ finer-answer t want cell step finer a.full a.wanted f (records_field s rs) (edition-sound t.second_edition))

      mark-same : cell_mark fine rs want cell finer ≡ cell_mark t rs want cell step
      unfolding cell_mark
      mark-same =
          sym (finest-mark s t.second_edition want cell finer fine-asked (records_field s rs))
          ∙ finer-mark t want cell step finer a.full a.wanted f (records_field s rs) (edition-sound t.second_edition)

    -- ---- by cell

    module _ (cell step finer : Place) (f : full_outcome t ≡ done tt → FinerSteps t step finer) where
      module _ (full : full_outcome t ≡ done tt) where
        steps-same : steps_outcome fine finer ≡ steps_outcome t step
        unfolding steps_outcome
        steps-same =
            first_of-same 3 (λ a. position_test s (steps_on fine a) (pos (finer a)) a)
            (λ a. position_test s (steps_on t a) (pos (step a)) a)
            (λ a l. go a l (dec_lt a s.axes))
          where
            alone : (N : ℕ) → N * (2 - 1) ≡ N
            alone N = omega arith

            go : (a : ℕ) → a < 3 → Dec (a < s.axes)
                → position_test s (steps_on fine a) (pos (finer a)) a ≡ position_test s (steps_on t a) (pos (step a)) a
            go a l (yes k) =
                let e = lt-ltb a s.axes k in
                used-test s (steps_on fine a) (pos (finer a)) a e
                ∙ ap (λ (b : Bool). refuse_unless b 11 a)
                (ap (leb (finer a)) (finest-used s t.second_edition a l k)
                ∙ within_same 2 (step a) (finer a) (omega arith) (steps_on t a) ((full-stepped t full).used a l k) ((f full).used a l k)
                ∙ ap (leb (step a)) (alone (steps_on t a)))
                ∙ sym (used-test s (steps_on t a) (pos (step a)) a e)
            go a l (no k) =
                let u : s.axes ≤ a = omega (arith, k) in
                let e = le-ltb a s.axes u in
                unused-test s (steps_on fine a) (pos (finer a)) a e ∙ ap (λ (b : Bool). refuse_unless b 23 a) ((f full).unused a l u)
                ∙ sym (unused-test s (steps_on t a) (pos (step a)) a e)

        -- in finer steps, where they are not refused
        finer-there : steps_outcome t step ≡ done tt → Finer t step finer
        finer-there h = record { is = λ a k. go a k (low a k) }
          where
            ok : Shaped s
            ok = shaped s (full-shape t full)

            low : (a : ℕ) → a < s.axes → a < 3
            low a k = let h = ok.axes-high in omega arith

            go : (a : ℕ) → a < s.axes → a < 3 → finer a ≡ 256 / steps_on t a * step a
            go a k l =
                let i : step a ≤ steps_on t a * (2 - 1) = (let g = step-inside t step ok h a k in omega arith) in
                ((f full).used a l k).low
                (in-cell-same 2 (step a) (finer a) (omega arith) (steps_on t a) ((full-stepped t full).used a l k) i).near

      pub by-cell-scaled : by_cell fine rs want cell finer ≡ by_cell t rs want cell step
      by-cell-scaled =
          by-cell-is fine rs want cell finer
          ∙ ap (λ (c : Check). first c
          (first (first (cell_outcome s cell) (steps_outcome fine finer)) (reading fine rs want cell finer))) asked-same
          ∙ first-after (asked_outcome t rs want)
          (first (first (cell_outcome s cell) (steps_outcome fine finer)) (reading fine rs want cell finer))
          (first (first (cell_outcome s cell) (steps_outcome t step)) (reading t rs want cell step))
          (λ h. let a = asked-facts t rs want h in
          ap (λ (c : Check). first (first (cell_outcome s cell) c) (reading fine rs want cell finer)) (steps-same a.full)
          ∙ first-after (first (cell_outcome s cell) (steps_outcome t step)) (reading fine rs want cell finer) (reading t rs want cell step)
          (λ g. reading-same a cell step finer
          (finer-there a.full (first_done (cell_outcome s cell) (steps_outcome t step) tt g).1)))
          ∙ sym (by-cell-is t rs want cell step)

      pub cell-mark-scaled : passed (by_cell t rs want cell step) ≡ true → cell_mark fine rs want cell finer ≡ cell_mark t rs want cell step
      cell-mark-scaled given =
          let h = first_passes (asked_outcome t rs want)
          (first (first (cell_outcome s cell) (steps_outcome t step)) (reading t rs want cell step))
          (sym (ap passed (by-cell-is t rs want cell step)) ∙ given) in
          let g = (first_passes (first (cell_outcome s cell) (steps_outcome t step)) (reading t rs want cell step) h.1).0 in
          let a = asked-facts t rs want h.0 in
          mark-same a cell step finer (finer-there a.full (first_done (cell_outcome s cell) (steps_outcome t step) tt g).1)

    -- ---- by position

    module _ (p q : Position) (f : full_outcome t ≡ done tt → FinerPosition t p q)
        (none : (a : ℕ) → 3 ≤ a → (nat_abs (p a) ≡ 0) × (nat_abs (q a) ≡ 0)) where
      module _ (full : full_outcome t ≡ done tt) where
        ok : Shaped s
        ok = shaped s (full-shape t full)

        abbrev last : FullShape → ℕ → ℕ
        last f a = steps_on f a * (count s a - 1)

        tests_same : first_of 3 (position_outcome fine q) ≡ first_of 3 (position_outcome t p)
        unfolding position_outcome
        tests_same = first_of-same 3 (position_outcome fine q) (position_outcome t p) (λ a l. go a l (dec_lt a s.axes))
          where
            -- 22, or 11
            used-same : (a : ℕ) → a < 3 → a < s.axes
                → first (refuse_unless (non_neg (p a)) 22 a) (refuse_unless (leb (nat_abs (q a)) (steps * (count s a - 1))) 11 a)
                ≡ first (refuse_unless (non_neg (p a)) 22 a) (refuse_unless (leb (nat_abs (p a)) (last t a)) 11 a)
            used-same a l k = first-after (refuse_unless (non_neg (p a)) 22 a) _ _ (λ h.
                ap (λ (b : Bool). refuse_unless b 11 a)
                (within_same (count s a) (nat_abs (p a)) (nat_abs (q a)) (ok.high a l) (steps_on t a) ((full-stepped t full).used a l k)
                ((f full).used a l k (refuse-done (non_neg (p a)) 22 a h))))

            go : (a : ℕ) → a < 3 → Dec (a < s.axes) → position_test s (last fine a) (q a) a ≡ position_test s (last t a) (p a) a
            go a l (yes k) =
                let e = lt-ltb a s.axes k in
                used-test s (last fine a) (q a) a e
                ∙ ap₂ (λ (b : Bool) (i : ℕ). first (refuse_unless b 22 a) (refuse_unless (leb (nat_abs (q a)) (i * (count s a - 1))) 11 a))
                ((f full).sign a l) (finest-used s t.second_edition a l k)
                ∙ used-same a l k ∙ sym (used-test s (last t a) (p a) a e)
            go a l (no k) =
                let u : s.axes ≤ a = omega (arith, k) in
                let e = le-ltb a s.axes u in
                unused-test s (last fine a) (q a) a e ∙ ap (λ (b : Bool). refuse_unless b 23 a) ((f full).unused a l u)
                ∙ sym (unused-test s (last t a) (p a) a e)

        -- a position that is not refused lies in the same cell
        module _ (h : first_of 3 (position_outcome t p) ≡ done tt) where
          there : (a : ℕ) → (l : a < 3) (k : a < s.axes)
              → InCell (count s a) (nat_abs (p a)) (nat_abs (q a)) (ok.high a l) (steps_on t a) (256 / steps_on t a)
          there a l k = in-cell-same (count s a) (nat_abs (p a)) (nat_abs (q a)) (ok.high a l) (steps_on t a)
              ((full-stepped t full).used a l k) (position-range t p h a l).1

          size-scaled : (a : ℕ) → a < 3 → a < s.axes → nat_abs (q a) ≡ 256 / steps_on t a * nat_abs (p a)
          size-scaled a l k = ((f full).used a l k (position-range t p h a l).0).low (there a l k).near

          step_in : (a : ℕ) → a < 3 → a < s.axes
              → 256 / steps_on t a * nat_abs (p a) - steps * position_cell t p a
              ≡ 256 / steps_on t a * (nat_abs (p a) - steps_on t a * position_cell t p a)
          unfolding position_cell
          step_in a l k = (there a l k).step_same

          pub cells_same : position_cell fine q ≡ position_cell t p
          unfolding position_cell
          cells_same = fun_ext (λ a. go a (dec_lt a 3))
            where
              inner : (a : ℕ) → a < 3 → Dec (a < s.axes)
                  → cell_of (steps_on fine a) (count s a) (nat_abs (q a)) ≡ cell_of (steps_on t a) (count s a) (nat_abs (p a))
              inner a l (yes k) =
                  ap₂ (λ (N i : ℕ). cell_of N (count s a) i) (finest-used s t.second_edition a l k) (size-scaled a l k)
                  ∙ (there a l k).cell_same
              inner a l (no k) = rw (ok.unused a l (omega (arith, k)))
                  (cell-only (steps_on fine a) (nat_abs (q a)) ∙ sym (cell-only (steps_on t a) (nat_abs (p a))))

              go : (a : ℕ) → Dec (a < 3)
                  → cell_of (steps_on fine a) (count s a) (nat_abs (q a)) ≡ cell_of (steps_on t a) (count s a) (nat_abs (p a))
              go a (yes l) = inner a l (dec_lt a s.axes)
              go a (no l) = let e = none a (omega arith) in
                  cell-none (steps_on fine a) (count s a) (nat_abs (q a)) e.1
                  ∙ sym (cell-none (steps_on t a) (count s a) (nat_abs (p a)) e.0)

          steps-scaled : Finer t (position_step t p) (position_step fine q)
          unfolding position_step
          steps-scaled = record { is = λ a k. go a k (let h = ok.axes-high in omega arith) }
            where
              go : (a : ℕ) → a < s.axes → a < 3
                  → nat_abs (q a) - steps_on fine a * position_cell fine q a ≡ 256 / steps_on t a *
                  (nat_abs (p a) - steps_on t a * position_cell t p a)
              go a k l =
                  ap₂ (λ (i j : ℕ). i - j) (size-scaled a l k)
                  (ap₂ ◌*◌ (finest-used s t.second_edition a l k) (ap (λ (c : Place). c a) cells_same))
                  ∙ step_in a l k

      pub by-position-scaled : by_position fine rs want q ≡ by_position t rs want p
      unfolding by_position
      by-position-scaled =
          ap (λ (c : Check). first c (first (first_of 3 (position_outcome fine q)) (read fine q))) asked-same
          ∙ first-after (asked_outcome t rs want) (first (first_of 3 (position_outcome fine q)) (read fine q))
          (first (first_of 3 (position_outcome t p)) (read t p))
          (λ h. let a = asked-facts t rs want h in
          ap (λ (c : Check). first c (read fine q)) (tests_same a.full)
          ∙ first-after (first_of 3 (position_outcome t p)) (read fine q) (read t p)
          (λ g. ap (λ (c : Place). reading fine rs want c (position_step fine q)) (cells_same a.full g)
          ∙ reading-same a (position_cell t p) (position_step t p) (position_step fine q) (steps-scaled a.full g)))
        where
          read : FullShape → Position → Outcome ℤ
          read f p = reading f rs want (position_cell f p) (position_step f p)

      pub position-mark-scaled : passed (by_position t rs want p) ≡ true → position_mark fine rs want q ≡ position_mark t rs want p
      unfolding by_position position_mark
      position-mark-scaled given =
          let read = reading t rs want (position_cell t p) (position_step t p) in
          let h = first_passes (asked_outcome t rs want) (first (first_of 3 (position_outcome t p)) read) given in
          let g = (first_passes (first_of 3 (position_outcome t p)) read h.1).0 in
          let a = asked-facts t rs want h.0 in
          ap (λ (c : Place). cell_mark fine rs want c (position_step fine q)) (cells_same a.full g)
          ∙ mark-same a (position_cell t p) (position_step t p) (position_step fine q) (steps-scaled a.full g)
