-- A query of the list: its own call by its position's test, its corners' test and the dose in the table of one cell.
use mathlib.Core.Path.{◌≡◌, refl, sym, ap, ◌∙◌}
use mathlib.Core.Bool.{Bool, true, false}
use mathlib.Core.List.{List}
use Prim.Native.Nat.{ℕ, zero, suc, ◌<◌}
use native.Mathlib.Omega.{arith}
use lib.Dec.{leb}
use lib.IntN.{ℤ, nat_abs}
use lib.ListN.{length, take}
use Rattle.arith.specs.Int.{rounding_of}
use Rattle.arith.proofs.Choices.{clash}
use Rattle.lattice.specs.declared.Shape.{Shape}
use Rattle.lattice.specs.declared.FullShape.{FullShape}
use Rattle.lattice.specs.Outcome.{Outcome, Check, done, refused, refuse_unless, first, first_of, passed}
use Rattle.lattice.specs.Shape.{orders, size, Shaped}
use Rattle.lattice.specs.Axes.{Place, origin}
use Rattle.lattice.specs.Records.{entry_index, records_field, entry_limit}
use Rattle.lattice.proofs.OutcomeLaws.{first-passed, refused-first, passed-done}
use Rattle.lattice.proofs.ShapeLaws.{shaped}
use Rattle.lattice.proofs.StepLaws.{finest-outcome}
use Rattle.hermite.specs.Hermite.{steps}
use Rattle.cell.specs.Cell.{place_at, corner_place, corner_entries, entry_outcome, corners_outcome}
use Rattle.cell.specs.Corners.{corner_records}
use Rattle.cell.proofs.CornerRecords.{records-length}
use Rattle.cell.proofs.OneCell.{one_size, corners-same}
use Rattle.evaluate.specs.Evaluate.{dose, last_axis, ask_at, answer_by}
use Rattle.query.specs.Parts.{position_number, finest}
use Rattle.query.specs.Queries.{want_outcome, asked_outcome, reading, steps_outcome, position_outcome, position_cell, position_step, by_position}
use Rattle.query.proofs.QueryLaws.{asked-facts, asked-passes, reading-passes, step-inside, finest-used, finest-answer}
use Rattle.query.proofs.Renumbered.{renumbered-done}
use Rattle.query.proofs.OneCell.{answer-one-cell}
use Rattle.ramp.specs.declared.Spot.{Spot}
use Rattle.ramp.specs.Ramp.{query_at, own_call}
use Rattle.ramp.specs.Parts.{one, Listed, spot_outcome, Stands, Held, Readable}

-- a refusal of a number, wherever its place
pub record Refuses {A : Type 0} (number : ℕ) (o : Outcome A) : Type 0 where
  pub place : ℕ
  pub is : o ≡ refused number place

first-number : (number p : ℕ) (a : Check) (b : Bool) → (passed a ≡ false → Refuses number a)
    → passed (first a (refuse_unless b number p)) ≡ false → Refuses number (first a (refuse_unless b number p))
first-number number p (done tt) true f h = clash (cc)
first-number number p (done tt) false f h = record { place = p; is = refl }
first-number number p (refused k q) b f h = f refl

-- tests of one number
first_of-number : (number : ℕ) (ok : ℕ → Bool) (place : ℕ → ℕ) (n : ℕ)
    → passed (first_of n (λ i. refuse_unless (ok i) number (place i))) ≡ false
    → Refuses number (first_of n (λ i. refuse_unless (ok i) number (place i)))
unfolding first_of
first_of-number number ok place zero h = clash (cc)
first_of-number number ok place (suc n) h =
    first-number number (place n) (first_of n (λ i. refuse_unless (ok i) number (place i))) (ok n) (first_of-number number ok place n) h

-- corners that are refused are refused 5
corners-five : (s : Shape) (rs : List ℤ) (cell : Place) → passed (corners_outcome s rs cell) ≡ false → Refuses 5 (corners_outcome s rs cell)
unfolding corners_outcome entry_outcome
corners-five s rs cell =
    first_of-number 5 (λ i. leb (nat_abs (records_field s rs (corner_place s cell i)))
    (entry_limit (orders s) s.axes (corner_place s cell i)))
    (λ i. entry_index s (corner_place s cell i)) (corner_entries s)

-- the step of a position that is not refused is not refused
spot-passes : (t : FullShape) (cell step : Place) → spot_outcome t cell step ≡ done tt → steps_outcome t step ≡ done tt
unfolding spot_outcome
spot-passes t cell step = renumbered-done (position_number cell step) (steps_outcome t step) tt

module _ (s : Shape) (even : Bool) (rs ps : List ℤ) (listed : Listed s rs ps) (i : ℕ) where
  abbrev full : FullShape
  full = finest s even

  ok : Shaped s
  ok = shaped s listed.shape

  asked : asked_outcome full rs dose ≡ done tt
  unfolding want_outcome
  asked = asked-passes full rs dose listed.long (finest-outcome s even ∙ listed.shape) refl

  -- whether 23, 22 or 11 arises
  abbrev pub tested : Check
  tested = first_of 3 (position_outcome full (query_at ps i))

  abbrev read : Outcome ℤ
  read = reading full rs dose (position_cell full (query_at ps i)) (position_step full (query_at ps i))

  own_is : own_call full rs ps i ≡ first tested read
  unfolding by_position
  own_is = first-passed (asked_outcome full rs dose) (first tested read) asked

  pub own-stops : {n p : ℕ} → tested ≡ refused n p → own_call full rs ps i ≡ refused n p
  own-stops e = own_is ∙ refused-first read e

  -- the position is not refused
  module _ (passes : tested ≡ done tt) where
    own-reads : own_call full rs ps i ≡ read
    own-reads = own_is ∙ first-passed tested read passes

    pub own-five : (cell : Place) → cell ≡ position_cell full (query_at ps i) → passed (corners_outcome s rs cell) ≡ false
        → Refuses 5 (own_call full rs ps i)
    unfolding reading
    own-five cell e h =
        let f = corners-five s rs cell h in
        record {
          place = f.place;
          is = own-reads ∙ refused-first _ (ap (corners_outcome s rs) (sym e) ∙ f.is);
        }

    -- the corner records of its cell are held, and are within their limits
    module _ (spot : Spot) (st : Stands full (query_at ps i) spot) (held : List ℤ) (h : Held s rs (place_at spot.cell) held)
        (within : corners_outcome s rs (place_at spot.cell) ≡ done tt) where
      abbrev cell : Place
      cell = place_at spot.cell

      abbrev step : Place
      step = place_at spot.step

      last : last_axis s.axes dose < s.axes
      unfolding last_axis
      last = let l = ok.axes-low in omega arith

      corners : corners_outcome (one s) (take (size (one s)) held) origin ≡ done tt
      corners =
          ap (λ (l : List ℤ). corners_outcome (one s) l origin) h.is
          ∙ passed-done (corners_outcome (one s) (corner_records s rs cell) origin)
          (sym (corners-same s ok cell st.here rs) ∙ ap passed within)

      pub readable : Readable s (take (size (one s)) held) step
      readable = record {
        shape = ok;
        long = ap length h.is ∙ records-length s rs cell ∙ sym (one_size s.axes s.degree ok.axes-low ok.axes-high);
        within = corners;
        steps_low = λ a l. rw (← finest-used s even a (let h = ok.axes-high in omega arith) l)
            (step-inside full step ok (spot-passes full cell step (st.tests ∙ passes)) a l);
      }

      pub own-answers : (v : ℤ) → v ≡ answer_by (rounding_of even) (ask_at (one s) dose origin step)
          (records_field (one s) (take (size (one s)) held))
          → own_call full rs ps i ≡ done v
      unfolding ask_at
      own-answers v e =
          own-reads ∙ ap (λ (c : Place). reading full rs dose c (position_step full (query_at ps i))) (sym (st.cell-is passes))
          ∙ ap (reading full rs dose cell) (sym (st.step_is passes)) ∙ reading-passes full rs dose cell step within
          ∙ ap done (sym (finest-answer s even dose cell step (asked-facts full rs dose asked) (records_field s rs))
          ∙ answer-one-cell s ok cell st.here rs dose step last (λ a. steps) (rounding_of even)
          ∙ ap (λ (l : List ℤ). answer_by (rounding_of even) (ask_at (one s) dose origin step) (records_field (one s) l)) (sym h.is) ∙ sym
          e)
