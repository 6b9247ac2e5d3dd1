-- An answer in a cell is the answer in the table of one cell that its corner records make, for every rounding; a reading gives it in both
-- or in neither. From the numbers of the two cells, which are the same.
use mathlib.Core.Path.{◌≡◌, refl, sym, ap, ◌∙◌, fun_ext}
use mathlib.Core.Bool.{Bool}
use mathlib.Core.List.{List}
use mathlib.Core.Logic.{◌↔◌}
use Prim.Native.Nat.{ℕ, ◌+◌, ◌*◌, ◌≤◌, ◌<◌}
use native.Mathlib.Nat.{mul-zero}
use native.Mathlib.Decide.{dec_lt}
use native.Mathlib.Omega.{arith}
use lib.IntN.{ℤ}
use Rattle.arith.specs.Int.{Rounding, rounding_of}
use Rattle.lattice.specs.declared.Shape.{Shape}
use Rattle.lattice.specs.Outcome.{done, passed}
use Rattle.lattice.specs.Shape.{full_shape, steps_on, orders, Shaped}
use Rattle.lattice.specs.Axes.{Place, origin}
use Rattle.lattice.specs.Records.{records_field}
use Rattle.lattice.proofs.DigitsLaws.{Digits}
use Rattle.lattice.proofs.OutcomeLaws.{passed-done}
use Rattle.cell.specs.Cell.{corners_outcome, Accepted}
use Rattle.cell.specs.Corners.{corner_records, one_cell}
use Rattle.cell.proofs.CellLaws.{placed}
use Rattle.cell.proofs.OneCell.{number_same, corners-same}
use Rattle.evaluate.specs.Evaluate.{Want, last_axis, ask_of, answer_by}
use Rattle.evaluate.proofs.AnswerLaws.{Alike, answer-moved}
use Rattle.query.specs.Queries.{reading}
use Rattle.query.proofs.QueryLaws.{reading-parts, reading-passes}

module _ (s : Shape) (ok : Shaped s) (cell : Place) (here : Accepted s cell) (rs : List ℤ) where
  -- the table of one cell, and its records
  abbrev one : Shape
  one = one_cell s.axes s.degree

  abbrev records : List ℤ
  records = corner_records s rs cell

  -- the same number of the cell and of the only cell
  module _ (p r : Place) (h : (a : ℕ) → Alike (orders s) s.axes cell origin a (p a) (r a)) where
    numbers-in : Digits s.axes (2 * orders s) r
    numbers-in = record {
      used = λ a l. let e = (h a).0 l in from_low (orders s) (r a) e.number e.other e.low;
      unused = λ a l. ((h a).1 l).1;
    }
      where
        from_low : (m i t : ℕ) → i ≡ m * 0 + t → t < 2 * m → i < 2 * m
        from_low m i t e l = omega arith

    here-placed : p ≡ placed s cell r
    here-placed = fun_ext (λ a. go a (dec_lt a s.axes))
      where
        moved : (m c i j t : ℕ) → i ≡ m * c + t → j ≡ m * 0 + t → i ≡ m * c + j
        moved m c i j t e f = omega arith

        go : (a : ℕ) → Dec (a < s.axes) → p a ≡ orders s * cell a + r a
        go a (yes l) = let e = (h a).0 l in moved (orders s) (cell a) (p a) (r a) e.number e.one e.other
        go a (no l) =
            let k : s.axes ≤ a = omega (arith, l) in
            rw (((h a).1 k).0, ((h a).1 k).1, here.unused a k, mul-zero (orders s)) refl

    there-placed : placed one origin r ≡ r
    unfolding one_cell
    there-placed = fun_ext (λ a. none (orders s) (r a))
      where
        none : (m i : ℕ) → m * 0 + i ≡ i
        none m i = omega arith

    field-same : records_field s rs p ≡ records_field one records r
    field-same =
        ap (records_field s rs) here-placed ∙ number_same s ok cell here rs r numbers-in ∙ ap (records_field one records) there-placed

  module _ (want : Want) (step : Place) (last : last_axis s.axes want < s.axes) where
    pub answer-one-cell : (N : Place) (round : Rounding)
        → answer_by round (ask_of s want N cell step) (records_field s rs)
        ≡ answer_by round (ask_of (one_cell s.axes s.degree) want N origin step)
        (records_field (one_cell s.axes s.degree) (corner_records s rs cell))
    unfolding one_cell
    answer-one-cell N round =
        answer-moved round (ask_of s want N cell step) origin last (records_field s rs) (records_field one records) field-same

    -- with refusal 5
    pub reading-one-cell : (numbers : List ℕ) (even : Bool) (v : ℤ)
        → (reading (full_shape s numbers even) rs want cell step ≡ done v) ↔
        (reading (full_shape (one_cell s.axes s.degree) numbers even) (corner_records s rs cell) want origin step ≡ done v)
    unfolding steps_on
    reading-one-cell numbers even v = (
      λ e.
          let f = reading-parts (full_shape s numbers even) rs want cell step v e in
          reading-passes (full_shape one numbers even) records want origin step
          (passed-done (corners_outcome one records origin) (sym passes_same ∙ ap passed f.0))
          ∙ ap done (sym (answer-one-cell (steps_on (full_shape s numbers even)) (rounding_of even)) ∙ f.1),
      λ e.
          let f = reading-parts (full_shape one numbers even) records want origin step v e in
          reading-passes (full_shape s numbers even) rs want cell step
          (passed-done (corners_outcome s rs cell) (passes_same ∙ ap passed f.0))
          ∙ ap done (answer-one-cell (steps_on (full_shape s numbers even)) (rounding_of even) ∙ f.1),
    )
      where
        passes_same : passed (corners_outcome s rs cell) ≡ passed (corners_outcome one records origin)
        passes_same = corners-same s ok cell here rs
