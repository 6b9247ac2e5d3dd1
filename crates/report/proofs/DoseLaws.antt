-- A query for the middle of an accepted cell is answered from the records that estimation wrote, and its dose is that from the records of
-- the rules.
use mathlib.Core.Path.{◌≡◌, refl, sym, ap, ◌∙◌}
use mathlib.Core.Bool.{Bool}
use mathlib.Core.List.{List, [], ◌∷◌}
use Prim.Native.Nat.{ℕ, ◌≤◌, ◌/◌}
use native.Mathlib.Omega.{arith}
use borrow.Author.Tests.{le-ltb}
use lib.Dec.{ltb, lit≤}
use lib.IntN.{ℤ}
use Rattle.arith.proofs.Choices.{clash, pick_true, pick-false, on-pick, split}
use lib.ListN.{get_or}
use Rattle.lattice.specs.Shape.{finest_on, finest_steps}
use Rattle.lattice.specs.declared.Shape.{Shape}
use Rattle.lattice.specs.declared.FullShape.{FullShape}
use Rattle.lattice.specs.Outcome.{done}
use Rattle.lattice.specs.Axes.{Place}
use Rattle.lattice.proofs.ShapeLaws.{shaped}
use Rattle.lattice.proofs.StepLaws.{full-shape}
use Rattle.cell.specs.Cell.{place_at, Accepted}
use Rattle.estimate.specs.Estimate.{records_of, estimate_outcome}
use Rattle.estimate.proofs.CallLaws.{estimated, estimated-full, records-length}
use Rattle.evaluate.specs.Evaluate.{dose, last_axis}
use Rattle.std.specs.Prelude.{Ok, Err, IsOk}
use Rattle.query.specs.Answers.{Reading, outcome_of_reading}
use Rattle.query.specs.Queries.{want_outcome, steps_outcome, by_cell}
use Rattle.cell.proofs.CellLaws.{three, cell-passes}
use Rattle.query.specs.Parts.{finest}
use Rattle.query.proofs.QueryLaws.{steps-pass, finest-used, by-cell-passes}
use Rattle.estimated.proofs.Estimated.{answer-same, corners-done}
use Rattle.report.specs.Report.{middle, dose_in}
use Rattle.report.specs.Parts.{Answers, dose_from}

-- ---- the tests of the query

middle-low : (axes a : ℕ) → middle axes a ≤ 128
unfolding middle
middle-low axes a = on-pick (λ (u : ℕ). u ≤ 128) (ltb a axes) 128 0 (λ e. lit≤ tt) (λ e. lit≤ tt)

middle-none : (axes a : ℕ) → axes ≤ a → middle axes a ≡ 0
unfolding middle
middle-none axes a l = pick-false (ltb a axes) 128 0 (le-ltb a axes l)

middle-passes : (s : Shape) (second : Bool) → s.axes ≤ 3 → steps_outcome (finest s second) (middle s.axes) ≡ done tt
middle-passes s second few =
    steps-pass (finest s second) (middle s.axes)
    (λ a l. let h = middle-low s.axes a in let e = finest-used s second a (omega arith) l in omega arith)
    (λ a l. middle-none s.axes a)

-- three steps as a place
middle-place : (axes x y z : ℕ) → axes ≤ 3 → x ≡ middle axes 0 → y ≡ middle axes 1 → z ≡ middle axes 2
    → place_at (x ∷ y ∷ z ∷ []) ≡ middle axes
middle-place axes x y z h i j k = three x y z (middle axes) i j k (λ a l. middle-none axes a (omega arith))

half-finest : (axes a : ℕ) → finest_on axes a / 2 ≡ middle axes a
unfolding finest_on middle
half-finest axes a = split (ltb a axes)
    (λ t. ap (λ (k : ℕ). k / 2) (pick_true (ltb a axes) 256 1 t) ∙ sym (pick_true (ltb a axes) 128 0 t))
    (λ t. ap (λ (k : ℕ). k / 2) (pick-false (ltb a axes) 256 1 t) ∙ sym (pick-false (ltb a axes) 128 0 t))

-- half the finest steps
pub middle-halves : (axes : ℕ) (r : List ℕ) → axes ≤ 3 → r ≡ finest_steps axes
    → place_at (get_or r 0 0 / 2 ∷ get_or r 1 0 / 2 ∷ get_or r 2 0 / 2 ∷ []) ≡ middle axes
middle-halves axes r h e = rw e (middle-place axes _ _ _ h (half-finest axes 0) (half-finest axes 1) (half-finest axes 2))

-- the query is answered
pub answered : (second : Bool) (s : Shape) (rs : List ℤ) (cell : List ℕ) (step : Place) → Answers (finest s second) rs
    → Accepted s (place_at cell) → step ≡ middle s.axes
    → by_cell (finest s second) rs dose (place_at cell) step ≡ done (dose_from (finest s second) rs cell)
unfolding dose_from want_outcome
answered second s rs cell step known here is =
    let t : FullShape = finest s second in
    ap (by_cell t rs dose (place_at cell)) is
    ∙ by-cell-passes t rs dose (place_at cell) (middle s.axes) known.long known.shape refl
    (cell-passes s (place_at cell) here.used (λ a l. here.unused a))
    (middle-passes s second (shaped s (full-shape t known.shape)).axes-high) (known.corners (place_at cell) here)

pub is-read : (r : Reading) (x : ℤ) → outcome_of_reading r ≡ done x → IsOk r
is-read (Ok v) x e = refl
is-read (Err v) x e = clash (cc)

-- ---- the records that estimation wrote

module _ (t : FullShape) (xs : List ℤ) (room : ℕ) (taken : estimate_outcome t xs room ≡ done tt) where
  pub answers : Answers t (records_of t.shape xs)
  answers = record {
    shape = estimated-full t xs room taken;
    long = records-length t.shape xs;
    corners = λ cell here. corners-done t.shape xs room (estimated t xs room taken) cell here;
  }

  pub dose-same : (cell : List ℕ) → Accepted t.shape (place_at cell) → dose_from t (records_of t.shape xs) cell ≡ dose_in t xs cell
  unfolding dose_from dose_in last_axis
  dose-same cell here =
      let e = estimated t xs room taken in
      let h = e.shape.axes-low in
      answer-same t xs room e (place_at cell) here dose (middle t.shape.axes) (omega arith)
