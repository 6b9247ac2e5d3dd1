-- A query reads the corner records of its cell and nothing else of the table: each of its tests, and its answer, is the same for records
-- with the same corners.
use mathlib.Core.Path.{◌≡◌, sym, ap, ◌∙◌}
use mathlib.Core.List.{List}
use Prim.Native.Nat.{ℕ, ◌*◌, ◌^◌, ◌<◌}
use lib.Dec.{leb, eqb}
use lib.IntN.{ℤ, nat_abs}
use Rattle.lattice.specs.declared.Shape.{Shape}
use Rattle.lattice.specs.declared.FullShape.{FullShape}
use Rattle.lattice.specs.Outcome.{Check, done, refuse_unless, first}
use Rattle.lattice.specs.Shape.{rounding_in, orders, entries, size, full_outcome, Shaped}
use Rattle.lattice.specs.Axes.{Place}
use Rattle.lattice.specs.Records.{records_field, entry_limit, entry_index}
use Rattle.lattice.proofs.OutcomeLaws.{first-after, first_of-same}
use Rattle.lattice.proofs.ShapeLaws.{shaped}
use Rattle.cell.specs.Cell.{Accepted, corner_entries, entry_outcome, corners_outcome, corner_place}
use Rattle.cell.proofs.CornerLaws.{corner-inside}
use Rattle.evaluate.specs.Evaluate.{Want, last_axis, answer_by}
use Rattle.evaluate.proofs.AnswerLaws.{answer-local}
use Rattle.query.specs.Queries.{asked_outcome, want_outcome, reading}
use Rattle.query.proofs.QueryLaws.{asked-facts, last-used}
use Rattle.claims.specs.Third.{Query, asked, cell_read, step_read}
use Rattle.claims.specs.Corners.{SameCorners, CornersOnly}
use Rattle.claims.proofs.Gates.{gate, by-gate, gated}

module _ (t : FullShape) (want : Want) (q : Query) (rs ts : List ℤ) (h : SameCorners t q rs ts) where
  abbrev s : Shape
  s = t.shape

  abbrev cell : Place
  cell = cell_read t q

  asked-same : asked_outcome t rs want ≡ asked_outcome t ts want
  unfolding asked_outcome
  asked-same = ap (λ (k : ℕ). first (full_outcome t) (first (refuse_unless (eqb k (size s)) 4 0) (want_outcome s want))) h.long

  module _ (ok : Shaped s) (here : Accepted s (cell_read t q)) (last : last_axis s.axes want < s.axes) where
    corners-same : corners_outcome s rs cell ≡ corners_outcome s ts cell
    unfolding corners_outcome corner_entries entry_outcome
    corners-same =
        first_of-same (2 ^ s.axes * entries s) _ _
        (λ i l. let p = corner_place s cell i in
        ap (λ (z : ℤ). refuse_unless (leb (nat_abs z) (entry_limit (orders s) s.axes p)) 5 (entry_index s p))
        (h.same p (corner-inside s ok cell here i l)))

    reading-same : reading t rs want cell (step_read t q) ≡ reading t ts want cell (step_read t q)
    unfolding reading
    reading-same =
        ap (λ (c : Check). first c (done (answer_by (rounding_in t) (asked t want q) (records_field s rs)))) corners-same
        ∙ ap (λ (v : ℤ). first (corners_outcome s ts cell) (done v))
        (answer-local (rounding_in t) (asked t want q) last (records_field s rs) (records_field s ts) h.same)

pub corners-only : CornersOnly
corners-only t want q rs ts h =
    by-gate t rs want q
    ∙ first-after (asked_outcome t rs want) (first (gate t q) (reading t rs want (cell_read t q) (step_read t q)))
    (first (gate t q) (reading t ts want (cell_read t q) (step_read t q)))
    (λ a. first-after (gate t q) (reading t rs want (cell_read t q) (step_read t q)) (reading t ts want (cell_read t q) (step_read t q))
    (λ g. let f = asked-facts t rs want a in
    let ok = shaped t.shape f.shape in
    reading-same t want q rs ts h ok (gated t f.full q g).accepted (last-used t.shape want ok.axes-low f.wanted)))
    ∙ ap (λ (c : Check). first c (first (gate t q) (reading t ts want (cell_read t q) (step_read t q)))) (asked-same t want q rs ts h)
    ∙ sym (by-gate t ts want q)
