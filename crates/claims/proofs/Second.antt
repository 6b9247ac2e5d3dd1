-- The second demand: from records within their limits, so from those that estimation wrote; and back, from what is known of permitted
-- corner records.
use mathlib.Core.Path.{◌≡◌, refl, sym, ap, subst, ◌∙◌}
use mathlib.Core.List.{List}
use mathlib.Core.Logic.{◌↔◌}
use Prim.Native.Nat.{ℕ, ◌*◌, ◌^◌, ◌≤◌, ◌<◌}
use native.Mathlib.Omega.{arith}
use lib.Dec.{leb, eqb}
use lib.IntN.{ℤ, nat_abs}
use lib.ListN.{length}
use borrow.Author.Tests.{eq-eqb, le-leb}
use Rattle.lattice.specs.declared.Shape.{Shape}
use Rattle.lattice.specs.declared.FullShape.{FullShape}
use Rattle.lattice.specs.Outcome.{done, refuse_unless}
use Rattle.lattice.specs.Buffer.{at, overwrite}
use Rattle.lattice.specs.Digits.{digit}
use Rattle.lattice.specs.Shape.{orders, orders_of, entries, size, full_outcome}
use Rattle.lattice.specs.Records.{records_field}
use Rattle.lattice.proofs.OutcomeLaws.{first-passed, passes, when-done}
use Rattle.lattice.proofs.BufferLaws.{tabulate-same}
use Rattle.lattice.proofs.DigitsLaws.{digits_in}
use Rattle.lattice.proofs.ShapeLaws.{orders-range, shaped}
use Rattle.lattice.proofs.StepLaws.{full-shape}
use Rattle.cell.specs.Cell.{place_at, corners_outcome, corner_place}
use Rattle.cell.specs.Coefficients.{coefficient_count}
use Rattle.cell.proofs.CellLaws.{cell-passes}
use Rattle.cell.proofs.CornerLaws.{corners-pass, corner-inside}
use Rattle.cell.proofs.NumberLaws.{count-split}
use Rattle.estimate.specs.Estimate.{Estimable, table_records, records_of}
use Rattle.estimate.proofs.CallLaws.{estimated, estimated-full, records-length}
use Rattle.coefficients.specs.Coefficients.{coefficient_list, request_outcome, coefficients_outcome, coefficients_writes}
use Rattle.coefficients.proofs.TableCell.{cell_same}
use Rattle.corners.specs.Corners.{entry_list, back_outcome}
use Rattle.corners.proofs.Demand.{Possible, written-coefficients, done-or-13, done-possible, only-records, written-records}
use Rattle.claims.specs.Third.{AcceptedTable}
use Rattle.claims.specs.Second.{Converts, Asked, FromEstimates, FromRecords, BackAsked, CornersOf, Back, SecondDemand}
use Rattle.estimated.proofs.Estimated.{lent, field-same, field-within}

-- ---- forward

from-records : FromRecords
unfolding coefficients_outcome request_outcome coefficients_writes
from-records t rs cell out m a = record { taken = taken; written = written; within = written-coefficients t rs cell (length out) taken }
  where
    s : Shape
    s = t.shape

    taken : coefficients_outcome t rs (place_at cell) (length out) ≡ done tt
    taken =
        first-passed (request_outcome t (length rs) (place_at cell) (length out)) (corners_outcome s rs (place_at cell))
        (first-passed (full_outcome t) _ m.full
        ∙ first-passed (refuse_unless (eqb (length rs) (size s)) 4 0) _ (passes _ 4 0 (eq-eqb _ _ m.many))
        ∙ first-passed (refuse_unless (leb (coefficient_count (orders s) s.axes) (length out)) 9 0) _ (passes _ 9 0 (le-leb _ _ a.room))
        ∙ cell-passes s (place_at cell) a.here.used (λ i l k. a.here.unused i k))
        ∙ corners-pass s rs (place_at cell) m.within (shaped s (full-shape t m.full)) a.here

    written : coefficients_writes t rs (place_at cell) out ≡ overwrite
        (coefficient_list (orders s) s.axes (place_at cell) (records_field s rs)) out
    written = sym (when-done (overwrite (coefficient_list (orders s) s.axes (place_at cell) (records_field s rs)) out) out taken)

module _ (t : FullShape) (xs old : List ℤ) (cell : List ℕ) (out : List ℤ) (taken : AcceptedTable t xs old)
    (a : Asked t.shape cell out) where
  abbrev s : Shape
  s = t.shape

  known : Estimable s xs (length old)
  known = estimated t xs (length old) taken

  -- at the corners the records that estimation wrote are those of the rules
  corner-same : (i : ℕ) → i < coefficient_count (orders s) s.axes
      → records_field s (records_of s xs) (corner_place s (place_at cell) i) ≡ table_records s xs (corner_place s (place_at cell) i)
  unfolding entries
  corner-same i l =
      field-same s xs (length old) known (place_at cell) a.here (corner_place s (place_at cell) i)
      (corner-inside s known.shape (place_at cell) a.here i (subst (λ (k : ℕ). i < k) (count-split (orders s) s.axes) l))

  list-is : coefficient_list (orders s) s.axes (place_at cell) (records_field s (records_of s xs)) ≡ coefficient_list (orders s) s.axes
      (place_at cell) (table_records s xs)
  unfolding coefficient_list
  list-is =
      tabulate-same (coefficient_count (orders s) s.axes) _ _
      (λ K l.
      let some = (orders-range s.degree).0 in
      let d = digits_in s.axes (2 * orders s) K (omega arith) l in
      let p = digit (λ b. 2 * orders s) K in
      let g = table_records s xs in
      cell_same s known.shape (place_at cell) a.here (records_field s (records_of s xs))
      (λ i. g (corner_place s (place_at cell) i)) corner-same p d
      ∙ sym (cell_same s known.shape (place_at cell) a.here g (λ i. g (corner_place s (place_at cell) i)) (λ i q. refl) p d))

  estimates : Converts t (records_of s xs) (table_records s xs) cell out
  estimates =
      let c =
      from-records t (records_of s xs) cell out
      (record {
        full = estimated-full t xs (length old) taken;
        many = records-length s xs;
        within =
            field-within s xs (length old) known (place_at cell) a.here;
      }) a in
      record {
        taken = c.taken;
        written = c.written ∙ ap (λ (l : List ℤ). overwrite l out) list-is;
        within = subst (λ (l : List ℤ). (K : ℕ) → K < coefficient_count (orders s) s.axes → nat_abs (at l K) ≤ 2 ^ 30) list-is c.within;
      }

from-estimates : FromEstimates
from-estimates t xs old cell out taken a =
    subst (λ (rs : List ℤ). Converts t rs (table_records t.shape xs) cell out) (sym (lent t xs old taken))
    (estimates t xs old cell out taken a)

-- ---- back

module _ (n degree : ℕ) (cs out : List ℤ) (h : BackAsked n degree cs out) where
  possible : (back_outcome n degree cs (length out) ≡ done tt) ↔ Possible (orders_of degree) n cs
  possible = done-possible n degree h.axes-ok h.degree-ok cs h.many (length out) h.room

  one : (r : List ℤ) → CornersOf n degree cs r → r ≡ entry_list (orders_of degree) n cs
  one r x =
      only-records (orders_of degree) n (orders-range degree).0 (orders-range degree).1 cs r x.permitted.many x.has

back : Back
back n degree cs out h =
    let known = possible n degree cs out h in
    record {
      answer = done-or-13 n degree h.axes-ok h.degree-ok cs h.many (length out) h.room;
      possible = (
        λ e. let r = known.0 e in (r.0, record { permitted = r.1.0; has = r.1.1 }),
        λ r. known.1 (r.0, (r.1.permitted, r.1.has)),
      );
      unique = λ r q x y. one n degree cs out h r x ∙ sym (one n degree cs out h q y);
      written = λ r x. written-records n degree h.axes-ok h.degree-ok cs h.many r out x.permitted x.has h.room;
    }

-- ---- the whole

pub second-demand : SecondDemand
second-demand = record { from-estimates = from-estimates; from-records = from-records; back = back }
