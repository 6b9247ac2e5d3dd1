-- The two calls, one after the other: the corner records of a cell are permitted and have the coefficients that forward writes; the records
-- that back writes, taken as the table of one cell, have the coefficients that back was lent.
use mathlib.Core.Path.{◌≡◌, sym, subst, ◌∙◌}
use mathlib.Core.Bool.{Bool}
use mathlib.Core.List.{List}
use Prim.Native.Nat.{ℕ, ◌^◌, ◌≤◌, ◌<◌}
use lib.Dec.{leb, eqb}
use lib.IntN.{ℤ, nat_abs}
use lib.ListN.{length}
use borrow.Author.Tests.{le-leb, eq-eqb}
use Rattle.lattice.specs.declared.Shape.{Shape}
use Rattle.lattice.specs.declared.FullShape.{FullShape}
use Rattle.lattice.specs.Outcome.{done, refuse_unless, first}
use Rattle.lattice.specs.Buffer.{at}
use Rattle.lattice.specs.Shape.{orders_of, orders, size, count, axes_outcome, degree_outcome, counts_outcome, shape_outcome, full_shape, steps_on, step_numbers_outcome, full_outcome, Shaped}
use Rattle.lattice.specs.Axes.{Place, origin}
use Rattle.lattice.specs.Records.{records_field, entry_limit}
use Rattle.lattice.proofs.OutcomeLaws.{first_done, first-passed, passes}
use Rattle.lattice.proofs.ShapeLaws.{axes-range, orders-range}
use Rattle.lattice.proofs.StepLaws.{full-shape}
use Rattle.cell.specs.Cell.{place_at, corner_place, corners_outcome, Accepted}
use Rattle.cell.specs.Coefficients.{coefficient_count}
use Rattle.cell.specs.Corners.{corner_numbers, corner_records, one_cell}
use Rattle.cell.proofs.CornerRecords.{records-length, records-at, corner-permitted, corners-accepted}
use Rattle.cell.proofs.OneCell.{only_cell, only-cell, one-shape, one-shaped, one_size, one-within, one-accepted, one_entry}
use Rattle.coefficients.specs.Coefficients.{coefficient_list, request_outcome, coefficients_outcome}
use Rattle.coefficients.proofs.TableCell.{list_length, list_same}
use Rattle.coefficients.proofs.CallLaws.{Asked, asked}
use Rattle.corners.specs.Corners.{PermittedCorners, HasCoefficients, possible_outcome, entry_list, numbers_outcome, back_outcome}
use Rattle.corners.proofs.Possible.{entries-many, within, back-of-forward, possible-of, back-permitted, forward-of-back, only-13}
use Rattle.corners.proofs.CallLaws.{Numbered, numbered}

-- forward that is not refused
module _ (t : FullShape) (rs : List ℤ) (xs : List ℕ) (room : ℕ) (passed : coefficients_outcome t rs (place_at xs) room ≡ done tt) where
  abbrev s : Shape
  s = t.shape

  range : (2 ≤ orders s) × (orders s ≤ 3)
  range = orders-range s.degree

  parts : (request_outcome t (length rs) (place_at xs) room ≡ done tt) × (corners_outcome s rs (place_at xs) ≡ done tt)
  unfolding coefficients_outcome
  parts = first_done (request_outcome t (length rs) (place_at xs) room) (corners_outcome s rs (place_at xs)) tt passed

  kind : (axes_outcome s.axes ≡ done tt) × (degree_outcome s.degree ≡ done tt)
  unfolding request_outcome shape_outcome
  kind =
      let a = first_done (axes_outcome s.axes) (first (degree_outcome s.degree) (counts_outcome s.axes (count s))) tt
      (full-shape t (first_done (full_outcome t) _ tt parts.0).0) in
      (a.0, (first_done (degree_outcome s.degree) (counts_outcome s.axes (count s)) tt a.1).0)

  facts : Asked s (length rs) (place_at xs) room
  facts = asked t (length rs) xs room parts.0

  -- what the forward call writes
  abbrev written : List ℤ
  written = coefficient_list (orders s) s.axes (place_at xs) (records_field s rs)

  -- the corner records of the cell are permitted, and these are their coefficients
  pub corners-permitted : PermittedCorners (orders s) s.axes (corner_records s rs (place_at xs))
  corners-permitted = record {
    many = records-length s rs (place_at xs);
    within =
        λ i l. subst (λ z. nat_abs z ≤ entry_limit (orders s) s.axes (corner_numbers (orders s) s.axes i))
        (sym (records-at s rs (place_at xs) i l))
        (corner-permitted s facts.shape (place_at xs) facts.here rs parts.1 i l);
  }

  pub corners-have : HasCoefficients (orders s) s.axes (corner_records s rs (place_at xs)) written
  corners-have = record {
    are =
        sym (list_same s facts.shape (place_at xs) facts.here rs (corner_records s rs (place_at xs))
        (λ i q. sym (records-at s rs (place_at xs) i q)));
  }

  -- so they lie within ±2^30
  pub written-within : (K : ℕ) → K < coefficient_count (orders s) s.axes → nat_abs (at written K) ≤ 2 ^ 30
  written-within =
      within (orders s) s.axes range.0 range.1 written (corner_records s rs (place_at xs)) corners-have
      facts.shape.axes-high corners-permitted

  -- and back of them is not refused and gives the corner records
  pub back-of-written : (room' : ℕ) → coefficient_count (orders s) s.axes ≤ room'
      → (back_outcome s.axes s.degree written room' ≡ done tt)
      × (entry_list (orders s) s.axes written ≡ corner_records s rs (place_at xs))
  back-of-written room' fits = (
    only-13 s.axes s.degree kind.0 kind.1 written
        (list_length (orders s) s.axes (place_at xs) (records_field s rs)) room' fits
        ∙ possible-of (orders s) s.axes range.0 range.1 written (corner_records s rs (place_at xs)) corners-have corners-permitted,
    back-of-forward (orders s) s.axes range.0 range.1 written (corner_records s rs (place_at xs)) corners-have
        corners-permitted.many,
  )

-- back that is not refused
module _ (n degree : ℕ) (cs : List ℤ) (room : ℕ) (passed : back_outcome n degree cs room ≡ done tt) where
  parts-back : (numbers_outcome n degree (length cs) room ≡ done tt) × (possible_outcome (orders_of degree) n cs ≡ done tt)
  unfolding back_outcome
  parts-back = first_done (numbers_outcome n degree (length cs) room) (possible_outcome (orders_of degree) n cs) tt passed

  range_back : (2 ≤ orders_of degree) × (orders_of degree ≤ 3)
  range_back = orders-range degree

  numbers : Numbered n degree (length cs) room
  numbers = numbered n degree (length cs) room parts-back.0

  range-axes : (1 ≤ n) × (n ≤ 3)
  range-axes = axes-range n numbers.axes-done

  -- the records that back writes
  abbrev records : List ℤ
  records = entry_list (orders_of degree) n cs

  -- as the table of one cell, with any step numbers that are allowed: forward is not refused and gives the coefficients
  module _ (steps : List ℕ) (e : Bool) (allowed : step_numbers_outcome n (steps_on (full_shape (one_cell n degree) steps e)) ≡ done tt)
    where
      abbrev t : FullShape
      t = full_shape (one_cell n degree) steps e

      abbrev Forward : ℕ → Place → Type 0
      Forward room' cell =
          (coefficients_outcome t records cell room' ≡ done tt)
          × (coefficient_list (orders_of degree) n cell (records_field (one_cell n degree) records) ≡ cs)

      forward-of-records : (room' : ℕ) → coefficient_count (orders_of degree) n ≤ room' → Forward room' origin
      unfolding one_cell coefficients_outcome request_outcome full_outcome
      forward-of-records room' fits = (
        first-passed (request_outcome t (length records) origin room') (corners_outcome s records origin) asked-done
            ∙ corners-accepted s ok origin here records (λ i l.
            subst (λ z. nat_abs z ≤ entry_limit (orders_of degree) n (corner_numbers (orders_of degree) n i)) (sym (entry-is i l))
            ((back-permitted (orders_of degree) n range_back.0 range_back.1 cs numbers.many parts-back.1).within i l)),
        list_same s ok origin here records records entry-is
            ∙ (forward-of-back (orders_of degree) n range_back.0 range_back.1 cs numbers.many parts-back.1).are,
      )
        where
          s : Shape
          s = one_cell n degree

          ok : Shaped s
          ok = one-shaped n degree range-axes.0 range-axes.1

          here : Accepted s origin
          here = one-accepted n degree range-axes.0 range-axes.1

          entry-is : (i : ℕ) → i < coefficient_count (orders_of degree) n → records_field s records (corner_place s origin i) ≡ at records i
          entry-is = one_entry n degree range-axes.0 range-axes.1 records

          many : length records ≡ size s
          many = entries-many (orders_of degree) n range_back.0 range_back.1 cs ∙ sym (one_size n degree range-axes.0 range-axes.1)

          asked-done : request_outcome t (length records) origin room' ≡ done tt
          asked-done =
              first-passed (full_outcome t) _
              (first-passed (shape_outcome s) _ (one-shape n degree range-axes.0 range-axes.1 numbers.degree-done) ∙ allowed)
              ∙ first-passed (refuse_unless (eqb (length records) (size s)) 4 0) _
              (passes (eqb (length records) (size s)) 4 0 (eq-eqb (length records) (size s) many))
              ∙ first-passed (refuse_unless (leb (coefficient_count (orders_of degree) n) room') 9 0) _
              (passes (leb (coefficient_count (orders_of degree) n) room') 9 0 (le-leb (coefficient_count (orders_of degree) n) room' fits))
              ∙ one-within n degree range-axes.0 range-axes.1

      pub forward-of-written : (room' : ℕ) → coefficient_count (orders_of degree) n ≤ room' → Forward room' (place_at only_cell)
      forward-of-written room' fits = subst (Forward room') (sym only-cell) (forward-of-records room' fits)
