-- The second demand, for both degrees and 1, 2 or 3 axes.
use mathlib.Core.Path.{◌≡◌, sym, ap, ◌∙◌}
use mathlib.Core.Bool.{Bool}
use mathlib.Core.List.{List}
use mathlib.Core.Logic.{◌⊎◌, ⊎_elim, ◌↔◌}
use Prim.Native.Nat.{ℕ, ◌^◌, ◌≤◌, ◌<◌}
use lib.IntN.{ℤ, nat_abs}
use lib.ListN.{length}
use Rattle.lattice.specs.declared.FullShape.{FullShape}
use Rattle.lattice.specs.Outcome.{done, refused}
use Rattle.lattice.specs.Buffer.{at, overwrite}
use Rattle.lattice.specs.Shape.{full_shape, orders_of, orders, steps_on, axes_outcome, degree_outcome, step_numbers_outcome}
use Rattle.lattice.specs.Records.{records_field}
use Rattle.lattice.proofs.ShapeLaws.{orders-range}
use Rattle.lattice.proofs.OutcomeLaws.{when-done, done_refused}
use Rattle.cell.specs.Cell.{place_at}
use Rattle.cell.specs.Coefficients.{coefficient_count}
use Rattle.cell.specs.Corners.{corner_records, one_cell}
use Rattle.cell.proofs.OneCell.{only_cell}
use Rattle.coefficients.specs.Coefficients.{coefficient_list, coefficients_outcome}
use Rattle.corners.specs.Corners.{PermittedCorners, HasCoefficients, doubled_entry, entry_allowed, possible_outcome, entry_list, back_outcome, back_writes}
use Rattle.corners.proofs.Possible.{within, back-of-forward, possible-of, back-permitted, forward-of-back, first_of-either, only-13}
use Rattle.corners.proofs.Calls.{written-within, back-of-written, forward-of-written}

-- ---- corner records by themselves: m is 2 or 3, n the number of axes

-- permitted corner records have these coefficients
abbrev pub Possible : ℕ → ℕ → List ℤ → Type 0
Possible m n cs = (r : List ℤ) × (PermittedCorners m n r × HasCoefficients m n r cs)

module _ (m n : ℕ) (m2 : 2 ≤ m) (m3 : m ≤ 3) (cs : List ℤ) where
  -- the coefficients of permitted corner records lie within ±2^30
  pub coefficients-within : n ≤ 3 → (r : List ℤ) → PermittedCorners m n r → HasCoefficients m n r cs → (K : ℕ) → K < coefficient_count m n
      → nat_abs (at cs K) ≤ 2 ^ 30
  coefficients-within few r ok has = within m n m2 m3 cs r has few ok

  -- forward of what back gives is the coefficients, and what back gives is permitted
  pub forward-is-coefficients : length cs ≡ coefficient_count m n → possible_outcome m n cs ≡ done tt
      → PermittedCorners m n (entry_list m n cs) × HasCoefficients m n (entry_list m n cs) cs
  forward-is-coefficients many passed = (back-permitted m n m2 m3 cs many passed, forward-of-back m n m2 m3 cs many passed)

  -- and no other corner records have these coefficients
  pub only-records : (r : List ℤ) → length r ≡ coefficient_count m n → HasCoefficients m n r cs → r ≡ entry_list m n cs
  only-records r many has = sym (back-of-forward m n m2 m3 cs r has many)

-- ---- refusal 13, and no other

-- for every list of (d+1)^n numbers
module _ (n degree : ℕ) (axes-ok : axes_outcome n ≡ done tt) (degree-ok : degree_outcome degree ≡ done tt) (cs : List ℤ)
    (many : length cs ≡ coefficient_count (orders_of degree) n) where
  abbrev m : ℕ
  m = orders_of degree

  m2 : 2 ≤ m
  m2 = (orders-range degree).0

  m3 : m ≤ 3
  m3 = (orders-range degree).1

  module _ (room : ℕ) (fits : coefficient_count m n ≤ room) where
    tested : back_outcome n degree cs room ≡ possible_outcome m n cs
    tested = only-13 n degree axes-ok degree-ok cs many room fits

    -- back is done or refused 13 at place 0
    pub done-or-13 : (back_outcome n degree cs room ≡ done tt) ⊎ (back_outcome n degree cs room ≡ refused 13 0)
    unfolding possible_outcome
    done-or-13 = rw tested (first_of-either (coefficient_count m n) (λ i. entry_allowed m n i (doubled_entry m n cs i)) 13 0)

    -- it is done if and only if permitted corner records have these coefficients
    pub done-possible : (back_outcome n degree cs room ≡ done tt) ↔ Possible m n cs
    done-possible = (
      λ e. (entry_list m n cs, forward-is-coefficients m n m2 m3 cs many (sym tested ∙ e)),
      λ h. tested ∙ possible-of m n m2 m3 cs h.0 h.1.1 h.1.0,
    )

    -- and such corner records exist if and only if it is not refused 13
    pub thirteen : Possible m n cs ↔ ((place : ℕ) → back_outcome n degree cs room ≡ refused 13 place → ⊥)
    thirteen = (
      λ h place. done_refused (back_outcome n degree cs room) 13 place (done-possible.1 h),
      λ h. ⊎_elim done-possible.0 (λ e. absurd (h 0 e)) done-or-13,
    )

  -- where permitted corner records have these coefficients, these records are what back writes
  pub written-records : (r out : List ℤ) → PermittedCorners m n r → HasCoefficients m n r cs → coefficient_count m n ≤ length out
      → back_writes n degree cs out ≡ overwrite r out
  unfolding back_writes
  written-records r out ok has fits =
      sym (when-done (overwrite (entry_list m n cs) out) out ((done-possible (length out) fits).1 (r, (ok, has))))
      ∙ ap (λ (x : List ℤ). overwrite x out) (sym (only-records m n m2 m3 cs r ok.many has))

-- ---- the two calls, one after the other

-- what forward writes lies within ±2^30
pub written-coefficients : (t : FullShape) (rs : List ℤ) (cell : List ℕ) (room : ℕ)
    → coefficients_outcome t rs (place_at cell) room ≡ done tt → (K : ℕ) → K < coefficient_count (orders t.shape) t.shape.axes
    → nat_abs (at (coefficient_list (orders t.shape) t.shape.axes (place_at cell) (records_field t.shape rs)) K) ≤ 2 ^ 30
written-coefficients = written-within

-- back of what forward writes is not refused and writes the cell's corner records
pub forward-then-back : (t : FullShape) (rs : List ℤ) (cell : List ℕ) (room : ℕ)
    → coefficients_outcome t rs (place_at cell) room ≡ done tt
    → (room' : ℕ) → let s = t.shape in
    coefficient_count (orders s) s.axes ≤ room'
    → (back_outcome s.axes s.degree (coefficient_list (orders s) s.axes (place_at cell) (records_field s rs)) room' ≡ done tt)
    × (entry_list (orders s) s.axes (coefficient_list (orders s) s.axes (place_at cell) (records_field s rs))
    ≡ corner_records s rs (place_at cell))
forward-then-back = back-of-written

-- forward of what back writes, as the table of one cell with any step numbers that are allowed, is not refused and writes the coefficients
pub back-then-forward : (n degree : ℕ) (cs : List ℤ) (room : ℕ) → back_outcome n degree cs room ≡ done tt
    → (steps : List ℕ) (e : Bool) → step_numbers_outcome n (steps_on (full_shape (one_cell n degree) steps e)) ≡ done tt → (room' : ℕ)
    → coefficient_count (orders_of degree) n ≤ room'
    → (coefficients_outcome (full_shape (one_cell n degree) steps e) (entry_list (orders_of degree) n cs) (place_at only_cell) room' ≡ done
    tt)
    × (coefficient_list (orders_of degree) n (place_at only_cell) (records_field (one_cell n degree) (entry_list (orders_of degree) n cs)) ≡
    cs)
back-then-forward = forward-of-written
