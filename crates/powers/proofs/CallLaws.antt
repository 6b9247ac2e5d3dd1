-- What follows from a call that is not refused before 5; and that the rows of the matrix by the columns are the cell's power coefficients.
use mathlib.Core.Path.{◌≡◌, refl, sym, ap, ap₂, subst, ◌∙◌}
use mathlib.Core.Bool.{◌&&◌}
use mathlib.Core.List.{List}
use Prim.Native.Nat.{ℕ, ◌+◌, ◌*◌, ◌^◌, ◌≤◌, ◌<◌}
use lib.Dec.{leb, eqb}
use lib.IntN.{ℤ, nat_abs, ◌*ℤ◌}
use lib.ListN.{length}
use borrow.Author.Tests.{leb-true, eqb-true}
use Rattle.arith.specs.Choice.{pick}
use Rattle.arith.proofs.Choices.{and-true}
use Rattle.arith.proofs.Sums.{sum-ext}
use Rattle.lattice.specs.declared.Shape.{Shape}
use Rattle.lattice.specs.declared.FullShape.{FullShape}
use Rattle.lattice.specs.Outcome.{done, refuse_unless, first}
use Rattle.lattice.specs.Buffer.{at, tabulate}
use Rattle.lattice.specs.Shape.{orders_of, orders, entries, size, full_outcome, Shaped}
use Rattle.lattice.specs.Axes.{Place}
use Rattle.lattice.specs.Records.{records_field, entry_limit}
use Rattle.lattice.proofs.OutcomeLaws.{first_done, refuse-done}
use Rattle.lattice.proofs.ShapeLaws.{shaped}
use Rattle.lattice.proofs.StepLaws.{full-shape}
use Rattle.lattice.proofs.BufferLaws.{tabulate-same}
use Rattle.cell.specs.declared.Layout.{Layout}
use Rattle.cell.specs.Cell.{place_at, cell_outcome, corner_place, corners_outcome, Accepted, Laid}
use Rattle.cell.specs.Coefficients.{coefficient_count}
use Rattle.cell.specs.Corners.{corner_numbers}
use Rattle.cell.proofs.CellLaws.{accepted}
use Rattle.cell.proofs.CornerLaws.{corner-placed}
use Rattle.cell.proofs.CornerRecords.{corner-permitted}
use Rattle.coefficients.specs.Blocks.{gathered, Gathered}
use Rattle.coefficients.proofs.TableCell.{gathered-is}
use Rattle.powers.specs.Powers.{column_entry, column_numbers, matrix, table_two, factor, power_coefficient, power_list, request_outcome}
use Rattle.powers.specs.Parts.{column_at, row_sum}
use Rattle.powers.proofs.MatrixLaws.{entry-low, matrix-at, column-size}

pub record Asked (s : Shape) (given : ℕ) (cell : Place) (room : ℕ) : Type 0 where
  pub shape : Shaped s
  pub two : s.axes ≡ 2
  pub cubic : orders s ≡ 2
  pub many : given ≡ size s
  pub roomy : 16 ≤ room
  pub here : Accepted s cell

two-orders : (d : ℕ) → d ≡ 3 → orders_of d ≡ 2
unfolding orders_of pick
two-orders d e = rw e refl

-- 4^2 coefficients where 24 does not arise
pub sixteen : (s : Shape) → refuse_unless (eqb s.axes 2 && eqb s.degree 3) 24 0 ≡ done tt → coefficient_count (orders s) s.axes ≡ 16
sixteen s h =
    let k = and-true (eqb s.axes 2) (eqb s.degree 3) (refuse-done (eqb s.axes 2 && eqb s.degree 3) 24 0 h) in
    ap₂ coefficient_count (two-orders s.degree (eqb-true s.degree 3 k.1)) (eqb-true s.axes 2 k.0)

pub asked : (t : FullShape) (given : ℕ) (xs : List ℕ) (room : ℕ) → request_outcome t given (place_at xs) room ≡ done tt
    → Asked t.shape given (place_at xs) room
unfolding request_outcome
asked t given xs room h =
    let s = t.shape in
    let kind = eqb s.axes 2 && eqb s.degree 3 in
    let last = first (refuse_unless (leb 16 room) 9 0) (cell_outcome s (place_at xs)) in
    let a = first_done (full_outcome t) (first (refuse_unless kind 24 0) (first (refuse_unless (eqb given (size s)) 4 0) last)) tt h in
    let b = first_done (refuse_unless kind 24 0) (first (refuse_unless (eqb given (size s)) 4 0) last) tt a.1 in
    let c = first_done (refuse_unless (eqb given (size s)) 4 0) last tt b.1 in
    let d = first_done (refuse_unless (leb 16 room) 9 0) (cell_outcome s (place_at xs)) tt c.1 in
    let k = and-true (eqb s.axes 2) (eqb s.degree 3) (refuse-done kind 24 0 b.0) in
    let ok = shaped s (full-shape t a.0) in
    record {
      shape = ok;
      two = eqb-true s.axes 2 k.0;
      cubic = two-orders s.degree (eqb-true s.degree 3 k.1);
      many = eqb-true given (size s) (refuse-done (eqb given (size s)) 4 0 c.0);
      roomy = leb-true 16 room (refuse-done (leb 16 room) 9 0 d.0);
      here = accepted s xs ok.axes-high d.1;
    }

module _ (s : Shape) (cell : Place) (room : ℕ) (rs : List ℤ) (ok : Asked s (length rs) cell room) where
  -- a column is an entry of the corner records
  module _ (K : ℕ) (h : K < 16) where
    low : column_entry K < coefficient_count (orders s) s.axes
    low = subst (λ (k : ℕ). column_entry K < k) (sym (ap₂ coefficient_count ok.cubic ok.two)) (entry-low K h)

    column-placed : corner_place s cell (column_entry K) ≡ (λ a. 2 * cell a + column_numbers K a)
    unfolding column_numbers
    column-placed =
        corner-placed s cell ok.here (column_entry K) low
        ∙ ap (λ (m : ℕ). λ (a : ℕ). m * cell a + corner_numbers m s.axes (column_entry K) a) ok.cubic
        ∙ ap (λ (n : ℕ). λ (a : ℕ). 2 * cell a + corner_numbers 2 n (column_entry K) a) ok.two

    -- a permitted one
    pub column-permitted : corners_outcome s rs cell ≡ done tt
        → nat_abs (factor K *ℤ records_field s rs (λ a. 2 * cell a + column_numbers K a)) ≤ 131072
    unfolding column_numbers
    column-permitted passed =
        column-size K h (records_field s rs (λ a. 2 * cell a + column_numbers K a))
        (subst (λ (p : Place). nat_abs (records_field s rs p) ≤ entry_limit 2 2 (column_numbers K)) column-placed
        (subst (λ (n : ℕ). entry ≤ entry_limit 2 n (corner_numbers 2 n (column_entry K))) ok.two
        (subst (λ (m : ℕ). entry ≤ entry_limit m s.axes (corner_numbers m s.axes (column_entry K))) ok.cubic
        (corner-permitted s ok.shape cell ok.here rs passed (column_entry K) low))))
      where
        entry : ℕ
        entry = nat_abs (records_field s rs (corner_place s cell (column_entry K)))

  module _ (l : Layout) (laid : Laid s cell l) where
    pub pair-gathered : Gathered l.orders s.axes l rs → Gathered 2 2 l rs
    pair-gathered g =
        subst (λ (m : ℕ). Gathered m 2 l rs) (laid.orders-are ∙ ok.cubic)
        (subst (λ (n : ℕ). Gathered l.orders n l rs) ok.two g)

    -- a column as the layout finds it
    column-is : (K : ℕ) → K < 16 → factor K *ℤ records_field s rs (λ a. 2 * cell a + column_numbers K a) ≡ column_at l rs K
    unfolding column_at entries
    column-is K h =
        ap (λ z. factor K *ℤ z)
        (ap (records_field s rs) (sym (column-placed K h))
        ∙ gathered-is s ok.shape cell ok.here rs ok.many l laid (column_entry K) (low K h)
        ∙ ap (λ (k : ℕ). gathered k l rs (column_entry K)) (ap₂ ◌^◌ ok.cubic ok.two))

    -- row by row
    pub list-is : (xs : List ℤ) → ((K : ℕ) → K < 16 → at xs K ≡ column_at l rs K)
        → tabulate 16 (row_sum table_two xs) ≡ power_list cell (records_field s rs)
    unfolding power_list power_coefficient row_sum
    list-is xs f =
        tabulate-same 16 (row_sum table_two xs) (power_coefficient cell (records_field s rs))
        (λ R p. sum-ext 16 (λ K. at table_two (16 * R + K) *ℤ at xs K)
        (λ K. matrix R K *ℤ (factor K *ℤ records_field s rs (λ a. 2 * cell a + column_numbers K a)))
        (λ K q. ap₂ ◌*ℤ◌ (matrix-at R K p q) (f K q ∙ sym (column-is K q))))
