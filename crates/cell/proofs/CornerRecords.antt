-- The corner records of a cell of a table: each entry has its limit, and the limit test is passed where each lies within it.
use mathlib.Core.Path.{◌≡◌, sym, ap, subst, ◌∙◌}
use mathlib.Core.List.{List}
use Prim.Native.Nat.{ℕ, ◌*◌, ◌%◌, ◌^◌, ◌≤◌, ◌<◌}
use native.Mathlib.Nat.{mul-add-mod_self_left}
use lib.Dec.{leb}
use lib.IntN.{ℤ, pos, nat_abs}
use lib.ListN.{length}
use borrow.Author.Tests.{le-leb}
use Rattle.arith.proofs.Sums.{total_ext}
use Rattle.lattice.specs.declared.Shape.{Shape}
use Rattle.lattice.specs.Outcome.{done}
use Rattle.lattice.specs.Buffer.{at}
use Rattle.lattice.specs.Shape.{orders, entries, Shaped}
use Rattle.lattice.specs.Axes.{Place}
use Rattle.lattice.specs.Records.{entry_index, records_field, total_order, sample_limit, entry_limit}
use Rattle.lattice.proofs.BufferLaws.{length-tabulate, get_d_tabulate}
use Rattle.lattice.proofs.OutcomeLaws.{passes, first_of-passes}
use Rattle.cell.specs.Cell.{corner_place, corner_entries, entry_outcome, corners_outcome, Accepted}
use Rattle.cell.specs.Coefficients.{coefficient_count}
use Rattle.cell.specs.Corners.{corner_numbers, corner_records}
use Rattle.cell.proofs.CellLaws.{placed}
use Rattle.cell.proofs.NumberLaws.{count-split, numbers-in}
use Rattle.cell.proofs.CornerLaws.{orders-some, corner-placed, corners-within}

-- ---- as a list

module _ (s : Shape) (rs : List ℤ) (cell : Place) where
  pub records-length : length (corner_records s rs cell) ≡ coefficient_count (orders s) s.axes
  unfolding corner_records
  records-length = length-tabulate (coefficient_count (orders s) s.axes) (λ i. records_field s rs (corner_place s cell i))

  pub records-at : (i : ℕ) → i < coefficient_count (orders s) s.axes
      → at (corner_records s rs cell) i ≡ records_field s rs (corner_place s cell i)
  unfolding corner_records
  records-at i l = get_d_tabulate (coefficient_count (orders s) s.axes) (λ i. records_field s rs (corner_place s cell i)) i (pos 0) l

-- ---- limits

module _ (s : Shape) (ok : Shaped s) (cell : Place) (here : Accepted s cell) where
  -- the limit of an entry is that of its numbers
  pub limit-same : (i : ℕ) → i < coefficient_count (orders s) s.axes
      → entry_limit (orders s) s.axes (corner_place s cell i) ≡ entry_limit (orders s) s.axes (corner_numbers (orders s) s.axes i)
  unfolding entry_limit total_order
  limit-same i l =
      let t = corner_numbers (orders s) s.axes i in
      ap (entry_limit (orders s) s.axes) (corner-placed s cell here i l)
      ∙ ap (λ (k : ℕ). sample_limit * 2 ^ k)
      (total_ext s.axes (λ a. placed s cell t a % orders s) (λ a. t a % orders s)
      (λ a q. mul-add-mod_self_left (orders s) (cell a) (t a)))

  module _ (rs : List ℤ) where
    abbrev entry : ℕ → ℤ
    entry i = records_field s rs (corner_place s cell i)

    abbrev Within : ℕ → Type 0
    Within i = nat_abs (entry i) ≤ entry_limit (orders s) s.axes (corner_numbers (orders s) s.axes i)

    -- entries that are not refused lie within their limits
    pub corner-permitted : corners_outcome s rs cell ≡ done tt → (i : ℕ) → i < coefficient_count (orders s) s.axes
        → Within i
    corner-permitted h i l =
        let d = numbers-in (orders s) s.axes (orders-some s) i l in
        subst (λ (k : ℕ). nat_abs (entry i) ≤ k) (limit-same i l)
        (subst (λ (q : Place). nat_abs (records_field s rs q) ≤ entry_limit (orders s) s.axes q) (sym (corner-placed s cell here i l))
        (corners-within s rs cell h ok here (corner_numbers (orders s) s.axes i) (record { used = d.used; unused = d.unused })))

    -- and back
    pub corners-accepted : ((i : ℕ) → i < coefficient_count (orders s) s.axes → Within i) → corners_outcome s rs cell ≡ done tt
    unfolding corners_outcome corner_entries entry_outcome entries
    corners-accepted h =
        first_of-passes (2 ^ s.axes * orders s ^ s.axes) (λ i. entry_outcome s rs (corner_place s cell i))
        (λ i q. let l : i < coefficient_count (orders s) s.axes = rw (count-split (orders s) s.axes) q in
        passes (leb (nat_abs (entry i)) (entry_limit (orders s) s.axes (corner_place s cell i))) 5 (entry_index s (corner_place s cell i))
        (le-leb (nat_abs (entry i)) (entry_limit (orders s) s.axes (corner_place s cell i))
        (subst (λ (k : ℕ). nat_abs (entry i) ≤ k) (sym (limit-same i l)) (h i l))))
