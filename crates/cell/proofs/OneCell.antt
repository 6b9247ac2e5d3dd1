-- Corner records as the table of one cell: not refused before 5, and every entry stands where it stands among them. Those of a cell of a
-- table: the same numbers, and the limit test is passed in both or in neither.
use mathlib.Core.Path.{◌≡◌, refl, sym, ap, subst, ◌∙◌}
use mathlib.Core.Bool.{Bool}
use mathlib.Core.List.{List, [], ◌∷◌}
use Prim.Native.Nat.{ℕ, ◌+◌, ◌*◌, ◌/◌, ◌%◌, ◌^◌, ◌≤◌, ◌<◌}
use native.Mathlib.Nat.{div-add-mod, mod-lt}
use native.Mathlib.Decide.{dec_lt}
use native.Mathlib.Omega.{arith}
use lib.Dec.{leb}
use lib.IntN.{ℤ, nat_abs}
use Rattle.arith.specs.Choice.{pick}
use Rattle.arith.proofs.Choices.{by_n}
use Rattle.lattice.specs.declared.Shape.{Shape}
use Rattle.lattice.specs.Outcome.{done, first_of, passed}
use Rattle.lattice.specs.Buffer.{at}
use Rattle.lattice.specs.Digits.{number, span}
use Rattle.lattice.specs.Shape.{count, orders_of, orders, nodes, entries, size, axes_outcome, degree_outcome, count_allowed, counts_outcome, shape_outcome, Shaped}
use Rattle.lattice.specs.Axes.{Place, origin}
use Rattle.lattice.specs.Records.{node_number, entry_index, records_field, entry_limit}
use Rattle.lattice.proofs.DigitsLaws.{Digits}
use Rattle.lattice.proofs.OutcomeLaws.{first-passed, passed-test, passed-same}
use Rattle.lattice.proofs.ShapeLaws.{entries-pos, counts-shaped}
use Rattle.cell.specs.Cell.{place_at, cell_outcome, corner_place, corner_entries, entry_outcome, corners_outcome, Accepted, base, node_stride, corner_start}
use Rattle.cell.specs.Coefficients.{coefficient_count}
use Rattle.cell.specs.Corners.{corner_entry, corner_records, one_cell}
use Rattle.cell.proofs.CellLaws.{three, accepted, placed}
use Rattle.cell.proofs.NumberLaws.{corner-low, count-split, entry_in}
use Rattle.cell.proofs.CornerLaws.{orders-some, corner-index, entry-placed}
use Rattle.cell.proofs.CornerRecords.{records-at, limit-same}

-- the only cell
abbrev pub only_cell : List ℕ
only_cell = 0 ∷ 0 ∷ 0 ∷ []

pub only-cell : place_at only_cell ≡ origin
only-cell = three 0 0 0 origin refl refl refl (λ a l. refl)

-- the start of a corner's record, where y has two nodes if there is a corner beyond the first four
start_of : (c E y b : ℕ) → (4 ≤ c → y ≡ 2) → b ≡ 0 → b * E + (c % 2 * E + (c / 2 % 2 * (2 * E) + c / 2 / 2 * (y * (2 * E)))) ≡ E * c
start_of c E y b two none =
    let e : c % 2 + 2 * (c / 2 % 2 + 2 * (c / 2 / 2)) ≡ c = omega arith in
    rw (none, high (dec_lt c 4)) (digits (c % 2) (c / 2 % 2) (c / 2 / 2) ∙ ap (λ (k : ℕ). E * k) e)
  where
    high : Dec (c < 4) → c / 2 / 2 * (y * (2 * E)) ≡ c / 2 / 2 * (2 * (2 * E))
    high (yes l) = let e : c / 2 / 2 ≡ 0 = omega arith in rw e (omega arith)
    high (no l) = rw (two (omega arith))

    digits : (x y z : ℕ) → 0 * E + (x * E + (y * (2 * E) + z * (2 * (2 * E)))) ≡ E * (x + 2 * (y + 2 * z))
    digits x y z = omega arith

module _ (n degree : ℕ) (low : 1 ≤ n) (high : n ≤ 3) where
  axes-done : axes_outcome n ≡ done tt
  unfolding axes_outcome
  axes-done = by_n (λ (n : ℕ). axes_outcome n ≡ done tt) refl refl refl n low high

  counts-done : counts_outcome n (count (one_cell n degree)) ≡ done tt
  unfolding one_cell counts_outcome count_allowed count first_of pick
  counts-done = by_n (λ (n : ℕ). counts_outcome n (count (one_cell n degree)) ≡ done tt) refl refl refl n low high

  pub one-shape : degree_outcome degree ≡ done tt → shape_outcome (one_cell n degree) ≡ done tt
  unfolding shape_outcome one_cell
  one-shape degree-ok = first-passed (axes_outcome n) _ axes-done ∙ first-passed (degree_outcome degree) _ degree-ok ∙ counts-done

  pub one-shaped : Shaped (one_cell n degree)
  unfolding one_cell
  one-shaped = counts-shaped (one_cell n degree) low high counts-done

  pub one_size : size (one_cell n degree) ≡ coefficient_count (orders_of degree) n
  unfolding size nodes span entries one_cell count pick
  one_size =
      ap (λ (k : ℕ). k * orders_of degree ^ n) (by_n (λ (n : ℕ). nodes (one_cell n degree) ≡ 2 ^ n) refl refl refl n low high)
      ∙ sym (count-split (orders_of degree) n)

  pub one-within : cell_outcome (one_cell n degree) origin ≡ done tt
  unfolding cell_outcome one_cell count first_of pick
  one-within = by_n (λ (n : ℕ). cell_outcome (one_cell n degree) origin ≡ done tt) refl refl refl n low high

  pub one-accepted : Accepted (one_cell n degree) origin
  unfolding one_cell
  one-accepted =
      subst (Accepted (one_cell n degree)) only-cell
      (accepted (one_cell n degree) only_cell high
      (subst (λ (p : Place). cell_outcome (one_cell n degree) p ≡ done tt) (sym only-cell) one-within))

  -- corner after corner
  start_is : (c : ℕ) → c < 2 ^ n → corner_start (one_cell n degree) origin c ≡ entries (one_cell n degree) * c
  unfolding corner_start base node_stride node_number number one_cell count pick
  start_is c h =
      start_of c (entries (one_cell n degree)) (count (one_cell n degree) 1) (node_number (one_cell n degree) origin)
      (λ l. two l n low high h) (omega arith)
    where
      two : 4 ≤ c → (n : ℕ) → 1 ≤ n → n ≤ 3 → c < 2 ^ n → count (one_cell n degree) 1 ≡ 2
      two l = by_n (λ (n : ℕ). c < 2 ^ n → count (one_cell n degree) 1 ≡ 2) (λ h. absurd (omega arith)) (λ h. refl) (λ h. refl)

  -- an entry stands where it stands among the corner records
  pub one_entry : (r : List ℤ) (i : ℕ) → i < coefficient_count (orders_of degree) n
      → records_field (one_cell n degree) r (corner_place (one_cell n degree) origin i) ≡ at r i
  unfolding records_field entries one_cell
  one_entry r i l =
      let s = one_cell n degree in
      let E = entries s in
      let hc = corner-low (orders_of degree) n (orders-some s) i l in
      let he = mod-lt i (entries-pos s) in
      ap (at r)
      (ap (λ (k : ℕ). entry_index s (corner_place s origin k)) (sym (div-add-mod i E))
      ∙ corner-index s one-shaped origin one-accepted (i / E) (i % E) hc he ∙ ap (λ (k : ℕ). k + i % E) (start_is (i / E) hc)
      ∙ div-add-mod i E)

-- ---- a cell of a table, and the table of its corner records

module _ (s : Shape) (ok : Shaped s) (cell : Place) (here : Accepted s cell) (rs : List ℤ) where
  abbrev one : Shape
  one = one_cell s.axes s.degree

  abbrev records : List ℤ
  records = corner_records s rs cell

  accepted-one : Accepted one origin
  accepted-one = one-accepted s.axes s.degree ok.axes-low ok.axes-high

  -- the same entries
  pub entry-same : (i : ℕ) → i < coefficient_count (orders s) s.axes
      → records_field s rs (corner_place s cell i) ≡ records_field one records (corner_place one origin i)
  entry-same i l =
      sym (records-at s rs cell i l) ∙ sym (one_entry s.axes s.degree ok.axes-low ok.axes-high records i l)

  -- the same numbers
  pub number_same : (t : Place) → Digits s.axes (2 * orders s) t
      → records_field s rs (placed s cell t) ≡ records_field one records (placed one origin t)
  unfolding one_cell
  number_same t d =
      ap (records_field s rs) (sym (entry-placed s cell here t d))
      ∙ entry-same (corner_entry (orders s) s.axes t) (entry_in (orders s) s.axes (orders-some s) t d)
      ∙ ap (records_field one records) (entry-placed one origin accepted-one t d)

  -- the same limits
  limits-same : (i : ℕ) → i < coefficient_count (orders s) s.axes
      → entry_limit (orders s) s.axes (corner_place s cell i) ≡ entry_limit (orders one) one.axes (corner_place one origin i)
  unfolding one_cell
  limits-same i l =
      limit-same s ok cell here i l
      ∙ sym (limit-same one (one-shaped s.axes s.degree ok.axes-low ok.axes-high) origin accepted-one i l)

  -- so the limit test is passed in both or in neither
  pub corners-same : passed (corners_outcome s rs cell) ≡ passed (corners_outcome one records origin)
  unfolding corners_outcome corner_entries entry_outcome entries one_cell
  corners-same =
      passed-same (2 ^ s.axes * orders s ^ s.axes) (λ i. entry_outcome s rs (corner_place s cell i))
      (λ i. entry_outcome one records (corner_place one origin i)) (λ i q.
      let l : i < coefficient_count (orders s) s.axes = rw (count-split (orders s) s.axes) q in
      passed-test (test s rs (corner_place s cell i)) 5 (entry_index s (corner_place s cell i))
      ∙ ap (λ z. leb (nat_abs z) (entry_limit (orders s) s.axes (corner_place s cell i))) (entry-same i l)
      ∙ ap (λ (k : ℕ). leb (nat_abs (records_field one records (corner_place one origin i))) k) (limits-same i l)
      ∙ sym (passed-test (test one records (corner_place one origin i)) 5 (entry_index one (corner_place one origin i))))
    where
      test : Shape → List ℤ → Place → Bool
      test s rs p = leb (nat_abs (records_field s rs p)) (entry_limit (orders s) s.axes p)
