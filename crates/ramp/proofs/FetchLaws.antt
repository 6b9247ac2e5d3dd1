-- Fetched corner records: they are within their limits where those of the table are, and they are the records of the table of one cell.
use mathlib.Core.Path.{◌≡◌, refl, sym, ap, ap₂, subst, ◌∙◌}
use mathlib.Core.List.{List}
use Prim.Native.Nat.{ℕ, ◌+◌, ◌*◌, ◌/◌, ◌%◌, ◌^◌, ◌≤◌, ◌<◌}
use native.Mathlib.Nat.{div-add-mod, mod-lt, mul-le-mul}
use native.Mathlib.Omega.{arith}
use lib.Dec.{leb, lit≤}
use lib.IntN.{ℤ, pos, nat_abs}
use lib.ListN.{length, take}
use lib.Seq.{length-take-le, get_or-take, ext_get_or}
use Rattle.lattice.specs.declared.Shape.{Shape}
use Rattle.lattice.specs.Outcome.{first_of, passed}
use Rattle.lattice.specs.Buffer.{at}
use Rattle.lattice.specs.Shape.{orders, entries, size, Shaped}
use Rattle.lattice.specs.Records.{entry_index, records_field}
use Rattle.lattice.proofs.DigitsLaws.{high_digit, low_digit, pair-in}
use Rattle.lattice.proofs.OutcomeLaws.{passed-test, passed-same}
use Rattle.lattice.proofs.ShapeLaws.{entries-pos, pow-one, pow-two, pow-three}
use Rattle.lattice.specs.declared.order_count.Orders.{Orders}
use Rattle.cell.specs.declared.Layout.{Layout}
use Rattle.cell.specs.Cell.{place_at, corner_place, corners_outcome, Accepted, Laid, Small, start_of, limit_of, limit_in, record_outcome, CornerRows}
use Rattle.cell.specs.Coefficients.{coefficient_count}
use Rattle.cell.specs.Corners.{corner_records}
use Rattle.cell.proofs.NumberLaws.{corner-low, count-split}
use Rattle.cell.proofs.CornerLaws.{orders-some, corner-index}
use Rattle.cell.proofs.CornerRecords.{records-length, records-at}
use Rattle.cell.proofs.LayoutLaws.{start_is, E-in, corners-are, called}
use Rattle.cell.proofs.OneCell.{one_size}
use Rattle.ramp.specs.Parts.{one, corner_entry_at, layout_alone, Copied, Held}
use Rattle.ramp.proofs.RowLaws.{rows_fit}

-- ---- by themselves

-- the record of corner c stands behind c records
pub alone-start : (m e c : ℕ) → c < 8 → start_of (layout_alone m e) c ≡ e * c
alone-start m e c h =
    let k : c % 2 + 2 * (c / 2 % 2) + 4 * (c / 2 / 2) ≡ c = omega arith in
    digits (c % 2) (c / 2 % 2) (c / 2 / 2) ∙ ap (λ (i : ℕ). e * i) k
  where
    digits : (x y z : ℕ) → 0 + (x * e + (y * (2 * e) + z * (4 * e))) ≡ e * (x + 2 * y + 4 * z)
    digits x y z = omega arith

-- all of them fit the array
pub alone-rows : (m e rows : ℕ) (held : List ℤ) → 1 ≤ e → e ≤ 27 → rows ≤ 4 → length held ≡ 216
    → CornerRows (layout_alone m e) held e rows
alone-rows m e rows held some low few long =
    record {
      some = some;
      low = low;
      few = few;
      small = alone-small;
      next = refl;
      inside = λ r h.
          let p = rows_fit e r low (omega arith) in
          let s = alone-start m e (2 * r) (omega arith) in
          omega arith;
    }
  where
    alone-small : Small (layout_alone m e)
    alone-small = record { base-low = omega arith; x-low = omega arith; y-low = omega arith; z-low = omega arith }

module _ (l : Layout) (rs held limits : List ℤ) (m e corners : ℕ) (some : 1 ≤ e) (few : corners ≤ 8)
    (c : Copied l rs e (e * corners) held) where
  entry-same : (i j : ℕ) → i < corners → j < e → at held (start_of (layout_alone m e) i + j) ≡ at rs (start_of l i + j)
  entry-same i j h k =
      ap (λ (n : ℕ). at held (n + j)) (alone-start m e i (omega arith))
      ∙ c.is (e * i + j) (subst (λ (n : ℕ). e * i + j < n) (turn corners e) (pair-in e i j k corners h))
      ∙ ap₂ (λ (n o : ℕ). at rs (start_of l n + o)) (high_digit e i j k) (low_digit e i j k)
    where
      turn : (a b : ℕ) → a * b ≡ b * a
      turn a b = omega arith

  -- the limit tests are passed in both places or in neither
  pub within_same : passed (first_of corners (λ i. record_outcome (limit_in limits) e held (start_of (layout_alone m e) i)))
      ≡ passed (first_of corners (λ i. record_outcome (limit_in limits) e rs (start_of l i)))
  unfolding record_outcome
  within_same =
      passed-same corners (λ i. record_outcome (limit_in limits) e held (start_of (layout_alone m e) i))
      (λ i. record_outcome (limit_in limits) e rs (start_of l i))
      (λ i h. passed-same e _ _ (λ j k.
      passed-test (leb (nat_abs (at held (start_of (layout_alone m e) i + j))) (limit_in limits j)) 5 (start_of (layout_alone m e) i + j)
      ∙ ap (λ z. leb (nat_abs z) (limit_in limits j)) (entry-same i j h k)
      ∙ sym (passed-test (leb (nat_abs (at rs (start_of l i + j))) (limit_in limits j)) 5 (start_of l i + j))))

-- ---- those of a cell of a table of m orders and n axes: E entries a record, 2·rows records

module _ (s : Shape) (cell : List ℕ) (l : Layout) (rs : List ℤ) (ok : Shaped s) (here : Accepted s (place_at cell))
    (laid : Laid s (place_at cell) l) (m n E rows : ℕ) (m-is : l.orders ≡ m) (n-is : s.axes ≡ n) (E-is : m ^ n ≡ E)
    (rows_are : 2 ^ n ≡ 2 * rows) where
  E-here : entries s ≡ E
  E-here = E-in s cell l laid m n E rows m-is n-is E-is rows_are

  -- an entry of the corner records, in the table
  entry-is : (i : ℕ) → i < coefficient_count (orders s) s.axes
      → corner_entry_at l rs E i ≡ records_field s rs (corner_place s (place_at cell) i)
  unfolding records_field entries
  entry-is i h =
      let e = entries s in
      ap (λ (k : ℕ). at rs (start_of l (i / k) + i % k)) (sym E-here)
      ∙ ap (at rs)
      (ap (λ (k : ℕ). k + i % e) (start_is s cell l laid (i / e))
      ∙ sym (corner-index s ok (place_at cell) here (i / e) (i % e) (corner-low (orders s) s.axes (orders-some s) i h)
      (mod-lt i (entries-pos s)))
      ∙ ap (λ (k : ℕ). entry_index s (corner_place s (place_at cell) k)) (div-add-mod i e))

  count-is : size (one s) ≡ coefficient_count (orders s) s.axes
  count-is = one_size s.axes s.degree ok.axes-low ok.axes-high

  all_are : size (one s) ≡ 2 * E * rows
  unfolding entries
  all_are = count-is ∙ count-split (orders s) s.axes
      ∙ ap₂ ◌*◌ (corners-are s cell l laid m n E rows m-is n-is E-is rows_are) E-here ∙ turn rows E
    where
      turn : (a b : ℕ) → 2 * a * b ≡ 2 * b * a
      turn a b = omega arith

  pub held-is : 2 * E * rows ≤ 216 → (held : List ℤ) → Copied l rs E (2 * E * rows) held → Held s rs (place_at cell) held
  held-is fit held c =
      let e = all_are in
      let f = count-is in
      let g = c.long in
      let long : length (take (size (one s)) held) ≡ size (one s) = length-take-le (size (one s)) held (omega arith) in
      record {
        long = c.long;
        is = ext_get_or (pos 0) (take (size (one s)) held) (corner_records s rs (place_at cell))
            (long ∙ f ∙ sym (records-length s rs (place_at cell)))
            (λ i h. get_or-take (size (one s)) held i (pos 0) (omega arith) ∙ c.is i (omega arith) ∙ entry-is i (omega arith)
            ∙ sym (records-at s rs (place_at cell) i (omega arith)));
      }

-- ---- what a call of `copy_within` needs and says, of E entries a record and 2·rows records

pub record Fetched (s : Shape) (rs : List ℤ) (cell : List ℕ) (l : Layout) (limits : List ℤ) (E rows : ℕ) : Type 0 where
  pub asked : CornerRows l rs E rows
  pub is_held : (held : List ℤ) → Copied l rs E (2 * E * rows) held → Held s rs (place_at cell) held
  pub is : passed (first_of (2 * rows) (λ c. record_outcome (limit_in limits) E rs (start_of l c)))
      ≡ passed (corners_outcome s rs (place_at cell))

module _ (s : Shape) (rs : List ℤ) (cell : List ℕ) (ok : Shaped s) (long : length rs ≡ size s) (here : Accepted s (place_at cell))
    (m : Orders) (m-is : m.count ≡ orders s) (l : Layout) (laid : Laid s (place_at cell) l) (limits : List ℤ)
    (row : (e : ℕ) → e < m.count ^ 3 → at limits e ≡ pos (limit_of m.count e)) where
  fetched : (n E rows : ℕ) → s.axes ≡ n → m.count ^ n ≡ E → 2 ^ n ≡ 2 * rows → 1 ≤ E → E ≤ 27 → rows ≤ 4 → 2 * E * rows ≤ 216
      → Fetched s rs cell l limits E rows
  fetched n E rows n-is E-is rows_are some low few fit =
      let same = laid.orders-are ∙ sym m-is in
      let tested = called s cell l laid m.count n E rows same n-is E-is rows_are rs limits ok long here m.count refl row some low few in
      record {
        asked = tested.asked.0;
        is_held = held-is s cell l rs ok here laid m.count n E rows same n-is E-is rows_are fit;
        is = tested.same;
      }

  pub on_line : s.axes ≡ 1 → Fetched s rs cell l limits m.count 1
  on_line e =
      let h = m.bounds in
      fetched 1 m.count 1 e (pow-one m.count) refl (omega arith) (omega arith) (lit≤ tt) (omega arith)

  pub on-plane : s.axes ≡ 2 → Fetched s rs cell l limits (m.count * m.count) 2
  on-plane e =
      let h : m.count * m.count ≤ 3 * 3 = mul-le-mul m.bounds.1 m.bounds.1 in
      let k : 2 * 2 ≤ m.count * m.count = mul-le-mul m.bounds.0 m.bounds.0 in
      fetched 2 (m.count * m.count) 2 e (pow-two m.count) refl (omega arith) (omega arith) (lit≤ tt) (omega arith)

  pub in-space : s.axes ≡ 3 → Fetched s rs cell l limits (m.count * m.count * m.count) 4
  in-space e =
      let h : m.count * m.count * m.count ≤ 3 * 3 * 3 = mul-le-mul (mul-le-mul m.bounds.1 m.bounds.1) m.bounds.1 in
      let k : 2 * 2 * 2 ≤ m.count * m.count * m.count = mul-le-mul (mul-le-mul m.bounds.0 m.bounds.0) m.bounds.0 in
      fetched 3 (m.count * m.count * m.count) 4 e (pow-three m.count) refl (omega arith) (omega arith) (lit≤ tt) (omega arith)
