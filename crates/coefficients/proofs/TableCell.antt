-- A cell of a table and its corner records by themselves: the same coefficients, also as the layout of the cell finds the records.
use mathlib.Core.Path.{◌≡◌, refl, sym, ap, ◌∙◌, fun_ext}
use mathlib.Core.List.{List}
use Prim.Native.Nat.{ℕ, ◌+◌, ◌*◌, ◌-◌, ◌/◌, ◌%◌, ◌^◌, ◌≤◌, ◌<◌}
use native.Mathlib.Nat.{mul-zero, div-add-mod, mod-lt, le_trans, le_of_eq}
use native.Mathlib.Decide.{dec_lt}
use native.Mathlib.Omega.{arith}
use lib.IntN.{ℤ, nat_abs}
use lib.ListN.{length}
use Rattle.lattice.specs.declared.Shape.{Shape}
use Rattle.lattice.specs.Outcome.{done}
use Rattle.lattice.specs.Buffer.{at}
use Rattle.lattice.specs.Digits.{digit}
use Rattle.lattice.specs.Shape.{orders, entries, size, Shaped}
use Rattle.lattice.specs.Axes.{Place, Field, origin, axes}
use Rattle.lattice.specs.Records.{entry_index, records_field}
use Rattle.lattice.proofs.Along.{Fresh, distinct-axes, each-axes}
use Rattle.lattice.proofs.Local.{used, sweep-carries}
use Rattle.lattice.proofs.ShapeLaws.{entries-pos}
use Rattle.lattice.proofs.BufferLaws.{tabulate-same, length-tabulate}
use Rattle.lattice.proofs.DigitsLaws.{Digits, digits_in}
use Rattle.hermite.specs.Hermite.{forward}
use Rattle.hermite.proofs.HermiteLaws.{forward-moved}
use Rattle.cell.specs.declared.Layout.{Layout}
use Rattle.cell.specs.Cell.{corner_place, corners_outcome, Accepted, Laid, corner_start, start_of}
use Rattle.cell.specs.Coefficients.{coefficients, coefficient_count}
use Rattle.cell.specs.Corners.{corners_field, corner_entry}
use Rattle.cell.proofs.CellLaws.{laid-small}
use Rattle.cell.proofs.CornerLaws.{orders-some, entry-placed, corner-index, corner-below}
use Rattle.cell.proofs.CornerRecords.{corner-permitted}
use Rattle.cell.proofs.NumberLaws.{corner-low, entry_in}
use Rattle.coefficients.specs.Coefficients.{coefficient_list}
use Rattle.coefficients.specs.Blocks.{gathered, Gathered}

pub list_length : (m n : ℕ) (cell : Place) (g : Field) → length (coefficient_list m n cell g) ≡ coefficient_count m n
unfolding coefficient_list
list_length m n cell g = length-tabulate (coefficient_count m n) (λ K. coefficients m n cell g (digit (λ b. 2 * m) K))

module _ (s : Shape) (ok : Shaped s) (cell : Place) (here : Accepted s cell) where
  -- the same coefficients
  record Moved (a p q : ℕ) : Type 0 where
    is : p ≡ orders s * cell a + q
    low : a < s.axes → q < 2 * orders s
    none : s.axes ≤ a → q ≡ 0

  record Stays (a p q : ℕ) : Type 0 where
    is : p ≡ q
    low : a < s.axes → q < 2 * orders s
    none : s.axes ≤ a → q ≡ 0

  pub cell_same : (g : Field) (r : ℕ → ℤ) → ((i : ℕ) → i < coefficient_count (orders s) s.axes → g (corner_place s cell i) ≡ r i)
      → (p : Place) → Digits s.axes (2 * orders s) p
      → coefficients (orders s) s.axes cell g p
      ≡ coefficients (orders s) s.axes origin (λ t. r (corner_entry (orders s) s.axes t)) p
  unfolding coefficients
  cell_same g r h p d =
      sweep-carries Stays Moved (λ a. forward (orders s) (cell a)) (λ a. forward (orders s) 0) (axes s.axes) (distinct-axes s.axes)
      (each-axes s.axes _ (λ a l x y j k e eq.
      ap (λ (f : ℕ → ℤ). f j)
      (forward-moved (orders s) (cell a) 0 x y (λ t q. eq (orders s * cell a + t) (orders s * 0 + t) (moved a l t q)))
      ∙ ap (forward (orders s) 0 y) e.is))
      g (λ t. r (corner_entry (orders s) s.axes t)) same p p
      (record {
        done = λ a f. record { is = refl; low = d.used a; none = d.unused a };
        left = λ a f. record { is = d.unused a (beyond a f) ∙ sym (both a (beyond a f)); low = d.used a; none = d.unused a };
      })
    where
      moved : (a : ℕ) → a < s.axes → (t : ℕ) → t < 2 * orders s → Moved a (orders s * cell a + t) (orders s * 0 + t)
      moved a l t q = record { is = z; low = λ _. y; none = λ k. absurd (apart k) }
        where
          z : orders s * cell a + t ≡ orders s * cell a + (orders s * 0 + t)
          z = let e = mul-zero (orders s) in omega arith

          y : orders s * 0 + t < 2 * orders s
          y = let e = mul-zero (orders s) in omega arith

          apart : s.axes ≤ a → ⊥
          apart k = omega arith

      beyond : (a : ℕ) → Fresh a (axes s.axes) → s.axes ≤ a
      beyond a f = go (dec_lt a s.axes)
        where
          go : Dec (a < s.axes) → s.axes ≤ a
          go (yes l) = absurd (used s.axes a l f)
          go (no l) = omega (arith, l)

      both : (a : ℕ) → s.axes ≤ a → orders s * cell a + p a ≡ 0
      both a l = rw (here.unused a l, d.unused a l, mul-zero (orders s)) refl

      same : (t q : Place) → ((a : ℕ) → Moved a (t a) (q a)) → g t ≡ r (corner_entry (orders s) s.axes q)
      same t q e =
          let dq : Digits s.axes (2 * orders s) q = record { used = λ a. (e a).low; unused = λ a. (e a).none } in
          ap g (fun_ext (λ a. (e a).is) ∙ sym (entry-placed s cell here q dq))
          ∙ h (corner_entry (orders s) s.axes q) (entry_in (orders s) s.axes (orders-some s) q dq)

  -- so are their lists
  pub list_same : (rs r : List ℤ)
      → ((i : ℕ) → i < coefficient_count (orders s) s.axes → records_field s rs (corner_place s cell i) ≡ at r i)
      → coefficient_list (orders s) s.axes cell (records_field s rs)
      ≡ coefficient_list (orders s) s.axes origin (corners_field (orders s) s.axes r)
  unfolding coefficient_list corners_field
  list_same rs r h =
      tabulate-same (coefficient_count (orders s) s.axes) _ _
      (λ K l. cell_same (records_field s rs) (at r) h (digit (λ b. 2 * orders s) K)
      (digits_in s.axes (2 * orders s) K (let k = orders-some s in omega arith) l))

  -- by the layout
  module _ (rs : List ℤ) (many : length rs ≡ size s) (l : Layout) (laid : Laid s cell l) where
    start_is : (c : ℕ) → start_of l c ≡ corner_start s cell c
    unfolding corner_start
    start_is c = rw (laid.base-is, laid.stride-x, laid.stride-y, laid.stride-z) refl

    pub gathered-is : (i : ℕ) → i < coefficient_count (orders s) s.axes
        → records_field s rs (corner_place s cell i) ≡ gathered (entries s) l rs i
    unfolding gathered records_field entries
    gathered-is i h =
        let hc = corner-low (orders s) s.axes (orders-some s) i h in
        let he = mod-lt i (entries-pos s) in
        sym (ap (λ (k : ℕ). at rs (k + i % entries s)) (start_is (i / entries s))
        ∙ ap (at rs) (sym (corner-index s ok cell here (i / entries s) (i % entries s) hc he))
        ∙ ap (λ (k : ℕ). at rs (entry_index s (corner_place s cell k))) (div-add-mod i (entries s)))

    pub corners-gathered : corners_outcome s rs cell ≡ done tt → Gathered (orders s) s.axes l rs
    unfolding entries
    corners-gathered passed = record {
      small = laid-small s cell l ok here laid;
      inside = inside;
      within = λ i h. le_trans (le_of_eq (ap nat_abs (sym (gathered-is i h)))) (corner-permitted s ok cell here rs passed i h);
    }
      where
        inside : (c : ℕ) → c < 2 ^ s.axes → start_of l c + orders s ^ s.axes ≤ length rs
        inside c h =
            let p = entries-pos s in
            let k = corner-below s ok cell here c (entries s - 1) h (omega arith) in
            let e = start_is c in
            omega arith
