-- The limit test of the corners, by the layout and an array of limits.
use mathlib.Core.Path.{◌≡◌, refl, sym, ap, ap₂, subst, ◌∙◌}
use mathlib.Core.List.{List}
use Prim.Native.Nat.{ℕ, ◌≤◌, ◌<◌, ◌+◌, ◌*◌, ◌/◌, ◌%◌, ◌^◌, ◌-◌}
use native.Mathlib.Nat.{pow-le-pow_right, lt_of_lt_of_le}
use native.Mathlib.Omega.{arith}
use lib.Pow.{pow_mono}
use lib.ListN.{length, get_or}
use lib.IntN.{ℤ, pos, nat_abs}
use lib.Signed.{non_neg}
use Rattle.lattice.specs.declared.Shape.{Shape}
use Rattle.lattice.specs.Outcome.{Check, first_of, passed}
use Rattle.lattice.specs.Buffer.{at}
use Rattle.lattice.specs.Shape.{entries, orders, size, Shaped}
use Rattle.lattice.proofs.ShapeLaws.{orders-range, entries-pos}
use Rattle.lattice.proofs.OutcomeLaws.{first_of-same}
use Rattle.cell.specs.declared.Layout.{Layout}
use Rattle.cell.specs.Cell.{place_at, Accepted, Laid, node_stride, corner_start, start_of, limit_of, limit_in, Limits, record_outcome, corners_outcome, CornerRows}
use Rattle.cell.proofs.CellLaws.{laid-small}
use Rattle.cell.proofs.CornerLaws.{corner-below, corners-rows}

-- the limit test of the record of corner c
abbrev pub corner_test : List ℤ → ℕ → List ℤ → Layout → ℕ → Check
corner_test limits n rs l c = record_outcome (limit_in limits) n rs (start_of l c)

-- where the record of a corner starts
pub start_is : (s : Shape) (cell : List ℕ) (l : Layout) → Laid s (place_at cell) l → (c : ℕ) → start_of l c ≡ corner_start s (place_at cell)
    c
unfolding corner_start
start_is s cell l laid c = rw (laid.base-is, laid.stride-x, laid.stride-y, laid.stride-z) refl

module _ (s : Shape) (cell : List ℕ) (l : Layout) (rs : List ℤ) (limits : List ℤ) (ok : Shaped s) (long : length rs ≡ size s)
    (here : Accepted s (place_at cell)) (laid : Laid s (place_at cell) l)
    (row : (e : ℕ) → e < l.orders ^ 3 → at limits e ≡ pos (limit_of l.orders e)) where
  pub few : (c : ℕ) → c < 2 ^ s.axes → c < 8
  few c h = lt_of_lt_of_le h (pow_mono ok.axes-high)

  row_at : (e : ℕ) → e < entries s → at limits e ≡ pos (limit_of (orders s) e)
  unfolding entries
  row_at e h = row e (rw laid.orders-are
      (lt_of_lt_of_le h (pow-le-pow_right {n = orders s} (let k = (orders-range s.degree).0 in omega arith) ok.axes-high))) ∙ ap (λ
      (m : ℕ). pos (limit_of m e)) laid.orders-are

  limits-are : (e : ℕ) → e < entries s → limit_in limits e ≡ limit_of (orders s) e
  limits-are e h = ap nat_abs (row_at e h)

  pub limits-hold : Limits l.entries limits
  limits-hold e h = ap non_neg (row_at e (rw laid.entries-are at h))

  -- a corner's record lies in the records
  pub record-in : (c : ℕ) → c < 2 ^ s.axes → start_of l c + l.entries ≤ length rs
  record-in c h =
      let p = entries-pos s in
      let e = corner-below s ok (place_at cell) here c (entries s - 1) h (omega arith) in
      let f = start_is s cell l laid c in
      let g = laid.entries-are in
      omega arith

  test-is : (c : ℕ) → corner_test limits l.entries rs l c ≡ record_outcome (limit_of (orders s)) (entries s) rs
      (corner_start s (place_at cell) c)
  unfolding record_outcome
  test-is c = rw (start_is s cell l laid c, laid.entries-are) (first_of-same (entries s) _ _ (λ e h. rw (limits-are e h) refl))

  pub all-is : first_of (2 ^ s.axes) (corner_test limits l.entries rs l) ≡ corners_outcome s rs (place_at cell)
  all-is = first_of-same (2 ^ s.axes) _ _ (λ c h. test-is c) ∙ sym (corners-rows s rs (place_at cell) ok here)

-- a corner and its neighbour along x
pub neighbour : (l : Layout) (r : ℕ) → start_of l (2 * r + 1) ≡ start_of l (2 * r) + get_or l.strides 0 0
neighbour l r = go l.base (get_or l.strides 0 0) (get_or l.strides 1 0) (get_or l.strides 2 0)
  where
    even : 2 * r % 2 ≡ 0
    even = omega arith

    half : 2 * r / 2 ≡ r
    half = omega arith

    odd : (2 * r + 1) % 2 ≡ 1
    odd = omega arith

    half-odd : (2 * r + 1) / 2 ≡ r
    half-odd = omega arith

    go : (b x y z : ℕ)
        → b + ((2 * r + 1) % 2 * x + ((2 * r + 1) / 2 % 2 * y + (2 * r + 1) / 2 / 2 * z)) ≡ b
        + (2 * r % 2 * x + (2 * r / 2 % 2 * y + 2 * r / 2 / 2 * z)) + x
    go b x y z = rw (even, half, odd, half-odd) (sums (r % 2 * y + r / 2 * z))
      where
        sums : (k : ℕ) → b + (1 * x + k) ≡ b + (0 * x + k) + x
        sums k = omega arith

-- the orders that are not 2
pub quintic-orders : (s : Shape) (cell : List ℕ) (l : Layout) → Laid s (place_at cell) l → (l.orders ≡ 2 → ⊥) → l.orders ≡ 3
quintic-orders s cell l laid n = let r = orders-range s.degree in let e = laid.orders-are in omega (arith, n)

-- what a call of `all_within` needs and says, of E entries a record and 2·rows corners
pub record Called (s : Shape) (cell : List ℕ) (l : Layout) (rs limits : List ℤ) (E rows : ℕ) : Type 0 where
  pub asked : CornerRows l rs E rows × Limits E limits
  pub same : passed (first_of (2 * rows) (corner_test limits E rs l)) ≡ passed (corners_outcome s rs (place_at cell))

-- ---- a table of m orders and n axes: E entries a record, 2·rows corners

module _ (s : Shape) (cell : List ℕ) (l : Layout) (laid : Laid s (place_at cell) l) (m n E rows : ℕ) (m-is : l.orders ≡ m)
    (n-is : s.axes ≡ n) (E-is : m ^ n ≡ E) (rows_are : 2 ^ n ≡ 2 * rows) where
  pub E-in : entries s ≡ E
  unfolding entries
  E-in = ap₂ ◌^◌ (sym laid.orders-are ∙ m-is) n-is ∙ E-is

  pub corners-are : 2 ^ s.axes ≡ 2 * rows
  corners-are = ap (λ (k : ℕ). 2 ^ k) n-is ∙ rows_are

  next : get_or l.strides 0 0 ≡ E
  unfolding node_stride
  next = laid.stride-x ∙ E-in

  module _ (rs limits : List ℤ) (ok : Shaped s) (long : length rs ≡ size s) (here : Accepted s (place_at cell))
      (k : ℕ) (k-is : k ≡ m) (row : (e : ℕ) → e < k ^ 3 → at limits e ≡ pos (limit_of k e)) where
    row_in : (e : ℕ) → e < l.orders ^ 3 → at limits e ≡ pos (limit_of l.orders e)
    row_in = subst (λ (k : ℕ). (e : ℕ) → e < k ^ 3 → at limits e ≡ pos (limit_of k e)) (k-is ∙ sym m-is) row

    entries-are : l.entries ≡ E
    entries-are = laid.entries-are ∙ E-in

    hold : Limits E limits
    hold = subst (λ (k : ℕ). Limits k limits) entries-are (limits-hold s cell l rs limits ok long here laid row_in)

    inside : (c : ℕ) → c < 2 * rows → start_of l c + E ≤ length rs
    inside c h =
        subst (λ (k : ℕ). start_of l c + k ≤ length rs) entries-are
        (record-in s cell l rs limits ok long here laid row_in c (subst (λ (k : ℕ). c < k) (sym corners-are) h))

    rows_in : 1 ≤ E → E ≤ 27 → rows ≤ 4 → CornerRows l rs E rows
    rows_in some low few =
        record {
          some = some;
          low = low;
          few = few;
          small = laid-small s (place_at cell) l ok here laid;
          next = next;
          inside = λ r h.
              let k = inside (2 * r + 1) (omega arith) in
              let f = neighbour l r in
              let g = next in
              omega arith;
        }

    same : passed (first_of (2 * rows) (corner_test limits E rs l)) ≡ passed (corners_outcome s rs (place_at cell))
    same =
        ap (λ (k : ℕ). passed (first_of k (corner_test limits E rs l))) (sym corners-are)
        ∙ ap (λ (k : ℕ). passed (first_of (2 ^ s.axes) (corner_test limits k rs l))) (sym entries-are)
        ∙ ap passed (all-is s cell l rs limits ok long here laid row_in)

    pub called : 1 ≤ E → E ≤ 27 → rows ≤ 4 → Called s cell l rs limits E rows
    called some low few = record { asked = (rows_in some low few, hold); same = same }
