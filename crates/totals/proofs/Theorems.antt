-- A cut box has the sum of its parts, the whole table that of its cells, and a cell's total is the integral of its exact interpolant.
use mathlib.Core.Path.{◌≡◌, refl, sym, ap, subst, ◌∙◌, fun_ext}
use mathlib.Core.Bool.{Bool, true, ◌&&◌}
use mathlib.Core.List.{List, [], ◌∷◌}
use Prim.Native.Nat.{ℕ, ◌+◌, ◌*◌, ◌-◌, ◌/◌, ◌%◌, ◌^◌, ◌≤◌, ◌<◌}
use native.Mathlib.Nat.{le_refl, le_trans, mul-le-mul_right, zero-add, mul-one, mod-eq_of_lt}
use native.Mathlib.Decide.{ℕ_discrete}
use native.Mathlib.Omega.{arith}
use lib.Dec.{leb, ltb, eqb, lit<}
use lib.IntN.{ℤ, nat_abs, ◌+ℤ◌}
use lib.ListN.{length, get_or}
use borrow.Author.Tests.{leb-true, le-leb, eqb-true, eq-eqb}
use Rattle.arith.specs.Choice.{pick, all}
use Rattle.arith.specs.Sum.{sum}
use Rattle.arith.proofs.Choices.{and-true, true-and, all-each, by-3, from-3, pick_true, pick-false, on-pick}
use Rattle.arith.proofs.Sums.{sum-ext, sum-add}
use Rattle.lattice.specs.declared.Shape.{Shape}
use Rattle.lattice.specs.declared.FullShape.{FullShape}
use Rattle.lattice.specs.Outcome.{done, refuse_unless, first}
use Rattle.lattice.specs.Buffer.{at}
use Rattle.lattice.specs.Digits.{span, digit}
use Rattle.lattice.specs.Shape.{count, orders, entries, size, Shaped}
use Rattle.lattice.specs.Axes.{Place, Field, origin, put, sweep, axes}
use Rattle.lattice.specs.Records.{records_field, entry_place, entry_limit}
use Rattle.lattice.proofs.Along.{put-at, put-off}
use Rattle.lattice.proofs.DigitsLaws.{high_digit, low_digit}
use Rattle.lattice.proofs.OutcomeLaws.{first_done, first-passed, done-same, refuse-done, passes, first_of-each, first_of-passes}
use Rattle.lattice.proofs.ShapeLaws.{orders-range}
use Rattle.cell.specs.Cell.{place_at, cell_outcome, corners_outcome, Laid, base, node_stride}
use Rattle.cell.specs.declared.Layout.{Layout}
use Rattle.cell.specs.Cells.{cells_along, cell_count, cell_at}
use Rattle.cell.proofs.CellLaws.{cell-passes, place-beyond}
use Rattle.cell.proofs.CellsLaws.{cell-accepted, cell-digit, cell_below, along-range}
use Rattle.totals.specs.Totals.{cell_numerator, over_cells, box_numerator, table_outcome, cell_total, box_outcome, in_box, records_outcome, box_total}
use Rattle.totals.specs.Promises.{CutBox, WholeTable, TotalsFit, IsIntegral}
use Rattle.totals.specs.Parts.{cells_within, Boxed, row_count, row_start, across, row_sum, rows_sum, EntriesWithin, Walk}
use Rattle.totals.proofs.SumLaws.{sum-within}
use Rattle.totals.proofs.RowLaws.{rows_few, across-light, row_within}
use Rattle.totals.proofs.NumeratorLaws.{numerator-rows}
use Rattle.totals.proofs.AxisLaws.{sum-cut, sum_rows}
use Rattle.totals.proofs.CallLaws.{Tabled, tabled, boxed, walk, entries-low, corners-records}
use Rattle.totals.proofs.IntegralLaws.{divisor-is, cell_powers, cell-integral, cell-polynomial, over-powers}

-- ---- what a total says

-- the tests of a box, and its number
pub record Taken (t : FullShape) (rs : List ℤ) (from to : Place) (v : ℤ) : Type 0 where
  table : table_outcome t (length rs) ≡ done tt
  box : box_outcome t.shape from to ≡ done tt
  records : records_outcome t.shape rs from to ≡ done tt
  is : box_numerator (orders t.shape) t.shape.axes from to (records_field t.shape rs) ≡ v

box-told : (t : FullShape) (rs : List ℤ) (from to : Place) (v : ℤ) → box_total t rs from to ≡ done v → Taken t rs from to v
unfolding box_total
box-told t rs from to v h =
    let s = t.shape in
    let n = box_numerator (orders s) s.axes from to (records_field s rs) in
    let a = first_done (table_outcome t (length rs)) (first (box_outcome s from to) (first (records_outcome s rs from to) (done n))) v h in
    let b = first_done (box_outcome s from to) (first (records_outcome s rs from to) (done n)) v a.1 in
    let c = first_done (records_outcome s rs from to) (done n) v b.1 in
    record { table = a.0; box = b.0; records = c.0; is = done-same n v c.1 }

-- the answer of a box that is not refused
abbrev Answered : FullShape → List ℤ → Place → Place → Type 0
Answered t rs from to =
    box_total t rs from to ≡ done (box_numerator (orders t.shape) t.shape.axes from to (records_field t.shape rs))

box-done : (t : FullShape) (rs : List ℤ) (from to : Place) → table_outcome t (length rs) ≡ done tt
    → box_outcome t.shape from to ≡ done tt → records_outcome t.shape rs from to ≡ done tt → Answered t rs from to
unfolding box_total
box-done t rs from to a b c =
    first-passed (table_outcome t (length rs)) _ a ∙ first-passed (box_outcome t.shape from to) _ b
    ∙ first-passed (records_outcome t.shape rs from to) _ c

-- ---- a box in a box

all-3 : (p : ℕ → Bool) → ((a : ℕ) → a < 3 → p a ≡ true) → all 3 p ≡ true
unfolding all
all-3 p h = true-and (p 2) (p 1 && (p 0 && true)) (h 2 (lit< tt))
    (true-and (p 1) (p 0 && true) (h 1 (lit< tt)) (true-and (p 0) true (h 0 (lit< tt)) refl))

module _ (from to from' to' : Place) (low : (a : ℕ) → a < 3 → from a ≤ from' a) (high : (a : ℕ) → a < 3 → to' a ≤ to a) where
  box_in : (node : Place) → in_box from' to' node ≡ true → in_box from to node ≡ true
  unfolding in_box
  box_in node h = all-3 (λ a. leb (from a) (node a) && leb (node a) (to a + 1)) (λ a l.
      let e = and-true (leb (from' a) (node a)) (leb (node a) (to' a + 1))
      (all-each 3 (λ a. leb (from' a) (node a) && leb (node a) (to' a + 1)) h a l) in
      let p = leb-true (from' a) (node a) e.0 in
      let q = leb-true (node a) (to' a + 1) e.1 in
      let i = low a l in
      let j = high a l in
      true-and (leb (from a) (node a)) (leb (node a) (to a + 1)) (le-leb (from a) (node a) (omega arith))
      (le-leb (node a) (to a + 1) (omega arith)))

  -- and so are its records
  records-in : (s : Shape) (rs : List ℤ) → records_outcome s rs from to ≡ done tt → records_outcome s rs from' to' ≡ done tt
  unfolding records_outcome
  records-in s rs h = first_of-passes (size s) _ (λ i l. passes _ 5 i
      (on-pick (λ (b : Bool). b ≡ true) (in_box from' to' (λ a. entry_place s i a / orders s))
      (leb (nat_abs (at rs i)) (entry_limit (orders s) s.axes (entry_place s i))) true
      (λ e. sym (pick_true (in_box from to (λ a. entry_place s i a / orders s)) _ true (box_in (λ a. entry_place s i a / orders s) e))
      ∙ refuse-done _ 5 i (first_of-each (size s) _ h i l))
      (λ e. refl)))

-- ---- a cut

-- one axis
range-cut : (f c t : ℕ) (h : ℕ → ℤ) → f ≤ c → c < t
    → sum (t + 1 - f) (λ k. h (f + k)) ≡ sum (c + 1 - f) (λ k. h (f + k)) +ℤ sum (t + 1 - (c + 1)) (λ k. h (c + 1 + k))
range-cut f c t h a b =
    let e : t + 1 - f ≡ (c + 1 - f) + (t + 1 - (c + 1)) = omega arith in
    ap (λ (n : ℕ). sum n (λ k. h (f + k))) e ∙ sum-cut (c + 1 - f) (t + 1 - (c + 1)) (λ k. h (f + k))
    ∙ ap (λ z. sum (c + 1 - f) (λ k. h (f + k)) +ℤ z) (sum-ext (t + 1 - (c + 1)) _ (λ k. h (c + 1 + k))
    (λ k l. let d : f + (c + 1 - f + k) ≡ c + 1 + k = omega arith in ap h d))

Cut : Place → Place → Field → ℕ → Type 0
Cut from to F a = (c : ℕ) → from a ≤ c → c < to a → over_cells from to F
    ≡ over_cells from (put a c to) F +ℤ over_cells (put a (c + 1) from) to F

module _ (from to : Place) (F : Field) where
  abbrev at3 : ℕ → ℕ → ℕ → ℤ
  at3 x y z = F (put 0 x (put 1 y (put 2 z origin)))

  abbrev len : ℕ → ℕ
  len a = to a + 1 - from a

  cut-x : Cut from to F 0
  unfolding Cut over_cells sweep axes put pick
  cut-x c p q =
      sum-ext (len 2) _ _ (λ k l. sum-ext (len 1) _ _ (λ j r. range-cut (from 0) c (to 0) (λ x. at3 x (from 1 + j) (from 2 + k)) p q)
      ∙ sum-add (len 1) _ _)
      ∙ sum-add (len 2) _ _

  cut-y : Cut from to F 1
  unfolding Cut over_cells sweep axes put pick
  cut-y c p q =
      sum-ext (len 2) _ _ (λ k l. range-cut (from 1) c (to 1) (λ y. sum (len 0) (λ i. at3 (from 0 + i) y (from 2 + k))) p q)
      ∙ sum-add (len 2) _ _

  cut-z : Cut from to F 2
  unfolding Cut over_cells sweep axes put pick
  cut-z c p q = range-cut (from 2) c (to 2) (λ z. sum (len 1) (λ j. sum (len 0) (λ i. at3 (from 0 + i) (from 1 + j) z))) p q

  over-cut : (a : ℕ) → a < 3 → Cut from to F a
  over-cut = by-3 (Cut from to F) cut-x cut-y cut-z

-- 29 by axis
index_test : Shape → ℕ → ℕ → ℕ → Bool
index_test s f t a = leb f t && pick (ltb a s.axes) (leb (t + 2) (count s a)) (eqb t 0)

box-each : (s : Shape) (from to : Place) → box_outcome s from to ≡ done tt → (a : ℕ) → a < 3 → index_test s (from a) (to a) a ≡ true
unfolding box_outcome index_test
box-each s from to h a l = refuse-done _ 29 a (first_of-each 3 (λ a. refuse_unless (index_test s (from a) (to a) a) 29 a) h a l)

box-pass : (s : Shape) (from to : Place) → ((a : ℕ) → a < 3 → index_test s (from a) (to a) a ≡ true) → box_outcome s from to ≡ done tt
unfolding box_outcome index_test
box-pass s from to h = first_of-passes 3 (λ a. refuse_unless (index_test s (from a) (to a) a) 29 a) (λ a l. passes _ 29 a (h a l))

-- indices between those of a box
index_in : (s : Shape) (f t f' t' a : ℕ) → index_test s f t a ≡ true → f' ≤ t' → t' ≤ t → index_test s f' t' a ≡ true
unfolding index_test
index_in s f t f' t' a h p q =
    let e = and-true (leb f t) (pick (ltb a s.axes) (leb (t + 2) (count s a)) (eqb t 0)) h in
    true-and (leb f' t') (pick (ltb a s.axes) (leb (t' + 2) (count s a)) (eqb t' 0)) (le-leb f' t' p)
    (on-pick (λ (b : Bool). b ≡ true) (ltb a s.axes) (leb (t' + 2) (count s a)) (eqb t' 0)
    (λ u. let k = leb-true (t + 2) (count s a) (sym (pick_true (ltb a s.axes) _ _ u) ∙ e.1) in le-leb (t' + 2) (count s a)
    (omega arith))
    (λ u. let k = eqb-true t 0 (sym (pick-false (ltb a s.axes) _ _ u) ∙ e.1) in eq-eqb t' 0 (omega arith)))

-- a box within a box that is not refused is not refused
box-within : (t : FullShape) (rs : List ℤ) (from to from' to' : Place) (v : ℤ) → Taken t rs from to v
    → ((a : ℕ) → a < 3 → from a ≤ from' a) → ((a : ℕ) → a < 3 → from' a ≤ to' a)
    → ((a : ℕ) → a < 3 → to' a ≤ to a) → Answered t rs from' to'
box-within t rs from to from' to' v w low order high =
    let s = t.shape in
    box-done t rs from' to' w.table
    (box-pass s from' to' (λ a l. index_in s (from a) (to a) (from' a) (to' a) a (box-each s from to w.box a l) (order a l) (high a l)))
    (records-in from to from' to' low high s rs w.records)

-- a number put on one axis
on-axis : (a i b : ℕ) (p : Place) (P : ℕ → Type 0) → (b ≡ a → P i) → P (p b) → P (put a i p b)
on-axis a i b p P h k = go (ℕ_discrete b a)
  where
    go : Dec (b ≡ a) → P (put a i p b)
    go (yes e) = rw (ap (λ (j : ℕ). put a i p j) e ∙ put-at a i p) (h e)
    go (no n) = rw (put-off a i b p n) k

-- both parts of a cut
module _ (t : FullShape) (rs : List ℤ) (from to : Place) (a c : ℕ) (v : ℤ) (p : from a ≤ c) (q : c < to a) (w : Taken t rs from to v) where
  order : (b : ℕ) → b < 3 → from b ≤ to b
  unfolding index_test
  order b l = leb-true (from b) (to b) (and-true (leb (from b) (to b)) _ (box-each t.shape from to w.box b l)).0

  low_part : Answered t rs from (put a c to)
  low_part = box-within t rs from to from (put a c to) v w (λ b l. le_refl (from b))
      (λ b l. on-axis a c b to (λ i. from b ≤ i) (λ e. rw e p) (order b l))
      (λ b l. on-axis a c b to (λ i. i ≤ to b) (λ e. rw e (omega arith)) (le_refl (to b)))

  high_part : Answered t rs (put a (c + 1) from) to
  high_part = box-within t rs from to (put a (c + 1) from) to v w
      (λ b l. on-axis a (c + 1) b from (λ i. from b ≤ i) (λ e. rw e (omega arith)) (le_refl (from b)))
      (λ b l. on-axis a (c + 1) b from (λ i. i ≤ to b) (λ e. rw e (omega arith)) (order b l))
      (λ b l. le_refl (to b))

pub cut-box : CutBox
unfolding box_numerator Cut
cut-box t rs from to a c v l p q h =
    let s = t.shape in
    let w = box-told t rs from to v h in
    let g = records_field s rs in (
      box_numerator (orders s) s.axes from (put a c to) g,
      box_numerator (orders s) s.axes (put a (c + 1) from) to g,
      low_part t rs from to a c v p q w,
      high_part t rs from to a c v p q w,
      sym w.is ∙ over-cut from to (λ cell. cell_numerator (orders s) s.axes cell g) a l c p q,
    )

-- ---- the whole table

module _ (t : FullShape) (rs : List ℤ) (v : ℤ) (w : Taken t rs origin (λ a. cells_along t.shape a - 1) v) where
  abbrev s : Shape
  s = t.shape

  facts : Tabled s (length rs)
  facts = tabled t (length rs) w.table

  abbrev m : ℕ
  m = orders s

  abbrev g : Field
  g = records_field s rs

  -- cell i
  abbrev cell : ℕ → Place
  cell i = place_at (cell_at s i)

  cell-done : (i : ℕ) → cell_total t rs (cell i) ≡ done (cell_numerator m s.axes (cell i) g)
  unfolding cell_total
  cell-done i =
      let here = cell-accepted s facts.shape i in
      first-passed (table_outcome t (length rs)) _ w.table
      ∙ first-passed (cell_outcome s (cell i)) _ (cell-passes s (cell i) here.used (λ a l k. here.unused a k))
      ∙ first-passed (corners_outcome s rs (cell i)) _
      (corners-records s facts.shape (cell i) here rs
      ∙ records-in origin (λ a. cells_along s a - 1) (cell i) (cell i) (λ a l. omega arith)
      (λ a l. let k = cell_below s facts.shape i a l in omega arith) s rs w.records)

  -- the cell of three indices
  cell-three : (x y z : ℕ) → x < cells_along s 0 → y < cells_along s 1
      → z < cells_along s 2 → cell (cells_along s 0 * (cells_along s 1 * z + y) + x) ≡ put 0 (0 + x) (put 1 (0 + y) (put 2 (0 + z) origin))
  unfolding put pick digit
  cell-three x y z hx hy hz =
      let c = cells_along s 0 in
      let d = cells_along s 1 in
      let i = c * (d * z + y) + x in
      fun_ext (from-3 (λ a. cell i a ≡ put 0 (0 + x) (put 1 (0 + y) (put 2 (0 + z) origin)) a)
      (cell-digit s facts.shape i 0 (lit< tt) ∙ low_digit c (d * z + y) x hx ∙ sym (zero-add x))
      (cell-digit s facts.shape i 1 (lit< tt) ∙ ap (λ (k : ℕ). k % d) (high_digit c (d * z + y) x hx) ∙ low_digit d z y hy
      ∙ sym (zero-add y))
      (cell-digit s facts.shape i 2 (lit< tt) ∙ ap (λ (k : ℕ). k / d % cells_along s 2) (high_digit c (d * z + y) x hx)
      ∙ ap (λ (k : ℕ). k % cells_along s 2) (high_digit d z y hy) ∙ mod-eq_of_lt hz ∙ sym (zero-add z))
      (λ a l. place-beyond (cell_at s i) a l
      ∙ sym (put-off 0 (0 + x) a (put 1 (0 + y) (put 2 (0 + z) origin)) (λ e. omega arith)
      ∙ put-off 1 (0 + y) a (put 2 (0 + z) origin) (λ e. omega arith) ∙ put-off 2 (0 + z) a origin (λ e. omega arith))))

  all-cells : v ≡ sum (cell_count s) (λ i. cell_numerator m s.axes (cell i) g)
  unfolding cell_count span box_numerator over_cells sweep axes
  all-cells =
      sym w.is
      ∙ rw (whole 0 (lit< tt), whole 1 (lit< tt), whole 2 (lit< tt))
      (sym (sum_rows (cells_along s 0) (cells_along s 1 * (cells_along s 2 * 1)) f
      ∙ sum_rows (cells_along s 1) (cells_along s 2 * 1) (λ w. sum (cells_along s 0) (λ x. f (cells_along s 0 * w + x)))
      ∙ ap (λ (n : ℕ). sum n (λ z. sum (cells_along s 1) (λ y. sum (cells_along s 0) (λ x.
      f (cells_along s 0 * (cells_along s 1 * z + y) + x))))) (mul-one (cells_along s 2))
      ∙ sum-ext (cells_along s 2) _ _ (λ z hz. sum-ext (cells_along s 1) _ _ (λ y hy. sum-ext (cells_along s 0) _ _ (λ x hx.
      ap (λ (p : Place). cell_numerator m s.axes p g) (cell-three x y z hx hy hz))))))
    where
      f : ℕ → ℤ
      f i = cell_numerator m s.axes (cell i) g

      whole : (a : ℕ) → a < 3 → cells_along s a - 1 + 1 - 0 ≡ cells_along s a
      whole a l = let k = (along-range s facts.shape a l).0 in omega arith

pub whole-table : WholeTable
whole-table t rs v h =
    let s = t.shape in
    let w = box-told t rs origin (λ a. cells_along s a - 1) v h in
    (λ i. cell_numerator (orders s) s.axes (place_at (cell_at s i)) (records_field s rs), λ i l. cell-done t rs v w i, all-cells t rs v w)

-- ---- sizes

-- a box that is not refused
module _ (s : Shape) (ok : Shaped s) (from to : Place) (box : Boxed s from to) (rs : List ℤ) (long : length rs ≡ size s)
    (passed : records_outcome s rs from to ≡ done tt) where
  layout : Layout
  layout = record {
    orders = orders s;
    entries = entries s;
    base = base s from;
    strides = node_stride s 0 ∷ node_stride s 1 ∷ node_stride s 2 ∷ [];
  }

  laid : Laid s from layout
  unfolding layout
  laid = record { orders-are = refl; entries-are = refl; base-is = refl; stride-x = refl; stride-y = refl; stride-z = refl }

  K : List ℕ
  K = cells_within s from to 0 ∷ cells_within s from to 1 ∷ cells_within s from to 2 ∷ []

  cells : (a : ℕ) → a < 3 → get_or K a 0 ≡ cells_within s from to a
  unfolding K
  cells = by-3 _ refl refl refl

  walked : Walk layout K (length rs)
  walked = walk s ok from to box rs long layout laid K cells

  row_low : (r : ℕ) → r < row_count K → nat_abs (row_sum layout.orders (layout.entries / layout.orders) (get_or K 0 0)
      (across layout.orders K r) rs (row_start layout K r)) ≤ 2 ^ 48
  row_low r h = row_within _ _ (get_or K 0 0) _ rs (row_start layout K r) walked.orders-low walked.orders-high
      (walked.cells-few 0 (lit< tt))
      (across-light layout.orders (layout.entries / layout.orders) K r walked.orders-low walked.orders-high walked.groups-few)
      (subst (λ (e : ℕ). EntriesWithin (2 ^ 21) rs (row_start layout K r) (e * (get_or K 0 0 + 1))) walked.entries-are
      (entries-low s ok from to box rs long layout laid K cells passed r h))

  numerator-low : nat_abs (box_numerator (orders s) s.axes from to (records_field s rs)) ≤ 2 ^ 60
  unfolding rows_sum
  numerator-low =
      subst (λ z. nat_abs z ≤ 2 ^ 60) (numerator-rows s ok from to box rs layout laid K cells)
      (le_trans (sum-within (row_count K) _ (2 ^ 48) row_low) (mul-le-mul_right (2 ^ 48) (rows_few K walked.cells-few)))

pub totals-fit : TotalsFit
totals-fit t rs xs ys v h =
    let s = t.shape in
    let w = box-told t rs (place_at xs) (place_at ys) v h in
    let f = tabled t (length rs) w.table in
    subst (λ z. nat_abs z ≤ 2 ^ 60) w.is
    (numerator-low s f.shape (place_at xs) (place_at ys) (boxed s xs ys f.shape.axes-high w.box) rs f.many w.records)

-- ---- the integral

pub is-integral : IsIntegral
unfolding cell_total
is-integral t rs cell v h =
    let s = t.shape in
    let g = records_field s rs in
    let n = cell_numerator (orders s) s.axes cell g in
    let a = first_done (table_outcome t (length rs)) (first (cell_outcome s cell) (first (corners_outcome s rs cell) (done n))) v h in
    let b = first_done (cell_outcome s cell) (first (corners_outcome s rs cell) (done n)) v a.1 in
    let c = first_done (corners_outcome s rs cell) (done n) v b.1 in
    let f = tabled t (length rs) a.0 in
    let m2 = (orders-range s.degree).0 in
    let m3 = (orders-range s.degree).1 in (
      cell_powers (orders s) s.axes m2 m3 cell g,
      λ N u l. (cell-polynomial (orders s) s.axes m2 m3 cell g N u l, over-powers (orders s) s.axes N cell u),
      sym (done-same n v c.1) ∙ cell-integral (orders s) s.axes m2 m3 cell g,
      divisor-is (orders s) s.axes m2 m3 f.shape.axes-low f.shape.axes-high,
    )
