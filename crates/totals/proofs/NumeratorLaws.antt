-- The numerator of a box is the sum over the rows of its nodes, as the code makes it.
use mathlib.Core.Path.{◌≡◌, refl, sym, ap, ap₂, ◌∙◌, fun_ext}
use mathlib.Core.List.{List, [], ◌∷◌}
use Prim.Native.Nat.{ℕ, ◌+◌, ◌*◌, ◌-◌, ◌/◌, ◌%◌, ◌^◌, ◌≤◌, ◌<◌}
use native.Mathlib.Nat.{zero-mod, mul-zero, add-zero, mul-le-mul}
use native.Mathlib.Decide.{dec_lt}
use native.Mathlib.Omega.{arith}
use lib.Dec.{ltb, lit<}
use lib.IntN.{ℤ, ◌*ℤ◌}
use lib.ListN.{get_or}
use borrow.Author.Tests.{lt-ltb, le-ltb}
use Rattle.arith.specs.Choice.{pick}
use Rattle.arith.specs.Sum.{sum}
use Rattle.arith.proofs.Choices.{by_n, from-3, pick_true, pick-false}
use Rattle.arith.proofs.Quote.{quotes, ring! }
use Rattle.arith.proofs.Sums.{sum-ext, sum_left}
use Rattle.lattice.specs.declared.Shape.{Shape}
use Rattle.lattice.specs.Buffer.{at}
use Rattle.lattice.specs.Shape.{count, orders, entries, Shaped}
use Rattle.lattice.specs.Axes.{Place, Field, origin, put, sweep, axes}
use Rattle.lattice.specs.Records.{entry_number, entry_index, records_field}
use Rattle.lattice.proofs.Along.{put-off}
use Rattle.lattice.proofs.DigitsLaws.{high_digit, low_digit}
use Rattle.lattice.proofs.RecordsLaws.{node-is}
use Rattle.lattice.proofs.ShapeLaws.{orders-range, pow-one, pow-two, pow-three}
use Rattle.cell.specs.declared.Layout.{Layout}
use Rattle.cell.specs.Cell.{Laid}
use Rattle.cell.proofs.CellLaws.{number_is}
use Rattle.totals.specs.Totals.{over_cells, box_numerator}
use Rattle.totals.specs.Parts.{taken_at, cells_within, Boxed, row_count, row_start, across, group_sum, record_sum, row_sum, rows_sum}
use Rattle.totals.proofs.AxisLaws.{sum-pull, sum_rows, numbers_on, factor_on, on_axis, at_places, cell-axes, orders_on, axis-nodes}
use Rattle.totals.proofs.BoxLaws.{node_at, row-index}

-- ---- sums over cells, axis by axis

axis-pull : (m n a c N : ℕ) (X : ℕ → ℕ → ℤ) → sum N (λ k. on_axis m n a c (X k)) ≡ on_axis m n a c (λ p. sum N (λ k. X k p))
unfolding on_axis
axis-pull m n a c N X = sum-pull N (numbers_on m n a) (factor_on m n a) (λ k t. X k (m * c + t))

module _ (m n : ℕ) (from N : Place) (G : ℕ → ℕ → ℕ → ℤ) where
  over-x : ℕ → ℕ → ℤ
  over-x y z = sum (N 0) (λ k. on_axis m n 0 (from 0 + k) (λ x. G x y z))

  over-y : ℕ → ℤ
  over-y z = sum (N 1) (λ k. on_axis m n 1 (from 1 + k) (λ y. over-x y z))

  over-z : ℤ
  over-z = sum (N 2) (λ k. on_axis m n 2 (from 2 + k) over-y)

  axis-by-axis : sum (N 2) (λ k. sum (N 1) (λ j. sum (N 0) (λ i.
      on_axis m n 2 (from 2 + k) (λ z. on_axis m n 1 (from 1 + j) (λ y. on_axis m n 0 (from 0 + i) (λ x. G x y z)))))) ≡ over-z
  unfolding over-x over-y over-z
  axis-by-axis = sum-ext (N 2) _ (λ k. on_axis m n 2 (from 2 + k) over-y) (λ k hk.
      sum-ext (N 1) _ (λ j. on_axis m n 2 (from 2 + k) (λ z. on_axis m n 1 (from 1 + j) (λ y. over-x y z))) (λ j hj.
      axis-pull m n 2 (from 2 + k) (N 0) (λ i z. on_axis m n 1 (from 1 + j) (λ y. on_axis m n 0 (from 0 + i) (λ x. G x y z)))
      ∙ ap (on_axis m n 2 (from 2 + k))
      (fun_ext (λ z. axis-pull m n 1 (from 1 + j) (N 0) (λ i y. on_axis m n 0 (from 0 + i) (λ x. G x y z)))))
      ∙ axis-pull m n 2 (from 2 + k) (N 1) (λ j z. on_axis m n 1 (from 1 + j) (λ y. over-x y z)))

-- ---- sums over nodes, by rows

-- W along each axis by node and order, M orders along each, U what is summed
module _ (A B C M₁ M₂ : ℕ) (W₁ W₂ : ℕ → ℕ → ℤ) (U : ℕ → ℕ → ℕ → ℕ → ℕ → ℤ) where
  nodes-first : sum C (λ k. sum M₂ (λ c. W₂ k c *ℤ sum B (λ j. sum M₁ (λ b. W₁ j b *ℤ sum A (λ i. U k j i c b)))))
      ≡ sum C (λ k. sum B (λ j. sum A (λ i. sum M₂ (λ c. W₂ k c *ℤ sum M₁ (λ b. W₁ j b *ℤ U k j i c b)))))
  nodes-first = sum-ext C _ (λ k. sum B (λ j. sum A (λ i. sum M₂ (λ c. W₂ k c *ℤ sum M₁ (λ b. W₁ j b *ℤ U k j i c b))))) (λ k hk.
      sum-ext M₂ _ (λ c. W₂ k c *ℤ sum B (λ j. sum A (λ i. sum M₁ (λ b. W₁ j b *ℤ U k j i c b)))) (λ c hc. ap (λ z. W₂ k c *ℤ z)
      (sum-ext B _ (λ j. sum A (λ i. sum M₁ (λ b. W₁ j b *ℤ U k j i c b))) (λ j hj. sym (sum-pull A M₁ (W₁ j) (λ i b. U k j i c b)))))
      ∙ sym (sum-pull B M₂ (W₂ k) (λ j c. sum A (λ i. sum M₁ (λ b. W₁ j b *ℤ U k j i c b))))
      ∙ sum-ext B _ (λ j. sum A (λ i. sum M₂ (λ c. W₂ k c *ℤ sum M₁ (λ b. W₁ j b *ℤ U k j i c b))))
      (λ j hj. sym (sum-pull A M₂ (W₂ k) (λ i c. sum M₁ (λ b. W₁ j b *ℤ U k j i c b)))))

-- ---- a box

module _ (s : Shape) (ok : Shaped s) (from to : Place) (boxed : Boxed s from to) (rs : List ℤ) where
  abbrev m : ℕ
  m = orders s

  abbrev n : ℕ
  n = s.axes

  abbrev K : Place
  K = cells_within s from to

  abbrev N : Place
  N a = to a + 1 - from a

  abbrev g : Field
  g = records_field s rs

  abbrev G : ℕ → ℕ → ℕ → ℤ
  G = at_places m n g

  cells-used : (a : ℕ) → a < n → (N a ≡ K a) × (0 < K a)
  unfolding cells_within
  cells-used a l =
      let e = pick_true (ltb a n) (to a + 1 - from a) 0 (lt-ltb a n l) in
      let o = boxed.order a in
      (sym e, omega arith)

  cells-unused : (a : ℕ) → n ≤ a → (N a ≡ 1) × (K a ≡ 0)
  unfolding cells_within
  cells-unused a l =
      let o = boxed.order a in
      let k = boxed.last.unused a l in
      (omega arith, pick-false (ltb a n) (to a + 1 - from a) 0 (le-ltb a n l))

  -- the cell of three indices
  abbrev cell_at : ℕ → ℕ → ℕ → Place
  cell_at i j k = put 0 (from 0 + i) (put 1 (from 1 + j) (put 2 (from 2 + k) origin))

  cell-none : (i j k : ℕ) → i < N 0 → j < N 1 → k < N 2 → (a : ℕ) → n ≤ a → cell_at i j k a ≡ 0
  unfolding put pick
  cell-none i j k hi hj hk =
      from-3 (λ a. n ≤ a → cell_at i j k a ≡ 0) (λ l. absurd (let h = ok.axes-low in omega arith))
      (λ l. let o = boxed.order 1 in let q = boxed.last.unused 1 l in omega arith)
      (λ l. let o = boxed.order 2 in let q = boxed.last.unused 2 l in omega arith)
      (λ a h l. put-off 0 _ a (put 1 (from 1 + j) (put 2 (from 2 + k) origin)) (λ e. omega arith)
      ∙ put-off 1 _ a (put 2 (from 2 + k) origin) (λ e. omega arith) ∙ put-off 2 _ a origin (λ e. omega arith))

  over-axes : box_numerator m n from to g ≡ over-z m n from N G
  unfolding box_numerator over_cells sweep axes put pick
  over-axes =
      sum-ext (N 2) _ _ (λ k hk. sum-ext (N 1) _ _ (λ j hj. sum-ext (N 0) _ _ (λ i hi.
      cell-axes m (cell_at i j k) g n ok.axes-low ok.axes-high (cell-none i j k hi hj hk))))
      ∙ axis-by-axis m n from N G

  abbrev W : ℕ → ℕ → ℕ → ℤ
  W a j o = taken_at m (K a) j o

  abbrev M : ℕ → ℕ
  M a = orders_on m n (orders-range s.degree).0 (orders-range s.degree).1 a

  -- along axis a by its nodes
  along-axis : (a : ℕ) (x : ℕ → ℤ) → sum (N a) (λ k. on_axis m n a (from a + k) x)
      ≡ sum (K a + 1) (λ j. sum (M a) (λ o. W a j o *ℤ x (m * (from a + j) + o)))
  along-axis a x = axis-nodes m n (orders-range s.degree).0 (orders-range s.degree).1 a (from a) (N a) (K a) x (cells-used a)
      (cells-unused a)

  -- what is summed at a node, for orders b along y and c along z
  summed : ℕ → ℕ → ℕ → ℕ → ℕ → ℤ
  summed k j i c b = sum (M 0) (λ a. W 0 i a *ℤ G (m * (from 0 + i) + a) (m * (from 1 + j) + b) (m * (from 2 + k) + c))

  over-nodes : over-z m n from N G
      ≡ sum (K 2 + 1) (λ k. sum (K 1 + 1)
      (λ j. sum (K 0 + 1) (λ i. sum (M 2) (λ c. W 2 k c *ℤ sum (M 1) (λ b. W 1 j b *ℤ summed k j i c b)))))
  unfolding over-z over-y over-x summed
  over-nodes =
      along-axis 2 (over-y m n from N G)
      ∙ sum-ext (K 2 + 1) _ (λ k. sum (M 2)
      (λ c. W 2 k c *ℤ sum (K 1 + 1) (λ j. sum (M 1) (λ b. W 1 j b *ℤ sum (K 0 + 1) (λ i. summed k j i c b)))))
      (λ k hk. sum-ext (M 2) _ (λ c. W 2 k c *ℤ sum (K 1 + 1) (λ j. sum (M 1) (λ b. W 1 j b *ℤ sum (K 0 + 1) (λ i. summed k j i c b))))
      (λ c hc. ap (λ z. W 2 k c *ℤ z)
      (along-axis 1 (λ y. over-x m n from N G y (m * (from 2 + k) + c))
      ∙ sum-ext (K 1 + 1) _ (λ j. sum (M 1) (λ b. W 1 j b *ℤ sum (K 0 + 1) (λ i. summed k j i c b)))
      (λ j hj. sum-ext (M 1) _ (λ b. W 1 j b *ℤ sum (K 0 + 1) (λ i. summed k j i c b))
      (λ b hb. ap (λ z. W 1 j b *ℤ z) (along-axis 0 (λ x. G x (m * (from 1 + j) + b) (m * (from 2 + k) + c))))))))
      ∙ nodes-first (K 0 + 1) (K 1 + 1) (K 2 + 1) (M 1) (M 2) (W 1) (W 2) summed

  -- ---- where the numbers stand

  orders-used : (a : ℕ) → a < n → M a ≡ m
  unfolding orders_on
  orders-used a l = pick_true (ltb a n) m 1 (lt-ltb a n l)

  orders-unused : (a : ℕ) → n ≤ a → M a ≡ 1
  unfolding orders_on
  orders-unused a l = pick-false (ltb a n) m 1 (le-ltb a n l)

  some : 2 ≤ m
  some = (orders-range s.degree).0

  order-low : (a o : ℕ) → o < M a → o < m
  order-low a o h = go (dec_lt a n)
    where
      go : Dec (a < n) → o < m
      go (yes l) = let e = orders-used a l in omega arith
      go (no l) = let e = orders-unused a (omega (arith, l)) in let k = some in omega arith

  pub orders-most : M 1 * M 2 ≤ m * m
  orders-most = mul-le-mul (most 1) (most 2)
    where
      most : (a : ℕ) → M a ≤ m
      most a = go (dec_lt a n)
        where
          go : Dec (a < n) → M a ≤ m
          go (yes l) = let e = orders-used a l in omega arith
          go (no l) = let e = orders-unused a (omega (arith, l)) in let k = some in omega arith

  order-none : (a o : ℕ) → n ≤ a → o < M a → o ≡ 0
  order-none a o l h = let e = orders-unused a l in omega arith

  -- M 1 counts like m where axis z is used, and not at all where it is not
  group-is : (c : ℕ) → c < M 2 → M 1 * c ≡ m * c
  group-is c h = go (dec_lt 2 n)
    where
      go : Dec (2 < n) → M 1 * c ≡ m * c
      go (yes l) = ap (λ (k : ℕ). k * c) (orders-used 1 (omega arith))
      go (no l) = let e = order-none 2 c (omega (arith, l)) h in rw (e, mul-zero (M 1), mul-zero m) refl

  module _ (i j k a b c : ℕ) (ha : a < m) (hb : b < M 1) (hc : c < M 2) where
    place : Place
    place = put 0 (m * (from 0 + i) + a) (put 1 (m * (from 1 + j) + b) (put 2 (m * (from 2 + k) + c) origin))

    place-far : (d : ℕ) → 3 ≤ d → place d ≡ 0
    unfolding place
    place-far d l =
        put-off 0 (m * (from 0 + i) + a) d (put 1 (m * (from 1 + j) + b) (put 2 (m * (from 2 + k) + c) origin)) (λ e. omega arith)
        ∙ put-off 1 (m * (from 1 + j) + b) d (put 2 (m * (from 2 + k) + c) origin) (λ e. omega arith)
        ∙ put-off 2 (m * (from 2 + k) + c) d origin (λ e. omega arith)

    orders-none : (d : ℕ) → n ≤ d → place d % m ≡ 0
    unfolding place put pick
    orders-none =
        from-3 (λ d. n ≤ d → place d % m ≡ 0) (λ l. absurd (let h = ok.axes-low in omega arith))
        (λ l. low_digit m (from 1 + j) b (order-low 1 b hb) ∙ order-none 1 b l hb)
        (λ l. low_digit m (from 2 + k) c (order-low 2 c hc) ∙ order-none 2 c l hc)
        (λ d h l. ap (λ (x : ℕ). x % m) (place-far d h) ∙ zero-mod m)

    index_is : entry_index s place ≡ entries s * node_at s (from 0 + i) (from 1 + j) (from 2 + k) + (a + (b * m + c * (m * m)))
    unfolding entry_index entry_number place put pick
    index_is =
        ap₂ (λ (v e : ℕ). v * entries s + e) (node-is s (λ d. place d / m))
        (number_is m n (λ d. place d % m) ok.axes-low ok.axes-high orders-none)
        ∙ rw (
          high_digit m (from 0 + i) a ha,
          high_digit m (from 1 + j) b (order-low 1 b hb),
          high_digit m (from 2 + k) c (order-low 2 c hc),
          low_digit m (from 0 + i) a ha,
          low_digit m (from 1 + j) b (order-low 1 b hb),
          low_digit m (from 2 + k) c (order-low 2 c hc),
        ) (turn (from 0 + i) (from 1 + j) (from 2 + k) (count s 0) (count s 1) (entries s) (a + (b * m + c * (m * m))))
      where
        turn : (x y z p q e o : ℕ) → (x + p * (y + q * z)) * e + o ≡ e * (p * (q * z + y) + x) + o
        turn x y z p q e o = omega arith

  pub entries-are : entries s ≡ m * (M 1 * M 2)
  unfolding entries orders_on pick
  entries-are = by_n (λ n. m ^ n ≡ m * (pick (ltb 1 n) m 1 * pick (ltb 2 n) m 1)) (pow-one m ∙ one m) (pow-two m ∙ two m)
      (pow-three m ∙ three m) n ok.axes-low ok.axes-high
    where
      one : (m : ℕ) → m ≡ m * (1 * 1)
      one m = omega arith

      two : (m : ℕ) → m * m ≡ m * (m * 1)
      two m = omega arith

      three : (m : ℕ) → m * m * m ≡ m * (m * m)
      three m = omega arith

  -- ---- row by row

  module _ (l : Layout) (laid : Laid s from l) (Ks : List ℕ) (cells : (a : ℕ) → a < 3 → get_or Ks a 0 ≡ K a) where
    pub groups-are : l.entries / l.orders ≡ M 1 * M 2
    groups-are =
        rw (laid.entries-are, laid.orders-are, entries-are)
        (ap (λ (x : ℕ). x / m) (sym (add-zero (m * (M 1 * M 2)))) ∙ high_digit m (M 1 * M 2) 0 (let h = some in omega arith))

    -- the record of node (i, j, k)
    node_sum : ℕ → ℕ → ℕ → ℤ
    node_sum k j i = sum (M 2) (λ c. W 2 k c *ℤ sum (M 1) (λ b. W 1 j b *ℤ summed k j i c b))

    abbrev row : ℕ → ℕ → ℕ
    row k j = (get_or Ks 1 0 + 1) * k + j

    module _ (k j i : ℕ) (hj : j < get_or Ks 1 0 + 1) where
      row_low : row k j % (get_or Ks 1 0 + 1) ≡ j
      row_low = low_digit (get_or Ks 1 0 + 1) k j hj

      row-high : row k j / (get_or Ks 1 0 + 1) ≡ k
      row-high = high_digit (get_or Ks 1 0 + 1) k j hj

      start_is : row_start l Ks (row k j) + m * (M 1 * M 2) * i ≡ entries s * node_at s (from 0 + i) (from 1 + j) (from 2 + k)
      start_is =
          ap (λ (e : ℕ). row_start l Ks (row k j) + e * i) (sym (laid.entries-are ∙ entries-are))
          ∙ row-index s ok from to boxed l laid Ks cells (row k j) i
          ∙ ap₂ (λ (y z : ℕ). entries s * node_at s (from 0 + i) (from 1 + y) (from 2 + z)) row_low row-high

      group_at : (c b : ℕ) → c < M 2 → b < M 1
          → group_sum m (taken_at m (get_or Ks 0 0) i) rs (row_start l Ks (row k j) + m * (M 1 * M 2) * i + m * (M 1 * c + b)) ≡ summed k j
          i c b
      unfolding group_sum summed records_field put place
      group_at c b hc hb =
          rw (cells 0 (lit< tt), orders-used 0 ok.axes-low)
          (sum-ext m _ _ (λ a ha. ap (λ (p : ℕ). W 0 i a *ℤ at rs p)
          (rw (start_is, group-is c hc) (spread (entries s * node_at s (from 0 + i) (from 1 + j) (from 2 + k)) m a b c)
          ∙ sym (index_is i j k a b c ha hb hc))))
        where
          spread : (p d a b c : ℕ) → p + d * (d * c + b) + a ≡ p + (a + (b * d + c * (d * d)))
          spread p d a b c = omega arith

      record_is : record_sum m (M 1 * M 2) (taken_at m (get_or Ks 0 0) i) (across m Ks (row k j)) rs
          (row_start l Ks (row k j) + m * (M 1 * M 2) * i) ≡ node_sum k j i
      unfolding record_sum node_sum across
      record_is =
          sum_rows (M 1) (M 2) _
          ∙ sum-ext (M 2) _ (λ c. W 2 k c *ℤ sum (M 1) (λ b. W 1 j b *ℤ summed k j i c b)) (λ c hc.
          sum-ext (M 1) _ (λ b. W 2 k c *ℤ (W 1 j b *ℤ summed k j i c b)) (λ b hb.
          ap₂ ◌*ℤ◌ (factors c b hc hb) (group_at c b hc hb) ∙ regroup (W 1 j b) (W 2 k c) (summed k j i c b))
          ∙ sum_left (M 1) (W 2 k c) (λ b. W 1 j b *ℤ summed k j i c b))
        where
          regroup : (x y z : ℤ) → x *ℤ y *ℤ z ≡ y *ℤ (x *ℤ z)
          regroup x y z = ring! (x ∷ y ∷ z ∷ []) (search quotes depth 40) tt

          factors : (c b : ℕ) → c < M 2 → b < M 1 → across m Ks (row k j) (M 1 * c + b) ≡ W 1 j b *ℤ W 2 k c
          factors c b hc hb =
              rw (
                group-is c hc,
                row_low,
                row-high,
                low_digit m c b (order-low 1 b hb),
                high_digit m c b (order-low 1 b hb),
                cells 1 (lit< tt),
                cells 2 (lit< tt),
              ) refl

    pub numerator-rows : rows_sum l.orders (l.entries / l.orders) l Ks rs ≡ box_numerator m n from to g
    unfolding rows_sum row_sum row_count node_sum
    numerator-rows =
        ap₂ (λ (p q : ℕ). rows_sum p q l Ks rs) laid.orders-are groups-are
        ∙ sum_rows (get_or Ks 1 0 + 1) (get_or Ks 2 0 + 1) _
        ∙ sum-ext (get_or Ks 2 0 + 1) _ (λ k. sum (get_or Ks 1 0 + 1) (λ j. sum (get_or Ks 0 0 + 1) (λ i. node_sum k j i))) (λ k hk.
        sum-ext (get_or Ks 1 0 + 1) _ (λ j. sum (get_or Ks 0 0 + 1) (λ i. node_sum k j i)) (λ j hj.
        sum-ext (get_or Ks 0 0 + 1) _ (λ i. node_sum k j i) (λ i hi. record_is k j i hj)))
        ∙ all ∙ sym (over-axes ∙ over-nodes)
      where
        all : sum (get_or Ks 2 0 + 1) (λ k. sum (get_or Ks 1 0 + 1) (λ j. sum (get_or Ks 0 0 + 1) (λ i. node_sum k j i)))
            ≡ sum (K 2 + 1) (λ k. sum (K 1 + 1) (λ j. sum (K 0 + 1) (λ i. node_sum k j i)))
        all = rw (cells 0 (lit< tt), cells 1 (lit< tt), cells 2 (lit< tt)) refl
