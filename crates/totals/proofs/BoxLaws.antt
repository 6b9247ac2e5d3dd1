-- The nodes of a box in the records: where each stands; the limit test of all entries, row by row.
use mathlib.Core.Path.{◌≡◌, refl, sym, ap, ap₂, ◌∙◌}
use mathlib.Core.Bool.{Bool, true, false, ◌&&◌}
use mathlib.Core.List.{List}
use Prim.Native.Nat.{ℕ, ◌+◌, ◌*◌, ◌-◌, ◌/◌, ◌%◌, ◌^◌, ◌≤◌, ◌<◌}
use native.Mathlib.Nat.{mul_comm, mod-eq_of_lt}
use native.Mathlib.Decide.{dec_lt}
use native.Mathlib.Omega.{arith}
use lib.Dec.{leb, ltb, lit<}
use lib.IntN.{ℤ, nat_abs}
use lib.ListN.{get_or}
use borrow.Author.Tests.{le-leb, lt-leb, lt-ltb, le-ltb}
use Rattle.arith.specs.Choice.{pick, all}
use Rattle.arith.proofs.Choices.{pick_true, pick-false}
use Rattle.arith.proofs.Sums.{total_ext}
use Rattle.lattice.specs.declared.Shape.{Shape}
use Rattle.lattice.specs.Outcome.{Check, done, refused, refuse_unless, first, first_of}
use Rattle.lattice.specs.Buffer.{at}
use Rattle.lattice.specs.Digits.{digit}
use Rattle.lattice.specs.Shape.{count, orders, nodes, entries, size, Shaped}
use Rattle.lattice.specs.Axes.{Place}
use Rattle.lattice.specs.Records.{entry_place, sample_limit, entry_limit, total_order}
use Rattle.lattice.proofs.DigitsLaws.{high_digit, low_digit, digit-below}
use Rattle.lattice.proofs.OutcomeLaws.{first-passed, first_of-passes, first_of-same, first_of-add, first_of-rows, passes}
use Rattle.lattice.proofs.RecordsLaws.{node-is}
use Rattle.lattice.proofs.ShapeLaws.{orders-range, nodes-is}
use Rattle.cell.specs.declared.Layout.{Layout}
use Rattle.cell.specs.Cell.{Laid, base, node_stride, limit_of, record_outcome}
use Rattle.cell.proofs.CornerLaws.{digits-total}
use Rattle.totals.specs.Totals.{in_box, records_outcome}
use Rattle.totals.specs.Parts.{cells_within, Boxed, row_count, row_start}

-- ---- tests in a window

-- tests that are passed outside a window
window : (N a k : ℕ) (t : ℕ → Check) → a + k ≤ N → ((i : ℕ) → i < a → t i ≡ done tt) → ((i : ℕ) → a + k ≤ i → i < N → t i ≡ done tt)
    → first_of N t ≡ first_of k (λ i. t (a + i))
window N a k t h below above =
    let e : N ≡ a + (k + (N - (a + k))) = omega arith in
    ap (λ (n : ℕ). first_of n t) e ∙ first_of-add a (k + (N - (a + k))) t
    ∙ first-passed (first_of a t) (first_of (k + (N - (a + k))) (λ i. t (a + i))) (first_of-passes a t below)
    ∙ first_of-add k (N - (a + k)) (λ i. t (a + i))
    ∙ ap (λ (x : Check). first (first_of k (λ i. t (a + i))) x)
    (first_of-passes (N - (a + k)) (λ i. t (a + (k + i))) (λ i l. above (a + (k + i)) (omega arith) (omega arith)))
    ∙ last_done (first_of k (λ i. t (a + i)))
  where
    last_done : (x : Check) → first x (done tt) ≡ x
    last_done (done tt) = refl
    last_done (refused n p) = refl

-- ---- a node of the table

some-orders : (s : Shape) → 0 < orders s
some-orders s = let h = (orders-range s.degree).0 in omega arith

module _ (s : Shape) where
  abbrev E : ℕ
  E = entries s

  -- the number of node (x, y, z)
  abbrev pub node_at : ℕ → ℕ → ℕ → ℕ
  node_at x y z = count s 0 * (count s 1 * z + y) + x

  module _ (x y z : ℕ) (hx : x < count s 0) (hy : y < count s 1) (hz : z < count s 2) where
    pub node-x : digit (count s) (node_at x y z) 0 ≡ x
    unfolding digit
    node-x = low_digit (count s 0) (count s 1 * z + y) x hx

    pub node-y : digit (count s) (node_at x y z) 1 ≡ y
    unfolding digit
    node-y = ap (λ (v : ℕ). v % count s 1) (high_digit (count s 0) (count s 1 * z + y) x hx) ∙ low_digit (count s 1) z y hy

    pub node-z : digit (count s) (node_at x y z) 2 ≡ z
    unfolding digit
    node-z =
        ap (λ (v : ℕ). v / count s 1 % count s 2) (high_digit (count s 0) (count s 1 * z + y) x hx)
        ∙ ap (λ (v : ℕ). v % count s 2) (high_digit (count s 1) z y hy) ∙ mod-eq_of_lt hz

  -- entry e of its record
  module _ (v e : ℕ) (he : e < E) where
    place-node : (a : ℕ) → entry_place s (E * v + e) a / orders s ≡ digit (count s) v a
    unfolding entry_place
    place-node a =
        high_digit (orders s) (digit (count s) ((E * v + e) / E) a) (digit (λ b. orders s) ((E * v + e) % E) a)
        (digit-below (λ b. orders s) ((E * v + e) % E) a (some-orders s))
        ∙ ap (λ (k : ℕ). digit (count s) k a) (high_digit E v e he)

    place-order : (a : ℕ) → entry_place s (E * v + e) a % orders s ≡ digit (λ b. orders s) e a
    unfolding entry_place
    place-order a =
        low_digit (orders s) (digit (count s) ((E * v + e) / E) a) (digit (λ b. orders s) ((E * v + e) % E) a)
        (digit-below (λ b. orders s) ((E * v + e) % E) a (some-orders s))
        ∙ ap (λ (k : ℕ). digit (λ b. orders s) k a) (low_digit E v e he)

    place-limit : Shaped s → entry_limit (orders s) s.axes (entry_place s (E * v + e)) ≡ limit_of (orders s) e
    unfolding entry_limit limit_of total_order entries
    place-limit ok =
        ap (λ (k : ℕ). sample_limit * 2 ^ k)
        (total_ext s.axes (λ a. entry_place s (E * v + e) a % orders s) (digit (λ b. orders s) e) (λ a l. place-order a)
        ∙ digits-total (orders s) s.axes e (orders-range s.degree).0 (orders-range s.degree).1 ok.axes-low ok.axes-high he)

-- ---- a box

module _ (s : Shape) (ok : Shaped s) (from to : Place) (boxed : Boxed s from to) where
  abbrev nodes_along : ℕ → ℕ
  nodes_along a = cells_within s from to a + 1

  -- the nodes along an axis, counted from the first
  pub along-room : (a : ℕ) → a < 3 → from a + nodes_along a ≤ count s a
  unfolding cells_within
  along-room a l = go (dec_lt a s.axes)
    where
      go : Dec (a < s.axes) → from a + (pick (ltb a s.axes) (to a + 1 - from a) 0 + 1) ≤ count s a
      go (yes h) = rw (pick_true (ltb a s.axes) (to a + 1 - from a) 0 (lt-ltb a s.axes h))
          (let o = boxed.order a in let k = boxed.last.used a h in omega arith)
      go (no h) =
          let n : s.axes ≤ a = omega (arith, h) in
          rw (pick-false (ltb a s.axes) (to a + 1 - from a) 0 (le-ltb a s.axes n))
          (let o = boxed.order a in let k = boxed.last.unused a n in let c = ok.low a l in omega arith)

  -- one above the last is the last of them
  along-last : (a : ℕ) → a < 3 → (v : ℕ) → v < count s a → (from a ≤ v → v < from a + nodes_along a → v ≤ to a + 1)
      × (from a + nodes_along a ≤ v → to a + 1 < v)
  unfolding cells_within
  along-last a l v b = go (dec_lt a s.axes)
    where
      go : Dec (a < s.axes)
          → (from a ≤ v → v < from a + (pick (ltb a s.axes) (to a + 1 - from a) 0 + 1) → v ≤ to a + 1)
          × (from a + (pick (ltb a s.axes) (to a + 1 - from a) 0 + 1) ≤ v → to a + 1 < v)
      go (yes h) =
          let e = pick_true (ltb a s.axes) (to a + 1 - from a) 0 (lt-ltb a s.axes h) in
          let o = boxed.order a in
          (λ p q. omega arith, λ p. omega arith)
      go (no h) =
          let n : s.axes ≤ a = omega (arith, h) in
          let e = pick-false (ltb a s.axes) (to a + 1 - from a) 0 (le-ltb a s.axes n) in
          let o = boxed.order a in
          let k = boxed.last.unused a n in
          let c = ok.unused a l n in
          (λ p q. omega arith, λ p. omega arith)

  in_axis : ℕ → ℕ → Bool
  in_axis a v = leb (from a) v && leb v (to a + 1)

  module _ (a : ℕ) (l : a < 3) (v : ℕ) (b : v < count s a) where
    axis-in : from a ≤ v → v < from a + nodes_along a → in_axis a v ≡ true
    unfolding in_axis
    axis-in p q = rw (le-leb (from a) v p) (le-leb v (to a + 1) ((along-last a l v b).0 p q))

    axis-below : v < from a → in_axis a v ≡ false
    unfolding in_axis
    axis-below p = rw (lt-leb (from a) v p) refl

    axis-above : from a + nodes_along a ≤ v → in_axis a v ≡ false
    unfolding in_axis
    axis-above p = rw (le-leb (from a) v (omega arith)) (lt-leb v (to a + 1) ((along-last a l v b).1 p))

  inside : ℕ → ℕ → ℕ → Bool
  inside x y z = in_axis 2 z && (in_axis 1 y && (in_axis 0 x && true))

  module _ (rs : List ℤ) where
    abbrev test : ℕ → Check
    test i = refuse_unless
        (pick (in_box from to (λ a. entry_place s i a / orders s))
        (leb (nat_abs (at rs i)) (entry_limit (orders s) s.axes (entry_place s i))) true) 5 i

    -- the record of a node
    record_test : ℕ → Check
    record_test v = first_of (E s) (λ e. test (E s * v + e))

    module _ (x y z : ℕ) (hx : x < count s 0) (hy : y < count s 1) (hz : z < count s 2) where
      in-box : (e : ℕ) → e < E s → in_box from to (λ a. entry_place s (E s * node_at s x y z + e) a / orders s) ≡ inside x y z
      unfolding in_box all inside in_axis
      in-box e he =
          rw (
            place-node s (node_at s x y z) e he 0 ∙ node-x s x y z hx hy hz,
            place-node s (node_at s x y z) e he 1 ∙ node-y s x y z hx hy hz,
            place-node s (node_at s x y z) e he 2 ∙ node-z s x y z hx hy hz,
          ) refl

      record-in : inside x y z ≡ true → record_test (node_at s x y z) ≡ record_outcome (limit_of (orders s)) (E s) rs
          (E s * node_at s x y z)
      unfolding record_test record_outcome
      record-in h = first_of-same (E s) _ _ (λ e he.
          ap (λ (t : Bool). refuse_unless t 5 (E s * node_at s x y z + e))
          (pick_true _ _ true (in-box e he ∙ h)
          ∙ ap (λ (k : ℕ). leb (nat_abs (at rs (E s * node_at s x y z + e))) k) (place-limit s (node_at s x y z) e he ok)))

      record-out : inside x y z ≡ false → record_test (node_at s x y z) ≡ done tt
      unfolding record_test
      record-out h = first_of-passes (E s) (λ e. test (E s * node_at s x y z + e)) (λ e he.
          passes _ 5 (E s * node_at s x y z + e) (pick-false _ _ true (in-box e he ∙ h)))

    -- all nodes, z slowest
    by-nodes : records_outcome s rs from to
        ≡ first_of (count s 2) (λ z. first_of (count s 1) (λ y. first_of (count s 0) (λ x. record_test (node_at s x y z))))
    unfolding records_outcome record_test size
    by-nodes =
        ap (λ (k : ℕ). first_of k test) (mul_comm (nodes s) (E s)) ∙ first_of-rows (E s) (nodes s) test
        ∙ ap (λ (k : ℕ). first_of k record_test) (nodes-is s) ∙ first_of-rows (count s 0) (count s 1 * count s 2) record_test
        ∙ first_of-rows (count s 1) (count s 2) (λ w. first_of (count s 0) (λ x. record_test (count s 0 * w + x)))

    abbrev box_test : ℕ → ℕ → ℕ → Check
    box_test i j k = record_outcome (limit_of (orders s)) (E s) rs (E s * node_at s (from 0 + i) (from 1 + j) (from 2 + k))

    -- of a row in the window
    in_row : (j k : ℕ) → j < nodes_along 1 → k < nodes_along 2
        → first_of (count s 0) (λ x. record_test (node_at s x (from 1 + j) (from 2 + k))) ≡ first_of (nodes_along 0) (λ i. box_test i j k)
    unfolding inside
    in_row j k hj hk =
        window (count s 0) (from 0) (nodes_along 0) (λ x. record_test (node_at s x (from 1 + j) (from 2 + k))) (along-room 0 (lit< tt))
        (λ x l. record-out x (from 1 + j) (from 2 + k) (let r = along-room 0 (lit< tt) in omega arith) by bz
        (rw (iz, iy, axis-below 0 (lit< tt) x (let r = along-room 0 (lit< tt) in omega arith) l) refl))
        (λ x l b. record-out x (from 1 + j) (from 2 + k) b by bz (rw (iz, iy, axis-above 0 (lit< tt) x b l) refl))
        ∙ first_of-same (nodes_along 0) _ _ (λ i hi.
        let b : from 0 + i < count s 0 = (let r = along-room 0 (lit< tt) in omega arith) in
        record-in (from 0 + i) (from 1 + j) (from 2 + k) b by bz
        (rw (iz, iy, axis-in 0 (lit< tt) (from 0 + i) b (omega arith) (omega arith)) refl))
      where
        by : from 1 + j < count s 1
        by = let r = along-room 1 (lit< tt) in omega arith

        bz : from 2 + k < count s 2
        bz = let r = along-room 2 (lit< tt) in omega arith

        iy : in_axis 1 (from 1 + j) ≡ true
        iy = axis-in 1 (lit< tt) (from 1 + j) by (omega arith) (omega arith)

        iz : in_axis 2 (from 2 + k) ≡ true
        iz = axis-in 2 (lit< tt) (from 2 + k) bz (omega arith) (omega arith)

    -- a row out of the window along y, a plane out of it along z
    out-y : (y z : ℕ) → y < count s 1 → z < count s 2 → in_axis 1 y ≡ false → first_of (count s 0) (λ x. record_test (node_at s x y z))
        ≡ done tt
    unfolding inside
    out-y y z hy hz h = first_of-passes (count s 0) (λ x. record_test (node_at s x y z))
        (λ x l. record-out x y z l hy hz (off x (in_axis 2 z)))
      where
        off : (x : ℕ) (b : Bool) → (b && (in_axis 1 y && (in_axis 0 x && true))) ≡ false
        off x true = rw h refl
        off x false = refl

    out-z : (z : ℕ) → z < count s 2 → in_axis 2 z ≡ false
        → first_of (count s 1) (λ y. first_of (count s 0) (λ x. record_test (node_at s x y z))) ≡ done tt
    unfolding inside
    out-z z hz h =
        first_of-passes (count s 1) (λ y. first_of (count s 0) (λ x. record_test (node_at s x y z)))
        (λ y hy. first_of-passes (count s 0) (λ x. record_test (node_at s x y z)) (λ x l. record-out x y z l hy hz (rw h refl)))

    in-plane : (k : ℕ) → k < nodes_along 2 → first_of (count s 1) (λ y. first_of (count s 0)
        (λ x. record_test (node_at s x y (from 2 + k))))
        ≡ first_of (nodes_along 1) (λ j. first_of (nodes_along 0) (λ i. box_test i j k))
    in-plane k hk =
        window (count s 1) (from 1) (nodes_along 1) (λ y. first_of (count s 0) (λ x. record_test (node_at s x y (from 2 + k))))
        (along-room 1 (lit< tt))
        (λ y l. let b : y < count s 1 = (let r = along-room 1 (lit< tt) in omega arith) in
        out-y y (from 2 + k) b bz (axis-below 1 (lit< tt) y b l))
        (λ y l b. out-y y (from 2 + k) b bz (axis-above 1 (lit< tt) y b l))
        ∙ first_of-same (nodes_along 1) _ _ (λ j hj. in_row j k hj hk)
      where
        bz : from 2 + k < count s 2
        bz = let r = along-room 2 (lit< tt) in omega arith

    -- the nodes of the box, z slowest
    pub by-box : records_outcome s rs from to
        ≡ first_of (nodes_along 2) (λ k. first_of (nodes_along 1) (λ j. first_of (nodes_along 0) (λ i. box_test i j k)))
    by-box =
        by-nodes
        ∙ window (count s 2) (from 2) (nodes_along 2)
        (λ z. first_of (count s 1) (λ y. first_of (count s 0) (λ x. record_test (node_at s x y z))))
        (along-room 2 (lit< tt))
        (λ z l. let b : z < count s 2 = (let r = along-room 2 (lit< tt) in omega arith) in out-z z b (axis-below 2 (lit< tt) z b l))
        (λ z l b. out-z z b (axis-above 2 (lit< tt) z b l))
        ∙ first_of-same (nodes_along 2) _ _ (λ k hk. in-plane k hk)

  -- ---- row by row

  module _ (l : Layout) (laid : Laid s from l) (K : List ℕ) (cells : (a : ℕ) → a < 3 → get_or K a 0 ≡ cells_within s from to a) where
    -- where the record of a node stands
    pub row-index : (r i : ℕ) → row_start l K r + l.entries * i
        ≡ E s * node_at s (from 0 + i) (from 1 + r % (get_or K 1 0 + 1)) (from 2 + r / (get_or K 1 0 + 1))
    unfolding row_start base node_stride
    row-index r i =
        rw (laid.entries-are, laid.base-is, laid.stride-y, laid.stride-z, node-is s from)
        (spread (from 0) (from 1) (from 2) i (r % (get_or K 1 0 + 1)) (r / (get_or K 1 0 + 1)) (count s 0) (count s 1) (E s))
      where
        spread : (f g h i j k c d e : ℕ) → (f + c * (g + d * h)) * e + (j * (c * e) + k * (d * (c * e))) + e * i
            ≡ e * (c * (d * (h + k) + (g + j)) + (f + i))
        spread f g h i j k c d e = omega arith

    pub by_rows : (rs : List ℤ) → records_outcome s rs from to
        ≡ first_of (row_count K)
        (λ r. first_of (get_or K 0 0 + 1) (λ i. record_outcome (limit_of (orders s)) (E s) rs (row_start l K r + l.entries * i)))
    unfolding row_count
    by_rows rs =
        by-box rs
        ∙ sym (first_of-rows (get_or K 1 0 + 1) (get_or K 2 0 + 1)
        (λ r. first_of (get_or K 0 0 + 1) (λ i. record_outcome (limit_of (orders s)) (E s) rs (row_start l K r + l.entries * i)))
        ∙ rw (cells 0 (lit< tt), cells 2 (lit< tt)) (first_of-same (nodes_along 2) _ _ (λ k hk. plane k)))
      where
        plane : (k : ℕ) → first_of (get_or K 1 0 + 1) (λ j. first_of (nodes_along 0) (λ i. record_outcome (limit_of (orders s)) (E s) rs
            (row_start l K ((get_or K 1 0 + 1) * k + j) + l.entries * i)))
            ≡ first_of (nodes_along 1) (λ j. first_of (nodes_along 0) (λ i. box_test rs i j k))
        plane k = first_of-same (get_or K 1 0 + 1) _ _ (λ j hj. first_of-same (nodes_along 0) _ _ (λ i hi.
            ap (record_outcome (limit_of (orders s)) (E s) rs)
            (row-index ((get_or K 1 0 + 1) * k + j) i
            ∙ ap₂ (λ (a b : ℕ). E s * node_at s (from 0 + i) (from 1 + a) (from 2 + b)) (low_digit (get_or K 1 0 + 1) k j hj)
            (high_digit (get_or K 1 0 + 1) k j hj))))
            ∙ ap (λ (n : ℕ). first_of (n + 1) (λ j. first_of (nodes_along 0) (λ i. box_test rs i j k))) (cells 1 (lit< tt))
