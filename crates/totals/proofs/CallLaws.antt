-- What follows from a call that is not refused: its box, the walk over its rows, the sizes of its entries; a cell is the box of one cell.
use mathlib.Core.Path.{◌≡◌, refl, sym, ap, ap₂, subst, ◌∙◌, fun_ext}
use mathlib.Core.Bool.{Bool, true, ◌&&◌}
use mathlib.Core.List.{List}
use Prim.Native.Nat.{ℕ, ◌+◌, ◌*◌, ◌-◌, ◌/◌, ◌%◌, ◌^◌, ◌≤◌, ◌<◌}
use native.Mathlib.Nat.{add-zero, mul-zero, le_refl, le_trans, mod-lt, mul-le-mul, mul-le-mul_left, mul_comm, div-add-mod, lt_of_lt_of_le, pow-le-pow_right}
use native.Mathlib.Decide.{dec_lt}
use native.Mathlib.Omega.{arith}
use lib.Dec.{leb, ltb, eqb, lit<, lit≤}
use lib.Pow.{pow_mono}
use lib.IntN.{ℤ, pos, nat_abs, +ℤ_idl}
use lib.ListN.{length, get_or}
use borrow.Author.Tests.{leb-true, eqb-true, lt-ltb, le-ltb}
use Rattle.arith.specs.Choice.{pick}
use Rattle.arith.specs.Sum.{sum}
use Rattle.arith.proofs.Choices.{and-true, pick_true, pick-false, by-m, by_n, from-3}
use Rattle.lattice.specs.declared.Shape.{Shape}
use Rattle.lattice.specs.declared.FullShape.{FullShape}
use Rattle.std.specs.Prelude.{Result, Ok, Err}
use Rattle.std.specs.Result.{result_and}
use Rattle.lattice.specs.declared.refusal.Refusal.{Refusal}
use Rattle.lattice.specs.Answers.{outcome_of}
use Rattle.lattice.specs.Outcome.{Check, done, refuse_unless, first, first_of}
use Rattle.lattice.specs.Buffer.{at}
use Rattle.lattice.specs.Shape.{count, orders, nodes, entries, size, full_outcome, Shaped}
use Rattle.lattice.specs.Axes.{Place, Field, origin, put, sweep, axes}
use Rattle.lattice.specs.Records.{sample_limit}
use Rattle.lattice.proofs.Along.{put-off}
use Rattle.lattice.proofs.DigitsLaws.{high-below, high_digit, low_digit, pair-in}
use Rattle.lattice.proofs.RecordsLaws.{node-is}
use Rattle.lattice.proofs.OutcomeLaws.{first_done, refuse-done, first_of-each, first_of-same, first_of-rows}
use Rattle.lattice.proofs.ShapeLaws.{shaped, orders-range, entries-pos, nodes-is}
use Rattle.lattice.proofs.StepLaws.{full-shape}
use Rattle.cell.specs.declared.Layout.{Layout}
use Rattle.cell.specs.Cell.{place_at, corners_outcome, Accepted, Laid, base, node_stride, corner_start, limit_of, limit_in, record_outcome}
use Rattle.cell.proofs.CellLaws.{place-beyond, laid-small}
use Rattle.cell.proofs.CornerLaws.{corners-rows}
use Rattle.totals.specs.Totals.{cell_numerator, over_cells, box_numerator, table_outcome, box_outcome, records_outcome}
use Rattle.totals.specs.Parts.{cells_within, Boxed, row_count, row_start, EntriesWithin, Walk}
use Rattle.totals.proofs.RowLaws.{along-y, along-z}
use Rattle.totals.proofs.BoxLaws.{node_at, along-room, row-index, by-box, by_rows}
use Rattle.totals.proofs.NumeratorLaws.{groups-are, entries-are, orders-most}

-- ---- 29

pub boxed : (s : Shape) (xs ys : List ℕ) → s.axes ≤ 3 → box_outcome s (place_at xs) (place_at ys) ≡ done tt
    → Boxed s (place_at xs) (place_at ys)
unfolding box_outcome
boxed s xs ys few h = record {
  order = λ a. order a (dec_lt a 3);
  last = record { used = λ a l. used a l (dec_lt a 3); unused = λ a l. unused a l (dec_lt a 3) };
}
  where
    from : Place
    from = place_at xs

    to : Place
    to = place_at ys

    test : ℕ → Bool
    test a = pick (ltb a s.axes) (leb (to a + 2) (count s a)) (eqb (to a) 0)

    both : (a : ℕ) → a < 3 → (leb (from a) (to a) ≡ true) × (test a ≡ true)
    both a l = and-true (leb (from a) (to a)) (test a)
        (refuse-done (leb (from a) (to a) && test a) 29 a (first_of-each 3 (λ a. refuse_unless (leb (from a) (to a) && test a) 29 a) h a l))

    order : (a : ℕ) → Dec (a < 3) → from a ≤ to a
    order a (yes l) = leb-true (from a) (to a) (both a l).0
    order a (no l) = let e = place-beyond xs a (omega (arith, l)) in omega arith

    used : (a : ℕ) → a < s.axes → Dec (a < 3) → to a + 2 ≤ count s a
    used a k (yes l) = leb-true (to a + 2) (count s a) (sym (pick_true (ltb a s.axes) _ _ (lt-ltb a s.axes k)) ∙ (both a l).1)
    used a k (no l) = absurd (omega (arith, l))

    unused : (a : ℕ) → s.axes ≤ a → Dec (a < 3) → to a ≡ 0
    unused a k (yes l) = eqb-true (to a) 0 (sym (pick-false (ltb a s.axes) _ _ (le-ltb a s.axes k)) ∙ (both a l).1)
    unused a k (no l) = place-beyond ys a (omega (arith, l))

-- ---- the walk over the rows of a box

-- the largest limit
limit-most : (m e : ℕ) → 2 ≤ m → m ≤ 3 → e < m ^ 3 → limit_of m e ≤ 2 ^ 21
unfolding limit_of
limit-most m e m2 m3 h = mul-le-mul {n₂ = sample_limit} {m₂ = 64} (lit≤ tt) (pow_mono (sums m m2 m3 h))
  where
    sums : (m : ℕ) → 2 ≤ m → m ≤ 3 → e < m ^ 3 → e % m + (e / m % m + e / m / m) ≤ 6
    sums = by-m (λ m. e < m ^ 3 → e % m + (e / m % m + e / m / m) ≤ 6) (λ h. omega arith) (λ h. omega arith)

module _ (s : Shape) (ok : Shaped s) (from to : Place) (box : Boxed s from to) (rs : List ℤ) (long : length rs ≡ size s) where
  pub first-accepted : Accepted s from
  first-accepted = record {
    used = λ a l. let o = box.order a in let k = box.last.used a l in omega arith;
    unused = λ a l. let o = box.order a in let k = box.last.unused a l in omega arith;
  }

  entry-below : (e : ℕ) → e < entries s → e < orders s ^ 3
  unfolding entries
  entry-below e h = lt_of_lt_of_le h
      (pow-le-pow_right {n = orders s} (let k = (orders-range s.degree).0 in omega arith) ok.axes-high)

  node-room : (x y z : ℕ) → x < count s 0 → y < count s 1 → z < count s 2 → entries s * node_at s x y z + entries s ≤ size s
  unfolding size
  node-room x y z hx hy hz =
      let p = pair-in (count s 1) z y hy (count s 2) hz in
      let q = pair-in (count s 0) (count s 1 * z + y) x hx (count s 2 * count s 1) p in
      let e : nodes s ≡ count s 2 * count s 1 * count s 0 = nodes-is s ∙ turn (count s 0) (count s 1) (count s 2) in
      rw e (room (entries s) (node_at s x y z) (count s 2 * count s 1 * count s 0) q)
    where
      turn : (a b c : ℕ) → a * (b * c) ≡ c * b * a
      turn a b c = omega arith

      room : (e v n : ℕ) → v < n → e * v + e ≤ n * e
      room e v n h = let w = mul-le-mul_left e h in omega (arith, mul_comm e n)

  module _ (l : Layout) (laid : Laid s from l) (K : List ℕ) (cells : (a : ℕ) → a < 3 → get_or K a 0 ≡ cells_within s from to a) where
    along : (a : ℕ) → a < 3 → (v : ℕ) → v ≤ get_or K a 0 → from a + v < count s a
    along a l v h = let r = along-room s ok from to box a l in let e = cells a l in omega arith

    pub some-entries : 1 ≤ l.entries
    some-entries = rw laid.entries-are (entries-pos s)

    pub walk : Walk l K (length rs)
    walk = record {
      small = laid-small s from l ok first-accepted laid;
      orders-low = rw laid.orders-are (orders-range s.degree).0;
      orders-high = rw laid.orders-are (orders-range s.degree).1;
      entries-are = laid.entries-are ∙ entries-are s ok from to box rs
          ∙ sym (ap₂ ◌*◌ laid.orders-are (groups-are s ok from to box rs l laid K cells));
      groups-few = rw (groups-are s ok from to box rs l laid K cells, laid.orders-are) (orders-most s ok from to box rs);
      cells-few = λ a l. let r = along-room s ok from to box a l in let e = cells a l in let k = ok.high a l in omega arith;
      inside = inside;
    }
      where
        inside : (r : ℕ) → r < row_count K → row_start l K r + l.entries * (get_or K 0 0 + 1) ≤ length rs
        inside r h =
            let e = row-index s ok from to box l laid K cells r (get_or K 0 0) in
            let n = node-room (from 0 + get_or K 0 0) (from 1 + r % (get_or K 1 0 + 1)) (from 2 + r / (get_or K 1 0 + 1))
            (along 0 (lit< tt) (get_or K 0 0) (omega arith)) (along 1 (lit< tt) _ (along-y K r h)) (along 2 (lit< tt) _ (along-z K r h)) in
            let f = laid.entries-are in
            let d = next l.entries (get_or K 0 0) in
            omega arith
          where
            next : (e k : ℕ) → e * (k + 1) ≡ e * k + e
            next e k = omega arith

    -- the limits that the code holds
    module _ (limits : List ℤ) (are : (e : ℕ) → e < l.orders ^ 3 → at limits e ≡ pos (limit_of l.orders e)) where
      limit-at : (e : ℕ) → e < entries s → at limits e ≡ pos (limit_of (orders s) e)
      limit-at e h = are e (rw laid.orders-are (entry-below e h))
          ∙ ap (λ (m : ℕ). pos (limit_of m e)) laid.orders-are

      pub rows-tested : first_of (row_count K) (λ r. first_of (get_or K 0 0 + 1)
          (λ i. record_outcome (limit_in limits) l.entries rs (row_start l K r + l.entries * i))) ≡ records_outcome s rs from to
      unfolding record_outcome
      rows-tested = sym (by_rows s ok from to box l laid K cells rs ∙ first_of-same (row_count K) _ _ (λ r hr.
          first_of-same (get_or K 0 0 + 1) _ _ (λ i hi.
          ap (λ (n : ℕ). first_of n (λ e. refuse_unless (leb (nat_abs (at rs (row_start l K r + l.entries * i + e)))
          (limit_of (orders s) e)) 5
          (row_start l K r + l.entries * i + e))) (sym laid.entries-are)
          ∙ first_of-same l.entries _ _ (λ e he.
          ap (λ (k : ℕ). refuse_unless (leb (nat_abs (at rs (row_start l K r + l.entries * i + e))) k) 5
          (row_start l K r + l.entries * i + e))
          (sym (ap nat_abs (limit-at e (rw laid.entries-are at he))))))))

    -- the entries of a box that is not refused
    pub entries-low : records_outcome s rs from to ≡ done tt → (r : ℕ) → r < row_count K
        → EntriesWithin (2 ^ 21) rs (row_start l K r) (l.entries * (get_or K 0 0 + 1))
    unfolding record_outcome
    entries-low passed r hr q hq =
        let E = entries s in
        let n = laid.entries-are in
        let i = q / E in
        let e = q % E in
        let he : e < E = mod-lt q (entries-pos s) in
        let hi : i < get_or K 0 0 + 1 = high-below (entries-pos s) (rw n at hq) in
        let one = first_of-each (row_count K) _ (sym (by_rows s ok from to box l laid K cells rs) ∙ passed) r hr in
        let two = first_of-each (get_or K 0 0 + 1) _ one i hi in
        let three = first_of-each E _ two e he in
        let at-it = row_start l K r + l.entries * i + e in
        let here : at-it ≡ row_start l K r + q =
        (let d = div-add-mod q E in let f = ap (λ (k : ℕ). k * i) n in omega arith) in
        subst (λ (p : ℕ). nat_abs (at rs p) ≤ 2 ^ 21) here
        (le_trans (leb-true (nat_abs (at rs at-it)) (limit_of (orders s) e)
        (refuse-done (leb (nat_abs (at rs at-it)) (limit_of (orders s) e)) 5 at-it three))
        (limit-most (orders s) e (orders-range s.degree).0 (orders-range s.degree).1 (entry-below e he)))

-- ---- a cell is the box of one cell

single : (c : ℕ) (f : ℕ → ℤ) → sum 1 (λ k. f (c + k)) ≡ f c
unfolding sum
single c f = +ℤ_idl (f (c + 0)) ∙ ap f (add-zero c)

three-places : (p : Place) → ((a : ℕ) → 3 ≤ a → p a ≡ 0) → put 0 (p 0) (put 1 (p 1) (put 2 (p 2) origin)) ≡ p
unfolding put pick
three-places p none = fun_ext (from-3 (λ a. put 0 (p 0) (put 1 (p 1) (put 2 (p 2) origin)) a ≡ p a) refl refl refl (λ a l.
    put-off 0 (p 0) a (put 1 (p 1) (put 2 (p 2) origin)) (λ e. omega arith) ∙ put-off 1 (p 1) a (put 2 (p 2) origin) (λ e. omega arith)
    ∙ put-off 2 (p 2) a origin (λ e. omega arith) ∙ sym (none a l)))

module _ (s : Shape) (ok : Shaped s) (cell : Place) (here : Accepted s cell) where
  pub cell-boxed : Boxed s cell cell
  cell-boxed = record { order = λ a. le_refl (cell a); last = here }

  -- two nodes along a used axis, one along an unused one
  abbrev R : ℕ → ℕ
  R a = cells_within s cell cell a + 1

  two-used : (a : ℕ) → a < s.axes → R a ≡ 2
  unfolding cells_within
  two-used a l = let e = pick_true (ltb a s.axes) (cell a + 1 - cell a) 0 (lt-ltb a s.axes l) in omega arith

  one-unused : (a : ℕ) → s.axes ≤ a → R a ≡ 1
  unfolding cells_within
  one-unused a l = let e = pick-false (ltb a s.axes) (cell a + 1 - cell a) 0 (le-ltb a s.axes l) in omega arith

  corners-are : 2 ^ s.axes ≡ 2 * (R 1 * R 2)
  corners-are =
      by_n (λ n. ((a : ℕ) → a < n → R a ≡ 2) → ((a : ℕ) → n ≤ a → R a ≡ 1) → 2 ^ n ≡ 2 * (R 1 * R 2))
      (λ u o. rw (o 1 (lit≤ tt), o 2 (lit≤ tt)) refl) (λ u o. rw (u 1 (lit< tt), o 2 (lit≤ tt)) refl)
      (λ u o. rw (u 1 (lit< tt), u 2 (lit< tt)) refl) s.axes ok.axes-low ok.axes-high two-used one-unused

  -- a row of corners by its digits
  corner-row : (j k : ℕ) → j < R 1 → k < R 2 → (R 1 * k ≡ 2 * k) × (j < 2)
  corner-row j k hj hk = (go (dec_lt 2 s.axes), low (dec_lt 1 s.axes))
    where
      go : Dec (2 < s.axes) → R 1 * k ≡ 2 * k
      go (yes l) = ap (λ (r : ℕ). r * k) (two-used 1 (omega arith))
      go (no l) = let e = one-unused 2 (omega (arith, l)) in let z : k ≡ 0 = omega arith in rw (z, mul-zero (R 1)) refl

      low : Dec (1 < s.axes) → j < 2
      low (yes l) = let e = two-used 1 l in omega arith
      low (no l) = let e = one-unused 1 (omega (arith, l)) in omega arith

  corner-at : (i j k : ℕ) → i < 2 → j < R 1 → k < R 2
      → corner_start s cell (2 * (R 1 * k + j) + i) ≡ entries s * node_at s (cell 0 + i) (cell 1 + j) (cell 2 + k)
  unfolding corner_start base node_stride
  corner-at i j k hi hj hk =
      let h = corner-row j k hj hk in
      rw (
        low_digit 2 (R 1 * k + j) i hi,
        high_digit 2 (R 1 * k + j) i hi,
        h.0,
        low_digit 2 k j h.1,
        high_digit 2 k j h.1,
        node-is s cell,
      ) (spread (cell 0) (cell 1) (cell 2) i j k (count s 0) (count s 1) (entries s))
    where
      spread : (f g h i j k c d e : ℕ) → (f + c * (g + d * h)) * e + (i * e + (j * (c * e) + k * (d * (c * e))))
          ≡ e * (c * (d * (h + k) + (g + j)) + (f + i))
      spread f g h i j k c d e = omega arith

  -- 5 in corner order is 5 at the smallest index
  pub corners-records : (rs : List ℤ) → corners_outcome s rs cell ≡ records_outcome s rs cell cell
  corners-records rs =
      corners-rows s rs cell ok here ∙ ap (λ (n : ℕ). first_of n test) corners-are ∙ first_of-rows 2 (R 1 * R 2) test
      ∙ first_of-rows (R 1) (R 2) (λ c. first_of 2 (λ i. test (2 * c + i)))
      ∙ first_of-same (R 2) _ (λ k. first_of (R 1) (λ j. first_of (R 0) (λ i. box i j k))) (λ k hk.
      first_of-same (R 1) _ (λ j. first_of (R 0) (λ i. box i j k)) (λ j hj.
      first_of-same 2 _ (λ i. box i j k) (λ i hi. ap (record_outcome (limit_of (orders s)) (entries s) rs) (corner-at i j k hi hj hk))
      ∙ ap (λ (n : ℕ). first_of n (λ i. box i j k)) (sym (two-used 0 ok.axes-low))))
      ∙ sym (by-box s ok cell cell cell-boxed rs)
    where
      test : ℕ → Check
      test c = record_outcome (limit_of (orders s)) (entries s) rs (corner_start s cell c)

      box : ℕ → ℕ → ℕ → Check
      box i j k = record_outcome (limit_of (orders s)) (entries s) rs (entries s * node_at s (cell 0 + i) (cell 1 + j) (cell 2 + k))

-- the sum over one cell
pub one_cell : (cell : Place) → ((a : ℕ) → 3 ≤ a → cell a ≡ 0) → (m n : ℕ) (g : Field) → box_numerator m n cell cell g
    ≡ cell_numerator m n cell g
unfolding box_numerator over_cells sweep axes
one_cell cell none m n g =
    alone (cell 2) (λ z. sum (cell 1 + 1 - cell 1) (λ j. sum (cell 0 + 1 - cell 0) (λ i. f (cell 0 + i) (cell 1 + j) z)))
    ∙ alone (cell 1) (λ y. sum (cell 0 + 1 - cell 0) (λ i. f (cell 0 + i) y (cell 2))) ∙ alone (cell 0) (λ x. f x (cell 1) (cell 2))
    ∙ ap (λ (p : Place). cell_numerator m n p g) (three-places cell none)
  where
    f : ℕ → ℕ → ℕ → ℤ
    f x y z = cell_numerator m n (put 0 x (put 1 y (put 2 z origin))) g

    alone : (c : ℕ) (f : ℕ → ℤ) → sum (c + 1 - c) (λ k. f (c + k)) ≡ f c
    alone c f = let e : c + 1 - c ≡ 1 = omega arith in ap (λ (n : ℕ). sum n (λ k. f (c + k))) e ∙ single c f

-- ---- 1, 2, 3, 26, 4

pub record Tabled (s : Shape) (given : ℕ) : Type 0 where
  pub shape : Shaped s
  pub many : given ≡ size s

pub tabled : (t : FullShape) (given : ℕ) → table_outcome t given ≡ done tt → Tabled t.shape given
unfolding table_outcome
tabled t given h =
    let s = t.shape in
    let a = first_done (full_outcome t) (refuse_unless (eqb given (size s)) 4 0) tt h in
    record { shape = shaped s (full-shape t a.0); many = eqb-true given (size s) (refuse-done (eqb given (size s)) 4 0 a.1) }

-- ---- two tests of a call, one after the other

pub both-tests : (a b : Result (Unit {0}) Refusal) → outcome_of (result_and a b) ≡ first (outcome_of a) (outcome_of b)
both-tests (Ok u) b = refl
both-tests (Err e) b = refl
