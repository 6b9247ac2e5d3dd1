-- The records of a row depend on the numbers of that row only; plane after plane, row after row, they are the records of the definition.
use mathlib.Core.Path.{◌≡◌, refl, sym, ap, ◌∙◌}
use mathlib.Core.List.{List}
use Prim.Native.Nat.{ℕ, ◌+◌, ◌*◌, ◌/◌, ◌%◌, ◌≤◌, ◌<◌}
use native.Mathlib.Nat.{mul-le-mul, mul-le-mul_left, mod-lt, div-add-mod, mod-eq_of_lt, div-eq_of_lt, div-div-eq-div-mul}
use native.Mathlib.Decide.{dec_lt}
use native.Mathlib.Omega.{arith}
use lib.Dec.{lit<}
use lib.IntN.{ℤ}
use lib.ListN.{length}
use Rattle.lattice.specs.declared.Shape.{Shape}
use Rattle.lattice.specs.Shape.{count, size, Shaped}
use Rattle.lattice.specs.Buffer.{at}
use Rattle.lattice.specs.Records.{entry_place}
use Rattle.lattice.proofs.ShapeLaws.{nodes-is}
use Rattle.lattice.proofs.DigitsLaws.{group-room, high-below, high_digit, low_digit}
use Rattle.estimate.specs.declared.Grid.{Grid}
use Rattle.estimate.specs.Estimate.{table_records}
use Rattle.estimate.specs.Passes.{since, grouped, orders_on, grid_of, row_start, row_z, row_yz, node_size, record_size, row_size, row_of, row_on, plane_size, plane_of, planes_of, Line, Rows, Grids, Samples}
use Rattle.estimate.proofs.EstimateLaws.{orders-same}
use Rattle.estimate.proofs.PassesLaws.{node-high, row-yz-size, one-order}
use Rattle.estimate.proofs.EntryLaws.{orders-unused, order-count, record-size, entry-is}

-- ---- one row

pub row_same : (g : Grid) → Grids g → (row other : ℕ → ℤ) → ((t : ℕ) → t < g.y.orders * (g.z.orders * g.x.count) → row t ≡ other t) →
    (t : ℕ)
    → t < row_size g → row_on g row t ≡ row_on g other t
unfolding row_of grouped
row_same g ok row other same t l =
    let q : ℕ = t / g.x.orders in
    let in-q : q < node_size g * g.x.count = high-below ok.mx.0 (omega arith) in
    let some : 0 < node_size g = mul-le-mul ok.my.0 ok.mz.0 in
    orders-same g.x.count (λ v. row (node_size g * v + q % node_size g)) (λ v. other (node_size g * v + q % node_size g)) (q / node_size g)
    (t % g.x.orders) ok.x-low (high-below some in-q)
    (λ v l. same _ (omega (arith, group-room (node_size g) v g.x.count l, mod-lt q some)))

pub rows_in : (g : Grid) → Grids g → Rows g.x.orders (node_size g) g.x.count
rows_in g ok =
    record {
      orders = ok.mx;
      size_low = mul-le-mul ok.my.0 ok.mz.0;
      size-high = node-high g ok;
      count_low = ok.x-low;
      count-high = ok.x-high;
    }

-- row (y, z), worked off along z and y, is read
pub row_seen : {g : Grid} {xs : List ℤ} (ok : Samples g xs) (y z : ℕ) {row : List ℤ}
    → ((t : ℕ) → t < g.y.orders * (g.z.orders * g.x.count) → at row t ≡ row_yz g xs y z t)
    → g.y.orders * (g.z.orders * g.x.count) ≡ length row → Line (node_size g * g.x.count) row
row_seen {g} {xs} ok y z {row} is l =
    record { long = omega arith; small = λ t i. rw (is t (omega arith)) (row-yz-size g xs y z t ok) }

-- one axis: the only row is the samples
module _ (g : Grid) (xs : List ℤ) (my : g.y.orders ≡ 1) (mz : g.z.orders ≡ 1) where
  line_row : (t : ℕ) → row_yz g xs 0 0 t ≡ at xs t
  unfolding row_yz row_z row_start
  line_row t =
      one-order g.y.orders my g.y.count (λ v. row_z g xs v 0) 0 t ∙ one-order g.z.orders mz g.z.count (λ v. since xs (row_start g 0 v)) 0 t
      ∙ ap (at xs) (omega arith)

  pub line-rows : Grids g → (t : ℕ) → t < row_size g → row_on g (at xs) t ≡ planes_of g xs t
  unfolding planes_of plane_of grouped
  line-rows ok t l =
      let p : t < plane_size g = omega (arith, mul-le-mul_left (row_size g) ok.y-low) in
      rw (div-eq_of_lt p, mod-eq_of_lt p, div-eq_of_lt l, mod-eq_of_lt l)
      (row_same g ok (at xs) (row_yz g xs 0 0) (λ i k. sym (line_row i)) t l)

-- two axes: the only plane
pub sheet-planes : (g : Grid) (xs : List ℤ) (t : ℕ) → t < plane_size g → plane_of g xs 0 t ≡ planes_of g xs t
unfolding planes_of grouped
sheet-planes g xs t l = rw (div-eq_of_lt l, mod-eq_of_lt l) refl

-- ---- the records of the definition

pub grids : (s : Shape) → Shaped s → Grids (grid_of s)
unfolding grid_of
grids s ok =
    record {
      x-low = ok.used 0 ok.axes-low;
      y-low = ok.low 1 (lit< tt);
      x-high = ok.high 0 (lit< tt);
      y-high = ok.high 1 (lit< tt);
      z-high = ok.high 2 (lit< tt);
      y-used = wide 1 (lit< tt);
      z-used = wide 2 (lit< tt);
      mx = order-count s 0;
      my = order-count s 1;
      mz = order-count s 2;
    }
  where
    wide : (a : ℕ) → a < 3 → (orders_on s a ≡ 1 → ⊥) → 2 ≤ count s a
    wide a l k = go (dec_lt a s.axes)
      where
        go : Dec (a < s.axes) → 2 ≤ count s a
        go (yes h) = ok.used a h
        go (no h) = absurd (k (orders-unused s a (omega (arith, h))))

module _ (s : Shape) (ok : Shaped s) (xs : List ℤ) where
  abbrev g : Grid
  g = grid_of s

  grid : Grids g
  grid = grids s ok

  pub planes-size : plane_size g * g.z.count ≡ size s
  unfolding size grid_of
  planes-size = rw (nodes-is s, ← record-size s ok) (turn (record_size g) (count s 0) (count s 1) (count s 2))
    where
      turn : (a b c d : ℕ) → a * b * c * d ≡ b * (c * d) * a
      turn a b c d = omega arith

  record-some : 0 < record_size g
  record-some = mul-le-mul grid.mx.0 (mul-le-mul grid.my.0 grid.mz.0)

  row-some : 0 < row_size g
  row-some = mul-le-mul {m₁ = 1} record-some (omega (arith, grid.x-low))

  plane-some : 0 < plane_size g
  plane-some = mul-le-mul row-some grid.y-low

  -- a digit of i counted from below, and from above
  parts : (r c i : ℕ) → 0 < r → 0 < c → (i % (r * c) / r ≡ i / r % c) × (i % (r * c) % r ≡ i % r)
  parts r c i some-r some-c =
      let j : ℕ = i % (r * c) in
      let q : ℕ = c * (i / (r * c)) + j / r in
      let in-y : j / r < c = high-below some-r (mod-lt i (mul-le-mul some-r some-c)) in
      let in-o : j % r < r = mod-lt j some-r in
      let e : i ≡ r * q + j % r = omega (arith, div-add-mod i (r * c), div-add-mod j r) in (
        sym (ap (λ (k : ℕ). k / r % c) e ∙ ap (λ (k : ℕ). k % c) (high_digit r q (j % r) in-o) ∙ low_digit c (i / (r * c)) (j / r) in-y),
        sym (ap (λ (k : ℕ). k % r) e ∙ low_digit r q (j % r) in-o),
      )

  pub planes-are : (i : ℕ) → i < size s → planes_of g xs i ≡ table_records s xs (entry_place s i)
  unfolding planes_of plane_of grouped
  planes-are i l =
      let y = parts (row_size g) g.y.count i row-some grid.y-low in
      let x = parts (record_size g) g.x.count i record-some (omega (arith, grid.x-low)) in
      let z : i / plane_size g ≡ i / record_size g / g.x.count / g.y.count % g.z.count = sym (mod-eq_of_lt (high-below plane-some
      (rw planes-size l)))
      ∙ ap (λ (k : ℕ). k % g.z.count)
      (sym (ap (λ (k : ℕ). k / g.y.count) (div-div-eq-div-mul i (record_size g) g.x.count) ∙ div-div-eq-div-mul i
      (row_size g) g.y.count)) in
      rw (y.0, y.1, z, ← div-div-eq-div-mul i (record_size g) g.x.count, ← div-add-mod (i % row_size g) (record_size g), x.0, x.1)
      (sym (entry-is s ok i xs))
