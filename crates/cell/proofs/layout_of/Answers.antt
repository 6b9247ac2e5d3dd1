-- `cell::layout_of` meets its contract: the base and the strides are those of the cell; their products fit.
use mathlib.Core.List.{List}
use native.Mathlib.Nat.{mul-le-mul}
use native.Mathlib.Decide.{dec_lt}
use lib.Dec.{lit<}
use Rattle.arith.specs.Choice.{pick}
use Rattle.lattice.specs.declared.Shape.{Shape}
use Rattle.lattice.specs.Shape.{count, entries, Shaped}
use Rattle.lattice.proofs.ShapeLaws.{entries-high}
use Rattle.lattice.proofs.RecordsLaws.{node-is}
use Rattle.cell.specs.Cell.{place_at, base, node_stride}
use mathlib.Core.Path.{refl, sym, ap}
use Prim.Native.Nat.{ℕ, ◌≤◌, ◌<◌, ◌+◌, ◌*◌}
use native.Mathlib.Omega.{arith}
use Rattle.cell.proofs.layout_of.Goals as goal
use Rattle.cell.proofs.layout_of.Goals.{After-record_entries-size}

-- the products of the code are small
module _ (b : After-record_entries-size) where
  abbrev s : Shape
  s = b.args.s

  abbrev cell : List ℕ
  cell = b.args.cell

  ok : Shaped s
  ok = b.requires.shaped

  index-low : (a : ℕ) → a < 3 → place_at cell a ≤ 64
  index-low a l = go (dec_lt a s.axes)
    where
      go : Dec (a < s.axes) → place_at cell a ≤ 64
      go (yes h) = let f = b.requires.accepted.used a h in let g = ok.high a l in omega arith
      go (no h) = let f = b.requires.accepted.unused a (omega (arith, h)) in omega arith

  size_low : b.record_entries-size.result ≤ 27
  size_low = rw b.record_entries-size.ensures (entries-high s ok)

  plane : count s 1 * place_at cell 2 ≤ 4096
  plane = mul-le-mul (ok.high 1 (lit< tt)) (index-low 2 (lit< tt))

  row : count s 0 * (place_at cell 1 + count s 1 * place_at cell 2) ≤ 64 * 4160
  row = mul-le-mul {m₂ = 4160} (ok.high 0 (lit< tt)) (let f = plane in let g = index-low 1 (lit< tt) in omega arith)

  node : place_at cell 0 + count s 0 * (place_at cell 1 + count s 1 * place_at cell 2) ≤ 300000
  node = let f = row in let g = index-low 0 (lit< tt) in omega arith

  start : (place_at cell 0 + count s 0 * (place_at cell 1 + count s 1 * place_at cell 2)) * b.record_entries-size.result ≤ 300000 * 27
  start = mul-le-mul {m₂ = 27} node size_low

  line : count s 0 * b.record_entries-size.result ≤ 64 * 27
  line = mul-le-mul {m₂ = 27} (ok.high 0 (lit< tt)) size_low

  sheet : count s 1 * (count s 0 * b.record_entries-size.result) ≤ 64 * (64 * 27)
  sheet = mul-le-mul {m₂ = 1728} (ok.high 1 (lit< tt)) line

pub returns : goal.returns
unfolding place_at count pick base node_stride
returns c =
    let b = c.before.before.before in
    let s = b.args.s in
    let e = b.record_entries-size.ensures in
    record {
      orders-are = c.orders.ensures;
      entries-are = e;
      base-is = rw e (ap (λ (k : ℕ). k * entries s) (sym (node-is s (place_at b.args.cell))));
      stride-x = e;
      stride-y = rw e refl;
      stride-z = rw e refl;
    }

pub overflow_mul-node : goal.overflow_mul-node
unfolding place_at count pick
overflow_mul-node c = omega (arith, plane c.before.before)

pub overflow_add-node : goal.overflow_add-node
unfolding place_at count pick
overflow_add-node c = omega (arith, plane c.before.before, index-low c.before.before 1 (lit< tt))

pub overflow_mul-node-2 : goal.overflow_mul-node-2
unfolding place_at count pick
overflow_mul-node-2 c = omega (arith, row c.before.before)

pub overflow_add-node-2 : goal.overflow_add-node-2
unfolding place_at count pick
overflow_add-node-2 c = omega (arith, node c.before.before)

pub overflow_mul-result : goal.overflow_mul-result
unfolding place_at count pick
overflow_mul-result c = omega (arith, start c.before.before.before)

pub overflow_mul-result-2 : goal.overflow_mul-result-2
unfolding place_at count pick
overflow_mul-result-2 c = omega (arith, line c.before.before.before)

pub overflow_mul-result-3 : goal.overflow_mul-result-3
unfolding place_at count pick
overflow_mul-result-3 c = omega (arith, line c.before.before.before)

pub overflow_mul-result-4 : goal.overflow_mul-result-4
unfolding place_at count pick
overflow_mul-result-4 c = omega (arith, sheet c.before.before.before)
