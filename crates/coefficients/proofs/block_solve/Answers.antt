-- `coefficients::block_solve` meets its contract: after each call the array that it filled holds one pass more; as many as there are axes
-- are the sweep.
use mathlib.Core.Path.{◌≡◌, sym}
use mathlib.Core.Bool.{false}
use mathlib.Core.List.{List}
use Prim.Native.Nat.{ℕ, suc, ◌*◌, ◌^◌, ◌≤◌}
use native.Mathlib.Omega.{arith}
use lib.Dec.{lit≤}
use lib.IntN.{ℤ, ◌*ℤ◌}
use Rattle.lattice.specs.Buffer.{at}
use Rattle.lattice.specs.Flat.{pass}
use Rattle.hermite.specs.Hermite.{end_rule}
use Rattle.coefficients.specs.declared.block.Block.{Block}
use Rattle.coefficients.specs.Blocks.{block_sign, AllWithin, StartsWith, solved_block}
use Rattle.coefficients.proofs.BlockLaws.{size_low, After, after_first, after_next, after-low, after-all}
use Rattle.coefficients.proofs.block_solve.Goals as goal

module _ (b : Block) (c : ℕ) (numbers : List ℤ) where
  -- number k of the record by its sign
  abbrev entry : ℕ → ℤ
  entry k = block_sign b.orders.count c k *ℤ at numbers k

  -- an array after i passes
  abbrev Passed : ℕ → List ℤ → Type 0
  Passed i zs = After false b.sizes entry i zs

  once : (zs : List ℤ) → StartsWith (b.orders.count * b.rows) (pass b.orders.count b.rows (end_rule false b.orders.count) entry) zs
      → Passed 1 zs
  once zs z = after_first false b.sizes entry zs z

  next : (i : ℕ) (ys zs : List ℤ) → Passed i ys
      → StartsWith (b.orders.count * b.rows) (pass b.orders.count b.rows (end_rule false b.orders.count) (at ys)) zs → Passed (suc i) zs
  next i ys zs h z = after_next false b.sizes entry i ys zs h z

  module _ (small : AllWithin (2 ^ 31) (b.orders.count ^ b.axes) entry) where
    low : (i : ℕ) → i ≤ 3 → (zs : List ℤ) → Passed i zs
        → (b.orders.count * b.rows ≤ 27) × AllWithin (2 ^ 50) (b.orders.count * b.rows) (at zs)
    low i l zs z = (size_low b.sizes, after-low false b.sizes entry small i l zs z)

    all : (i : ℕ) → i ≡ b.axes → (zs : List ℤ) → Passed i zs
        → StartsWith (b.orders.count ^ b.axes) (solved_block false b.orders.count b.axes entry) zs
    all i e zs z = (after-all false b.sizes entry small i e zs z).0

-- three axes are left
three : (b : Block) → (b.axes ≡ 2 → ⊥) → (b.axes ≡ 1 → ⊥) → 3 ≡ b.axes
three b p q = let n1 = b.sizes.axes-low in let n3 = b.sizes.axes-high in omega (arith, p, q)

pub solve_axis-requires : goal.solve_axis-requires
solve_axis-requires c =
    let a = c.args in
    let first = c.solve_first in
    low a.b a.c a.numbers.now first.ensures.all_within 1 (lit≤ tt) first.new.zs (once a.b a.c a.numbers.now _ first.ensures.starts_with)

pub returns-then-b-eq2 : goal.returns-then-b-eq2
returns-then-b-eq2 c =
    let a = c.args in
    let first = c.solve_first in
    all a.b a.c a.numbers.now first.ensures.all_within 2 (sym c.if-b-eq2.true) _
    (next a.b a.c a.numbers.now 1 first.new.zs _ (once a.b a.c a.numbers.now _ first.ensures.starts_with) c.solve_axis.ensures)

pub returns-then-b-eq1 : goal.returns-then-b-eq1
returns-then-b-eq1 c =
    let a = c.args in
    let first = c.solve_first-2 in
    all a.b a.c a.numbers.now first.ensures.all_within 1 (sym c.if-b-eq1.true) first.new.zs
    (once a.b a.c a.numbers.now _ first.ensures.starts_with)

pub solve_axis-requires-2 : goal.solve_axis-requires-2
solve_axis-requires-2 c =
    let a = c.args in
    let first = c.solve_first-2 in
    low a.b a.c a.numbers.now first.ensures.all_within 1 (lit≤ tt) first.new.zs (once a.b a.c a.numbers.now _ first.ensures.starts_with)

pub solve_axis-requires-3 : goal.solve_axis-requires-3
solve_axis-requires-3 c =
    let a = c.args in
    let first = c.solve_first-2 in
    low a.b a.c a.numbers.now first.ensures.all_within 2 (lit≤ tt) c.solve_axis-2.new.zs
    (next a.b a.c a.numbers.now 1 first.new.zs _ (once a.b a.c a.numbers.now _ first.ensures.starts_with) c.solve_axis-2.ensures)

pub returns : goal.returns
returns c =
    let a = c.args in
    let first = c.solve_first-2 in
    let second = c.solve_axis-2 in
    all a.b a.c a.numbers.now first.ensures.all_within 3 (three a.b c.if-b-eq2.false c.if-b-eq1.false) _
    (next a.b a.c a.numbers.now 2 second.new.zs _
    (next a.b a.c a.numbers.now 1 first.new.zs _ (once a.b a.c a.numbers.now _ first.ensures.starts_with) second.ensures)
    c.solve_axis-3.ensures)
