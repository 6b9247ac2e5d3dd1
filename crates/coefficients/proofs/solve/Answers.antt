-- `coefficients::solve` meets its contract: after each call the array that it filled holds one pass more; as many as there are axes are the
-- sweep.
use mathlib.Core.Path.{◌≡◌, sym}
use mathlib.Core.Bool.{Bool}
use mathlib.Core.List.{List}
use Prim.Native.Nat.{ℕ, ◌*◌, ◌^◌, ◌≤◌}
use native.Mathlib.Nat.{le_trans}
use native.Mathlib.Omega.{arith}
use lib.Dec.{lit≤}
use lib.IntN.{ℤ}
use Rattle.lattice.specs.Buffer.{at}
use Rattle.lattice.specs.Flat.{pass}
use Rattle.hermite.specs.Hermite.{end_rule}
use Rattle.coefficients.specs.declared.block.Block.{Block}
use Rattle.coefficients.specs.Blocks.{AllWithin, StartsWith, solved_block}
use Rattle.coefficients.proofs.BlockLaws.{size_low, After, after_first, after_next, after-low, after-all}
use Rattle.coefficients.proofs.solve.Goals as goal

module _ (back : Bool) (b : Block) (xs : List ℤ) (small : AllWithin (2 ^ 31) (b.orders.count ^ b.axes) (at xs)) where
  -- what one pass gives
  abbrev Pass : List ℤ → List ℤ → Type 0
  Pass ys zs = StartsWith (b.orders.count * b.rows) (pass b.orders.count b.rows (end_rule back b.orders.count) (at ys)) zs

  -- what is asked of a pass
  abbrev Asked : List ℤ → Type 0
  Asked ys = (b.orders.count * b.rows ≤ 27) × AllWithin (2 ^ 50) (b.orders.count * b.rows) (at ys)

  -- what is left
  abbrev Solved : List ℤ → Type 0
  Solved zs =
      StartsWith (b.orders.count ^ b.axes) (solved_block back b.orders.count b.axes (at xs)) zs
      × AllWithin (2 ^ 50) (b.orders.count ^ b.axes) (at zs)

  abbrev Passed : ℕ → List ℤ → Type 0
  Passed i zs = After back b.sizes (at xs) i zs

  once : (zs : List ℤ) → Pass xs zs → Passed 1 zs
  once zs z = after_first back b.sizes (at xs) zs z

  twice : (ys zs : List ℤ) → Pass xs ys → Pass ys zs → Passed 2 zs
  twice ys zs y z = after_next back b.sizes (at xs) 1 ys zs (once ys y) z

  thrice : (ws ys zs : List ℤ) → Pass xs ws → Pass ws ys → Pass ys zs → Passed 3 zs
  thrice ws ys zs w y z = after_next back b.sizes (at xs) 2 ys zs (twice ws ys w y) z

  none-low : Asked xs
  none-low = (size_low b.sizes, λ k l. le_trans (small k (rw (← b.sizes.groups-are) l)) (lit≤ tt))

  low : (i : ℕ) → i ≤ 3 → (zs : List ℤ) → Passed i zs → Asked zs
  low i l zs z = (size_low b.sizes, after-low back b.sizes (at xs) small i l zs z)

  all : (i : ℕ) → i ≡ b.axes → (zs : List ℤ) → Passed i zs → Solved zs
  all i e zs z = after-all back b.sizes (at xs) small i e zs z

-- three axes are left
three : (b : Block) → (b.axes ≡ 2 → ⊥) → (b.axes ≡ 1 → ⊥) → 3 ≡ b.axes
three b p q = let n1 = b.sizes.axes-low in let n3 = b.sizes.axes-high in omega (arith, p, q)

pub solve_axis-requires-then-b-eq2 : goal.solve_axis-requires-then-b-eq2
solve_axis-requires-then-b-eq2 c =
    let a = c.args in
    low a.back a.b a.xs.now c.requires 1 (lit≤ tt) c.solve_axis.new.zs (once a.back a.b a.xs.now c.requires _ c.solve_axis.ensures)

pub returns-then-b-eq2-clause-starts_with : goal.returns-then-b-eq2-clause-starts_with
returns-then-b-eq2-clause-starts_with c =
    let a = c.args in
    (all a.back a.b a.xs.now c.requires 2 (sym c.if-b-eq2.true) c.solve_axis-then-b-eq2.new.zs
    (twice a.back a.b a.xs.now c.requires c.solve_axis.new.zs _ c.solve_axis.ensures c.solve_axis-then-b-eq2.ensures)).0

pub returns-then-b-eq2-clause-within : goal.returns-then-b-eq2-clause-within
returns-then-b-eq2-clause-within c =
    let a = c.args in
    (all a.back a.b a.xs.now c.requires 2 (sym c.if-b-eq2.true) c.solve_axis-then-b-eq2.new.zs
    (twice a.back a.b a.xs.now c.requires c.solve_axis.new.zs _ c.solve_axis.ensures c.solve_axis-then-b-eq2.ensures)).1

pub solve_axis-requires-2 : goal.solve_axis-requires-2
solve_axis-requires-2 c = none-low c.args.back c.args.b c.args.xs.now c.requires

pub returns-then-b-eq1-clause-starts_with : goal.returns-then-b-eq1-clause-starts_with
returns-then-b-eq1-clause-starts_with c =
    let a = c.args in
    (all a.back a.b a.xs.now c.requires 1 (sym c.if-b-eq1.true) c.solve_axis-2.new.zs
    (once a.back a.b a.xs.now c.requires _ c.solve_axis-2.ensures)).0

pub returns-then-b-eq1-clause-within : goal.returns-then-b-eq1-clause-within
returns-then-b-eq1-clause-within c =
    let a = c.args in
    (all a.back a.b a.xs.now c.requires 1 (sym c.if-b-eq1.true) c.solve_axis-2.new.zs
    (once a.back a.b a.xs.now c.requires _ c.solve_axis-2.ensures)).1

pub solve_axis-requires-3 : goal.solve_axis-requires-3
solve_axis-requires-3 c =
    let a = c.args in
    low a.back a.b a.xs.now c.requires 1 (lit≤ tt) c.solve_axis-2.new.zs (once a.back a.b a.xs.now c.requires _ c.solve_axis-2.ensures)

pub solve_axis-requires-4 : goal.solve_axis-requires-4
solve_axis-requires-4 c =
    let a = c.args in
    low a.back a.b a.xs.now c.requires 2 (lit≤ tt) c.solve_axis-3.new.zs
    (twice a.back a.b a.xs.now c.requires c.solve_axis-2.new.zs _ c.solve_axis-2.ensures c.solve_axis-3.ensures)

pub returns-clause-starts_with : goal.returns-clause-starts_with
returns-clause-starts_with c =
    let a = c.args in
    (all a.back a.b a.xs.now c.requires 3 (three a.b c.if-b-eq2.false c.if-b-eq1.false) c.solve_axis-4.new.zs
    (thrice a.back a.b a.xs.now c.requires c.solve_axis-2.new.zs c.solve_axis-3.new.zs _ c.solve_axis-2.ensures c.solve_axis-3.ensures
    c.solve_axis-4.ensures)).0

pub returns-clause-within : goal.returns-clause-within
returns-clause-within c =
    let a = c.args in
    (all a.back a.b a.xs.now c.requires 3 (three a.b c.if-b-eq2.false c.if-b-eq1.false) c.solve_axis-4.new.zs
    (thrice a.back a.b a.xs.now c.requires c.solve_axis-2.new.zs c.solve_axis-3.new.zs _ c.solve_axis-2.ensures c.solve_axis-3.ensures
    c.solve_axis-4.ensures)).1
