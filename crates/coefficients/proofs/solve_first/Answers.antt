-- `coefficients::solve_first` meets its contract, by the two degrees.
use mathlib.Core.Path.{◌≡◌, sym, ◌∙◌}
use Prim.Native.Nat.{ℕ, ◌*◌, ◌^◌, ◌≤◌, ◌<◌}
use native.Mathlib.Omega.{arith}
use Rattle.coefficients.specs.declared.block.Block.{Block}
use Rattle.coefficients.proofs.BlockLaws.{corner-low, size_low, rows_few}
use Rattle.coefficients.proofs.solve_first.Goals as goal

fits : (b : Block) (c long : ℕ) → c < 2 ^ b.axes → long ≡ b.orders.count ^ b.axes → (m : ℕ) → m ≡ b.orders.count
    → (c < 8) × (m * b.rows ≤ 27) × (b.rows ≤ m * m) × (long ≡ m * b.rows)
fits b c long h l m e = rw e (corner-low b.sizes c h, size_low b.sizes, rows_few b.sizes, l ∙ sym b.sizes.groups-are)

pub first_axis-requires : goal.first_axis-requires
first_axis-requires c =
    fits c.args.b c.args.c _ c.requires.0 c.requires.1 c.cubic.result.count (let e = c.if-b-eq2.true in omega arith)

pub first_axis-requires-else-b-eq2 : goal.first_axis-requires-else-b-eq2
first_axis-requires-else-b-eq2 c =
    fits c.args.b c.args.c _ c.requires.0 c.requires.1 c.quintic.result.count
    (let m2 = c.args.b.orders.bounds.0 in let m3 = c.args.b.orders.bounds.1 in omega (arith, c.if-b-eq2.false))
