-- `coefficients::put_places` meets its contract, by the two degrees.
use mathlib.Core.Path.{◌≡◌}
use Prim.Native.Nat.{ℕ, ◌*◌, ◌≤◌}
use native.Mathlib.Omega.{arith}
use Rattle.coefficients.specs.declared.block.Block.{Block}
use Rattle.coefficients.proofs.BlockLaws.{corner-low, size_low, rows_few}
use Rattle.coefficients.proofs.put_places.Goals as goal

fits : (b : Block) (m : ℕ) → m ≡ b.orders.count → (m * b.rows ≤ 27) × (b.rows ≤ m * m)
fits b m e = rw e (size_low b.sizes, rows_few b.sizes)

pub place_rows-requires : goal.place_rows-requires
place_rows-requires c =
    let h = fits c.args.b c.cubic.result.count (let e = c.if-b-eq2.true in omega arith) in
    (corner-low c.args.b.sizes c.args.c c.requires, h.0, h.1)

pub place_rows-requires-else-b-eq2 : goal.place_rows-requires-else-b-eq2
place_rows-requires-else-b-eq2 c =
    let h = fits c.args.b c.quintic.result.count
    (let m2 = c.args.b.orders.bounds.0 in let m3 = c.args.b.orders.bounds.1 in omega (arith, c.if-b-eq2.false)) in
    (corner-low c.args.b.sizes c.args.c c.requires, h.0, h.1)
