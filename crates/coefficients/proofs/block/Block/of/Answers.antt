-- `coefficients::block::Block::of` meets its contract: m^(n - 1) rows of m.
use Prim.Native.Nat.{◌-◌}
use native.Mathlib.Omega.{arith}
use lib.Dec.{lit<}
use Rattle.lattice.proofs.ShapeLaws.{pow-range}
use Rattle.coefficients.proofs.block.Block.of.Goals as goal

pub pow-rows-requires : goal.pow-rows-requires
pow-rows-requires c =
    let h = pow-range 3 c.args.orders.count (c.args.axes - 1) c.args.orders.bounds.1 (omega arith) (lit< tt) in
    omega arith
