-- `coefficients::block::Block::size` meets its contract: the rows together.
use native.Mathlib.Omega.{arith}
use Rattle.coefficients.proofs.BlockLaws.{size_low}
use Rattle.coefficients.proofs.block.Block.size.Goals as goal

pub overflow_mul-result : goal.overflow_mul-result
overflow_mul-result c = let h = size_low c.args.self.sizes in omega arith

pub returns : goal.returns
returns c = (c.args.self.sizes.groups-are, size_low c.args.self.sizes)
