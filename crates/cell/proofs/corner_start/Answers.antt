-- `cell::corner_start` meets its contract: the base and the strides of the corner's ends; their sum fits.
use native.Mathlib.Omega.{arith}
use Rattle.cell.proofs.CellLaws.{Steps, small-steps}
use Rattle.cell.proofs.corner_start.Goals as goal
use Rattle.cell.proofs.corner_start.Goals.{Start}

-- the steps along the axes are small
steps : (c : Start) → Steps c.args.l c.args.c
steps c = small-steps c.args.l c.args.c c.requires

pub overflow_add-result-3 : goal.overflow_add-result-3
overflow_add-result-3 c = omega (arith, steps c.before.before.before, c.requires.1.base-low)

pub overflow_mul-result : goal.overflow_mul-result
overflow_mul-result c = omega (arith, steps c.before.before.before)

pub overflow_mul-result-2 : goal.overflow_mul-result-2
overflow_mul-result-2 c = omega (arith, steps c.before.before.before)

pub overflow_mul-result-3 : goal.overflow_mul-result-3
overflow_mul-result-3 c = omega (arith, steps c.before.before.before)

pub overflow_add-result : goal.overflow_add-result
overflow_add-result c = omega (arith, steps c.before.before.before)

pub overflow_add-result-2 : goal.overflow_add-result-2
overflow_add-result-2 c = omega (arith, steps c.before.before.before)
