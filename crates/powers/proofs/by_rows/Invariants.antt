-- `powers::by_rows` meets its contract: the slice is filled from the front, row by row.
use Rattle.lattice.proofs.BufferLaws.{Filled}
use Rattle.powers.specs.Parts.{row_sum}
use Rattle.powers.proofs.by_rows.Given as goal

abbrev pub invariant-loop-r : goal.invariant-loop-r
invariant-loop-r l = Filled (row_sum l.matrix l.xs) l.initial.out l.r l.out
