-- `coefficients::filled` meets its contract: after any number of corners in turn their coefficients stand and all other numbers are 0.
use Rattle.coefficients.specs.Blocks.{cell_coefficient, Filled}
use Rattle.coefficients.proofs.filled.Given as goal

abbrev pub invariant-loop-turn : goal.invariant-loop-turn
invariant-loop-turn q = Filled q.b.orders.count q.b.axes (cell_coefficient q.b.orders.count q.b.axes q.l q.records) q.turn q.out
