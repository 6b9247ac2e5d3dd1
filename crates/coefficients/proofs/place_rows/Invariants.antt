-- `coefficients::place_rows` meets its contract: row after row is written.
use Prim.Native.Nat.{◌*◌}
use Rattle.coefficients.specs.Blocks.{RowOf, Placed}
use Rattle.coefficients.proofs.place_rows.Given as goal

abbrev pub invariant-loop-g : goal.invariant-loop-g
invariant-loop-g l = RowOf l.m.count l.g l.o × Placed l.m.count l.c (l.m.count * l.g) l.ps
