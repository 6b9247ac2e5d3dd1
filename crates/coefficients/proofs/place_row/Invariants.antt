-- `coefficients::place_row` meets its contract: the row's places are written one after the other.
use Prim.Native.Nat.{◌+◌, ◌*◌}
use Rattle.coefficients.specs.Blocks.{Placed}
use Rattle.coefficients.proofs.place_row.Given as goal

abbrev pub invariant-loop-t : goal.invariant-loop-t
invariant-loop-t l = Placed l.m.count l.c (l.m.count * l.g + l.t) l.ps
