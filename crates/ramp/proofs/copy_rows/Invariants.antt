-- `ramp::copy_rows` meets its contract. The invariant: the rows before the one at hand stand in front.
use Prim.Native.Nat.{◌*◌}
use Rattle.ramp.specs.Parts.{Copied}
use Rattle.ramp.proofs.copy_rows.Given as goal

abbrev pub invariant-loop-r : goal.invariant-loop-r
invariant-loop-r q = Copied q.l q.records q.e (2 * q.e * q.r) q.held
