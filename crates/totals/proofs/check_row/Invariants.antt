-- `totals::check_row` meets its contract: no record before the one at hand has an entry beyond its limit.
use mathlib.Core.Path.{◌≡◌}
use Prim.Native.Nat.{◌+◌, ◌*◌}
use Rattle.lattice.specs.Outcome.{done, first_of}
use Rattle.cell.specs.Cell.{limit_in, record_outcome}
use Rattle.totals.proofs.check_row.Given as goal

abbrev pub invariant-loop-i : goal.invariant-loop-i
invariant-loop-i l = first_of l.i (λ j. record_outcome (limit_in l.limits.limits) l.n l.records (l.start + l.n * j)) ≡ done tt
