-- `cell::check_record` meets its contract: no entry before the one at hand is beyond its limit.
use mathlib.Core.Path.{◌≡◌}
use Rattle.lattice.specs.Outcome.{done, first_of}
use Rattle.cell.proofs.LimitLaws.{test}
use Rattle.cell.proofs.check_record.Given as goal

abbrev pub invariant-loop-e : goal.invariant-loop-e
invariant-loop-e l = first_of l.e (test l.limits l.records l.start) ≡ done tt
