-- `totals::Rows::check` meets its contract: no row before the one at hand has an entry beyond its limit.
use mathlib.Core.Path.{◌≡◌}
use Rattle.lattice.specs.Outcome.{done, first_of}
use Rattle.cell.specs.Cell.{limit_in}
use Rattle.totals.proofs.RowLaws.{row-test}
use Rattle.totals.proofs.Rows.check.Given as goal

abbrev pub invariant-loop-r : goal.invariant-loop-r
invariant-loop-r q = first_of q.r (row-test (limit_in q.limits.limits) q.self.layout q.self.cells q.self.records.now) ≡ done tt
