-- `cell::check_corners` meets its contract: no corner before the one at hand has an entry beyond its limit.
use Rattle.lattice.specs.Outcome.{done, first_of}
use Rattle.cell.proofs.LayoutLaws.{corner_test}
use mathlib.Core.Path.{◌≡◌}
use Rattle.cell.proofs.check_corners.Given as goal

abbrev pub invariant-loop-c : goal.invariant-loop-c
invariant-loop-c q = first_of q.c (corner_test q.limits.limits q.n q.records q.l) ≡ done tt
