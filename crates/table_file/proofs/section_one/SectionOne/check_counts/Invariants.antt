-- `SectionOne::check_counts` meets its contract. The invariant: no axis below this one is refused.
use mathlib.Core.Path.{◌≡◌}
use Rattle.lattice.specs.Outcome.{done, first_of}
use Rattle.table_file.specs.File.{count_outcome}
use Rattle.table_file.proofs.section_one.SectionOne.check_counts.Given as goal

abbrev pub invariant-loop-axis : goal.invariant-loop-axis
invariant-loop-axis l = first_of l.axis (count_outcome l.fn.self.bytes.now) ≡ done tt
