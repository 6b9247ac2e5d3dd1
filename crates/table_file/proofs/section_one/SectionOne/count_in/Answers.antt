-- `SectionOne::count_in` meets its contract: the number of a used axis, 1 on an unused one.
use mathlib.Core.Path.{sym, ◌∙◌}
use native.Mathlib.Omega.{arith}
use Rattle.table_file.proofs.ReadLaws.{count-read, count-absent}
use Rattle.table_file.proofs.section_one.SectionOne.count_in.Goals as goal

pub returns-then-axis-self : goal.returns-then-axis-self
returns-then-axis-self c = c.number_at.ensures ∙ sym (count-read _ _ (omega (arith, c.args.self.known.0)))

pub returns-else-axis-self : goal.returns-else-axis-self
returns-else-axis-self c = sym (count-absent _ _ (omega (arith, c.args.self.known.0)))
