-- `import` meets its contract: where the gate passes, its facts are what the body asks for; where it refuses, nothing is written.
use mathlib.Core.Path.{sym, ◌∙◌}
use lib.ListN.{length}
use Rattle.lattice.proofs.OutcomeLaws.{when-done, when-refused}
use Rattle.import.specs.Import.{import_writes}
use Rattle.import.proofs.ImportLaws.{import-facts}
use Rattle.import.proofs.import.Goals as goal

pub returns-in_err-check_import-clause-written : goal.returns-in_err-check_import-clause-written
unfolding import_writes
returns-in_err-check_import-clause-written c = when-refused _ c.args.samples.now (sym c.in_err-check_import.ensures)

pub fill-requires : goal.fill-requires
fill-requires c = let a = c.args in import-facts a.shape a.text.now (length a.samples.now) (sym c.in_ok-check_import.ensures)

pub returns-clause-written : goal.returns-clause-written
unfolding import_writes
returns-clause-written c = c.fill.ensures ∙ when-done _ c.args.samples.now (sym c.in_ok-check_import.ensures)
