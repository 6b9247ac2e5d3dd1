-- `check_samples` meets its contract. The invariant: no sample before the one at hand is beyond its limit.
use mathlib.Core.Path.{◌≡◌}
use Rattle.lattice.specs.Outcome.{done, first_of}
use Rattle.lattice.specs.Records.{sample_limit}
use Rattle.lattice.proofs.RecordsLaws.{limit_test}
use Rattle.table_file.specs.Parser.{samples_of}
use Rattle.table_file.proofs.after_one.check_samples.Given as goal

abbrev pub invariant-loop-i : goal.invariant-loop-i
invariant-loop-i l = first_of l.i (limit_test 5 sample_limit (samples_of l.numbers)) ≡ done tt
