-- `estimate` meets its contract: where the gate passes, its facts are what the body asks for; where it refuses, nothing is written.
use mathlib.Core.Path.{sym, ◌∙◌}
use lib.ListN.{length}
use Rattle.lattice.proofs.OutcomeLaws.{at_once, when-done, when-refused}
use Rattle.estimate.specs.Estimate.{estimate_writes}
use Rattle.estimate.proofs.CallLaws.{estimated}
use Rattle.estimate.proofs.estimate.Goals as goal

pub returns-in_err-check_estimate : goal.returns-in_err-check_estimate
unfolding estimate_writes
returns-in_err-check_estimate c = record {
  answer = at_once _ _ _ c.from_residual.ensures c.in_err-check_estimate.ensures;
  written = when-refused _ c.args.records.now (sym c.in_err-check_estimate.ensures);
}

pub fill_records-requires : goal.fill_records-requires
fill_records-requires c = estimated c.args.t c.args.samples.now (length c.args.records.now) (sym c.in_ok-check_estimate.ensures)

pub returns : goal.returns
unfolding estimate_writes
returns c = record {
  answer = c.in_ok-check_estimate.ensures;
  written = c.fill_records.ensures ∙ when-done _ c.args.records.now (sym c.in_ok-check_estimate.ensures);
}
