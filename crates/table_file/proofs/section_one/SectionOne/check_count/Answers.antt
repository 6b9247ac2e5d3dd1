-- `SectionOne::check_count` meets its contract: 6, then 3 for the number that was read.
use mathlib.Core.Path.{sym, ap, ◌∙◌}
use native.Mathlib.Omega.{arith}
use Rattle.lattice.specs.Outcome.{refuse_unless}
use Rattle.lattice.proofs.OutcomeLaws.{stopped}
use Rattle.table_file.specs.File.{count_outcome}
use Rattle.table_file.proofs.ReadLaws.{complete-holds, count-tested}
use Rattle.table_file.proofs.section_one.SectionOne.check_count.Goals as goal

pub returns-in_err-check_complete : goal.returns-in_err-check_complete
unfolding count_outcome
returns-in_err-check_complete c = stopped _ _ _ _ c.from_residual.ensures c.in_err-check_complete.ensures

pub number_at-count-requires : goal.number_at-count-requires
number_at-count-requires c = omega (arith, c.args.self.known.1, complete-holds _ _ (sym c.in_ok-check_complete.ensures))

pub returns : goal.returns
returns c =
    let a = c.args.self in
    c.refuse_unless.ensures ∙ ap (λ t. refuse_unless t 3 c.args.axis) c.count_allowed.ensures
    ∙ count-tested a.bytes.now a.axes c.args.axis _ a.known.0 c.requires c.number_at-count.ensures (sym c.in_ok-check_complete.ensures)
