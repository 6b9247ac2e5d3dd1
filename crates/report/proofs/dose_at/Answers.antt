-- `dose_at` meets its contract: the query is answered.
use mathlib.Core.Path.{◌≡◌, sym, ap, ◌∙◌}
use native.Mathlib.Omega.{arith}
use Rattle.arith.proofs.Machine.{element}
use Rattle.lattice.specs.declared.FullShape.{FullShape}
use Rattle.lattice.specs.Outcome.{done}
use Rattle.lattice.proofs.OutcomeLaws.{done-same}
use Rattle.lattice.proofs.ShapeLaws.{shaped}
use Rattle.lattice.proofs.StepLaws.{full-shape}
use Rattle.cell.specs.Cell.{place_at}
use Rattle.evaluate.specs.Evaluate.{dose}
use Rattle.query.specs.Queries.{by_cell}
use Rattle.query.specs.Answers.{outcome_of_reading}
use Rattle.table_file.specs.Answers.{read_header}
use Rattle.report.specs.Report.{table_with}
use Rattle.report.specs.Parts.{dose_from}
use Rattle.report.proofs.DoseLaws.{answered, is-read}
use Rattle.report.proofs.dose_at.Goals as goal
use Rattle.report.proofs.dose_at.Goals.{After-in_cell}

-- what the query gives
gives : (c : After-in_cell)
    → outcome_of_reading c.in_cell.result ≡ done (dose_from (table_with
    (read_header c.args.header) c.args.degree) c.args.records.now c.args.cell)
gives c =
    let a = c.args in
    c.in_cell.ensures.result_value
    ∙ ap (λ (t : FullShape). by_cell t a.records.now dose (place_at a.cell) (place_at c.middle_of-step.result)) c.table_with-table.ensures
    ∙ answered a.header.second_edition (table_with (read_header a.header) a.degree).shape a.records.now a.cell
    (place_at c.middle_of-step.result) c.requires.answers c.requires.accepted c.middle_of-step.ensures

pub middle_of-step-requires : goal.middle_of-step-requires
middle_of-step-requires c = (shaped (table_with (read_header c.args.header) c.args.degree).shape
    (full-shape _ c.requires.answers.shape)).axes-high

pub unwrap-requires : goal.unwrap-requires
unwrap-requires c = is-read _ _ (gives c)

pub returns : goal.returns
returns c = element c.unwrap.result.number (omega arith)
    ∙ done-same c.unwrap.result.number _ (ap outcome_of_reading (sym c.unwrap.ensures) ∙ gives c.before.before)
