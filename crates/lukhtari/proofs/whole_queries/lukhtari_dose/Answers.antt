-- `lukhtari::whole_queries::lukhtari_dose` meets its contract: the struct says what the query for a dose says, and its mark.
use mathlib.Core.Path.{ap, ◌∙◌}
use Rattle.arith.specs.Choice.{pick}
use Rattle.lukhtari.proofs.KeyLaws.{allowed, forbidden, told}
use Rattle.lukhtari.proofs.MarkedLaws.{marked-same}
use mathlib.Core.Bool.{false}
use Rattle.lukhtari.specs.Host.{marked_from}
use Rattle.lukhtari.specs.declared.keys.Right.TheVariants.{Dose}
use Rattle.lukhtari.proofs.whole_queries.lukhtari_dose.Goals as goal

pub returns-in-Ok : goal.returns-in-Ok
unfolding pick
returns-in-Ok c =
    rw (allowed c.args.key Dose c.in-Ok.ensures)
    (c.from.ensures ∙ marked-same c.at_position.result c.at_position.ensures.result_value c.at_position.ensures.marks)

pub returns-in-Err : goal.returns-in-Err
unfolding pick
returns-in-Err c =
    rw (forbidden c.args.key Dose c.in-Err.ensures) (c.from-in-Err.ensures ∙ ap (λ o. marked_from o false)
    (told c.args.key Dose c.in-Err.ensures))
