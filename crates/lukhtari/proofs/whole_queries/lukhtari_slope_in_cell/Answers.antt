-- `lukhtari::whole_queries::lukhtari_slope_in_cell` meets its contract: the struct says what the query along the axis says.
use mathlib.Core.Path.{◌∙◌, ap}
use Rattle.arith.specs.Choice.{pick}
use Rattle.lukhtari.proofs.KeyLaws.{allowed, forbidden, told}
use Rattle.lukhtari.specs.Host.{whole_from}
use Rattle.lukhtari.specs.declared.keys.Right.TheVariants.{SlopeInCell}
use Rattle.lukhtari.proofs.whole_queries.lukhtari_slope_in_cell.Goals as goal

pub returns-in-Ok : goal.returns-in-Ok
unfolding pick
returns-in-Ok c =
    rw (allowed c.args.key SlopeInCell c.in-Ok.ensures)
    (c.from.ensures ∙ ap whole_from c.in_cell.ensures.result_value)

pub returns-in-Err : goal.returns-in-Err
unfolding pick
returns-in-Err c =
    rw (forbidden c.args.key SlopeInCell c.in-Err.ensures) (c.from-in-Err.ensures ∙ ap whole_from
    (told c.args.key SlopeInCell c.in-Err.ensures))
