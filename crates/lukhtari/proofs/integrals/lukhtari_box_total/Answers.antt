-- `lukhtari::integrals::lukhtari_box_total` meets its contract: the struct says what the call says.
use mathlib.Core.Path.{◌∙◌, ap}
use Rattle.arith.specs.Choice.{pick}
use Rattle.lukhtari.proofs.KeyLaws.{allowed, forbidden, told}
use Rattle.lukhtari.specs.Host.{total_from}
use Rattle.lukhtari.specs.declared.keys.Right.TheVariants.{BoxTotal}
use Rattle.lukhtari.proofs.integrals.lukhtari_box_total.Goals as goal

pub returns-in-Ok : goal.returns-in-Ok
unfolding pick
returns-in-Ok c =
    rw (allowed c.args.key BoxTotal c.in-Ok.ensures)
    (c.from.ensures ∙ ap total_from c.box_total.ensures)

pub returns-in-Err : goal.returns-in-Err
unfolding pick
returns-in-Err c =
    rw (forbidden c.args.key BoxTotal c.in-Err.ensures) (c.from-in-Err.ensures ∙ ap total_from (told c.args.key BoxTotal c.in-Err.ensures))
