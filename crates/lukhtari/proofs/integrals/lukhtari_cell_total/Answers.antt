-- `lukhtari::integrals::lukhtari_cell_total` meets its contract: the struct says what the call says.
use mathlib.Core.Path.{◌∙◌, ap}
use Rattle.arith.specs.Choice.{pick}
use Rattle.lukhtari.proofs.KeyLaws.{allowed, forbidden, told}
use Rattle.lukhtari.specs.Host.{total_from}
use Rattle.lukhtari.specs.declared.keys.Right.TheVariants.{CellTotal}
use Rattle.lukhtari.proofs.integrals.lukhtari_cell_total.Goals as goal

pub returns-in-Ok : goal.returns-in-Ok
unfolding pick
returns-in-Ok c =
    rw (allowed c.args.key CellTotal c.in-Ok.ensures)
    (c.from.ensures ∙ ap total_from c.cell_total.ensures)

pub returns-in-Err : goal.returns-in-Err
unfolding pick
returns-in-Err c =
    rw (forbidden c.args.key CellTotal c.in-Err.ensures) (c.from-in-Err.ensures ∙ ap total_from
    (told c.args.key CellTotal c.in-Err.ensures))
