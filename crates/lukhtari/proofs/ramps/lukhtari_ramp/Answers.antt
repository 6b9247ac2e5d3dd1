-- `lukhtari::ramps::lukhtari_ramp` meets its contract: the struct says what the answer says, and the slice is that of the call.
use mathlib.Core.Path.{◌∙◌, ap, refl}
use Rattle.arith.specs.Choice.{pick}
use Rattle.lukhtari.proofs.KeyLaws.{allowed, forbidden, told}
use Rattle.lukhtari.specs.Host.{ramped_from}
use Rattle.lukhtari.specs.declared.keys.Right.TheVariants.{Ramp}
use Rattle.lukhtari.proofs.ramps.lukhtari_ramp.Goals as goal

pub returns-in-Ok : goal.returns-in-Ok
unfolding pick
returns-in-Ok c =
    rw (allowed c.args.key Ramp c.in-Ok.ensures)
    (record { value = c.from.ensures ∙ ap ramped_from c.ramp.ensures.answer; answers_after = c.ramp.ensures.written })

pub returns-in-Err : goal.returns-in-Err
unfolding pick
returns-in-Err c =
    rw (forbidden c.args.key Ramp c.in-Err.ensures)
    (record { value = (c.from-in-Err.ensures ∙ ap ramped_from (told c.args.key Ramp c.in-Err.ensures)); answers_after = refl })
