-- `lukhtari::estimation::lukhtari_estimate` meets its contract: the struct says what the answer says, and the slice is that of the call.
use mathlib.Core.Path.{◌∙◌, ap, refl}
use Rattle.arith.specs.Choice.{pick}
use Rattle.lukhtari.proofs.KeyLaws.{allowed, forbidden, told}
use Rattle.lukhtari.specs.Host.{done_of}
use Rattle.lukhtari.specs.declared.keys.Right.TheVariants.{Estimate}
use Rattle.lukhtari.proofs.estimation.lukhtari_estimate.Goals as goal

pub returns-in-Ok : goal.returns-in-Ok
unfolding pick
returns-in-Ok c =
    rw (allowed c.args.key Estimate c.in-Ok.ensures)
    (record { value = c.from.ensures ∙ ap done_of c.estimate.ensures.answer; records_after = c.estimate.ensures.written })

pub returns-in-Err : goal.returns-in-Err
unfolding pick
returns-in-Err c =
    rw (forbidden c.args.key Estimate c.in-Err.ensures)
    (record { value = (c.from-in-Err.ensures ∙ ap done_of (told c.args.key Estimate c.in-Err.ensures)); records_after = refl })
