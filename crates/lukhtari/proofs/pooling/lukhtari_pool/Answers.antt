-- `lukhtari::pooling::lukhtari_pool` meets its contract: the struct says what the answer says, and the slice is that of the call.
use mathlib.Core.Path.{◌∙◌, ap, refl}
use Rattle.arith.specs.Choice.{pick}
use Rattle.lukhtari.proofs.KeyLaws.{allowed, forbidden, told}
use Rattle.lukhtari.specs.Host.{done_of}
use Rattle.lukhtari.specs.declared.keys.Right.TheVariants.{Pool}
use Rattle.lukhtari.proofs.pooling.lukhtari_pool.Goals as goal

pub returns-in-Ok : goal.returns-in-Ok
unfolding pick
returns-in-Ok c =
    rw (allowed c.args.key Pool c.in-Ok.ensures)
    (record { value = c.from.ensures ∙ ap done_of c.pool.ensures.answer; out_after = c.pool.ensures.written })

pub returns-in-Err : goal.returns-in-Err
unfolding pick
returns-in-Err c =
    rw (forbidden c.args.key Pool c.in-Err.ensures)
    (record { value = (c.from-in-Err.ensures ∙ ap done_of (told c.args.key Pool c.in-Err.ensures)); out_after = refl })
