-- `lukhtari::files::lukhtari_write` meets its contract: the struct says what the answer says, and the slice is that of the call.
use mathlib.Core.Path.{◌∙◌, ap, refl}
use Rattle.arith.specs.Choice.{pick}
use Rattle.lukhtari.proofs.KeyLaws.{allowed, forbidden, told}
use Rattle.lukhtari.specs.Host.{written_from}
use Rattle.lukhtari.specs.declared.keys.Right.TheVariants.{Write}
use Rattle.lukhtari.proofs.files.lukhtari_write.Goals as goal

pub returns-in-Ok : goal.returns-in-Ok
unfolding pick
returns-in-Ok c =
    rw (allowed c.args.key Write c.in-Ok.ensures)
    (record { value = c.from.ensures ∙ ap written_from c.write.ensures.result_value; bytes_after = c.write.ensures.bytes_after })

pub returns-in-Err : goal.returns-in-Err
unfolding pick
returns-in-Err c =
    rw (forbidden c.args.key Write c.in-Err.ensures)
    (record { value = (c.from-in-Err.ensures ∙ ap written_from (told c.args.key Write c.in-Err.ensures)); bytes_after = refl })
