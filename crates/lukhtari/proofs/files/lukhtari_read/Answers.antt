-- `lukhtari::files::lukhtari_read` meets its contract: the struct says what the answer says, and the slice is that of the call.
use mathlib.Core.Path.{◌∙◌, ap, refl}
use Rattle.arith.specs.Choice.{pick}
use Rattle.lukhtari.proofs.KeyLaws.{allowed, forbidden, told}
use Rattle.lukhtari.specs.Host.{table_from}
use Rattle.lukhtari.specs.declared.keys.Right.TheVariants.{Read}
use Rattle.lukhtari.proofs.files.lukhtari_read.Goals as goal

pub returns-in-Ok : goal.returns-in-Ok
unfolding pick
returns-in-Ok c =
    rw (allowed c.args.key Read c.in-Ok.ensures)
    (record { value = c.from.ensures ∙ ap table_from c.read.ensures.result_value; samples_after = c.read.ensures.samples_after })

pub returns-in-Err : goal.returns-in-Err
unfolding pick
returns-in-Err c =
    rw (forbidden c.args.key Read c.in-Err.ensures)
    (record { value = (c.from-in-Err.ensures ∙ ap table_from (told c.args.key Read c.in-Err.ensures)); samples_after = refl })
