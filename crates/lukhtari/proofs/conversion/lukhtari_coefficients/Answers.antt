-- `lukhtari::conversion::lukhtari_coefficients` meets its contract: the struct says what the answer says, and the slice is that of the
-- call.
use mathlib.Core.Path.{◌∙◌, ap, refl}
use Rattle.arith.specs.Choice.{pick}
use Rattle.lukhtari.proofs.KeyLaws.{allowed, forbidden, told}
use Rattle.lukhtari.specs.Host.{done_of}
use Rattle.lukhtari.specs.declared.keys.Right.TheVariants.{Coefficients}
use Rattle.lukhtari.proofs.conversion.lukhtari_coefficients.Goals as goal

pub returns-in-Ok : goal.returns-in-Ok
unfolding pick
returns-in-Ok c =
    rw (allowed c.args.key Coefficients c.in-Ok.ensures)
    (record { value = c.from.ensures ∙ ap done_of c.coefficients.ensures.result_value; out_after = c.coefficients.ensures.out_after })

pub returns-in-Err : goal.returns-in-Err
unfolding pick
returns-in-Err c =
    rw (forbidden c.args.key Coefficients c.in-Err.ensures)
    (record { value = (c.from-in-Err.ensures ∙ ap done_of (told c.args.key Coefficients c.in-Err.ensures)); out_after = refl })
