-- `lukhtari::float_queries::lukhtari_dose_float` meets its contract: the struct holds the float that the query gives.
use mathlib.Core.Path.{◌∙◌, ap}
use Rattle.arith.specs.Choice.{pick}
use Rattle.evaluate.specs.Evaluate.{dose}
use Rattle.float_query.specs.Floats.{floats_at, by_float}
use Rattle.lukhtari.proofs.KeyLaws.{allowed, forbidden, told}
use Rattle.lukhtari.proofs.RealLaws.{real-held}
use Rattle.lukhtari.specs.Host.{real_of}
use Rattle.lukhtari.specs.declared.keys.Right.TheVariants.{DoseFloat}
use Rattle.lukhtari.proofs.float_queries.lukhtari_dose_float.Goals as goal

pub returns-in-Ok : goal.returns-in-Ok
unfolding pick
returns-in-Ok c =
    let a = c.args in
    rw (allowed c.args.key DoseFloat c.in-Ok.ensures)
    (c.from.ensures ∙ ap real_of c.at_float.ensures
    ∙ real-held dose (by_float a.shape a.records.now dose (floats_at a.position)))

pub returns-in-Err : goal.returns-in-Err
unfolding pick
returns-in-Err c =
    rw (forbidden c.args.key DoseFloat c.in-Err.ensures) (c.from-in-Err.ensures ∙ ap real_of (told c.args.key DoseFloat c.in-Err.ensures))
