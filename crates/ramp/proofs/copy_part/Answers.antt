-- `ramp::copy_part` meets its contract: lists that are as long and have the same numbers.
use native.Mathlib.Omega.{arith}
use lib.IntN.{pos}
use Rattle.std.proofs.lemmas.List.{ext_get_or}
use Rattle.ramp.proofs.copy_part.Goals as goal

pub returns : goal.returns
returns c = ext_get_or (pos 0) c.loop-i.to c.args.from.now c.loop-i.invariant.0
    (λ k h. c.loop-i.invariant.1 k (omega (arith, h, c.loop-i.invariant.0)))
