-- The whole number that a float equals.
use Rattle.std.specs.Prelude.{◌*◌, ◌/◌, ◌%◌, ◌&&◌, not, eqb, ℤ, Float}
use Rattle.std.proofs.Math.Option.{Option, none, some}
use Rattle.std.specs.Float.{nan, inf, fin}
use Rattle.std.specs.Float.Ieee.{up, down}
use Rattle.arith.specs.Choice.{pick}
use Rattle.floats.specs.Step.{signed}

-- the whole number that is the exact value; none where it is not whole, and none for minus zero
unfoldable pub whole_of : Float → Option ℤ
whole_of nan = none
whole_of (inf s) = none
whole_of (fin s m e) = pick (eqb (m * up e % down e) 0 && not (s && eqb m 0)) (some (signed s (m * up e / down e))) none
