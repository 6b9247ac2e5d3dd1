-- `unsigned` meets its contract: the bits of a signed number stand for its two's complement.
use mathlib.Core.Path.{ap, ◌∙◌}
use mir.Syntax.{w32}
use mir.Val.{of_z}
use mir.Facts.{to_z-of_z}
use Rattle.arith.proofs.Twos.{unsigned_is}
use Rattle.arith.proofs.unsigned.Goals as goal

pub returns : goal.returns
returns c = c.cast_unsigned.ensures ∙ ap (of_z w32) (to_z-of_z c.ranges.x) ∙ unsigned_is c.args.x
