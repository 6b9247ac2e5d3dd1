-- `floats::whole` meets its contract: v is read back from its bits, and `whole_float` says that the cast is exact.
use mathlib.Core.Path.{ap, ◌∙◌}
use lib.Ieee.{binary32, of_int}
use mir.Facts.{to_z-of_z}
use Rattle.floats.specs.Whole.{whole_of}
use Rattle.floats.proofs.WholeLaws.{whole_float}
use Rattle.floats.proofs.whole.Goals as goal

pub returns : goal.returns
returns c = ap (λ z. whole_of (of_int binary32 z)) (to_z-of_z c.ranges.v) ∙ whole_float c.args.v c.requires
