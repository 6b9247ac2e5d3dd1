-- `ramp::unmarked` meets its contract: the number is that of the first two stages.
use mathlib.Core.Path.{refl, ◌∙◌}
use borrow.Author.Rules.{sfits_of}
use mir.Facts.{to_z-of_z}
use mir.Syntax.{w64}
use Rattle.evaluate.specs.Stages.{after}
use Rattle.ramp.proofs.unmarked.Goals as goal

pub returns : goal.returns
unfolding after
returns c = (to_z-of_z {w = w64} (sfits_of c.struct_told-1.given.0.1) ∙ c.first_stages-r.ensures.number_is, refl)
