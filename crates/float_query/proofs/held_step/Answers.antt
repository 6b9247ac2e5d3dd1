-- `float_query::held_step` meets its contract: the step where the float is finite, else one below 0.
use mathlib.Core.Path.{◌≡◌, refl, ◌∙◌}
use lib.IntN.{ℤ, negsuc}
use Rattle.std.specs.Prelude.{Option, Some, None}
use Rattle.std.specs.Option.{unwrap_or}
use Rattle.arith.proofs.Machine.{element}
use Rattle.float_query.specs.Floats.{held_step}
use Rattle.float_query.proofs.held_step.Goals as goal

held-is : (f : Option ℤ) → unwrap_or f (negsuc 0) ≡ held_step f
unfolding held_step
held-is (Some z) = refl
held-is None = refl

pub returns : goal.returns
returns c = element c.unwrap_or.result c.unwrap_or.type_inv ∙ c.unwrap_or.ensures ∙ held-is c.args.f
