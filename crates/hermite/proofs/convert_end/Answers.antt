-- `hermite::convert_end` meets its contract, each way.
use mathlib.Core.Path.{sym, ◌∙◌}
use Rattle.arith.proofs.Choices.{pick_true, pick-false}
use Rattle.hermite.specs.Hermite.{end_rule}
use Rattle.hermite.proofs.convert_end.Goals as goal

pub returns-then-back : goal.returns-then-back
unfolding end_rule
returns-then-back c k l = c.end_numbers.ensures k l ∙ sym (pick_true c.args.back _ _ c.if-back.true)

pub returns : goal.returns
unfolding end_rule
returns c k l = c.end_coefficients.ensures k l ∙ sym (pick-false c.args.back _ _ c.if-back.false)
