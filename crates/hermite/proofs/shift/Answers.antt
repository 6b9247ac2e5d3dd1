-- `hermite::shift` meets its contract: eighths are three powers of 2.
use mathlib.Core.Path.{◌≡◌, sym, ap₂, ◌∙◌}
use Prim.Native.Nat.{ℕ, ◌+◌, ◌-◌}
use Rattle.arith.specs.Choice.{pick}
use Rattle.arith.proofs.Choices.{pick_true, pick-false}
use Rattle.hermite.specs.Stage.{shift_of}
use Rattle.hermite.proofs.shift.Goals as goal
use Rattle.hermite.proofs.shift.Goals.{then-from, else-from, then-to, else-to}

pub returns : goal.returns
unfolding shift_of
returns c =
    let down : c.if-from.down ≡ pick c.args.from 3 0 = elim c.if-from.branch [
      | then-from w ↦ w.down-is ∙ sym (pick_true _ _ _ w.if-from.true)
      | else-from w ↦ w.down-is ∙ sym (pick-false _ _ _ w.if-from.false)
    ] in
    let up : c.if-to.up ≡ pick c.args.to 3 0 = elim c.if-to.branch [
      | then-to w ↦ w.up-is ∙ sym (pick_true _ _ _ w.if-to.true)
      | else-to w ↦ w.up-is ∙ sym (pick-false _ _ _ w.if-to.false)
    ] in
    ap₂ (λ (i j : ℕ). i - j) (ap₂ ◌+◌ c.exponent.ensures down) up
