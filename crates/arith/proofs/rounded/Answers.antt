-- `arith::rounded` meets its contract: each branch rounds as its edition does.
use mathlib.Core.Path.{sym, ap, ◌∙◌}
use mathlib.Core.Bool.{Bool}
use Prim.Native.Nat.{◌+◌, ◌^◌}
use mir.Facts.{to_z-of_z}
use Rattle.arith.specs.Int.{round_half_up, round_half_even, rounding_of}
use Rattle.arith.proofs.Machine.{read}
use Rattle.arith.proofs.rounded.Goals as goal

pub returns-then-even : goal.returns-then-even
unfolding rounding_of
returns-then-even c =
    let a = c.before.before.args in
    read c.half_even.result c.half_even.type_inv ∙ c.half_even.ensures
    ∙ ap (λ z. round_half_even z (2 ^ (a.k + 1))) (to_z-of_z c.before.before.ranges.x)
    ∙ sym (ap (λ (e : Bool). rounding_of e a.x (2 ^ (a.k + 1))) c.before.if-even.true)

pub returns-else-even : goal.returns-else-even
unfolding rounding_of
returns-else-even c =
    let a = c.before.before.args in
    read c.half_up.result c.half_up.type_inv ∙ c.half_up.ensures
    ∙ ap (λ z. round_half_up z (2 ^ (a.k + 1))) (to_z-of_z c.before.before.ranges.x)
    ∙ sym (ap (λ (e : Bool). rounding_of e a.x (2 ^ (a.k + 1))) c.before.if-even.false)
