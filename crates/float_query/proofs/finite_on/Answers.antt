-- `float_query::finite_on` meets its contract: the axis is one of three, each with its own float.
use mathlib.Core.Path.{◌≡◌, sym, ap, refl, ◌∙◌}
use lib.IntN.{ℤ}
use Prim.Native.Nat.{ℕ, zero, suc}
use Rattle.std.specs.Prelude.{Option}
use Rattle.std.specs.Option.{is_some}
use Rattle.float_query.specs.Floats.{finite_on}
use Rattle.float_query.proofs.finite_on.Goals as goal

pub returns-then-axis-eq0 : goal.returns-then-axis-eq0
unfolding finite_on
returns-then-axis-eq0 c = let a = c.args in c.is_some.ensures ∙ sym (ap (finite_on a.x a.y a.z) c.if-axis-eq0.true)

pub returns-then-axis-eq1 : goal.returns-then-axis-eq1
unfolding finite_on
returns-then-axis-eq1 c = let a = c.args in c.is_some-then-axis-eq1.ensures ∙ sym (ap (finite_on a.x a.y a.z) c.if-axis-eq1.true)

-- every axis but 0 and 1
on-z : (x y z : Option ℤ) (axis : ℕ) → (axis ≡ 0 → ⊥) → (axis ≡ 1 → ⊥) → is_some z ≡ finite_on x y z axis
unfolding finite_on
on-z x y z zero h k = absurd (h refl)
on-z x y z (suc zero) h k = absurd (k refl)
on-z x y z (suc (suc axis)) h k = refl

pub returns : goal.returns
returns c = let a = c.args in c.is_some-2.ensures ∙ on-z a.x a.y a.z a.axis c.if-axis-eq0.false c.if-axis-eq1.false
