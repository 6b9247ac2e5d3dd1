-- `hermite::both_values` meets its contract: the numbers of a constant, for each degree and order.
use mathlib.Core.Path.{◌≡◌, refl, ap₂, ◌∙◌}
use Prim.Native.Nat.{ℕ, zero, suc, ◌*◌, ◌-◌, ◌^◌}
use native.Mathlib.Omega.{arith}
use lib.Dec.{lit≤}
use lib.IntN.{ℤ, pos, ◌*ℤ◌, *ℤ-zero}
use Rattle.hermite.specs.Hermite.{steps}
use Rattle.hermite.proofs.Straight.{unit_of, both-values}
use Rattle.hermite.proofs.both_values.Goals as goal

-- what both values take on 256 steps
taken : ℕ → ℕ → ℤ
taken k m = pos 2 *ℤ pos (steps ^ (2 * m - 2)) *ℤ pos (unit_of k steps)

of-derivative : (k m : ℕ) → (k ≡ 0 → ⊥) → taken k m ≡ pos 0
unfolding taken unit_of
of-derivative zero m n = absurd (n refl)
of-derivative (suc k) m n = *ℤ-zero (pos 2 *ℤ pos (steps ^ (2 * m - 2)))

of-dose : (k m n : ℕ) → k ≡ 0 → m ≡ n → taken k m ≡ taken 0 n
of-dose k m n e f = ap₂ taken e f

pub returns-then-order-ne0 : goal.returns-then-order-ne0
unfolding taken
returns-then-order-ne0 c =
    let a = c.args in (
      λ u h. both-values a.order a.m.count steps u c.requires a.m.bounds.0 a.m.bounds.1 h ∙ of-derivative a.order a.m.count
          c.if-order-ne0.true,
      lit≤ tt,
    )

pub returns-then-m-eq2 : goal.returns-then-m-eq2
unfolding taken unit_of
returns-then-m-eq2 c =
    let a = c.args in (
      λ u h. both-values a.order a.m.count steps u c.requires a.m.bounds.0 a.m.bounds.1 h ∙ of-dose a.order a.m.count 2
          c.if-order-ne0.false c.if-m-eq2.true,
      lit≤ tt,
    )

pub returns-else-m-eq2 : goal.returns-else-m-eq2
unfolding taken unit_of
returns-else-m-eq2 c =
    let a = c.args in (
      λ u h. both-values a.order a.m.count steps u c.requires a.m.bounds.0 a.m.bounds.1 h
          ∙ of-dose a.order a.m.count 3 c.if-order-ne0.false (omega (arith, a.m.bounds.0, a.m.bounds.1, c.if-m-eq2.false)),
      lit≤ tt,
    )
