-- `floats::scale_of` meets its contract: a float for each of the five numbers.
use mathlib.Core.Path.{◌≡◌, refl, ◌∙◌}
use Prim.Native.Nat.{ℕ}
use native.Mathlib.Omega.{arith}
use lib.Ieee.{of_bits}
use borrow.Author.Tests.{ne_eqb}
use Rattle.arith.specs.Choice.{pick}
use Rattle.arith.proofs.Choices.{pick-false}
use Rattle.floats.specs.Step.{power_of}
use Rattle.floats.proofs.scale_of.Goals as goal

pub returns-in-16 : goal.returns-in-16
unfolding of_bits power_of pick
returns-in-16 c = rw c.in-16.is refl

pub returns-in-32 : goal.returns-in-32
unfolding of_bits power_of pick
returns-in-32 c = rw c.in-32.is refl

pub returns-in-64 : goal.returns-in-64
unfolding of_bits power_of pick
returns-in-64 c = rw c.in-64.is refl

pub returns-in-128 : goal.returns-in-128
unfolding of_bits power_of pick
returns-in-128 c = rw c.in-128.is refl

-- no step number of the four
other : (N : ℕ) → (N ≡ 16 → ⊥) → (N ≡ 32 → ⊥) → (N ≡ 64 → ⊥) → (N ≡ 128 → ⊥) → power_of N ≡ 8
unfolding power_of
other N a b c d =
    pick-false _ _ _ (ne_eqb N 16 a) ∙ pick-false _ _ _ (ne_eqb N 32 b) ∙ pick-false _ _ _ (ne_eqb N 64 c)
    ∙ pick-false _ _ _ (ne_eqb N 128 d)

pub returns-in_default : goal.returns-in_default
unfolding of_bits
returns-in_default c =
    rw (other c.args.steps (λ e. omega arith) (λ e. omega arith) (λ e. omega arith) (λ e. omega arith)) refl
