-- `query::factor_of` meets its contract: one number for each of the five, and 0 for any other.
use mathlib.Core.Path.{◌≡◌, refl, subst, sym}
use mathlib.Core.Bool.{true, false}
use Prim.Native.Nat.{ℕ, ◌/◌, ◌≤◌}
use native.Mathlib.Omega.{arith}
use lib.Dec.{lit≤}
use Rattle.arith.proofs.Choices.{clash}
use Rattle.lattice.specs.Shape.{step_number}
use Rattle.lattice.proofs.StepLaws.{by-step-number}
use Rattle.query.proofs.factor_of.Goals as goal

abbrev Factor : ℕ → ℕ → Type 0
Factor k N = (step_number N ≡ true → k ≡ 256 / N) × (step_number N ≡ false → k ≡ 0) × (k ≤ 16)

-- of the number that is tested
at : (N k M : ℕ) → M ≡ N → step_number N ≡ true → k ≡ 256 / N → k ≤ 16 → Factor k M
at N k M e ok is small = subst (Factor k) (sym e) (λ h. is, λ h. clash (cc), small)

other : (N : ℕ) → (N ≡ 16 → ⊥) → (N ≡ 32 → ⊥) → (N ≡ 64 → ⊥) → (N ≡ 128 → ⊥) → (N ≡ 256 → ⊥) → Factor 0 N
other N a b c d e = (
  λ h. by-step-number (λ M. N ≡ M → 0 ≡ 256 / M) (λ i. absurd (a i)) (λ i. absurd (b i)) (λ i. absurd (c i)) (λ i. absurd (d i))
      (λ i. absurd (e i)) N h refl,
  λ h. refl,
  lit≤ tt,
)

pub returns-then-steps-eq16 : goal.returns-then-steps-eq16
unfolding step_number
returns-then-steps-eq16 c = at 16 16 _ c.if-steps-eq16.true refl refl (lit≤ tt)

pub returns-then-steps-eq32 : goal.returns-then-steps-eq32
unfolding step_number
returns-then-steps-eq32 c = at 32 8 _ c.if-steps-eq32.true refl refl (lit≤ tt)

pub returns-else-steps-eq32 : goal.returns-else-steps-eq32
unfolding step_number
returns-else-steps-eq32 c = let l = c.if-steps-lt64.true in
    other _ c.if-steps-eq16.false c.if-steps-eq32.false (λ i. absurd (omega arith)) (λ i. absurd (omega arith)) (λ i. absurd (omega arith))

pub returns-then-steps-eq64 : goal.returns-then-steps-eq64
unfolding step_number
returns-then-steps-eq64 c = at 64 4 _ c.if-steps-eq64.true refl refl (lit≤ tt)

pub returns-then-steps-eq128 : goal.returns-then-steps-eq128
unfolding step_number
returns-then-steps-eq128 c = at 128 2 _ c.if-steps-eq128.true refl refl (lit≤ tt)

pub returns-then-steps-eq256 : goal.returns-then-steps-eq256
unfolding step_number
returns-then-steps-eq256 c = at 256 1 _ c.if-steps-eq256.true refl refl (lit≤ tt)

pub returns-else-steps-eq256 : goal.returns-else-steps-eq256
unfolding step_number
returns-else-steps-eq256 c = let l = c.if-steps-lt64.false in
    other _ (λ i. absurd (omega arith)) (λ i. absurd (omega arith)) c.if-steps-eq64.false c.if-steps-eq128.false c.if-steps-eq256.false
