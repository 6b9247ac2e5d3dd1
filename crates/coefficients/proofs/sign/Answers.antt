-- `coefficients::sign` meets its contract, by the two ends and the three orders.
use mathlib.Core.Path.{◌≡◌, refl, sym, subst}
use Prim.Native.Nat.{ℕ, ◌<◌}
use lib.IntN.{ℤ, pos, ◌-ℤ◌, ◌*ℤ◌, nat_abs}
use mir.Syntax.{w64}
use mir.Val.{to_z, of_z}
use Rattle.arith.specs.Int.{◌^ℤ◌}
use Rattle.arith.proofs.Choices.{by_2, by-3}
use Rattle.coefficients.specs.Blocks.{end_sign}
use Rattle.coefficients.proofs.sign.Goals as goal

abbrev less : ℕ → ℤ
less b = pos 1 -ℤ to_z w64 (of_z w64 (pos 2 *ℤ to_z w64 b))

one : (b : ℕ) → b < 2 → (to_z w64 (of_z w64 (less b)) ≡ end_sign b ^ℤ 1) × (nat_abs (to_z w64 (of_z w64 (less b))) ≡ 1)
unfolding end_sign
one = by_2 (λ b. (to_z w64 (of_z w64 (less b)) ≡ end_sign b ^ℤ 1) × (nat_abs (to_z w64 (of_z w64 (less b))) ≡ 1)) (refl, refl) (refl, refl)

even : (b : ℕ) → b < 2 → pos 1 ≡ end_sign b ^ℤ 2
unfolding end_sign
even = by_2 (λ b. pos 1 ≡ end_sign b ^ℤ 2) refl refl

other : (b o : ℕ) → b < 2 → o < 3 → (o ≡ 1 → ⊥) → pos 1 ≡ end_sign b ^ℤ o
other b o l h = by-3 (λ o. (o ≡ 1 → ⊥) → pos 1 ≡ end_sign b ^ℤ o) (λ n. refl) (λ n. absurd (n refl)) (λ n. even b l) o h

pub returns-then-o-eq1 : goal.returns-then-o-eq1
returns-then-o-eq1 c =
    let s = c in
    let r = to_z w64 (of_z w64 (less s.args.b)) in
    subst (λ (o : ℕ). (r ≡ end_sign s.args.b ^ℤ o) × (nat_abs r ≡ 1))
    (sym c.if-o-eq1.true) (one s.args.b s.requires.0)

pub returns : goal.returns
returns c = (other c.args.b c.args.o c.requires.0 c.requires.1 c.if-o-eq1.false, refl)
