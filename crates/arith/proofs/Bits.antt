-- Numbers joined bit by bit.
use mathlib.Core.Path.{◌≡◌, refl, sym}
use mathlib.Core.Bool.{Bool, true, false, ◌&&◌}
use Prim.Native.Nat.{ℕ}
use native.Mathlib.Omega.{arith}
use borrow.Author.Tests.{eqb-true, eq-eqb}
use lib.Bits.{bit_or, or_add_and, and_le_l, and_le_r}
use lib.Dec.{eqb}
use Rattle.arith.proofs.Choices.{and-true, true-and}

-- two tests that follow from each other
pub same_test : (a b : Bool) → (a ≡ true → b ≡ true) → (b ≡ true → a ≡ true) → a ≡ b
same_test true b f g = sym (f refl)
same_test false true f g = g refl
same_test false false f g = refl

-- joined bits are 0 where both numbers are
pub or-none : (a b : ℕ) → eqb (bit_or a b) 0 ≡ (eqb a 0 && eqb b 0)
or-none a b =
    same_test (eqb (bit_or a b) 0) (eqb a 0 && eqb b 0)
    (λ e. let h = eqb-true (bit_or a b) 0 e in
    let s = or_add_and a b in
    let l = and_le_l a b in
    let r = and_le_r a b in
    true-and (eqb a 0) (eqb b 0) (eq-eqb a 0 (omega arith)) (eq-eqb b 0 (omega arith)))
    (λ e. let h = and-true (eqb a 0) (eqb b 0) e in
    let x = eqb-true a 0 h.0 in
    let y = eqb-true b 0 h.1 in
    let s = or_add_and a b in
    eq-eqb (bit_or a b) 0 (omega arith))
