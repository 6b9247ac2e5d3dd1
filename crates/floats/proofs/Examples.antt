-- Worked examples of steps: one table of bit patterns with the step of each, and one theorem that covers all its rows.
use mathlib.Core.Path.{◌≡◌, refl}
use mathlib.Core.List.{List, [], ◌∷◌, map}
use Prim.Native.Nat.{ℕ}
use lib.IntN.{ℤ, pos, negsuc}
use lib.Ieee.{binary32, of_bits}
use Rattle.arith.specs.Int.{round_half_up}
use Rattle.floats.specs.Step.{step, clamped}

-- 0.25; half a step and the float below it; plus and minus zero; minus half a step and the float below it; the least float above zero;
-- 63, half a step beyond it and the float below that; the largest float and its negative
unfoldable pub rows : List (ℕ × ℤ)
rows =
    (0x3e800000, pos 64)
    ∷ (0x3b000000, pos 1)
    ∷ (0x3affffff, pos 0)
    ∷ (0x00000000, pos 0)
    ∷ (0x80000000, pos 0)
    ∷ (0xbb000000, pos 0)
    ∷ (0xbb000001, negsuc 0)
    ∷ (0x00000001, pos 0)
    ∷ (0x427c0000, pos 16128)
    ∷ (0x427c0200, pos 16129)
    ∷ (0x427c01ff, pos 16128)
    ∷ (0x7f7fffff, pos 2147483647)
    ∷ (0xff7fffff, negsuc 2147483647)
    ∷ []

pub examples : map (λ (r : ℕ × ℤ). clamped (step 256 (of_bits binary32 r.0))) rows ≡ map (λ (r : ℕ × ℤ). r.1) rows
unfolding rows clamped step round_half_up of_bits
examples = refl
