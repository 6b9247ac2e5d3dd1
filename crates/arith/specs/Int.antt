-- Powers of integers, the quotient rounded down, the nearest quotient with halves up or to the even number, and two's complement.
use Rattle.std.specs.Prelude.{◌≡◌, Bool, true, false, ℕ, zero, suc, ◌*◌, ◌-◌, ◌%◌, eqb, ℤ, pos, negsuc, neg_ℤ, nat_abs, ◌+ℤ◌, ◌*ℤ◌}
use Rattle.std.specs.Int.Signed.{shr_z}
use Rattle.arith.specs.Choice.{pick}

-- x to the power n; 0 to the power 0 is 1
infix 9 ◌^ℤ◌
abbrev pub ◌^ℤ◌ : ℤ → ℕ → ℤ
x ^ℤ zero = pos 1
x ^ℤ suc n = x *ℤ x ^ℤ n

-- z / m, rounded down
abbrev pub floor_div : ℤ → ℕ → ℤ
floor_div z m = shr_z z m

-- a rule that makes of x / y a whole number
abbrev pub Rounding : Type 0
Rounding = ℤ → ℕ → ℤ

-- to the nearest, halves towards plus infinity
unfoldable pub round_half_up : Rounding
round_half_up x y = floor_div (pos 2 *ℤ x +ℤ pos y) (2 * y)

unfoldable pub is_even : ℤ → Bool
is_even z = eqb (nat_abs z % 2) 0

-- to the nearest, halves to the even number: up where that gives an even number, else down
unfoldable pub round_half_even : Rounding
round_half_even x y = pick (is_even (round_half_up x y)) (round_half_up x y) (neg_ℤ (round_half_up (neg_ℤ x) y))

-- by edition: the first rounds halves up, the second to the even number
unfoldable pub rounding_of : (second_edition : Bool) → Rounding
rounding_of false = round_half_up
rounding_of true = round_half_even

-- x / y is a whole number
unfoldable pub divides : ℕ → ℤ → Bool
divides y x = eqb (nat_abs x % y) 0

-- x / y is a half: it lies in the middle between two whole numbers
abbrev pub IsHalf : ℤ → ℕ → Type 0
IsHalf x y = (q : ℤ) × (pos 2 *ℤ x ≡ (pos 2 *ℤ q +ℤ pos 1) *ℤ pos y)

-- the number below 2^32 that stands for z in two's complement; `negsuc n` is -(n + 1)
unfoldable pub unsigned_of : ℤ → ℕ
unsigned_of (pos n) = n
unsigned_of (negsuc n) = 4294967296 - suc n
