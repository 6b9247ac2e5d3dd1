-- The sample: a number's exact decimal value times 100, over whole numbers.
use Rattle.std.specs.Prelude.{ℕ, ◌+◌, ◌-◌, ◌*◌, ◌/◌, ◌%◌, ◌^◌, Bool, List, [], ◌∷◌, ◌++◌, eqb, ℤ, pos, neg_ℤ, length}
use Rattle.arith.specs.Choice.{pick}
use Rattle.import.specs.Grammar.{Number}

-- the whole number of the digits of n and further ones
unfoldable pub decimal_from : ℕ → List ℕ → ℕ
decimal_from n [] = n
decimal_from n (b ∷ bs) = decimal_from (10 * n + (b - 48)) bs

-- the whole number of digits, the highest first; digit d is byte 48 + d
abbrev pub decimal : List ℕ → ℕ
decimal ds = decimal_from 0 ds

-- the digits of int and frac as one whole number
unfoldable pub mantissa : Number → ℕ
mantissa n = decimal (n.whole ++ n.fraction)

-- the exponent where it is not below 0, and its size where it has a minus sign
unfoldable pub raised : Number → ℕ
raised n = pick n.lowers 0 (decimal n.exponent)

unfoldable pub lowered : Number → ℕ
lowered n = pick n.lowers (decimal n.exponent) 0

-- with F digits of frac and the exponent E, the exact value is mantissa·10^E / 10^F, and 100 times it is top / bottom:
-- an exponent below 0 goes to the bottom
unfoldable pub top : Number → ℕ
top n = mantissa n * 10 ^ (2 + raised n)

unfoldable pub bottom : Number → ℕ
bottom n = 10 ^ (length n.fraction + lowered n)

-- whether it is a whole number of units: bottom divides top
unfoldable pub is_whole : Number → Bool
is_whole n = eqb (top n % bottom n) 0

-- how many, without the sign
unfoldable pub units : Number → ℕ
units n = top n / bottom n

-- with the sign
unfoldable pub sample_of : Number → ℤ
sample_of n = pick n.negative (neg_ℤ (pos (units n))) (pos (units n))
