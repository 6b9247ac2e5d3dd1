-- The step that a float position becomes. A `Float` is nan, an infinity, or finite: `fin s m e`, the number m · 2^e, negative where s is
-- true.
use Rattle.std.specs.Prelude.{ℕ, ◌*◌, min, Bool, true, false, eqb, ℤ, pos, negsuc, neg_ℤ, ◌*ℤ◌, Float}
use Rattle.std.specs.Float.{nan, inf, fin}
use Rattle.std.specs.Float.Ieee.{up}
use Rattle.std.specs.Float.Ieee.Positive.{den}
use Rattle.arith.specs.Choice.{pick}
use Rattle.arith.specs.Int.{round_half_up}

-- a with the sign s
abbrev pub signed : Bool → ℕ → ℤ
signed false a = pos a
signed true a = neg_ℤ (pos a)

-- the exact value of a finite x is numerator x / den x; what is not finite has 0 / 1 here
abbrev pub numerator : Float → ℤ
numerator nan = pos 0
numerator (inf s) = pos 0
numerator (fin s m e) = signed s (m * up e)

-- the whole number nearest to N times the exact value, halves up
unfoldable pub step : ℕ → Float → ℤ
step N x = round_half_up (pos N *ℤ numerator x) (den x)

-- the power of 2 that an axis has as its number of steps: 16, 32, 64 and 128 are 2^4 to 2^7, any other number stands for 2^8
unfoldable pub power_of : ℕ → ℕ
power_of N = pick (eqb N 16) 4 (pick (eqb N 32) 5 (pick (eqb N 64) 6 (pick (eqb N 128) 7 8)))

-- the nearest number that 32 signed bits hold; `clamped-within` and `clamped-zero` say that the tests of a position take z and clamped z
-- alike
unfoldable pub clamped : ℤ → ℤ
clamped (pos n) = pos (min n 2147483647)
clamped (negsuc n) = negsuc (min n 2147483647)
