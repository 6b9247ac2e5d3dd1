-- Rounding a float from its bits.
use Rattle.std.specs.Prelude.{ℕ, ◌+◌, ◌*◌, ◌/◌, ◌%◌, true, false, leb, ℤ, pos, negsuc, Float}
use Rattle.std.specs.Float.{nan, inf, fin}
use Rattle.floats.specs.Step.{signed, step, clamped}

-- of the pattern b: the exponent's field, and the 24 digits of a normal float, times 512, with their sign
abbrev pub exponent : ℕ → ℕ
exponent b = b / 8388608 % 256

abbrev pub significand_of : ℕ → ℤ
significand_of b = signed (leb 2147483648 b) ((b % 8388608 + 8388608) * 512)

-- the whole number nearest to a float, halves up, in 32 signed bits; an infinity lies beyond them
unfoldable pub nearest_held : Float → ℤ
nearest_held nan = pos 0
nearest_held (inf false) = pos 2147483647
nearest_held (inf true) = negsuc 2147483647
nearest_held (fin s m e) = clamped (step 1 (fin s m e))
