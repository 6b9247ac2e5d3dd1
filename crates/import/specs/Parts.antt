-- What the inner functions give: digits summed up from the front, of which some are taken and the rest must be 0.
use Rattle.std.specs.Prelude.{◌≡◌, ℕ, ◌+◌, ◌-◌, ◌*◌, ◌≤◌, Bool, ◌&&◌, List, [], ◌∷◌, leb, eqb, length}
use Rattle.arith.specs.Choice.{pick}
use Rattle.import.specs.declared.Sum.{Sum}
use Rattle.import.specs.Bytes.{leads}
use Rattle.import.specs.Grammar.{Number, number_in, digits, exp_signed, exp_digits}
use Rattle.import.specs.Value.{decimal, is_whole, units}

-- one more than the largest sample
abbrev pub most : ℕ
most = 32769

-- v, or `most` where it is more
unfoldable pub capped : ℕ → ℕ
capped v = pick (leb v most) v most

abbrev pub sum : ℕ → ℕ → Bool → Sum
sum value left whole = record { value = value; left = left; whole = whole }

-- one digit more: taken where some are left to take, else tested for 0
unfoldable pub add_digit : Sum → ℕ → Sum
add_digit s b =
    pick (eqb s.left 0) (sum s.value 0 (s.whole && eqb (b - 48) 0))
    (sum (capped (10 * s.value + (b - 48))) (s.left - 1) s.whole)

unfoldable pub add_digits : Sum → List ℕ → Sum
add_digits s [] = s
add_digits s (b ∷ bs) = add_digits (add_digit s b) bs

-- the digits to take: those of int and two more, and as many more or fewer as the exponent says
unfoldable pub kept : ℕ → Bool → ℕ → ℕ
kept whole lowers exponent = pick lowers (whole + 2 - exponent) (whole + 2 + exponent)

-- those of a number whose int has `whole` digits, and whose exp is `part`
unfoldable pub kept_of : ℕ → List ℕ → ℕ
kept_of whole part = kept whole (leads 45 45 (exp_signed part)) (capped (decimal (digits (exp_digits part))))

-- the units of a number up to `most`, and whether they are a whole number
pub record Measured (n : Number) (s : Sum) : Type 0 where
  pub size : s.value ≡ capped (units n)
  pub is-whole : s.whole ≡ is_whole n

-- what the samples need of a token that is not refused
pub record Taken (token : List ℕ) : Type 0 where
  pub short : length token ≤ 64
  pub small : units (number_in token) ≤ 32768
