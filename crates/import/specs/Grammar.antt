-- RFC 8259, section 6: number = [ minus ] int [ frac ] [ exp ]. The grammar as a relation, and the parser.
use Rattle.std.specs.Prelude.{ℕ, ◌≤◌, Bool, true, false, not, ◌&&◌, ◌||◌, List, [], ◌∷◌, ◌++◌, leb, eqb, length}
use Rattle.arith.specs.Choice.{pick}
use Rattle.import.specs.Bytes.{leading, beyond, leads, skip, none}

-- the parts of a number: whether it has a minus sign, the digits of int and frac, whether exp has a minus sign, the digits of exp.
-- Digits stand as bytes, and an absent part has none
pub record Number : Type 0 where
  pub negative : Bool
  pub whole : List ℕ
  pub fraction : List ℕ
  pub lowers : Bool
  pub exponent : List ℕ

abbrev pub number_of : Bool → List ℕ → List ℕ → Bool → List ℕ → Number
number_of negative whole fraction lowers exponent =
    record { negative = negative; whole = whole; fraction = fraction; lowers = lowers; exponent = exponent }

-- ---- the grammar

-- DIGIT = %x30-39
abbrev pub Digit : ℕ → Type 0
Digit b = (48 ≤ b) × (b ≤ 57)

-- *DIGIT
pub data Digits : List ℕ → Type 0 where
  no-digits : Digits []
  digit : {b : ℕ} {bs : List ℕ} → Digit b → Digits bs → Digits (b ∷ bs)

-- 1*DIGIT
pub data SomeDigits : List ℕ → Type 0 where
  digits_from : {b : ℕ} {bs : List ℕ} → Digit b → Digits bs → SomeDigits (b ∷ bs)

-- [ minus ], minus = %x2D
pub data Minus : List ℕ → Bool → Type 0 where
  no_minus : Minus [] false
  minus : Minus (45 ∷ []) true

-- int = zero / ( digit1-9 *DIGIT ), zero = %x30
pub data Int : List ℕ → Type 0 where
  int-zero : Int (48 ∷ [])
  int-from : {b : ℕ} {bs : List ℕ} → (49 ≤ b) × (b ≤ 57) → Digits bs → Int (b ∷ bs)

-- [ frac ], frac = decimal-point 1*DIGIT, decimal-point = %x2E
pub data Frac : List ℕ → List ℕ → Type 0 where
  no-frac : Frac [] []
  frac : {ds : List ℕ} → SomeDigits ds → Frac (46 ∷ ds) ds

-- e = %x65 / %x45
pub data E : ℕ → Type 0 where
  e-small : E 101
  e-large : E 69

-- [ minus / plus ], plus = %x2B
pub data Sign : List ℕ → Bool → Type 0 where
  no_sign : Sign [] false
  sign-minus : Sign (45 ∷ []) true
  sign-plus : Sign (43 ∷ []) false

-- [ exp ], exp = e [ minus / plus ] 1*DIGIT
pub data Exp : List ℕ → Bool → List ℕ → Type 0 where
  no-exp : Exp [] false []
  exp : {e : ℕ} {s ds : List ℕ} {lowers : Bool} → E e → Sign s lowers → SomeDigits ds → Exp (e ∷ (s ++ ds)) lowers ds

-- number = [ minus ] int [ frac ] [ exp ]
pub data Grammar : List ℕ → Number → Type 0 where
  number : {m i f fs x xs : List ℕ} {negative lowers : Bool} → Minus m negative → Int i → Frac f fs → Exp x lowers xs
      → Grammar (m ++ (i ++ (f ++ x))) (number_of negative i fs lowers xs)

-- ---- the parser: byte 45 is minus, 43 plus, 46 the decimal point, 101 and 69 are e, 48 is zero

unfoldable pub is_digit : ℕ → Bool
is_digit b = leb 48 b && leb b 57

-- the digits at the front, and what follows them
abbrev pub digits : List ℕ → List ℕ
digits bytes = leading is_digit bytes

abbrev pub after_digits : List ℕ → List ℕ
after_digits bytes = beyond is_digit bytes

-- [ frac ] [ exp ] of a token, and its [ exp ]
abbrev pub frac_part : List ℕ → List ℕ
frac_part token = after_digits (skip 45 45 token)

abbrev pub exp_part : List ℕ → List ℕ
exp_part token = after_digits (skip 46 46 (frac_part token))

-- what follows e, and what follows the sign after it
abbrev pub exp_signed : List ℕ → List ℕ
exp_signed part = skip 101 69 part

abbrev pub exp_digits : List ℕ → List ℕ
exp_digits part = skip 43 45 (exp_signed part)

-- the parts of a token that fits the grammar
unfoldable pub number_in : List ℕ → Number
number_in token =
    number_of (leads 45 45 token) (digits (skip 45 45 token)) (digits (skip 46 46 (frac_part token)))
    (leads 45 45 (exp_signed (exp_part token))) (digits (exp_digits (exp_part token)))

-- [ exp ] and nothing more
unfoldable pub fits_exp : List ℕ → Bool
fits_exp part = pick (leads 101 69 part) (not (none (digits (exp_digits part))) && none (after_digits (exp_digits part))) (none part)

-- [ frac ] [ exp ]
unfoldable pub fits_frac : List ℕ → Bool
fits_frac part = (not (leads 46 46 part) || not (none (digits (skip 46 46 part)))) && fits_exp (after_digits (skip 46 46 part))

-- some digits, the first 0 only where it is alone
unfoldable pub fits_int : List ℕ → Bool
fits_int ds = not (none ds) && (not (leads 48 48 ds) || eqb (length ds) 1)

-- whether a token fits the grammar
unfoldable pub fits : List ℕ → Bool
fits token = fits_int (digits (skip 45 45 token)) && fits_frac (frac_part token)
