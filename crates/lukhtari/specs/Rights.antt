-- Keys and their rights: 1 is the operator, 2 the colourist, 3 service.
use Rattle.std.specs.Prelude.{◌≡◌, ℕ, ◌<◌, ◌⊎◌, Bool, ◌&&◌, leb, Result, Ok, Err}
use Rattle.lukhtari.specs.declared.keys.Key.{Key}
use Rattle.lukhtari.specs.declared.keys.Key.TheVariants.{Operator, Colourist, Service}
use Rattle.lukhtari.specs.declared.keys.UnknownKey.{UnknownKey}
use Rattle.lukhtari.specs.declared.keys.Right.{Right}
use Rattle.lukhtari.specs.declared.keys.Right.TheVariants.{
  Dose,
  DoseInCell,
  DoseFloat,
  Slope,
  SlopeInCell,
  SlopeFloat,
  Ramp,
  Read,
  Write,
  Import,
  Estimate,
  Pool,
  Coefficients,
  Corners,
  Powers,
  Curvature,
  CurvatureInCell,
  CellTotal,
  BoxTotal,
}

-- the first key that holds a right; every key after it does too
abbrev pub first_key : Right → ℕ
-- the operator takes doses and slopes, ramps included
first_key Dose = 1
first_key DoseInCell = 1
first_key DoseFloat = 1
first_key Slope = 1
first_key SlopeInCell = 1
first_key SlopeFloat = 1
first_key Ramp = 1
-- the colourist also reads and writes files, imports, estimates and pools
first_key Read = 2
first_key Write = 2
first_key Import = 2
first_key Estimate = 2
first_key Pool = 2
-- service does everything, coefficients, curvature, totals and export included
first_key Coefficients = 3
first_key Corners = 3
first_key Powers = 3
first_key Curvature = 3
first_key CurvatureInCell = 3
first_key CellTotal = 3
first_key BoxTotal = 3

-- whether a key holds a right; a number that is no key holds none
unfoldable pub holds : ℕ → Right → Bool
holds key right = leb (first_key right) key && leb key 3

-- the number of a key
abbrev pub key_number : Key → ℕ
key_number Operator = 1
key_number Colourist = 2
key_number Service = 3

-- what a number is read as: the key of that number, or nothing
abbrev pub NamesKey : ℕ → Result Key UnknownKey → Type 0
NamesKey n (Ok key) = key_number key ≡ n
NamesKey n (Err e) = (n ≡ 0) ⊎ (3 < n)
