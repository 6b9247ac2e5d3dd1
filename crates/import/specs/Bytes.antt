-- Bytes at the front of a list.
use Rattle.std.specs.Prelude.{ℕ, Bool, false, ◌||◌, List, [], ◌∷◌, eqb, length, drop}
use Rattle.arith.specs.Choice.{pick}

-- the longest run of bytes of a kind at the front
unfoldable pub leading : (ℕ → Bool) → List ℕ → List ℕ
leading kind [] = []
leading kind (b ∷ bs) = pick (kind b) (b ∷ leading kind bs) []

-- what follows it
unfoldable pub beyond : (ℕ → Bool) → List ℕ → List ℕ
beyond kind bytes = drop (length (leading kind bytes)) bytes

-- whether the first byte is x or y
unfoldable pub leads : ℕ → ℕ → List ℕ → Bool
leads x y [] = false
leads x y (b ∷ bs) = eqb b x || eqb b y

-- what follows the first byte where it is x or y
unfoldable pub skip : ℕ → ℕ → List ℕ → List ℕ
skip x y bytes = pick (leads x y bytes) (drop 1 bytes) bytes

-- whether there is no byte
abbrev pub none : List ℕ → Bool
none bytes = eqb (length bytes) 0
