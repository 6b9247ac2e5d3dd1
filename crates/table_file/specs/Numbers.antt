-- The numbers of a file: 4 bytes each, lowest first, counts unsigned and samples in two's complement.
use Rattle.std.specs.Prelude.{ℕ, ◌+◌, List, [], ◌∷◌, ◌++◌, ltb, ℤ, pos, ◌-ℤ◌, get_or}
use Rattle.arith.specs.Choice.{pick}
use Rattle.lattice.specs.Buffer.{tabulate}
use Rattle.lattice.specs.Digits.{number, digit}

-- the number whose 4 bytes begin at byte `at`
unfoldable pub number_at : List ℕ → ℕ → ℕ
number_at bytes at = number 4 (λ b. 256) (λ b. get_or bytes (at + b) 0)

-- the 4 bytes of a number
unfoldable pub bytes_of : ℕ → List ℕ
bytes_of v = tabulate 4 (digit (λ b. 256) v)

-- the bytes of several numbers
unfoldable pub bytes_of_all : List ℕ → List ℕ
bytes_of_all [] = []
bytes_of_all (v ∷ vs) = bytes_of v ++ bytes_of_all vs

-- v, below 2^32, read in two's complement
unfoldable pub signed_of : ℕ → ℤ
signed_of v = pick (ltb v 2147483648) (pos v) (pos v -ℤ pos 4294967296)
