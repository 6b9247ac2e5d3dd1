-- What the parts of reading give.
use Rattle.std.specs.Prelude.{◌≡◌, ℕ, ◌+◌, ◌≤◌, List, map, leb, ℤ}
use Rattle.lattice.specs.Shape.{shape_of}
use Rattle.lattice.specs.declared.Shape.{Shape}
use Rattle.lattice.specs.Outcome.{Check, refuse_unless, first}
use Rattle.lattice.specs.Buffer.{tabulate}
use Rattle.lattice.specs.Records.{sample_limit, limit_outcome}
use Rattle.table_file.specs.Numbers.{number_at, signed_of}
use Rattle.table_file.specs.File.{file_number, axes_in, count_in, nodes_in, samples_in, two_outcome, three_outcome}

-- `count` samples from number k on
unfoldable pub samples_from : List ℕ → ℕ → ℕ → List ℤ
samples_from bytes k count = tabulate count (λ i. signed_of (file_number bytes (k + i)))

-- the samples whose 4 bytes are given
abbrev pub samples_of : List (List ℕ) → List ℤ
samples_of numbers = map (λ b. signed_of (number_at b 0)) numbers

-- the shape in section one, of degree 3
abbrev pub shape_in : List ℕ → Shape
shape_in bytes = shape_of (axes_in bytes) 3 (tabulate 3 (count_in bytes))

-- n and the number of nodes after a section one that is not refused
pub record AfterOne (bytes : List ℕ) (axes nodes : ℕ) : Type 0 where
  pub axes-is : axes ≡ axes_in bytes
  pub few : axes ≤ 3
  pub nodes-is : nodes ≡ nodes_in bytes
  pub small : nodes ≤ 262144

-- what comes after section one
unfoldable pub rest_outcome : List ℕ → ℕ → Check
rest_outcome bytes room =
    first (two_outcome bytes)
    (first (three_outcome bytes) (first (refuse_unless (leb (nodes_in bytes) room) 9 0) (limit_outcome 5 sample_limit (samples_in bytes))))
