-- The cells of a table, numbered with x fastest.
use Rattle.std.specs.Prelude.{ℕ, ◌-◌, ◌≤◌, ◌<◌, List, ltb, get_or}
use Rattle.arith.specs.Choice.{pick}
use Rattle.lattice.specs.declared.Shape.{Shape}
use Rattle.lattice.specs.Buffer.{tabulate}
use Rattle.lattice.specs.Digits.{span, digit}
use Rattle.lattice.specs.Shape.{count}

-- along a used axis one less than the nodes, along an unused one 1
unfoldable pub cells_along : Shape → ℕ → ℕ
cells_along s a = pick (ltb a s.axes) (count s a - 1) 1

unfoldable pub cell_count : Shape → ℕ
cell_count s = span 3 (cells_along s)

-- the three indices of cell i
unfoldable pub cell_at : Shape → ℕ → List ℕ
cell_at s i = tabulate 3 (digit (cells_along s) i)

-- three indices or counts
pub record Between (low high : ℕ) (xs : List ℕ) : Type 0 where
  pub least : (a : ℕ) → a < 3 → low ≤ get_or xs a 0
  pub most : (a : ℕ) → a < 3 → get_or xs a 0 ≤ high
