-- How the code works coefficients back, corner by corner.
use Rattle.std.specs.Prelude.{◌≡◌, ℕ, ◌^◌, ◌≤◌, ◌<◌, List, ℤ, nat_abs, length}
use Rattle.arith.specs.Int.{floor_div}
use Rattle.lattice.specs.Outcome.{Check, refuse_unless}
use Rattle.lattice.specs.Buffer.{at}
use Rattle.cell.specs.Cell.{limit_in}
use Rattle.coefficients.specs.Blocks.{coefficient_index}
use Rattle.corners.specs.Corners.{whole_within, entry_allowed, doubled_entry}

-- the first k numbers are the coefficients of corner c, counted from it, each within 32 bits
pub record Gathers (m c k : ℕ) (cs xs : List ℤ) : Type 0 where
  pub long : length xs ≡ 27
  pub is : (j : ℕ) → j < k → at xs j ≡ at cs (coefficient_index m c j)
  pub low : (j : ℕ) → j < k → nat_abs (at xs j) ≤ 2 ^ 31

-- the test of number k of a corner's block after back
abbrev pub block_test : ℕ → List ℤ → (ℕ → ℤ) → ℕ → Check
block_test n limits zs k = refuse_unless (whole_within n (limit_in limits k) (zs k)) 13 0

-- entry i of the corner records, and its test
abbrev pub entry_of : ℕ → ℕ → List ℤ → ℕ → ℤ
entry_of m n cs i = floor_div (doubled_entry m n cs i) (2 ^ n)

abbrev pub entry_test : ℕ → ℕ → List ℤ → ℕ → Check
entry_test m n cs i = refuse_unless (entry_allowed m n i (doubled_entry m n cs i)) 13 0
