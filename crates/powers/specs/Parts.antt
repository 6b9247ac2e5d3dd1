-- What the functions of the call state.
use Rattle.std.specs.Prelude.{ℕ, ◌+◌, ◌*◌, List, ℤ, nat_abs, ◌*ℤ◌}
use Rattle.arith.specs.Sum.{sum, total}
use Rattle.lattice.specs.Buffer.{at}
use Rattle.cell.specs.declared.Layout.{Layout}
use Rattle.coefficients.specs.Blocks.{gathered}
use Rattle.powers.specs.Powers.{column_entry, factor}

-- 4 times what column K stands for, from the corner records that lie in the records
unfoldable pub column_at : Layout → List ℤ → ℕ → ℤ
column_at l rs K = factor K *ℤ gathered 4 l rs (column_entry K)

-- row R of a matrix by 16 numbers
unfoldable pub row_sum : List ℤ → List ℤ → ℕ → ℤ
row_sum m xs R = sum 16 (λ K. at m (16 * R + K) *ℤ at xs K)

-- the sum of the sizes of its products, which no sum on the way exceeds
unfoldable pub row_load : List ℤ → List ℤ → ℕ → ℕ
row_load m xs R = total 16 (λ K. nat_abs (at m (16 * R + K)) * nat_abs (at xs K))
