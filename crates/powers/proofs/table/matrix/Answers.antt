-- `powers::table::matrix` meets its contract: the product rule, computed over all entries.
use mathlib.Core.Path.{refl}
use Rattle.lattice.specs.Buffer.{tabulate}
use Rattle.lattice.specs.Digits.{digit}
use Rattle.cell.specs.Corners.{corner_numbers}
use Rattle.powers.specs.Powers.{one_axis, column_entry, column_numbers, matrix, table_two}
use Rattle.powers.proofs.table.matrix.Goals as goal

pub returns : goal.returns
unfolding table_two tabulate matrix one_axis column_numbers column_entry corner_numbers digit
returns c = refl
