-- The coefficients of a cell, doubled once per used axis: the one-axis table, applied axis by axis. m is 2 for degree 3 and 3 for degree 5.
use Rattle.std.specs.Prelude.{ℕ, ◌*◌, ◌^◌}
use Rattle.lattice.specs.Axes.{Place, Field, sweep, axes}
use Rattle.hermite.specs.Hermite.{forward}

unfoldable pub coefficients : ℕ → ℕ → Place → Field → Field
coefficients m n cell g = sweep (axes n) (λ a. forward m (cell a)) g

-- (d+1)^n: so many coefficients a cell has, and so many entries its 2^n corner records
abbrev pub coefficient_count : ℕ → ℕ → ℕ
coefficient_count m n = (2 * m) ^ n
