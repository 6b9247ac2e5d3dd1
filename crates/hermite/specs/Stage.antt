-- What the calls of one axis state: the basis of a step as the code holds it, the numbers of two ends, and whether numbers count units or
-- eighths.
use Rattle.std.specs.Prelude.{◌≡◌, Bool, true, false, ℕ, ◌+◌, ◌*◌, ◌-◌, ◌≤◌, ◌<◌, ltb, ℤ, pos, nat_abs, ◌+ℤ◌, ◌*ℤ◌}
use Rattle.arith.specs.Choice.{pick}
use Rattle.arith.specs.Sum.{sum, total}
use Rattle.lattice.specs.Buffer.{at}
use Rattle.hermite.specs.declared.Basis.{Basis}
use Rattle.hermite.specs.Hermite.{steps, basis}

-- the derivatives that can be asked for: those to which cells join smoothly, up to order 1 in degree 3 and up to order 2 in degree 5
abbrev pub Smooth : ℕ → ℕ → Type 0
Smooth order m = order < m

-- three rows by the same three numbers
pub record RowsOn (a b c x r : ℕ → ℤ) : Type 0 where
  pub first : r 0 ≡ sum 3 (λ o. a o *ℤ x o)
  pub second : r 1 ≡ sum 3 (λ o. b o *ℤ x o)
  pub third : r 2 ≡ sum 3 (λ o. c o *ℤ x o)

-- b holds what a stage at step u takes of the numbers of the low and of the high end, 0 from order m on
pub record Folds (order m u : ℕ) (b : Basis) : Type 0 where
  pub smooth : Smooth order m
  pub m-low : 2 ≤ m
  pub m-high : m ≤ 3
  pub step : u ≤ steps
  pub low : (o : ℕ) → o < 3 → at b.low o ≡ pick (ltb o m) (basis order m steps u o) (pos 0)
  pub high : (o : ℕ) → o < 3 → at b.high o ≡ pick (ltb o m) (basis order m steps u (m + o)) (pos 0)

-- the numbers of two ends by a basis
unfoldable pub weighted : Basis → (ℕ → ℤ) → (ℕ → ℤ) → ℤ
weighted b low high = sum 3 (λ o. at b.low o *ℤ low o) +ℤ sum 3 (λ o. at b.high o *ℤ high o)

-- the sum of the sizes of all products of a stage, which no sum on the way exceeds
unfoldable pub load : Basis → (ℕ → ℤ) → (ℕ → ℤ) → ℕ
load b low high = total 3 (λ o. nat_abs (at b.low o) * nat_abs (low o)) + total 3 (λ o. nat_abs (at b.high o) * nat_abs (high o))

-- how many eighths of a unit a number counts: 1 where numbers are in eighths, 8 where they are in units
unfoldable pub eighths_in : Bool → ℕ
eighths_in true = 1
eighths_in false = 8

-- the k for which a stage divides by 2^(k+1), where its numbers come and go in units, or in eighths where `from` or `to` is set
unfoldable pub shift_of : ℕ → ℕ → Bool → Bool → ℕ
shift_of order m from to = 8 * (2 * m - 1 - order) + pick from 3 0 - pick to 3 0
