-- Back: the corner records whose coefficients these are, and the call. m is 2 for degree 3 and 3 for degree 5, n the number of axes.
use Rattle.std.specs.Prelude.{◌≡◌, ℕ, ◌*◌, ◌/◌, ◌%◌, ◌^◌, ◌≤◌, ◌<◌, Bool, ◌&&◌, List, leb, eqb, ℤ, nat_abs, length}
use Rattle.arith.specs.Int.{floor_div}
use Rattle.lattice.specs.Outcome.{Check, refuse_unless, first, first_of, when_done}
use Rattle.lattice.specs.Buffer.{at, tabulate, overwrite}
use Rattle.lattice.specs.Digits.{number}
use Rattle.lattice.specs.Shape.{orders_of, axes_outcome, degree_outcome}
use Rattle.lattice.specs.Axes.{Field, origin, sweep, axes}
use Rattle.lattice.specs.Records.{entry_limit}
use Rattle.hermite.specs.Hermite.{backward}
use Rattle.cell.specs.Coefficients.{coefficient_count}
use Rattle.cell.specs.Corners.{corner_numbers, corners_field}
use Rattle.coefficients.specs.Coefficients.{coefficient_list}

-- every entry lies within its limit
pub record PermittedCorners (m n : ℕ) (r : List ℤ) : Type 0 where
  pub many : length r ≡ coefficient_count m n
  pub within : (i : ℕ) → i < coefficient_count m n → nat_abs (at r i) ≤ entry_limit m n (corner_numbers m n i)

-- corner records have these coefficients
pub record HasCoefficients (m n : ℕ) (r cs : List ℤ) : Type 0 where
  pub are : coefficient_list m n origin (corners_field m n r) ≡ cs

unfoldable pub coefficients_field : ℕ → ℕ → List ℤ → Field
coefficients_field m n cs p = at cs (number n (λ a. 2 * m) p)

-- entry i of the corner records, doubled once per axis
unfoldable pub doubled_entry : ℕ → ℕ → List ℤ → ℕ → ℤ
doubled_entry m n cs i = sweep (axes n) (λ a. backward m) (coefficients_field m n cs) (corner_numbers m n i)

-- a number doubled once per axis is whole, and then within the limit
abbrev pub whole_within : ℕ → ℕ → ℤ → Bool
whole_within n limit z = eqb (nat_abs z % 2 ^ n) 0 && leb (nat_abs z / 2 ^ n) limit

-- so is entry i
unfoldable pub entry_allowed : ℕ → ℕ → ℕ → ℤ → Bool
entry_allowed m n i z = whole_within n (entry_limit m n (corner_numbers m n i)) z

-- 13: coefficients that no permitted corner records have
unfoldable pub possible_outcome : ℕ → ℕ → List ℤ → Check
possible_outcome m n cs = first_of (coefficient_count m n) (λ i. refuse_unless (entry_allowed m n i (doubled_entry m n cs i)) 13 0)

-- the corner records whose coefficients these are
unfoldable pub entry_list : ℕ → ℕ → List ℤ → List ℤ
entry_list m n cs = tabulate (coefficient_count m n) (λ i. floor_div (doubled_entry m n cs i) (2 ^ n))

-- 1, 2, 15, 9
unfoldable pub numbers_outcome : ℕ → ℕ → ℕ → ℕ → Check
numbers_outcome n degree given room =
    first (axes_outcome n)
    (first (degree_outcome degree)
    (first (refuse_unless (eqb given (coefficient_count (orders_of degree) n)) 15 0)
    (refuse_unless (leb (coefficient_count (orders_of degree) n) room) 9 0)))

-- and then 13
unfoldable pub back_outcome : ℕ → ℕ → List ℤ → ℕ → Check
back_outcome n degree cs room = first (numbers_outcome n degree (length cs) room) (possible_outcome (orders_of degree) n cs)

-- what the lent slice holds afterwards
unfoldable pub back_writes : ℕ → ℕ → List ℤ → List ℤ → List ℤ
back_writes n degree cs out = when_done (back_outcome n degree cs (length out)) (overwrite (entry_list (orders_of degree) n cs) out) out
