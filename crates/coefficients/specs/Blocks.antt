-- How the code works a cell off, corner by corner, as Listings 1 to 4 of the source do: at a corner every entry is multiplied by the
-- product of s^order of the axes, an unsigned solve by the rows of the low end follows along each axis, and its results go to their places.
use Rattle.std.specs.Prelude.{◌≡◌, ℕ, zero, suc, ◌+◌, ◌*◌, ◌-◌, ◌/◌, ◌%◌, ◌^◌, ◌≤◌, ◌<◌, Bool, List, ltb, ℤ, pos, ◌-ℤ◌, nat_abs, length, get_or, set}
use Rattle.arith.specs.Choice.{pick}
use Rattle.arith.specs.Int.{◌^ℤ◌}
use Rattle.arith.specs.Sum.{product}
use Rattle.lattice.specs.Buffer.{at}
use Rattle.lattice.specs.Digits.{number, digit}
use Rattle.lattice.specs.Axes.{Place, origin, sweep, axes}
use Rattle.lattice.specs.Records.{entry_limit}
use Rattle.hermite.specs.Hermite.{end_rule}
use Rattle.cell.specs.declared.Layout.{Layout}
use Rattle.cell.specs.Cell.{start_of, Small}
use Rattle.cell.specs.Coefficients.{coefficients, coefficient_count}
use Rattle.cell.specs.Corners.{corner_numbers, corner_entry}
use Rattle.coefficients.specs.declared.Row.{Row}

-- the sizes of a corner's block: m orders, n axes, m^n numbers in r groups
pub record Sizes (m n r : ℕ) : Type 0 where
  pub orders-low : 2 ≤ m
  pub orders-high : m ≤ 3
  pub axes-low : 1 ≤ n
  pub axes-high : n ≤ 3
  pub groups-are : m * r ≡ m ^ n

-- ---- where a corner's coefficients stand

-- the coefficient of number t: those of the high end are counted from there
unfoldable pub coefficient_number : ℕ → ℕ → ℕ
coefficient_number m t = pick (ltb t m) t (3 * m - 1 - t)

-- s = 1 − 2b, at the low end b = 0 and at the high end b = 1
unfoldable pub end_sign : ℕ → ℤ
end_sign b = pos 1 -ℤ pos (2 * b)

-- the sign of number k of the block of corner c: the product of s^order of the axes; an unused axis has order 0
unfoldable pub block_sign : ℕ → ℕ → ℕ → ℤ
block_sign m c k = product (axes 3) (λ a. end_sign (digit (λ b. 2) c a) ^ℤ digit (λ b. m) k a)

-- number k of the block of corner c, along each axis
unfoldable pub block_numbers : ℕ → ℕ → ℕ → Place
block_numbers m c k a = m * digit (λ b. 2) c a + digit (λ b. m) k a

-- its coefficient's index
unfoldable pub coefficient_index : ℕ → ℕ → ℕ → ℕ
coefficient_index m c k = number 3 (λ b. 2 * m) (λ a. coefficient_number m (block_numbers m c k a))

-- entry i of the corner records, of `size` entries each
unfoldable pub gathered : ℕ → Layout → List ℤ → ℕ → ℤ
gathered size l rs i = at rs (start_of l (i / size) + i % size)

-- coefficient K of the corner records that lie in the records
abbrev pub cell_coefficient : ℕ → ℕ → Layout → List ℤ → ℕ → ℤ
cell_coefficient m n l rs K = coefficients m n origin (λ t. gathered (m ^ n) l rs (corner_entry m n t)) (digit (λ a. 2 * m) K)

-- ---- conversion

-- number k of a block after the solve along all axes, forward and back
unfoldable pub solved_block : Bool → ℕ → ℕ → (ℕ → ℤ) → ℕ → ℤ
solved_block back m n xs k = sweep (axes n) (λ a. end_rule back m) (λ p. xs (number n (λ b. m) p)) (digit (λ b. m) k)

-- row g of a block, g = order along y + m · order along z
pub record RowOf (m g : ℕ) (o : Row) : Type 0 where
  pub number_is : g ≡ m * o.z + o.y
  pub low : o.y < m

-- the places of the first k coefficients of corner c
pub record Placed (m c k : ℕ) (ps : List ℕ) : Type 0 where
  pub long : length ps ≡ 27
  pub is : (j : ℕ) → j < k → get_or ps j 0 ≡ coefficient_index m c j

-- numbers within B
abbrev pub AllWithin : ℕ → ℕ → (ℕ → ℤ) → Type 0
AllWithin B n xs = (i : ℕ) → i < n → nat_abs (xs i) ≤ B

-- 27 numbers that start with f 0, .., f (n - 1)
pub record StartsWith (n : ℕ) (f : ℕ → ℤ) (xs : List ℤ) : Type 0 where
  pub long : length xs ≡ 27
  pub is : (k : ℕ) → k < n → at xs k ≡ f k

-- ---- filling

-- numbers f 0, .., f (k - 1), each written at its place
unfoldable pub scatter : ℕ → (ℕ → ℕ) → (ℕ → ℤ) → List ℤ → List ℤ
scatter zero place f old = old
scatter (suc k) place f old = set (scatter k place f old) (place k) (f k)

-- the corners in the order of the listings, the last used axis innermost: bit a of a turn is that of axis n − 1 − a
unfoldable pub reversed : ℕ → Place → ℕ
reversed n b = number n (λ a. 2) (λ a. b (n - 1 - a))

-- the corner, x fastest, whose turn is i
unfoldable pub corner_at : ℕ → ℕ → ℕ
corner_at n i = reversed n (digit (λ b. 2) i)

-- the turn of the corner to which coefficient K belongs: on each axis its low end has the first m coefficients, its high end the others
unfoldable pub turn_of : ℕ → ℕ → ℕ → ℕ
turn_of m n K = reversed n (λ a. digit (λ b. 2 * m) K a / m)

-- after k corners their coefficients stand, and all other numbers are 0
pub record Filled (m n : ℕ) (f : ℕ → ℤ) (k : ℕ) (xs : List ℤ) : Type 0 where
  pub long : length xs ≡ 216
  pub stand : (K : ℕ) → K < coefficient_count m n → turn_of m n K < k → at xs K ≡ f K
  pub empty : (K : ℕ) → K < coefficient_count m n → k ≤ turn_of m n K → at xs K ≡ pos 0
  pub beyond : (K : ℕ) → coefficient_count m n ≤ K → at xs K ≡ pos 0

-- corner records that lie in the records, each entry within its limit
pub record Gathered (m n : ℕ) (l : Layout) (rs : List ℤ) : Type 0 where
  pub small : Small l
  pub inside : (c : ℕ) → c < 2 ^ n → start_of l c + m ^ n ≤ length rs
  pub within : (i : ℕ) → i < coefficient_count m n → nat_abs (gathered (m ^ n) l rs i) ≤ entry_limit m n (corner_numbers m n i)
