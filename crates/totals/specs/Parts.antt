-- What the functions of the calls state: the total node by node. Along an axis K cells have nodes 0 to K; K is 0 on an unused axis.
use Rattle.std.specs.Prelude.{◌≡◌, ℕ, ◌+◌, ◌*◌, ◌-◌, ◌/◌, ◌%◌, ◌≤◌, ◌<◌, List, ltb, eqb, ℤ, pos, nat_abs, ◌+ℤ◌, ◌*ℤ◌, get_or}
use Rattle.arith.specs.Choice.{pick}
use Rattle.arith.specs.Sum.{sum}
use Rattle.lattice.specs.declared.Shape.{Shape}
use Rattle.lattice.specs.Buffer.{at}
use Rattle.lattice.specs.Axes.{Place}
use Rattle.hermite.specs.Hermite.{share}
use Rattle.cell.specs.declared.Layout.{Layout}
use Rattle.cell.specs.Cell.{Small, Accepted}
use Rattle.totals.specs.Totals.{total_multiplier}

-- ---- one axis

-- what the total takes of number t of a cell: the table of document 01 folded into the multipliers
unfoldable pub taken : ℕ → ℕ → ℤ
taken m t = sum (2 * m) (λ i. share m i t *ℤ total_multiplier m i)

-- what the total of K cells takes of order o at node j: of the low end of the cell above it, of the high end of the cell below it
unfoldable pub taken_at : ℕ → ℕ → ℕ → ℕ → ℤ
taken_at m K j o =
    pick (eqb K 0) (pick (eqb o 0) (pos 1) (pos 0))
    (pick (ltb j K) (taken m o) (pos 0) +ℤ pick (ltb 0 j) (taken m (m + o)) (pos 0))

-- the cells of a box along axis a
unfoldable pub cells_within : Shape → Place → Place → ℕ → ℕ
cells_within s from to a = pick (ltb a s.axes) (to a + 1 - from a) 0

-- a box that 29 does not refuse
pub record Boxed (s : Shape) (from to : Place) : Type 0 where
  pub order : (a : ℕ) → from a ≤ to a
  pub last : Accepted s to

-- ---- the rows of nodes of a box, by the cells along each axis

unfoldable pub row_count : List ℕ → ℕ
row_count K = (get_or K 1 0 + 1) * (get_or K 2 0 + 1)

-- where the record of the first node of row r stands
unfoldable pub row_start : Layout → List ℕ → ℕ → ℕ
row_start l K r = l.base + (r % (get_or K 1 0 + 1) * get_or l.strides 1 0 + r / (get_or K 1 0 + 1) * get_or l.strides 2 0)

-- what the total takes of the orders along y and z, g = order along y + m · order along z, in row r
unfoldable pub across : ℕ → List ℕ → ℕ → ℕ → ℤ
across m K r g =
    taken_at m (get_or K 1 0) (r % (get_or K 1 0 + 1)) (g % m) *ℤ taken_at m (get_or K 2 0) (r / (get_or K 1 0 + 1)) (g / m)

-- ---- sums

-- m orders along x, with factors x, from index p on
unfoldable pub group_sum : ℕ → (ℕ → ℤ) → List ℤ → ℕ → ℤ
group_sum m x rs p = sum m (λ o. x o *ℤ at rs (p + o))

-- a record of k such groups, with factors y
unfoldable pub record_sum : ℕ → ℕ → (ℕ → ℤ) → (ℕ → ℤ) → List ℤ → ℕ → ℤ
record_sum m k x y rs p = sum k (λ g. y g *ℤ group_sum m x rs (p + m * g))

-- the nodes of K cells along x
unfoldable pub row_sum : ℕ → ℕ → ℕ → (ℕ → ℤ) → List ℤ → ℕ → ℤ
row_sum m k K y rs p = sum (K + 1) (λ i. record_sum m k (taken_at m K i) y rs (p + m * k * i))

-- all rows
unfoldable pub rows_sum : ℕ → ℕ → Layout → List ℕ → List ℤ → ℤ
rows_sum m k l K rs = sum (row_count K) (λ r. row_sum m k (get_or K 0 0) (across m K r) rs (row_start l K r))

-- ---- what is asked of the entries and of a walk over all rows

-- n entries from index p on within B
abbrev pub EntriesWithin : ℕ → List ℤ → ℕ → ℕ → Type 0
EntriesWithin B rs p n = (i : ℕ) → i < n → nat_abs (at rs (p + i)) ≤ B

-- at most 63 cells along each axis
abbrev pub FewCells : List ℕ → Type 0
FewCells K = (a : ℕ) → a < 3 → get_or K a 0 ≤ 63

pub record Walk (l : Layout) (K : List ℕ) (n : ℕ) : Type 0 where
  pub small : Small l
  pub orders-low : 2 ≤ l.orders
  pub orders-high : l.orders ≤ 3
  pub entries-are : l.entries ≡ l.orders * (l.entries / l.orders)
  pub groups-few : l.entries / l.orders ≤ l.orders * l.orders
  pub cells-few : FewCells K
  pub inside : (r : ℕ) → r < row_count K → row_start l K r + l.entries * (get_or K 0 0 + 1) ≤ n
