-- What the inner functions write. A pass along an axis takes three rows of numbers, at the nodes before, at the nodes and at the nodes
-- behind, and gives the orders of each; the order is the fastest digit of the index. The axes are worked off in the order z, y, x.
-- The promises of `estimate` mention none of this.
use Rattle.std.specs.Prelude.{◌≡◌, ℕ, zero, suc, ◌+◌, ◌*◌, ◌/◌, ◌%◌, ◌≤◌, ◌<◌, Bool, true, List, leb, ltb, ℤ, ◌+ℤ◌, ◌-ℤ◌, nat_abs, length, set}
use Rattle.arith.specs.Choice.{pick}
use Rattle.lattice.specs.declared.Shape.{Shape}
use Rattle.lattice.specs.Buffer.{at}
use Rattle.lattice.specs.Shape.{count, orders}
use Rattle.lattice.specs.Records.{sample_limit}
use Rattle.estimate.specs.declared.Axis.{Axis}
use Rattle.estimate.specs.declared.Grid.{Grid}
use Rattle.estimate.specs.Estimate.{left, right, by_order}

-- a list with h 0, h 1, .., h (n - 1) from index k on
unfoldable pub placed : ℕ → ℕ → (ℕ → ℤ) → List ℤ → List ℤ
placed k zero h b = b
placed k (suc n) h b = set (placed k n h b) (k + n) (h n)

-- a list from index k on
abbrev pub since : List ℤ → ℕ → ℕ → ℤ
since xs k t = at xs (k + t)

-- groups of m numbers
unfoldable pub grouped : ℕ → (ℕ → ℕ → ℤ) → ℕ → ℤ
grouped m f t = f (t / m) (t % m)

-- the nodes before and behind node i of an axis; at a border the node itself stands for the missing one
unfoldable pub before : ℕ → ℕ
before zero = zero
before (suc i) = i

unfoldable pub behind : ℕ → ℕ → ℕ
behind count i = pick (ltb (suc i) count) (suc i) i

-- the first or the last node
unfoldable pub at_border : ℕ → ℕ → Bool
at_border count zero = true
at_border count (suc i) = leb count (suc (suc i))

-- the neighbours l and r of f, from the numbers at the nodes before and behind: at a border the line goes on beyond f
unfoldable pub lower : Bool → ℤ → ℤ → ℤ → ℤ
lower border l f r = pick border (f -ℤ (r -ℤ l)) l

unfoldable pub upper : Bool → ℤ → ℤ → ℤ → ℤ
upper border l f r = pick border (f +ℤ (r -ℤ l)) r

-- one pass: the m orders of each number
abbrev pub pass_of : Bool → ℕ → (ℕ → ℤ) → (ℕ → ℤ) → (ℕ → ℤ) → ℕ → ℤ
pass_of border m l f r = grouped m (λ i o. by_order o (lower border (l i) (f i) (r i)) (f i) (upper border (l i) (f i) (r i)))

-- the orders of node i of an axis
abbrev pub orders_at : ℕ → (ℕ → ℤ) → ℕ → ℕ → ℤ
orders_at count x i o = by_order o (left x i) (x i) (right count x i)

-- the orders of row i of an axis of rows
abbrev pub orders_of_row : ℕ → ℕ → (ℕ → ℕ → ℤ) → ℕ → ℕ → ℤ
orders_of_row m count rows i = grouped m (λ t. orders_at count (λ v. rows v t) i)

-- the numbers that a record holds along axis a: 1 along an unused one
unfoldable pub orders_on : Shape → ℕ → ℕ
orders_on s a = pick (ltb a s.axes) (orders s) 1

abbrev pub axis_of : Shape → ℕ → Axis
axis_of s a = record { count = count s a; orders = orders_on s a }

unfoldable pub grid_of : Shape → Grid
grid_of s = record { x = axis_of s 0; y = axis_of s 1; z = axis_of s 2 }

-- where row (y, z) of the samples starts
unfoldable pub row_start : Grid → ℕ → ℕ → ℕ
row_start g y z = g.x.count * (y + g.y.count * z)

-- row (y, z), worked off along z
unfoldable pub row_z : Grid → List ℤ → ℕ → ℕ → ℕ → ℤ
row_z g xs y z = orders_of_row g.z.orders g.z.count (λ v. since xs (row_start g y v)) z

-- and along y
unfoldable pub row_yz : Grid → List ℤ → ℕ → ℕ → ℕ → ℤ
row_yz g xs y z = orders_of_row g.y.orders g.y.count (λ v. row_z g xs v z) y

-- the numbers of one node of a row
abbrev pub node_size : Grid → ℕ
node_size g = g.y.orders * g.z.orders

-- the records of a row, `size` numbers at each of `count` nodes: worked off along x
unfoldable pub row_of : ℕ → ℕ → ℕ → (ℕ → ℤ) → ℕ → ℤ
row_of m size count row = grouped m (λ q. orders_at count (λ v. row (size * v + q % size)) (q / size))

abbrev pub row_on : Grid → (ℕ → ℤ) → ℕ → ℤ
row_on g = row_of g.x.orders (node_size g) g.x.count

-- the entries of one record, of the records of one row, and of one plane
abbrev pub record_size : Grid → ℕ
record_size g = g.x.orders * node_size g

abbrev pub row_size : Grid → ℕ
row_size g = record_size g * g.x.count

abbrev pub plane_size : Grid → ℕ
plane_size g = row_size g * g.y.count

-- the records of plane z, row after row
unfoldable pub plane_of : Grid → List ℤ → ℕ → ℕ → ℤ
plane_of g xs z = grouped (row_size g) (λ y. row_on g (row_yz g xs y z))

-- the records of all planes
unfoldable pub planes_of : Grid → List ℤ → ℕ → ℤ
planes_of g xs = grouped (plane_size g) (plane_of g xs)

-- ---- what the inner functions ask for

-- samples, and entries of total order up to 4, lie within ±32768·2^4
abbrev pub pass_limit : ℕ
pass_limit = 524288

-- how many orders there may be along an axis
abbrev pub OrderCount : ℕ → Type 0
OrderCount m = (1 ≤ m) × (m ≤ 3)

-- what a pass reads lies in its list and within the limit
pub record Read (xs : List ℤ) (low count : ℕ) : Type 0 where
  pub inside : low + count ≤ length xs
  pub small : (t : ℕ) → t < count → nat_abs (since xs low t) ≤ pass_limit

-- n numbers within the limit
pub record Line (n : ℕ) (xs : List ℤ) : Type 0 where
  pub long : length xs ≡ n
  pub small : (t : ℕ) → t < n → nat_abs (at xs t) ≤ pass_limit

-- the rows that a pass reads
abbrev pub Lines : List ℤ → List ℤ → List ℤ → Type 0
Lines low mid high = Line (length mid) low × Line (length mid) mid × Line (length mid) high

-- the ranges of a row
pub record Rows (m size count : ℕ) : Type 0 where
  pub orders : OrderCount m
  pub size_low : 1 ≤ size
  pub size-high : size ≤ 9
  pub count_low : 2 ≤ count
  pub count-high : count ≤ 64

-- the ranges of a grid; an axis with more orders than the value has two nodes
pub record Grids (g : Grid) : Type 0 where
  pub x-low : 2 ≤ g.x.count
  pub y-low : 1 ≤ g.y.count
  pub x-high : g.x.count ≤ 64
  pub y-high : g.y.count ≤ 64
  pub z-high : g.z.count ≤ 64
  pub y-used : (g.y.orders ≡ 1 → ⊥) → 2 ≤ g.y.count
  pub z-used : (g.z.orders ≡ 1 → ⊥) → 2 ≤ g.z.count
  pub mx : OrderCount g.x.orders
  pub my : OrderCount g.y.orders
  pub mz : OrderCount g.z.orders

-- the samples of a grid
pub record Samples (g : Grid) (xs : List ℤ) : Type 0 where
  pub grid : Grids g
  pub whole : length xs ≡ g.x.count * (g.y.count * g.z.count)
  pub small : (i : ℕ) → nat_abs (at xs i) ≤ sample_limit

-- row v of plane z, worked off along z, stands in a list from index k on
pub record RowStands (g : Grid) (xs : List ℤ) (v z : ℕ) (b : List ℤ) (k : ℕ) : Type 0 where
  pub inside : k + g.z.orders * g.x.count ≤ length b
  pub same : (t : ℕ) → t < g.z.orders * g.x.count → since b k t ≡ row_z g xs v z t

-- row y and the row below it stand in the ring, each at its number's slot
abbrev pub Ring : Grid → List ℤ → ℕ → ℕ → List ℤ → Type 0
Ring g xs y z b = (v : ℕ) → y ≤ v + 1 → v ≤ y → v < g.y.count → RowStands g xs v z b (g.z.orders * g.x.count * (v % 3))
