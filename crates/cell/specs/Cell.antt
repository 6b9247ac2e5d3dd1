-- A cell: refusal 14, its corners and refusal 5 on them, and where their records stand.
use Rattle.std.specs.Prelude.{◌≡◌, ℕ, zero, suc, ◌+◌, ◌*◌, ◌/◌, ◌%◌, ◌^◌, ◌≤◌, ◌<◌, List, leb, ltb, eqb, ℤ, nat_abs, length, get_or, true}
use Rattle.std.specs.Int.Signed.{non_neg}
use Rattle.arith.specs.Choice.{pick}
use Rattle.lattice.specs.declared.Shape.{Shape}
use Rattle.lattice.specs.Outcome.{Check, refuse_unless, first_of, on_axes}
use Rattle.lattice.specs.Buffer.{at}
use Rattle.lattice.specs.Digits.{digit}
use Rattle.cell.specs.declared.Layout.{Layout}
use Rattle.lattice.specs.Shape.{count, orders, entries}
use Rattle.lattice.specs.Axes.{Place, OnUsed}
use Rattle.lattice.specs.Records.{node_number, records_field, entry_index, sample_limit, entry_limit}

-- the place of three indices
unfoldable pub place_at : List ℕ → Place
place_at xs a = pick (ltb a 3) (get_or xs a 0) 0

-- 14: a cell index above count − 2, or not 0 on an unused axis; place is the axis
unfoldable pub cell_outcome : Shape → Place → Check
cell_outcome s cell = on_axes 14 (λ a. pick (ltb a s.axes) (leb (cell a + 2) (count s a)) (eqb (cell a) 0))

-- entry i of the corner records: corners in order, x fastest, entries by number; place 0 on an unused axis
unfoldable pub corner_place : Shape → Place → ℕ → Place
corner_place s cell i a =
    pick (ltb a s.axes) (orders s * (cell a + digit (λ b. 2) (i / entries s) a) + digit (λ b. orders s) (i % entries s) a) 0

-- the entries of the 2^n corner records
unfoldable pub corner_entries : Shape → ℕ
corner_entries s = 2 ^ s.axes * entries s

-- 5: an entry beyond its limit; place is its index in the records
unfoldable pub entry_outcome : Shape → List ℤ → Place → Check
entry_outcome s rs p = refuse_unless (leb (nat_abs (records_field s rs p)) (entry_limit (orders s) s.axes p)) 5 (entry_index s p)

-- the first entry of the corners, in corner order, beyond its limit
unfoldable pub corners_outcome : Shape → List ℤ → Place → Check
corners_outcome s rs cell = first_of (corner_entries s) (λ i. entry_outcome s rs (corner_place s cell i))

-- a cell that 14 does not refuse: document 01's accepted cell
abbrev pub Accepted : Shape → Place → Type 0
Accepted s cell = OnUsed s.axes (λ a i. i + 2 ≤ count s a) cell

-- on one axis: a number of one of the cell's two ends
pub record AtEnds (m c j : ℕ) : Type 0 where
  pub low : m * c ≤ j
  pub high : j < m * c + 2 * m

-- an entry of a corner's record
abbrev pub InCorners : ℕ → ℕ → Place → Place → Type 0
InCorners m n cell = OnUsed n (λ a. AtEnds m (cell a))

-- ---- where the numbers of a cell stand in the records

-- the record of the low corner
unfoldable pub base : Shape → Place → ℕ
base s cell = node_number s cell * entries s

-- from a node's record to that of its upper neighbour on axis a
unfoldable pub node_stride : Shape → ℕ → ℕ
node_stride s zero = entries s
node_stride s (suc a) = count s a * node_stride s a

-- from an order to the next on axis a
unfoldable pub order_stride : Shape → ℕ → ℕ
order_stride s a = orders s ^ a

-- number t = m·end + order along axis a, from the low end's value
unfoldable pub offset : Shape → ℕ → ℕ → ℕ
offset s a t = t / orders s * node_stride s a + t % orders s * order_stride s a

-- the record of corner c, x fastest
unfoldable pub corner_start : Shape → Place → ℕ → ℕ
corner_start s cell c = base s cell + (c % 2 * node_stride s 0 + (c / 2 % 2 * node_stride s 1 + c / 2 / 2 * node_stride s 2))

-- the limit of entry e of a record
unfoldable pub limit_of : ℕ → ℕ → ℕ
limit_of m e = sample_limit * 2 ^ (e % m + (e / m % m + e / m / m))

-- the limit test of the record that starts at `start`
unfoldable pub record_outcome : (ℕ → ℕ) → ℕ → List ℤ → ℕ → Check
record_outcome limits n rs start = first_of n (λ e. refuse_unless (leb (nat_abs (at rs (start + e))) (limits e)) 5 (start + e))

-- limits held in an array, and what is asked of the first n
abbrev pub limit_in : List ℤ → ℕ → ℕ
limit_in limits e = nat_abs (at limits e)

abbrev pub Limits : ℕ → List ℤ → Type 0
Limits n limits = (e : ℕ) → e < n → non_neg (at limits e) ≡ true

-- what a layout holds
pub record Laid (s : Shape) (cell : Place) (l : Layout) : Type 0 where
  pub orders-are : l.orders ≡ orders s
  pub entries-are : l.entries ≡ entries s
  pub base-is : l.base ≡ base s cell
  pub stride-x : get_or l.strides 0 0 ≡ node_stride s 0
  pub stride-y : get_or l.strides 1 0 ≡ node_stride s 1
  pub stride-z : get_or l.strides 2 0 ≡ node_stride s 2

-- the record of corner c, x fastest, by the layout
abbrev pub start_of : Layout → ℕ → ℕ
start_of l c = l.base + (c % 2 * get_or l.strides 0 0 + (c / 2 % 2 * get_or l.strides 1 0 + c / 2 / 2 * get_or l.strides 2 0))

-- a layout whose sums fit
pub record Small (l : Layout) : Type 0 where
  pub base-low : l.base ≤ 2 ^ 32
  pub x-low : get_or l.strides 0 0 ≤ 2 ^ 32
  pub y-low : get_or l.strides 1 0 ≤ 2 ^ 32
  pub z-low : get_or l.strides 2 0 ≤ 2 ^ 32

-- rows of two records of e entries, which are neighbours along x, lie in the records
pub record CornerRows (l : Layout) (rs : List ℤ) (e rows : ℕ) : Type 0 where
  pub some : 1 ≤ e
  pub low : e ≤ 27
  pub few : rows ≤ 4
  pub small : Small l
  pub next : get_or l.strides 0 0 ≡ e
  pub inside : (r : ℕ) → r < rows → start_of l (2 * r) + 2 * e ≤ length rs
