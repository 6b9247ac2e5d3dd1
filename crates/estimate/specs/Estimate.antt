-- Estimates: all records from the samples, and the call that writes them.
use Rattle.std.specs.Prelude.{◌≡◌, ℕ, zero, suc, ◌+◌, ◌/◌, ◌%◌, ◌^◌, ◌≤◌, ◌<◌, List, leb, ltb, eqb, ℤ, pos, ◌+ℤ◌, ◌-ℤ◌, ◌*ℤ◌, nat_abs, length}
use Rattle.arith.specs.Choice.{pick}
use Rattle.lattice.specs.declared.Shape.{Shape}
use Rattle.lattice.specs.declared.FullShape.{FullShape}
use Rattle.lattice.specs.Outcome.{Check, refuse_unless, first, when_done}
use Rattle.lattice.specs.Buffer.{at, tabulate, overwrite}
use Rattle.lattice.specs.Shape.{count, orders, nodes, size, full_outcome, Shaped}
use Rattle.lattice.specs.Axes.{Field, Rule, sweep, axes}
use Rattle.lattice.specs.Records.{samples_field, entry_place, sample_limit, limit_outcome}

-- the neighbours l and r of node i along one axis; one that is missing at a border continues the line: l = 2f − r, r = 2f − l
unfoldable pub left : (ℕ → ℤ) → ℕ → ℤ
left x zero = pos 2 *ℤ x 0 -ℤ x 1
left x (suc i) = x i

unfoldable pub right : ℕ → (ℕ → ℤ) → ℕ → ℤ
right count x i = pick (ltb (suc i) count) (x (suc i)) (pos 2 *ℤ x i -ℤ left x i)

-- order 0 is the value, order 1 is D = r − l, order 2 is S = l − 2f + r
unfoldable pub by_order : ℕ → ℤ → ℤ → ℤ → ℤ
by_order zero l f r = f
by_order (suc zero) l f r = r -ℤ l
by_order (suc (suc o)) l f r = l -ℤ pos 2 *ℤ f +ℤ r

-- along one axis: order o at node i stands at place m·i + o
unfoldable pub estimate : ℕ → ℕ → Rule
estimate m count x j = by_order (j % m) (left x (j / m)) (x (j / m)) (right count x (j / m))

-- all records come from the samples this way, axis after axis
unfoldable pub records : ℕ → ℕ → (ℕ → ℕ) → Field → Field
records m n count samples = sweep (axes n) (λ a. estimate m (count a)) samples

-- on one axis: node j is node i or a neighbour of it
pub record NextTo (count i j : ℕ) : Type 0 where
  pub low : i ≤ j + 1
  pub high : j ≤ i + 1
  pub there : j < count

-- ---- the call

unfoldable pub table_records : Shape → List ℤ → Field
table_records s xs = records (orders s) s.axes (count s) (samples_field s xs)

-- the records in one slice
unfoldable pub records_of : Shape → List ℤ → List ℤ
records_of s xs = tabulate (size s) (λ i. table_records s xs (entry_place s i))

-- samples given for estimation lie within ±32768/2^n
unfoldable pub estimate_limit : ℕ → ℕ
estimate_limit n = sample_limit / 2 ^ n

-- 1, 2, 3, 26, then 4, 9, 19
unfoldable pub estimate_outcome : FullShape → List ℤ → ℕ → Check
estimate_outcome t xs room =
    first (full_outcome t)
    (first (refuse_unless (eqb (length xs) (nodes t.shape)) 4 0)
    (first (refuse_unless (leb (size t.shape) room) 9 0) (limit_outcome 19 (estimate_limit t.shape.axes) xs)))

-- what the records slice holds afterwards
unfoldable pub estimate_writes : FullShape → List ℤ → List ℤ → List ℤ
estimate_writes t xs old = when_done (estimate_outcome t xs (length old)) (overwrite (records_of t.shape xs) old) old

-- the facts of a table that estimation takes
pub record Estimable (s : Shape) (xs : List ℤ) (room : ℕ) : Type 0 where
  pub shape : Shaped s
  pub whole : length xs ≡ nodes s
  pub small : (i : ℕ) → nat_abs (at xs i) ≤ estimate_limit s.axes
  pub fits : size s ≤ room
