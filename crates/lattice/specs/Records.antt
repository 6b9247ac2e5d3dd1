-- Where samples and the entries of records stand in their slices, and their limits. Along an axis, order o at node i stands at place m·i +
-- o.
use Rattle.std.specs.Prelude.{ℕ, ◌+◌, ◌*◌, ◌/◌, ◌%◌, ◌^◌, List, leb, ℤ, nat_abs, length}
use Rattle.arith.specs.Sum.{total}
use Rattle.lattice.specs.declared.Shape.{Shape}
use Rattle.lattice.specs.Outcome.{Check, refuse_unless, first_of}
use Rattle.lattice.specs.Buffer.{at}
use Rattle.lattice.specs.Digits.{number, digit}
use Rattle.lattice.specs.Shape.{count, orders, entries}
use Rattle.lattice.specs.Axes.{Place, Field}

-- node (i, j, k) has number i + cx·(j + cy·k)
unfoldable pub node_number : Shape → Place → ℕ
node_number s p = number 3 (count s) p

-- the samples stand in node order
unfoldable pub samples_field : Shape → List ℤ → Field
samples_field s xs p = at xs (node_number s p)

-- the entry of orders (a, b, c) has number a + m·(b + m·c)
unfoldable pub entry_number : Shape → Place → ℕ
entry_number s o = number s.axes (λ a. orders s) o

-- records stand in node order, entries by number
unfoldable pub entry_index : Shape → Place → ℕ
entry_index s p = node_number s (λ a. p a / orders s) * entries s + entry_number s (λ a. p a % orders s)

unfoldable pub records_field : Shape → List ℤ → Field
records_field s rs p = at rs (entry_index s p)

-- the place of entry i of the records
unfoldable pub entry_place : Shape → ℕ → Place
entry_place s i a = orders s * digit (count s) (i / entries s) a + digit (λ b. orders s) (i % entries s) a

-- the total order of an entry
unfoldable pub total_order : ℕ → ℕ → Place → ℕ
total_order m n p = total n (λ a. p a % m)

-- samples lie within ±32768
abbrev pub sample_limit : ℕ
sample_limit = 32768

-- an entry of total order q lies within ±32768·2^q
unfoldable pub entry_limit : ℕ → ℕ → Place → ℕ
entry_limit m n p = sample_limit * 2 ^ total_order m n p

-- refusal `number` of a number beyond a limit; place is its index
unfoldable pub limit_outcome : ℕ → ℕ → List ℤ → Check
limit_outcome number limit xs = first_of (length xs) (λ i. refuse_unless (leb (nat_abs (at xs i)) limit) number i)
