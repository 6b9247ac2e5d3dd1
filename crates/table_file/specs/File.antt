-- The table file: its sections, what reading it gives in byte order, and what writing it gives.
use Rattle.std.specs.Prelude.{◌≡◌, Bool, ℕ, ◌+◌, ◌*◌, ◌<◌, List, [], ◌∷◌, ◌++◌, map, leb, ltb, eqb, ℤ, length, get_or, take}
use Rattle.arith.specs.Choice.{pick}
use Rattle.lattice.specs.Outcome.{Outcome, Check, done, refuse_unless, first, first_of}
use Rattle.lattice.specs.Buffer.{tabulate}
use Rattle.lattice.specs.Digits.{span}
use Rattle.lattice.specs.Shape.{axes_outcome, count_allowed, counts_outcome, step_numbers_outcome, finest_steps}
use Rattle.lattice.specs.Records.{sample_limit, limit_outcome}
use Rattle.arith.specs.Int.{unsigned_of}
use Rattle.table_file.specs.Numbers.{number_at, bytes_of_all, signed_of}

-- n, three node counts, three step numbers, and whether the edition is two
pub record Header : Type 0 where
  pub axes : ℕ
  pub counts : List ℕ
  pub steps : List ℕ
  pub second : Bool

abbrev pub header : ℕ → List ℕ → List ℕ → Bool → Header
header n cs ns second = record { axes = n; counts = cs; steps = ns; second = second }

-- of a table that is read: files do not hold step numbers
abbrev pub file_header : ℕ → List ℕ → Bool → Header
file_header n cs second = header n cs (finest_steps n) second

-- ---- the bytes of a table

-- section one: n, then n node counts
unfoldable pub section_one : ℕ → List ℕ → List ℕ
section_one n counts = n ∷ take n counts

-- section two: number of samples, then the samples
unfoldable pub section_two : List ℤ → List ℕ
section_two samples = length samples ∷ map unsigned_of samples

-- section three, in edition two only: count 1, then the number 2
unfoldable pub section_three : Bool → List ℕ
section_three second = pick second (1 ∷ 2 ∷ []) []

-- step numbers are left out
unfoldable pub file_of : Header → List ℤ → List ℕ
file_of h samples = bytes_of_all (section_one h.axes h.counts ++ section_two samples ++ section_three h.second)

-- ---- reading

-- number k of the file
abbrev pub file_number : List ℕ → ℕ → ℕ
file_number bytes k = number_at bytes (4 * k)

-- 6: the bytes end before k numbers are complete; place is the length
unfoldable pub complete : List ℕ → ℕ → Check
complete bytes k = refuse_unless (leb (4 * k) (length bytes)) 6 (length bytes)

abbrev pub axes_in : List ℕ → ℕ
axes_in bytes = file_number bytes 0

-- the node count of axis a, 1 on an unused one
unfoldable pub count_in : List ℕ → ℕ → ℕ
count_in bytes a = pick (ltb a (axes_in bytes)) (file_number bytes (1 + a)) 1

-- the product of the node counts
unfoldable pub nodes_in : List ℕ → ℕ
nodes_in bytes = span 3 (count_in bytes)

unfoldable pub samples_in : List ℕ → List ℤ
samples_in bytes = tabulate (nodes_in bytes) (λ i. signed_of (file_number bytes (2 + axes_in bytes + i)))

-- how many numbers sections one and two have
unfoldable pub start_of_three : List ℕ → ℕ
start_of_three bytes = 2 + axes_in bytes + nodes_in bytes

-- a file without section three is edition one
unfoldable pub second_in : List ℕ → Bool
second_in bytes = ltb (4 * start_of_three bytes) (length bytes)

unfoldable pub header_in : List ℕ → Header
header_in bytes = file_header (axes_in bytes) (tabulate 3 (count_in bytes)) (second_in bytes)

-- 6, and 3 as read
unfoldable pub count_outcome : List ℕ → ℕ → Check
count_outcome bytes a = first (complete bytes (2 + a)) (refuse_unless (count_allowed (axes_in bytes) (count_in bytes a) a) 3 a)

-- section one: n, then n node counts
unfoldable pub one_outcome : List ℕ → Check
one_outcome bytes = first (complete bytes 1) (first (axes_outcome (axes_in bytes)) (first_of (axes_in bytes) (count_outcome bytes)))

-- section two: number of samples, then the samples: 6, 8, 6 for the samples
unfoldable pub two_outcome : List ℕ → Check
two_outcome bytes =
    first (complete bytes (2 + axes_in bytes))
    (first (refuse_unless (eqb (file_number bytes (1 + axes_in bytes)) (nodes_in bytes)) 8 0) (complete bytes (start_of_three bytes)))

-- 7: bytes left over after k numbers; place is the first
unfoldable pub nothing_after : List ℕ → ℕ → Check
nothing_after bytes k = refuse_unless (leb (length bytes) (4 * k)) 7 (4 * k)

-- section three, where bytes come after section two: 6, 25 once both numbers are there, 7
unfoldable pub three_outcome : List ℕ → Check
three_outcome bytes =
    let k = start_of_three bytes in
    pick (second_in bytes)
    (first (complete bytes (2 + k))
    (first (refuse_unless (eqb (file_number bytes k) 1) 25 0)
    (first (refuse_unless (eqb (file_number bytes (1 + k)) 2) 25 0) (nothing_after bytes (2 + k)))))
    (done tt)

-- into a slice of `room` samples: byte order, then 9, 5
unfoldable pub read_check : List ℕ → ℕ → Check
read_check bytes room =
    first (one_outcome bytes)
    (first (two_outcome bytes)
    (first (three_outcome bytes)
    (first (refuse_unless (leb (nodes_in bytes) room) 9 0) (limit_outcome 5 sample_limit (samples_in bytes)))))

unfoldable pub read_outcome : List ℕ → ℕ → Outcome Header
read_outcome bytes room = first (read_check bytes room) (done (header_in bytes))

-- ---- writing

unfoldable pub count_of : Header → ℕ → ℕ
count_of h a = get_or h.counts a 0

unfoldable pub step_of : Header → ℕ → ℕ
step_of h a = get_or h.steps a 0

unfoldable pub nodes_of : Header → ℕ
nodes_of h = span 3 (count_of h)

-- into a slice of `room` bytes: 1, 3, 26, 4, 9, 5
unfoldable pub write_check : Header → List ℤ → ℕ → Check
write_check h samples room =
    first (axes_outcome h.axes)
    (first (counts_outcome h.axes (count_of h))
    (first (step_numbers_outcome h.axes (step_of h))
    (first (refuse_unless (eqb (length samples) (nodes_of h)) 4 0)
    (first (refuse_unless (leb (length (file_of h samples)) room) 9 0) (limit_outcome 5 sample_limit samples)))))

-- the result is the number of bytes
unfoldable pub write_outcome : Header → List ℤ → ℕ → Outcome ℕ
write_outcome h samples room = first (write_check h samples room) (done (length (file_of h samples)))

-- ---- the round trip

-- what a slice of bytes holds
abbrev pub AreBytes : List ℕ → Type 0
AreBytes bytes = (i : ℕ) → get_or bytes i 0 < 256

-- a table as it is read from its file
abbrev pub as_read : Header → Header
as_read h = file_header h.axes h.counts h.second

-- a table that 1, 3, 26, 4 and 5 do not refuse
pub record PermittedTable (h : Header) (samples : List ℤ) : Type 0 where
  pub three : length h.counts ≡ 3
  pub axes-ok : axes_outcome h.axes ≡ done tt
  pub counts-ok : counts_outcome h.axes (count_of h) ≡ done tt
  pub steps-ok : step_numbers_outcome h.axes (step_of h) ≡ done tt
  pub counted : length samples ≡ nodes_of h
  pub limited : limit_outcome 5 sample_limit samples ≡ done tt
