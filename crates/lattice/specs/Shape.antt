-- A table's shape: its axis number n, its degree d, three node counts, three step numbers and its edition; refusals 1, 2, 3 and 26.
use Rattle.std.specs.Prelude.{◌≡◌, ℕ, ◌*◌, ◌^◌, ◌≤◌, ◌<◌, Bool, ◌&&◌, ◌||◌, List, [], ◌∷◌, leb, ltb, eqb, get_or}
use Rattle.arith.specs.Choice.{pick}
use Rattle.arith.specs.Int.{Rounding, rounding_of}
use Rattle.lattice.specs.declared.Shape.{Shape}
use Rattle.lattice.specs.declared.FullShape.{FullShape}
use Rattle.lattice.specs.Outcome.{Check, refuse_unless, first, on_axes}
use Rattle.lattice.specs.Digits.{span}

-- n axes, degree d and three node counts
abbrev pub shape_of : ℕ → ℕ → List ℕ → Shape
shape_of n degree counts = record { axes = n; degree = degree; counts = counts }

-- its step numbers and its edition
abbrev pub full_shape : Shape → (steps : List ℕ) → (second_edition : Bool) → FullShape
full_shape s steps second_edition = record { shape = s; steps = steps; second_edition = second_edition }

-- the rounding of its stages
abbrev pub rounding_in : FullShape → Rounding
rounding_in t = rounding_of t.second_edition

-- the node count of axis a
unfoldable pub count : Shape → ℕ → ℕ
count s a = get_or s.counts a 0

-- the number of steps of axis a
unfoldable pub steps_on : FullShape → ℕ → ℕ
steps_on t a = get_or t.steps a 0

-- m: 2 for degree 3, 3 for degree 5
unfoldable pub orders_of : ℕ → ℕ
orders_of degree = pick (eqb degree 3) 2 3

abbrev pub orders : Shape → ℕ
orders s = orders_of s.degree

-- the number of nodes
unfoldable pub nodes : Shape → ℕ
nodes s = span 3 (count s)

-- m^n, the entries of one node's record
unfoldable pub entries : Shape → ℕ
entries s = orders s ^ s.axes

-- the entries of all records
unfoldable pub size : Shape → ℕ
size s = nodes s * entries s

-- 1: n is not 1, 2 or 3
unfoldable pub axes_outcome : ℕ → Check
axes_outcome n = refuse_unless (leb 1 n && leb n 3) 1 0

-- 2: degree neither 3 nor 5
unfoldable pub degree_outcome : ℕ → Check
degree_outcome degree = refuse_unless (eqb degree 3 || eqb degree 5) 2 0

-- 2 to 64 on a used axis, 1 on an unused one
unfoldable pub count_allowed : ℕ → ℕ → ℕ → Bool
count_allowed n c a = pick (ltb a n) (leb 2 c && leb c 64) (eqb c 1)

-- 3: a node count not allowed; place is the axis
unfoldable pub counts_outcome : ℕ → (ℕ → ℕ) → Check
counts_outcome n counts = on_axes 3 (λ a. count_allowed n (counts a) a)

-- 1, 2, 3
unfoldable pub shape_outcome : Shape → Check
shape_outcome s = first (axes_outcome s.axes) (first (degree_outcome s.degree) (counts_outcome s.axes (count s)))

-- 16, 32, 64, 128 or 256
unfoldable pub step_number : ℕ → Bool
step_number k = (((eqb k 16 || eqb k 32) || eqb k 64) || eqb k 128) || eqb k 256

-- one of these on a used axis, 1 on an unused one
unfoldable pub steps_allowed : ℕ → ℕ → ℕ → Bool
steps_allowed n k a = pick (ltb a n) (step_number k) (eqb k 1)

-- 26: a step number not allowed; place is the axis
unfoldable pub step_numbers_outcome : ℕ → (ℕ → ℕ) → Check
step_numbers_outcome n steps = on_axes 26 (λ a. steps_allowed n (steps a) a)

-- 1, 2, 3, 26
unfoldable pub full_outcome : FullShape → Check
full_outcome t = first (shape_outcome t.shape) (step_numbers_outcome t.shape.axes (steps_on t))

-- the step numbers of a table of n axes that is read from a file
unfoldable pub finest_on : ℕ → ℕ → ℕ
finest_on n a = pick (ltb a n) 256 1

abbrev pub finest_steps : ℕ → List ℕ
finest_steps n = finest_on n 0 ∷ finest_on n 1 ∷ finest_on n 2 ∷ []

-- the facts of a shape that is not refused
pub record Shaped (s : Shape) : Type 0 where
  pub axes-low : 1 ≤ s.axes
  pub axes-high : s.axes ≤ 3
  pub low : (a : ℕ) → a < 3 → 1 ≤ count s a
  pub high : (a : ℕ) → a < 3 → count s a ≤ 64
  pub used : (a : ℕ) → a < s.axes → 2 ≤ count s a
  pub unused : (a : ℕ) → a < 3 → s.axes ≤ a → count s a ≡ 1
