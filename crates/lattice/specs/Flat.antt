-- The rules on flat arrays: a pass consumes the fastest digit of the index and its result becomes the slowest.
use Rattle.std.specs.Prelude.{ℕ, ◌+◌, ◌*◌, ◌/◌, ◌%◌, List, [], ◌∷◌, ℤ}
use Rattle.lattice.specs.Axes.{Place, Rule}

-- the index of a place, the digits in the order of a list of axes, the fastest first; axis a has width a
unfoldable pub index_of : List ℕ → (ℕ → ℕ) → Place → ℕ
index_of [] width p = 0
index_of (a ∷ ls) width p = p a + width a * index_of ls width p

unfoldable pub size_of : List ℕ → (ℕ → ℕ) → ℕ
size_of [] width = 1
size_of (a ∷ ls) width = width a * size_of ls width

-- r groups of w numbers
unfoldable pub pass : ℕ → ℕ → Rule → (ℕ → ℤ) → ℕ → ℤ
pass w r rule xs k = rule (λ t. xs (w * (k % r) + t)) (k / r)
