-- A quantity on a lattice is a function of its place on each axis. A rule works along one axis; `along` applies it there, `sweep` axis
-- after axis.
use Rattle.std.specs.Prelude.{◌≡◌, ℕ, zero, suc, ◌≤◌, ◌<◌, List, [], ◌∷◌, eqb, ℤ}
use Rattle.arith.specs.Choice.{pick}

-- a place on each axis; axes 0, 1, 2 are x, y, z
abbrev pub Place : Type 0
Place = ℕ → ℕ

abbrev pub Field : Type 0
Field = Place → ℤ

-- a rule makes of the numbers along an axis other numbers along it
abbrev pub Rule : Type 0
Rule = (ℕ → ℤ) → ℕ → ℤ

-- place 0 on every axis
abbrev pub origin : Place
origin a = 0

-- the place p, moved to t on one axis
unfoldable pub put : ℕ → ℕ → Place → Place
put axis t p a = pick (eqb a axis) t (p a)

abbrev pub along : ℕ → Rule → Field → Field
along axis rule g p = rule (λ t. g (put axis t p)) (p axis)

-- axis after axis: the last of the list is worked off first
unfoldable pub sweep : List ℕ → (ℕ → Rule) → Field → Field
sweep [] rule g = g
sweep (a ∷ ls) rule g = along a (rule a) (sweep ls rule g)

-- the axes below n: `sweep` takes them in the order x, y, z
unfoldable pub axes : ℕ → List ℕ
axes zero = []
axes (suc n) = n ∷ axes n

-- a list without one axis
unfoldable pub without : ℕ → List ℕ → List ℕ
without l [] = []
without l (a ∷ ls) = pick (eqb a l) (without l ls) (a ∷ without l ls)

-- on each used axis, and place 0 on an unused one
pub record OnUsed (n : ℕ) (X : ℕ → ℕ → Type 0) (p : Place) : Type 0 where
  pub used : (a : ℕ) → a < n → X a (p a)
  pub unused : (a : ℕ) → n ≤ a → p a ≡ 0
