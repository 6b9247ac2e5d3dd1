-- What the inner functions state, on 256 steps: a position below 0 by its cell and in-cell step, refusals under another number, and numbers
-- of coarser steps.
use Rattle.std.specs.Prelude.{ℕ, ◌+◌, ◌*◌, ◌-◌, ◌/◌, ◌^◌, ◌≤◌, ◌<◌, ◌≡◌, Bool, true, false, ◌&&◌, List, leb, ltb, eqb, ℤ, pos, negsuc, nat_abs, get_or}
use Rattle.std.specs.Int.Signed.{non_neg}
use Rattle.arith.specs.Choice.{pick}
use Rattle.lattice.specs.declared.Shape.{Shape}
use Rattle.lattice.specs.declared.FullShape.{FullShape}
use Rattle.lattice.specs.Outcome.{Outcome, done, refused}
use Rattle.lattice.specs.Buffer.{at}
use Rattle.lattice.specs.Shape.{count, steps_on, full_shape, full_outcome, finest_steps}
use Rattle.lattice.specs.Axes.{Place}
use Rattle.hermite.specs.Hermite.{steps}
use Rattle.query.specs.Queries.{cell_of}

-- the same outcome, a refusal with the number that is told by its number and place
abbrev pub renumbered : {A : Type 0} → (ℕ → ℕ → ℕ) → Outcome A → Outcome A
renumbered told (done v) = done v
renumbered told (refused number place) = refused (told number place) place

-- whether the cell and the in-cell step on an axis are those of a position below 0, which stands in two's complement
unfoldable pub below : Place → Place → ℕ → Bool
below cell step a = leb (2 ^ 31) (steps * cell a + step a)

-- by position: 22 for 11 where the position is below 0
unfoldable pub position_number : Place → Place → ℕ → ℕ → ℕ
position_number cell step number place = pick (eqb number 11 && below cell step place) 22 number

-- as it is told by cell, where nothing is below 0, or by position
unfoldable pub number_by : (by_cell : Bool) → Place → Place → ℕ → ℕ → ℕ
number_by by_cell cell step number place = pick by_cell number (position_number cell step number place)

-- the table of shape s that has 256 steps on each used axis
abbrev pub finest : Shape → (second_edition : Bool) → FullShape
finest s second_edition = full_shape s (finest_steps s.axes) second_edition

-- how many of 256 steps a step is, of k for a cell of an axis that a table of n axes uses; 1 on an unused axis
unfoldable pub factor_for : ℕ → ℕ → ℕ → ℕ
factor_for n k a = pick (ltb a n) (256 / k) 1

abbrev pub factor_on : FullShape → ℕ → ℕ
factor_on t a = factor_for t.shape.axes (steps_on t a) a

-- the last position of the largest table on 256 steps
abbrev pub farthest : ℕ
farthest = 16128

-- a number of steps in finer ones, `factor` for one step, as far as any table reaches; what lies beyond stays there
unfoldable pub scaled : ℕ → ℕ → ℕ
scaled factor v = pick (leb v farthest) (factor * v) v

-- of a position; one below 0 stays
unfoldable pub scaled_position : ℕ → ℤ → ℤ
scaled_position factor (pos n) = pos (scaled factor n)
scaled_position factor (negsuc n) = negsuc n

-- three numbers of steps in steps of 256, which a table is asked for as the one that has 256 steps
pub record Finest (t : FullShape) (from to : List ℕ) : Type 0 where
  pub same : full_outcome (finest t.shape t.second_edition) ≡ full_outcome t
  pub factor : ℕ → ℕ
  pub small : (a : ℕ) → a < 3 → factor a ≤ 16
  pub each : (a : ℕ) → a < 3 → get_or to a 0 ≡ scaled (factor a) (get_or from a 0)
  pub right : full_outcome t ≡ done tt → (a : ℕ) → a < 3 → factor a ≡ factor_on t a

-- the cell of a position on an axis of 256 steps; 0 on an unused axis
unfoldable pub cell_on : Shape → ℕ → ℕ → ℕ
cell_on s a p = pick (ltb a s.axes) (cell_of steps (count s a) p) 0

-- the cells and in-cell steps of three positions, on 256 steps
pub record InCells (s : Shape) (at cell step : List ℕ) : Type 0 where
  pub on_x : get_or cell 0 0 ≡ cell_of steps (count s 0) (get_or at 0 0)
  pub on_y : get_or cell 1 0 ≡ cell_on s 1 (get_or at 1 0)
  pub on_z : get_or cell 2 0 ≡ cell_on s 2 (get_or at 2 0)
  pub rest : (a : ℕ) → a < 3 → get_or step a 0 ≡ get_or at a 0 - 256 * get_or cell a 0

-- b stands for the position p in two's complement: p itself, or a number of 2^31 or more where p is below 0
pub record StandsFor (p : ℤ) (b : ℕ) : Type 0 where
  pub low : non_neg p ≡ true → (b ≡ nat_abs p) × (b < 2 ^ 31)
  pub high : non_neg p ≡ false → 2 ^ 31 ≤ b

-- on three axes
abbrev pub Stand : List ℤ → List ℕ → Type 0
Stand p b = (a : ℕ) → a < 3 → StandsFor (at p a) (get_or b a 0)
