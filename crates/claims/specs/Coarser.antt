-- Coarser axes, request U11 of document 02: at step u of an axis of N steps a table answers as the one of 256 steps does at u·256/N.
use Rattle.std.specs.Prelude.{◌≡◌, true, List, ◌*◌, ◌/◌, ℤ, pos, ◌*ℤ◌}
use Rattle.lattice.specs.declared.FullShape.{FullShape}
use Rattle.lattice.specs.Outcome.{done, passed}
use Rattle.lattice.specs.Shape.{full_shape, steps_on, full_outcome, finest_steps}
use Rattle.lattice.specs.Axes.{Place, Field}
use Rattle.evaluate.specs.Evaluate.{Want, exact_sum, exact_divisor}
use Rattle.query.specs.Queries.{Position, position_at, ask_in, by_cell, by_position, cell_mark}

-- the table of the same shape and edition that has 256 steps on each used axis
abbrev pub finest_of : FullShape → FullShape
finest_of t = full_shape t.shape (finest_steps t.shape.axes) t.second_edition

-- in-cell steps, and a position, in steps of 256
abbrev pub finer_steps : FullShape → Place → Place
finer_steps t u a = 256 / steps_on t a * u a

abbrev pub finer_position : FullShape → Position → Position
finer_position t p a = pos (256 / steps_on t a) *ℤ p a

-- the same number or the same refusal; the same mark of an answer; and the same exact value, multiplied out
pub record AsFinest (t : FullShape) (rs : List ℤ) (want : Want) : Type 0 where
  pub by-position : (p : List ℤ) → by_position t rs want (position_at p) ≡ by_position (finest_of t) rs want
      (finer_position t (position_at p))
  pub by-cell : (cell u : Place) → by_cell t rs want cell u ≡ by_cell (finest_of t) rs want cell (finer_steps t u)
  pub mark : (cell u : Place) → passed (by_cell t rs want cell u) ≡ true
      → cell_mark t rs want cell u ≡ cell_mark (finest_of t) rs want cell (finer_steps t u)
  pub exact : (cell u : Place) (g : Field) → let fine = ask_in (finest_of t) want cell (finer_steps t u) in
      exact_sum (ask_in t want cell u) g *ℤ pos (exact_divisor fine) ≡ exact_sum fine g *ℤ pos (exact_divisor (ask_in t want cell u))

-- for every table that 1, 2, 3 and 26 do not refuse
abbrev pub CoarserAxes : Type 0
CoarserAxes = (t : FullShape) (rs : List ℤ) (want : Want) → full_outcome t ≡ done tt → AsFinest t rs want
