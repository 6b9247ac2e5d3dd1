-- Queries by float: each of three floats, in cells, becomes the step nearest to its exact value times its axis's step number, halves up.
use Rattle.std.specs.Prelude.{Bool, not, ◌&&◌, ◌||◌, List, ℕ, zero, suc, ltb, eqb, Float, ℤ, pos, negsuc, Option, Some, None}
use Rattle.std.specs.Float.Ieee.Scale.{finite}
use Rattle.arith.specs.Choice.{pick}
use Rattle.lattice.specs.declared.FullShape.{FullShape}
use Rattle.lattice.specs.Outcome.{Outcome, Check, refuse_unless, first, first_of}
use Rattle.lattice.specs.Shape.{steps_on}
use Rattle.std.specs.Option.{is_some}
use Rattle.floats.specs.Step.{step}
use Rattle.evaluate.specs.Evaluate.{Want}
use Rattle.query.specs.Queries.{Position, asked_outcome, position_outcome, position_cell, position_step, reading}
use Rattle.float_query.specs.declared.FloatPosition.{FloatPosition}

-- the float on each axis
unfoldable pub floats_at : FloatPosition → ℕ → Float
floats_at p zero = p.x
floats_at p (suc zero) = p.y
floats_at p (suc (suc a)) = p.z

-- the number of steps that one cell is for a float: the axis's own, 256 on an unused axis
unfoldable pub float_steps : FullShape → ℕ → ℕ
float_steps t a = pick (ltb a t.shape.axes) (steps_on t a) 256

-- the steps that three floats become
unfoldable pub steps_of : FullShape → (ℕ → Float) → Position
steps_of t x a = pick (ltb a 3) (step (float_steps t a) (x a)) (pos 0)

-- 10: NaN or infinite; then 23, 22, 11, which look at the step; place is the axis
unfoldable pub float_outcome : FullShape → (ℕ → Float) → ℕ → Check
float_outcome t x a = first (refuse_unless (finite (x a)) 10 a) (position_outcome t (steps_of t x) a)

-- on each axis 10, 23, 22, 11; then 5
unfoldable pub by_float : FullShape → List ℤ → Want → (ℕ → Float) → Outcome ℤ
by_float t rs want x =
    first (asked_outcome t rs want)
    (first (first_of 3 (float_outcome t x)) (reading t rs want (position_cell t (steps_of t x)) (position_step t (steps_of t x))))

-- ---- the query by position that answers it

-- the step held in 32 bits of a float, below 0 where it is not finite
unfoldable pub held_step : Option ℤ → ℤ
held_step (Some z) = z
held_step None = negsuc 0

-- whether the float on an axis is finite
unfoldable pub finite_on : Option ℤ → Option ℤ → Option ℤ → ℕ → Bool
finite_on x y z zero = is_some x
finite_on x y z (suc zero) = is_some y
finite_on x y z (suc (suc a)) = is_some z

-- 10 for 22 and 23 on an axis whose float is not finite
unfoldable pub ten_number : (ℕ → Bool) → ℕ → ℕ → ℕ
ten_number finite number place = pick ((eqb number 22 || eqb number 23) && not (finite place)) 10 number
