-- A dose, a slope or a curvature at step u of a cell: the exact value, the rounded stages, and whether they dropped anything.
use Rattle.std.specs.Prelude.{ℕ, ◌+◌, ◌*◌, ◌-◌, Bool, true, ◌&&◌, List, [], ◌∷◌, eqb, ℤ, pos, ◌*ℤ◌}
use Rattle.arith.specs.Int.{Rounding, divides}
use Rattle.arith.specs.Sum.{sum, product, times}
use Rattle.arith.specs.Choice.{pick, all}
use Rattle.lattice.specs.declared.Shape.{Shape}
use Rattle.lattice.specs.Shape.{orders}
use Rattle.lattice.specs.Axes.{Place, Field, Rule, origin, put, along, sweep, axes, without}
use Rattle.hermite.specs.Hermite.{steps, weight_at, divisor, stage_sum}
use Rattle.cell.specs.Coefficients.{coefficients}

-- what is asked for: a dose, or a derivative of some order along an axis
pub data Want : Type 0 where
  dose : Want
  derivative_along : (order axis : ℕ) → Want

-- a slope is the derivative of order 1, a curvature that of order 2
abbrev pub slope_along : ℕ → Want
slope_along l = derivative_along 1 l

abbrev pub curvature_along : ℕ → Want
curvature_along l = derivative_along 2 l

-- the order of the derivative
unfoldable pub order_wanted : Want → ℕ
order_wanted dose = 0
order_wanted (derivative_along order l) = order

-- and on each axis
unfoldable pub order_on : Want → ℕ → ℕ
order_on dose a = 0
order_on (derivative_along order l) a = pick (eqb a l) order 0

-- the axis that is worked off last
unfoldable pub last_axis : ℕ → Want → ℕ
last_axis n dose = n - 1
last_axis n (derivative_along order l) = l

-- m, the number of axes, what is asked for, and on each axis the number N of steps, the cell and the in-cell step
pub record Ask : Type 0 where
  pub m : ℕ
  pub n : ℕ
  pub want : Want
  pub N : Place
  pub cell : Place
  pub step : Place

-- ---- exact: the sum over all coefficients of coefficient times weights, and its divisor

-- the weight of coefficient i on one axis
unfoldable pub weight_on : Ask → ℕ → ℕ → ℤ
weight_on q a i = weight_at (order_on q.want a) q.m (q.N a) (q.step a) i

-- the sum over places 0 to w - 1 of each axis
unfoldable pub sum_over : List ℕ → ℕ → Field → Field
sum_over ls w = sweep ls (λ a x j. sum w x)

unfoldable pub exact_sum : Ask → Field → ℤ
exact_sum q g =
    sum_over (axes q.n) (2 * q.m)
    (λ i. coefficients q.m q.n q.cell g i *ℤ product (axes q.n) (λ a. weight_on q a (i a))) origin

unfoldable pub divisor_on : Ask → ℕ → ℕ
divisor_on q a = divisor (order_on q.want a) q.m (q.N a)

unfoldable pub exact_divisor : Ask → ℕ
exact_divisor q = times (axes q.n) (divisor_on q)

-- ---- the rounded stages, on numbers in eighths of a unit

-- a stage before its rounding
unfoldable pub stage_on : Ask → ℕ → Rule
stage_on q a = stage_sum (order_on q.want a) q.m (q.N a) (q.cell a) (q.step a)

-- every stage but the last rounds to an eighth
unfoldable pub to_eighth : Rounding → Ask → ℕ → Rule
to_eighth round q a x j = round (stage_on q a x j) (divisor_on q a)

-- the last rounds to a unit
unfoldable pub to_unit : Rounding → Ask → ℕ → Rule
to_unit round q a x j = round (stage_on q a x j) (8 * divisor_on q a)

unfoldable pub in_eighths : Field → Field
in_eighths g p = pos 8 *ℤ g p

-- the axes before the last; `sweep` works them off in the order x, y, z
unfoldable pub before : Ask → List ℕ
before q = without (last_axis q.n q.want) (axes q.n)

unfoldable pub answer_by : Rounding → Ask → Field → ℤ
answer_by round q g =
    along (last_axis q.n q.want) (to_unit round q (last_axis q.n q.want))
    (sweep (before q) (to_eighth round q) (in_eighths g)) origin

-- ---- the mark: no stage dropped anything

-- of the number at place p after the stages of a list of axes: its sum is a multiple of its divisor, and nothing was dropped of any number
-- that it is made of, whatever its weight
unfoldable pub clean : Rounding → Ask → List ℕ → Field → Place → Bool
clean round q [] g p = true
clean round q (a ∷ ls) g p =
    divides (divisor_on q a) (along a (stage_on q a) (sweep ls (to_eighth round q) g) p)
    && all (2 * q.m) (λ t. clean round q ls g (put a (q.m * q.cell a + t) p))

-- of the answer
unfoldable pub exact_by : Rounding → Ask → Field → Bool
exact_by round q g =
    let l = last_axis q.n q.want in
    divides (8 * divisor_on q l) (along l (stage_on q l) (sweep (before q) (to_eighth round q) (in_eighths g)) origin)
    && all (2 * q.m) (λ t. clean round q (before q) (in_eighths g) (put l (q.m * q.cell l + t) origin))

-- ---- what is asked of a table of shape s

unfoldable pub ask_at : Shape → Want → Place → Place → Ask
ask_at s want cell step = record { m = orders s; n = s.axes; want = want; N = λ a. steps; cell = cell; step = step }

-- where a cell has N a steps on axis a; `ask_at` is the one with 256 steps
abbrev pub ask_of : Shape → Want → Place → Place → Place → Ask
ask_of s want N cell step = record { m = orders s; n = s.axes; want = want; N = N; cell = cell; step = step }
