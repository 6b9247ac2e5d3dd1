-- Straight data, request U4 of document 02: where the samples are a sum of a constant and multiples of x, y, z, xy, xz, yz and xyz, x, y
-- and z being node indices, the exact interpolant is that expression everywhere in the table, and for a slope its partial derivative; its
-- curvature is 0. So every dose, slope and curvature is within the known distance of it.
use Rattle.std.specs.Prelude.{◌≡◌, List, [], ◌∷◌, ℕ, zero, suc, ◌+◌, ◌*◌, ◌≤◌, ◌<◌, ℤ, pos, negsuc, ◌+ℤ◌, ◌*ℤ◌}
use Rattle.lattice.specs.declared.Shape.{Shape}
use Rattle.lattice.specs.declared.FullShape.{FullShape}
use Rattle.lattice.specs.Outcome.{done}
use Rattle.lattice.specs.Shape.{shape_of, count, steps_on, Shaped}
use Rattle.lattice.specs.Axes.{Place, OnUsed}
use Rattle.lattice.specs.Records.{samples_field}
use Rattle.cell.specs.Cell.{Accepted}
use Rattle.estimate.specs.Estimate.{table_records}
use Rattle.evaluate.specs.Evaluate.{Want, dose, derivative_along, slope_along, order_wanted, exact_sum, exact_divisor, ask_of}
use Rattle.query.specs.Queries.{Position}
use Rattle.claims.specs.Third.{Query, point_of, both_calls, Askable, allowed_distance, WithinDistance}
use Rattle.claims.specs.Examples.{Table, answer_to, Row, ◌gives◌}

-- ---- the expression

-- the factors of 1, x, y, z, xy, xz, yz and xyz. Whole factors lose nothing: they are sums and differences of samples, of those at the
-- nodes with indices 0 and 1, as f(1,0,0) − f(0,0,0) for x and f(1,1,0) − f(1,0,0) − f(0,1,0) + f(0,0,0) for xy
pub record Expression : Type 0 where
  pub one : ℤ
  pub x : ℤ
  pub y : ℤ
  pub z : ℤ
  pub xy : ℤ
  pub xz : ℤ
  pub yz : ℤ
  pub xyz : ℤ

-- its value at x = X/A, y = Y/B, z = Z/C, multiplied by A·B·C
unfoldable pub value_of : Expression → ℤ → ℤ → ℤ → ℤ → ℤ → ℤ → ℤ
value_of e A B C X Y Z =
    e.one *ℤ (A *ℤ B *ℤ C) +ℤ e.x *ℤ (X *ℤ B *ℤ C) +ℤ e.y *ℤ (A *ℤ Y *ℤ C) +ℤ e.z *ℤ (A *ℤ B *ℤ Z)
    +ℤ e.xy *ℤ (X *ℤ Y *ℤ C) +ℤ e.xz *ℤ (X *ℤ B *ℤ Z) +ℤ e.yz *ℤ (A *ℤ Y *ℤ Z) +ℤ e.xyz *ℤ (X *ℤ Y *ℤ Z)

-- at position p, where a cell has N a steps on axis a
abbrev pub value_at : Expression → Place → Position → ℤ
value_at e N p = value_of e (pos (N 0)) (pos (N 1)) (pos (N 2)) (p 0) (p 1) (p 2)

-- its partial derivative along an axis, which is such an expression too
unfoldable pub derivative : ℕ → Expression → Expression
derivative zero e =
    record { one = e.x; x = pos 0; y = e.xy; z = e.xz; xy = pos 0; xz = pos 0; yz = e.xyz; xyz = pos 0 }
derivative (suc zero) e =
    record { one = e.y; x = e.xy; y = pos 0; z = e.yz; xy = pos 0; xz = e.xyz; yz = pos 0; xyz = pos 0 }
derivative (suc (suc a)) e =
    record { one = e.z; x = e.xz; y = e.yz; z = pos 0; xy = e.xyz; xz = pos 0; yz = pos 0; xyz = pos 0 }

-- and of any order
unfoldable pub derivative_of : (order axis : ℕ) → Expression → Expression
derivative_of zero l e = e
derivative_of (suc order) l e = derivative l (derivative_of order l e)

-- what is wanted of it: itself for a dose, its derivative of that order for a derivative
unfoldable pub wanted_of : Want → Expression → Expression
wanted_of dose e = e
wanted_of (derivative_along order l) e = derivative_of order l e

-- the samples are the expression at every node of the table
abbrev pub Straight : Shape → List ℤ → Expression → Type 0
Straight s xs e =
    (p : Place) → OnUsed s.axes (λ a i. i < count s a) p → samples_field s xs p ≡ value_at e (λ a. 1) (λ a. pos (p a))

-- ---- the exact interpolant, and what the calls give

-- at every step of every accepted cell, for every number of steps: the exact value is that of the expression, multiplied out
abbrev pub ExactlyStraight : Type 0
ExactlyStraight =
    (s : Shape) (xs : List ℤ) (e : Expression) (want : Want) (N cell u : Place)
    → Shaped s → Straight s xs e → Askable s want → Accepted s cell → OnUsed s.axes (λ a i. i ≤ N a) u
    → exact_sum (ask_of s want N cell u) (table_records s xs) *ℤ pos (N 0 * N 1 * N 2)
    ≡ value_at (wanted_of want e) N (λ a. pos (N a * cell a + u a)) *ℤ pos (exact_divisor (ask_of s want N cell u))

-- every dose and derivative that the two calls give is within the distance of the third demand of it
abbrev pub NearlyStraight : Type 0
NearlyStraight =
    (t : FullShape) (xs old : List ℤ) (e : Expression) (want : Want) (q : Query) (v : ℤ)
    → Straight t.shape xs e → both_calls t xs old want q ≡ done v
    → WithinDistance (allowed_distance (order_wanted want) t.shape.axes) v (value_at (wanted_of want e) (steps_on t) (point_of t q))
    (steps_on t 0 * steps_on t 1 * steps_on t 2)

-- ---- an example

-- no factor is 0
abbrev pub saddle : Expression
saddle = record { one = pos 100; x = pos 40; y = negsuc 29; z = pos 20; xy = pos 8; xz = negsuc 15; yz = pos 16; xyz = pos 32 }

-- its samples at 3 by 2 by 2 nodes
abbrev pub saddle_table : ℕ → Table
saddle_table degree =
    record {
      shape = shape_of 3 degree (3 ∷ 2 ∷ 2 ∷ []);
      samples =
          pos 100 ∷ pos 140 ∷ pos 180 ∷ pos 70 ∷ pos 118 ∷ pos 166 ∷ pos 120 ∷ pos 144 ∷ pos 168 ∷ pos 106 ∷ pos 170 ∷ pos 234 ∷ [];
    }

-- x = 5/4, y = 1/2, z = 3/4: there the expression is 161, its derivative along y 22
abbrev pub in_saddle : List ℤ
in_saddle = pos 320 ∷ pos 128 ∷ pos 192 ∷ []

unfoldable pub saddle_rows : List Row
saddle_rows =
    (answer_to (saddle_table 3) dose in_saddle gives pos 161 ∷ [])
    ∷ (answer_to (saddle_table 3) (slope_along 1) in_saddle gives pos 22 ∷ []) ∷ []
