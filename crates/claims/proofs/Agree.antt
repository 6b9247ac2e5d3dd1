-- Two cells that contain a point give the same answer there, for every rounding: on each axis the stage depends on the point and not on the
-- cell.
use mathlib.Core.Path.{◌≡◌, ap, ◌∙◌}
use mathlib.Core.List.{List}
use Prim.Native.Nat.{ℕ, ◌+◌, ◌*◌, ◌≤◌, ◌<◌}
use Rattle.arith.specs.Int.{Rounding}
use Rattle.lattice.specs.Axes.{Place, Field, Rule, origin, along, sweep, axes, without}
use Rattle.lattice.proofs.Along.{sweep-rules}
use Rattle.evaluate.proofs.AnswerLaws.{order-smooth, each-before}
use Rattle.hermite.proofs.StagePoint.{stage-point}
use Rattle.evaluate.specs.Evaluate.{Ask, order_on, last_axis, divisor_on, stage_on, to_eighth, to_unit, in_eighths, before, answer_by}
use Rattle.claims.proofs.Distance.{Proper}

-- the same question of another cell and step
abbrev pub elsewhere : Ask → Place → Place → Ask
elsewhere q cell step = record { m = q.m; n = q.n; want = q.want; N = q.N; cell = cell; step = step }

module _ (round : Rounding) (q : Ask) (ok : Proper q) (cell step : Place) (inside : (a : ℕ) → a < q.n → step a ≤ q.N a)
    (same : (a : ℕ) → a < q.n → q.N a * q.cell a + q.step a ≡ q.N a * cell a + step a) where
  stage-same : (a : ℕ) → a < q.n → stage_on q a ≡ stage_on (elsewhere q cell step) a
  unfolding stage_on
  stage-same a l = stage-point (order_on q.want a) q.m (q.N a) (q.cell a) (cell a) (q.step a) (step a) ok.m-low ok.m-high
      (order-smooth q.want a q.m ok.smooth) (ok.some a l) (ok.inside a l) (inside a l) (same a l)

  pub agreement : (g : Field) → answer_by round q g ≡ answer_by round (elsewhere q cell step) g
  unfolding answer_by before to_eighth to_unit divisor_on
  agreement g =
      ap (λ (R : Rule). along l (rounded R (8 * divisor_on q l)) (sweep ls (to_eighth round q) (in_eighths g)) origin)
      (stage-same l ok.last)
      ∙ ap (λ (f : Field). along l (to_unit round (elsewhere q cell step) l) f origin)
      (sweep-rules ls (to_eighth round q) (to_eighth round (elsewhere q cell step)) (in_eighths g)
      (each-before q Same (λ a k n. ap (λ (R : Rule). rounded R (divisor_on q a)) (stage-same a k))))
    where
      l : ℕ
      l = last_axis q.n q.want

      ls : List ℕ
      ls = without l (axes q.n)

      rounded : Rule → ℕ → Rule
      rounded R d x j = round (R x j) d

      Same : ℕ → Type 0
      Same a = to_eighth round q a ≡ to_eighth round (elsewhere q cell step) a
