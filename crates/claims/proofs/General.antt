-- General facts of whole numbers, what a stage reads, and the step numbers of an accepted table.
use mathlib.Core.Path.{◌≡◌, sym, ap, ◌∙◌}
use mathlib.Core.Bool.{true}
use mathlib.Core.List.{[], ◌∷◌}
use Prim.Native.Nat.{ℕ, zero, suc, ◌+◌, ◌*◌, ◌≤◌, ◌<◌}
use native.Mathlib.Omega.{arith}
use lib.Dec.{leb, le→leb}
use borrow.Author.Tests.{leb-true, leb-false, le-leb}
use lib.IntN.{ℤ, pos, ◌+ℤ◌, ◌-ℤ◌}
use lib.Signed.{◌≤ℤ◌, le_z_yes}
use Rattle.arith.specs.Sum.{times}
use Rattle.arith.proofs.Choices.{split}
use Rattle.arith.proofs.Quote.{quotes, ring! }
use Rattle.lattice.specs.declared.FullShape.{FullShape}
use Rattle.lattice.specs.Outcome.{done}
use Rattle.lattice.specs.Shape.{steps_on, orders, step_number, full_outcome}
use Rattle.lattice.specs.Axes.{Place, axes}
use Rattle.lattice.proofs.ShapeLaws.{shaped}
use Rattle.lattice.proofs.StepLaws.{step_range, full-shape, full-stepped}
use Rattle.hermite.proofs.HermiteLaws.{stage-moved}
use Rattle.hermite.proofs.Sizes.{divisor-some}
use Rattle.evaluate.specs.Evaluate.{Ask, Want, order_on, divisor_on, stage_on}
use Rattle.query.specs.Queries.{ask_in}

pub less : (c u : ℕ) → pos (c + u) -ℤ pos c ≡ pos u
less c u = go (pos c) (pos u)
  where
    go : (c u : ℤ) → c +ℤ u -ℤ c ≡ u
    go c u = ring! (c ∷ u ∷ []) (search quotes depth 40) tt

pub rejoined : (z : ℤ) (c u : ℕ) → z -ℤ pos c ≡ pos u → pos (c + u) ≡ z
rejoined z c u e = ap (λ x. pos c +ℤ x) (sym e) ∙ go (pos c) z
  where
    go : (c z : ℤ) → c +ℤ (z -ℤ c) ≡ z
    go c z = ring! (c ∷ z ∷ []) (search quotes depth 40) tt

pub le-pos : {a b : ℕ} → a ≤ b → pos a ≤ℤ pos b
le-pos {a} {b} h = le_z_yes (le→leb a b h)

-- two tests that hold together
pub leb-same : (a b c d : ℕ) → (a ≤ b → c ≤ d) → (c ≤ d → a ≤ b) → leb a b ≡ leb c d
leb-same a b c d h k =
    split (leb a b) (λ e. e ∙ sym (le-leb c d (h (leb-true a b e))))
    (λ e. e ∙ split (leb c d) (λ f. absurd (apart (leb-false a b e) (k (leb-true c d f)))) sym)
  where
    apart : b < a → a ≤ b → ⊥
    apart l m = omega arith

-- a stage reads the numbers of its cell
pub same_sum : (q : Ask) (a : ℕ) (x y : ℕ → ℤ)
    → ((t : ℕ) → t < 2 * q.m → x (q.m * q.cell a + t) ≡ y (q.m * q.cell a + t)) → (j : ℕ) → stage_on q a x j ≡ stage_on q a y j
unfolding stage_on
same_sum q a x y e j = stage-moved (order_on q.want a) q.m (q.N a) (q.cell a) (q.cell a) (q.step a) x y e j j

-- in a table that 1, 2, 3 and 26 do not refuse a used axis has steps, and its stage a divisor
module _ (t : FullShape) (full : full_outcome t ≡ done tt) where
  pub number-used : (a : ℕ) → a < t.shape.axes → step_number (steps_on t a) ≡ true
  number-used a l = (full-stepped t full).used a (let h = (shaped t.shape (full-shape t full)).axes-high in omega arith) l

  pub steps-some : (a : ℕ) → a < t.shape.axes → 0 < steps_on t a
  steps-some a l = let h = (step_range (steps_on t a) (number-used a l)).0 in omega arith

  pub divisors : (want : Want) (cell step : Place) (a : ℕ) → a < t.shape.axes → 0 < divisor_on (ask_in t want cell step) a
  unfolding divisor_on
  divisors want cell step a l = divisor-some (order_on want a) (orders t.shape) (steps_on t a) (steps-some a l)

-- a product of numbers that are not 0
pub times-used : (n : ℕ) (f : ℕ → ℕ) → ((a : ℕ) → a < n → 0 < f a) → 0 < times (axes n) f
unfolding times axes
times-used zero f h = omega arith
times-used (suc n) f h = both (f n) (times (axes n) f) (h n (omega arith)) (times-used n f (λ a l. h a (omega arith)))
  where
    both : (x y : ℕ) → 0 < x → 0 < y → 0 < x * y
    both zero y h k = elim h [ ]
    both (suc x) zero h k = elim k [ ]
    both (suc x) (suc y) h k = omega arith
