-- `query::is_below_zero` meets its contract: the test of the axis's own cell and step; on no axis is nothing.
use mathlib.Core.Path.{◌≡◌, sym, ap, ap₂, ◌∙◌}
use mathlib.Core.Bool.{false}
use mathlib.Core.List.{List}
use Prim.Native.Nat.{ℕ, ◌+◌, ◌*◌, ◌^◌, ◌≤◌}
use native.Mathlib.Omega.{arith}
use lib.Dec.{leb}
use borrow.Author.Tests.{ne_eqb}
use Rattle.arith.specs.Choice.{pick}
use Rattle.hermite.specs.Hermite.{steps}
use Rattle.cell.specs.Cell.{place_at}
use Rattle.cell.proofs.CellLaws.{place-beyond}
use Rattle.query.specs.Parts.{below}
use Rattle.query.proofs.is_below_zero.Goals as goal

pub returns-then-axis-eq0 : goal.returns-then-axis-eq0
unfolding below place_at pick
returns-then-axis-eq0 c = let a = c.args in
    c.is_below.ensures ∙ ap (below (place_at a.cell) (place_at a.step)) (sym c.if-axis-eq0.true)

pub returns-then-axis-eq1 : goal.returns-then-axis-eq1
unfolding below place_at pick
returns-then-axis-eq1 c = let a = c.args in
    c.is_below-then-axis-eq1.ensures ∙ ap (below (place_at a.cell) (place_at a.step)) (sym c.if-axis-eq1.true)

pub returns-then-axis-eq2 : goal.returns-then-axis-eq2
unfolding below place_at pick
returns-then-axis-eq2 c = let a = c.args in
    c.is_below-then-axis-eq2.ensures ∙ ap (below (place_at a.cell) (place_at a.step)) (sym c.if-axis-eq2.true)

nowhere : (cell step : List ℕ) (a : ℕ) → 3 ≤ a → false ≡ below (place_at cell) (place_at step) a
unfolding below
nowhere cell step a l = sym (ap₂ (λ (i j : ℕ). leb (2 ^ 31) (steps * i + j)) (place-beyond cell a l) (place-beyond step a l))

pub returns-else-axis-eq2 : goal.returns-else-axis-eq2
returns-else-axis-eq2 c =
    let b = c in
    let a = b.args in
    ne_eqb a.axis 2 c.if-axis-eq2.false ∙ nowhere a.cell a.step a.axis (omega
    (arith, b.if-axis-eq0.false, b.if-axis-eq1.false, c.if-axis-eq2.false))
