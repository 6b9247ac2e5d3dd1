-- `query::position_reason` meets its contract: 22 for 11 where the position is below 0, else the reason stays.
use mathlib.Core.Path.{◌≡◌, refl, sym, ap, ◌∙◌}
use mathlib.Core.Bool.{true}
use lib.Dec.{eqb}
use Rattle.lattice.specs.declared.refusal.Reason.{Reason}
use Rattle.lattice.specs.declared.refusal.Reason.TheVariants.{PositionBeyond}
use Rattle.lattice.specs.Answers.{number_of}
use Rattle.cell.specs.Cell.{place_at}
use Rattle.query.proofs.Renumbered.{position-below, position-kept}
use Rattle.query.proofs.position_reason.Goals as goal

-- no other refusal has that number
beyond-alone : (r : Reason) → eqb (number_of r) 11 ≡ true → r ≡ PositionBeyond
beyond-alone PositionBeyond h = refl
beyond-alone r h = cc

pub returns-then-is_below_zero : goal.returns-then-is_below_zero
returns-then-is_below_zero c =
    let a = c.args in
    position-below (place_at a.cell) (place_at a.step) (number_of a.reason) a.axis
    (ap (λ (r : Reason). eqb (number_of r) 11) c.in-PositionBeyond.is) (sym c.is_below_zero.ensures ∙ c.if-is_below_zero.true)

pub returns-else-is_below_zero : goal.returns-else-is_below_zero
returns-else-is_below_zero c =
    let a = c.args in
    sym (position-kept (place_at a.cell) (place_at a.step) (number_of a.reason) a.axis
    (λ e. sym c.is_below_zero.ensures ∙ c.if-is_below_zero.false))

pub returns-in_default : goal.returns-in_default
returns-in_default c =
    let a = c.args in
    sym (position-kept (place_at a.cell) (place_at a.step) (number_of a.reason) a.axis
    (λ e. absurd (c.in_default.not-PositionBeyond (beyond-alone a.reason e))))
