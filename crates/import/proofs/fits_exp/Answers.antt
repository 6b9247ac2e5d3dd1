-- `fits_exp` meets its contract: the tests are the definition's.
use mathlib.Core.Path.{◌≡◌, refl, sym, ap, ◌∙◌}
use mathlib.Core.Bool.{true, not}
use native.Mathlib.Omega.{arith}
use borrow.Author.Tests.{eq-eqb, ne_eqb}
use Rattle.import.specs.Bytes.{leads}
use Rattle.import.proofs.BytesLaws.{leads-not}
use Rattle.import.proofs.FitsLaws.{exp-absent, exp-read}
use Rattle.import.proofs.fits_exp.Goals as goal
use Rattle.import.proofs.fits_exp.Goals.{After-is_empty}

led : (c : After-is_empty) → leads 101 69 c.args.part.now ≡ true
led c = sym c.leads_with.ensures ∙ c.if-leads_with.true

pub returns-then-not-is_empty : goal.returns-then-not-is_empty
returns-then-not-is_empty c =
    c.is_empty-then-not-is_empty.ensures
    ∙ sym (exp-read c.args.part.now (led (goal.at.returns-then-not-is_empty c).After-is_empty)
    c.skipped.ensures c.split_digits.ensures.0 c.split_digits.ensures.1
    ∙ rw (sym c.if-not-is_empty.ensures) refl)

pub returns-else-not-is_empty : goal.returns-else-not-is_empty
returns-else-not-is_empty c =
    ap not c.if-not-is_empty.false
    ∙ sym (exp-read c.args.part.now (led (goal.at.returns-else-not-is_empty c).After-is_empty)
    c.skipped.ensures c.split_digits.ensures.0 c.split_digits.ensures.1
    ∙ rw (sym c.if-not-is_empty.ensures) refl)

pub returns-in-empty : goal.returns-in-empty
returns-in-empty c =
    let part = c.args.part.now in
    sym (exp-absent part (leads-not 101 69 part (λ h. absurd (omega arith))) ∙ eq-eqb _ _ (omega arith))

pub returns-in_default : goal.returns-in_default
returns-in_default c =
    sym (exp-absent _ (sym c.leads_with.ensures ∙ c.if-leads_with.false) ∙ ne_eqb _ _ (λ e. absurd (omega arith)))
