-- `query::told` meets its contract: by cell the refusal stays.
use mathlib.Core.Path.{refl, sym, ap, ◌∙◌}
use mathlib.Core.Bool.{Bool}
use Rattle.lattice.specs.Answers.{number_of}
use Rattle.cell.specs.Cell.{place_at}
use Rattle.query.specs.Parts.{number_by}
use Rattle.query.proofs.Renumbered.{number-by-cell, number-by-position}
use Rattle.query.proofs.told.Goals as goal

pub returns-then-cellwise : goal.returns-then-cellwise
returns-then-cellwise c =
    let a = c.args in (
      sym (ap (λ (b : Bool). number_by b (place_at a.q.cell) (place_at a.q.step) (number_of a.r.reason) a.r.place) c.if-cellwise.true
          ∙ number-by-cell (place_at a.q.cell) (place_at a.q.step) (number_of a.r.reason) a.r.place),
      refl,
    )

pub returns : goal.returns
returns c =
    let a = c.args in (
      c.position_reason-reason.ensures
          ∙ sym (ap (λ (b : Bool). number_by b (place_at a.q.cell) (place_at a.q.step) (number_of a.r.reason) a.r.place) c.if-cellwise.false
          ∙ number-by-position (place_at a.q.cell) (place_at a.q.step) (number_of a.r.reason) a.r.place),
      refl,
    )
