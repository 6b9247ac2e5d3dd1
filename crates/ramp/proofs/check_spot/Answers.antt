-- `ramp::check_spot` meets its contract: the tests of the step, and of a refusal the number by position.
use mathlib.Core.Path.{ap, ◌∙◌}
use Prim.Native.Nat.{ℕ}
use Rattle.lattice.specs.Outcome.{refused}
use Rattle.cell.specs.Cell.{place_at}
use Rattle.query.specs.Parts.{renumbered, position_number}
use Rattle.ramp.specs.Parts.{spot_outcome}
use Rattle.ramp.proofs.check_spot.Goals as goal

pub returns-in-Err : goal.returns-in-Err
unfolding spot_outcome
returns-in-Err c even =
    let s = c.args.spot in
    ap (λ (n : ℕ). refused n c.in-Err.r.place) c.position_reason-reason.ensures
    ∙ ap (renumbered (position_number (place_at s.cell) (place_at s.step))) (c.in-Err.ensures even)

pub returns : goal.returns
unfolding spot_outcome
returns c even = let s = c.args.spot in ap (renumbered (position_number (place_at s.cell) (place_at s.step))) (c.in_default.ensures even)
