-- `query::read_finest` meets its contract: the tests, and then what is read of the cell.
use mathlib.Core.Path.{◌≡◌, refl, sym, ap, ap₂, subst, ◌∙◌}
use mathlib.Core.Bool.{Bool, true, false}
use mathlib.Core.List.{List}
use lib.IntN.{ℤ}
use Rattle.arith.proofs.Choices.{clash}
use Rattle.std.specs.Prelude.{Err}
use Rattle.lattice.specs.declared.FullShape.{FullShape}
use Rattle.lattice.specs.Answers.{number_of}
use Rattle.lattice.specs.Axes.{Place}
use Rattle.lattice.specs.Outcome.{done, refused}
use Rattle.cell.specs.Cell.{place_at}
use Rattle.evaluate.specs.Evaluate.{Want}
use Rattle.evaluate.specs.Wants.{wanted}
use Rattle.evaluate.specs.declared.Derivative.{Derivative}
use Rattle.query.specs.declared.CellQuery.{CellQuery}
use Rattle.query.specs.Answers.{Reading, outcome_of_reading, Marks}
use Rattle.query.specs.Parts.{renumbered, number_by, finest, InCells, Stand}
use Rattle.query.specs.Queries.{tested_outcome, reading, by_cell, position_at, by_position, cell_mark, position_mark}
use Rattle.query.proofs.QueryLaws.{by-cell-reads, by-cell-stops}
use Rattle.query.proofs.Renumbered.{kept-reading, number-keeps}
use Rattle.query.proofs.Locate.{spot-told}
use Rattle.query.proofs.read_finest.Goals as goal

never : {A : Type 0} → false ≡ true → A
never e = clash (cc)

-- what is told of the cell and step is told of the query
told-of : (t : FullShape) (rs : List ℤ) (cellwise : Bool) (q there : CellQuery) → there.derivative ≡ q.derivative
    → (cellwise ≡ true → (there.cell ≡ q.cell) × (there.step ≡ q.step))
    → (cellwise ≡ false → InCells t.shape q.step there.cell there.step) → (r : Reading)
    → let f = finest t.shape t.second_edition in
    let cell = place_at there.cell in
    let step = place_at there.step in
    (outcome_of_reading r ≡ renumbered (number_by cellwise cell step) (by_cell f rs (wanted there.derivative) cell step))
    × Marks r (cell_mark f rs (wanted there.derivative) cell step)
    → (cellwise ≡ true → (outcome_of_reading r ≡ by_cell f rs (wanted q.derivative) (place_at q.cell) (place_at q.step))
    × Marks r (cell_mark f rs (wanted q.derivative) (place_at q.cell) (place_at q.step)))
    × (cellwise ≡ false → (p : List ℤ) → Stand p q.step
    → (outcome_of_reading r ≡ by_position f rs (wanted q.derivative) (position_at p))
    × Marks r (position_mark f rs (wanted q.derivative) (position_at p)))
told-of t rs cellwise q there same own found r h =
    let f = finest t.shape t.second_edition in
    let cell = place_at there.cell in
    let step = place_at there.step in
    spot-told cellwise t.shape t.second_edition rs (wanted q.derivative) q.cell q.step there.cell there.step own found r
    (subst (λ (d : Derivative). (outcome_of_reading r ≡ renumbered (number_by cellwise cell step) (by_cell f rs (wanted d) cell step))
    × Marks r (cell_mark f rs (wanted d) cell step)) same h)

-- what is read is what is told
read-of : (f : FullShape) (rs : List ℤ) (cellwise : Bool) (want : Want) (cell step : Place)
    → tested_outcome f rs want cell step ≡ done tt → (r : Reading)
    → outcome_of_reading r ≡ reading f rs want cell step
    → outcome_of_reading r ≡ renumbered (number_by cellwise cell step) (by_cell f rs want cell step)
read-of f rs cellwise want cell step passes r is =
    let number = number_by cellwise cell step in
    is ∙ sym (ap (renumbered number) (by-cell-reads f rs want cell step passes)
    ∙ kept-reading number (number-keeps cell step cellwise) f rs want cell step)

pub returns-in-Err : goal.returns-in-Err
returns-in-Err c =
    let a = c.args in
    let there = c.spot_of-there.result in
    let f = finest a.t.shape a.t.second_edition in
    let cell = place_at there.cell in
    let step = place_at there.step in
    let stops : refused (number_of c.told.result.reason) c.told.result.place
    ≡ renumbered (number_by a.cellwise cell step) (by_cell f a.records.now (wanted there.derivative) cell step) =
    ap₂ refused c.told.ensures.0 c.told.ensures.1
    ∙ sym (ap (renumbered (number_by a.cellwise cell step)) (by-cell-stops f a.records.now (wanted there.derivative) cell step
    (sym (c.in-Err.ensures a.t.second_edition a.records.now refl)))) in
    let both = told-of a.t a.records.now a.cellwise a.q there c.spot_of-there.ensures.same c.spot_of-there.ensures.by_cell
    c.spot_of-there.ensures.by_position (Err c.told.result) (stops, λ given. never given) in
    record { by_cell = both.0; by_position = both.1 }

pub read_cell-requires : goal.read_cell-requires
read_cell-requires c = sym (c.in_default.ensures c.args.t.second_edition c.args.records.now refl)

pub returns : goal.returns
returns c =
    let a = c.args in
    let there = c.spot_of-there.result in
    let both = told-of a.t a.records.now a.cellwise a.q there c.spot_of-there.ensures.same c.spot_of-there.ensures.by_cell
    c.spot_of-there.ensures.by_position c.read_cell.result (
      read-of (finest a.t.shape a.t.second_edition) a.records.now a.cellwise (wanted there.derivative) (place_at there.cell)
          (place_at there.step) (sym (c.in_default.ensures a.t.second_edition a.records.now refl)) c.read_cell.result
          c.read_cell.ensures.result_value,
      c.read_cell.ensures.marks,
    ) in
    record { by_cell = both.0; by_position = both.1 }
