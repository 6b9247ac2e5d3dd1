-- `powers::powers` meets its contract: refused, the slice stays as it is; else it is overwritten by the cell's power coefficients.
use mathlib.Core.Path.{◌≡◌, sym, ap, ◌∙◌}
use mathlib.Core.List.{List}
use Prim.Native.Nat.{ℕ}
use native.Mathlib.Nat.{lt_of_le_of_lt}
use lib.Dec.{lit<}
use lib.IntN.{ℤ}
use lib.ListN.{length}
use Rattle.lattice.specs.declared.FullShape.{FullShape}
use Rattle.lattice.specs.Outcome.{done}
use Rattle.lattice.specs.Buffer.{tabulate, overwrite}
use Rattle.lattice.proofs.OutcomeLaws.{stopped, went-on, at_once, refused-first, first-passed, when-done, when-refused}
use Rattle.cell.specs.Cell.{place_at}
use Rattle.powers.specs.Powers.{request_outcome, powers_outcome, powers_writes}
use Rattle.powers.specs.Parts.{row_sum}
use Rattle.powers.proofs.MatrixLaws.{column-within, load-within}
use Rattle.powers.proofs.CallLaws.{Asked, asked, pair-gathered, list-is}
use Rattle.powers.proofs.powers.Goals as goal

-- not refused before 5
facts : (t : FullShape) (rs out : List ℤ) (cell : List ℕ) → done tt ≡ request_outcome t (length rs) (place_at cell) (length out)
    → Asked t.shape (length rs) (place_at cell) (length out)
facts t rs out cell h = asked t (length rs) cell (length out) (sym h)

pub returns-in_err-check_request-clause-result_value : goal.returns-in_err-check_request-clause-result_value
unfolding powers_outcome
returns-in_err-check_request-clause-result_value c = stopped _ _ _ _ c.from_residual.ensures c.in_err-check_request.ensures

pub returns-in_err-check_request-clause-out_after : goal.returns-in_err-check_request-clause-out_after
unfolding powers_outcome powers_writes
returns-in_err-check_request-clause-out_after c =
    when-refused _ c.args.out.now (refused-first _ (sym c.in_err-check_request.ensures))

pub corners_layout-requires : goal.corners_layout-requires
corners_layout-requires c =
    let f = facts c.args.t c.args.records.now c.args.out.now c.args.cell c.in_ok-check_request.ensures in (f.shape, f.many, f.here)

pub returns-in_err-l-clause-result_value : goal.returns-in_err-l-clause-result_value
unfolding powers_outcome
returns-in_err-l-clause-result_value c =
    went-on _ _ _ c.in_ok-check_request.ensures (at_once _ _ _ c.from_residual-in_err-l.ensures c.in_err-l.ensures.outcome)

pub returns-in_err-l-clause-out_after : goal.returns-in_err-l-clause-out_after
unfolding powers_outcome powers_writes
returns-in_err-l-clause-out_after c =
    when-refused _ c.args.out.now (first-passed _ _ (sym c.in_ok-check_request.ensures) ∙ sym c.in_err-l.ensures.outcome)

pub columns-xs-requires : goal.columns-xs-requires
columns-xs-requires c =
    let a = c.args in
    let h = c.in_ok-l.ensures.layout in
    pair-gathered a.t.shape (place_at a.cell) (length a.out.now) a.records.now
    (facts a.t a.records.now a.out.now a.cell c.in_ok-check_request.ensures) c.in_ok-l.l h.0 h.1

pub by_rows-requires : goal.by_rows-requires
by_rows-requires c =
    let a = c.args in
    let l = c.in_ok-l.l in
    let h = c.in_ok-l.ensures.layout in
    let f = facts a.t a.records.now a.out.now a.cell c.in_ok-check_request.ensures in
    let g = pair-gathered a.t.shape (place_at a.cell) (length a.out.now) a.records.now f l h.0 h.1 in (
      f.roomy,
      λ R q. rw c.matrix-matrix.ensures
          (lt_of_le_of_lt
          (load-within c.columns-xs.result (λ K p. rw (c.columns-xs.ensures K p) (column-within l a.records.now g K p)) R q) (lit< tt)),
    )

pub returns-clause-result_value : goal.returns-clause-result_value
unfolding powers_outcome
returns-clause-result_value c = went-on _ _ _ c.in_ok-check_request.ensures c.in_ok-l.ensures.outcome

pub returns-clause-out_after : goal.returns-clause-out_after
unfolding powers_outcome powers_writes
returns-clause-out_after c =
    let a = c.args in
    let f = facts a.t a.records.now a.out.now a.cell c.in_ok-check_request.ensures in
    c.by_rows.ensures
    ∙ ap (λ (ms : List ℤ). overwrite (tabulate 16 (row_sum ms c.columns-xs.result)) a.out.now) c.matrix-matrix.ensures
    ∙ ap (λ (ys : List ℤ). overwrite ys a.out.now)
    (list-is a.t.shape (place_at a.cell) (length a.out.now) a.records.now f c.in_ok-l.l c.in_ok-l.ensures.layout.0
    c.columns-xs.result c.columns-xs.ensures)
    ∙ when-done _ a.out.now (first-passed _ _ (sym c.in_ok-check_request.ensures) ∙ sym c.in_ok-l.ensures.outcome)
