-- `query::read` meets its contract: the numbers of steps are themselves or scaled.
use mathlib.Core.Path.{◌≡◌, sym, ap, subst, ◌∙◌}
use mathlib.Core.Bool.{true}
use mathlib.Core.List.{List, [], ◌∷◌}
use Prim.Native.Nat.{ℕ}
use native.Mathlib.Omega.{arith}
use lib.ListN.{get_or}
use Rattle.arith.proofs.Choices.{by-3, clash}
use Rattle.std.specs.Prelude.{Ok, Err, IsErr}
use Rattle.std.specs.Result.{IsErrAnd}
use Rattle.lattice.specs.declared.FullShape.{FullShape}
use Rattle.lattice.specs.declared.refusal.Refusal.{Refusal}
use Rattle.lattice.specs.Answers.{number_of}
use Rattle.lattice.specs.Outcome.{refused, passed}
use Rattle.cell.specs.Cell.{place_at}
use Rattle.evaluate.specs.Wants.{wanted}
use Rattle.query.specs.Answers.{Reading, outcome_of_reading}
use Rattle.query.specs.Parts.{scaled, Finest}
use Rattle.query.specs.Queries.{position_at}
use Rattle.query.proofs.CoarseCalls.{itself, in-cell-told, position-told, by-cell-stopped, by-position-stopped}
use Rattle.query.proofs.read.Goals as goal
use Rattle.query.proofs.read.Goals.{then-is_finest, else-is_finest+in_ok-step}

-- what is handed on of a refusal
refused_on : (r : Reading) (e : Refusal) → IsErr r × IsErrAnd r (λ x. x ≡ e)
    → outcome_of_reading r ≡ refused (number_of e.reason) e.place
refused_on (Ok a) e h = let f = h.0 in cc
refused_on (Err x) e h = ap (λ (y : Refusal). refused (number_of y.reason) y.place) h.1

unmarked : {A : Type 0} (r : Reading) {n p : ℕ} → outcome_of_reading r ≡ refused n p → passed (outcome_of_reading r) ≡ true → A
unmarked r e given = let f = ap passed e in clash (cc)

pub returns-in_err-step : goal.returns-in_err-step
returns-in_err-step c =
    let a = c.args in
    let stops = refused_on c.from_residual.result _ c.from_residual.ensures in
    record {
      by_cell = λ g. (
        stops ∙ sym (by-cell-stopped a.t a.records.now (wanted a.q.derivative) c.in_err-step.ensures (place_at a.q.cell)
            (place_at a.q.step)),
        λ given. unmarked c.from_residual.result stops given,
      );
      by_position = λ g p st. (
        stops ∙ sym (by-position-stopped a.t a.records.now (wanted a.q.derivative) c.in_err-step.ensures (position_at p)),
        λ given. unmarked c.from_residual.result stops given,
      );
    }

-- and are the same taken one by one
one_by_one : (t : FullShape) (xs ys : List ℕ) → Finest t xs ys → Finest t xs (get_or ys 0 0 ∷ get_or ys 1 0 ∷ get_or ys 2 0 ∷ [])
one_by_one t xs ys f = record {
  same = f.same;
  factor = f.factor;
  small = f.small;
  each = by-3 (λ a. get_or (get_or ys 0 0 ∷ get_or ys 1 0 ∷ get_or ys 2 0 ∷ []) a 0 ≡ scaled (f.factor a) (get_or xs a 0))
      (f.each 0 (omega arith)) (f.each 1 (omega arith)) (f.each 2 (omega arith));
  right = f.right;
}

pub returns : goal.returns
returns c =
    let a = c.args in
    let xs = a.q.step in
    let step = c.if-is_finest.step in
    let ys = get_or step 0 0 ∷ get_or step 1 0 ∷ get_or step 2 0 ∷ [] in
    let fine : Finest a.t xs ys =
    one_by_one a.t xs step (
    elim c.if-is_finest.branch [
      | then-is_finest w ↦ itself a.t (c.is_finest.ensures w.if-is_finest.true) xs step
          (λ b l. ap (λ (zs : List ℕ). get_or zs b 0) w.step-is)
      | else-is_finest+in_ok-step w ↦ subst (Finest a.t xs) (sym w.step-is) w.in_ok-step.ensures
    ]) in
    record {
      by_cell = λ g. in-cell-told a.t a.records.now (wanted a.q.derivative) (place_at a.q.cell) xs ys fine c.read_finest.result
          (c.read_finest.ensures.by_cell g);
      by_position = λ g p st. position-told a.t a.records.now (wanted a.q.derivative) p xs ys st fine c.read_finest.result
          (c.read_finest.ensures.by_position g);
    }
