-- `coefficients::coefficients` meets its contract: refused, the slice stays as it is; else it is overwritten by the cell's coefficients.
use mathlib.Core.Path.{◌≡◌, sym, ap, subst, ◌∙◌}
use mathlib.Core.List.{List, ◌++◌}
use Prim.Native.Nat.{ℕ, ◌≤◌}
use native.Mathlib.Nat.{le_of_eq}
use native.Mathlib.Omega.{arith}
use lib.IntN.{ℤ}
use lib.ListN.{length, drop}
use Rattle.std.proofs.lemmas.List.{length-take-le}
use Rattle.arith.proofs.Machine.{shifted}
use Rattle.lattice.specs.declared.Shape.{Shape}
use Rattle.lattice.specs.declared.FullShape.{FullShape}
use Rattle.lattice.specs.Outcome.{done}
use Rattle.lattice.specs.Buffer.{at, tabulate, overwrite}
use Rattle.lattice.specs.Shape.{orders}
use Rattle.lattice.specs.Axes.{Place}
use Rattle.lattice.proofs.OutcomeLaws.{stopped, went-on, at_once, refused-first, first-passed, when-done, when-refused}
use Rattle.lattice.proofs.ShapeLaws.{orders-range}
use Rattle.cell.specs.declared.Layout.{Layout}
use Rattle.cell.specs.Cell.{place_at, Laid}
use Rattle.cell.specs.Coefficients.{coefficient_count}
use Rattle.coefficients.specs.Coefficients.{request_outcome, coefficients_outcome, coefficients_writes}
use Rattle.coefficients.specs.Blocks.{cell_coefficient, Filled}
use Rattle.coefficients.proofs.SpotLaws.{filled-all}
use Rattle.coefficients.proofs.CallLaws.{Asked, asked, copied, list-is}
use Rattle.coefficients.proofs.coefficients.Goals as goal

-- not refused before 5
facts : (t : FullShape) (rs out : List ℤ) (cell : List ℕ) → done tt ≡ request_outcome t (length rs) (place_at cell) (length out)
    → Asked t.shape (length rs) (place_at cell) (length out)
facts t rs out cell h = asked t (length rs) cell (length out) (sym h)

-- m is 2 or 3
orders-in : (s : Shape) (l : Layout) (cell : Place) → Laid s cell l → (2 ≤ l.orders) × (l.orders ≤ 3)
orders-in s l cell laid = rw laid.orders-are (orders-range s.degree)

pub returns-in_err-check_request-clause-result_value : goal.returns-in_err-check_request-clause-result_value
unfolding coefficients_outcome
returns-in_err-check_request-clause-result_value c = stopped _ _ _ _ c.from_residual.ensures c.in_err-check_request.ensures

pub returns-in_err-check_request-clause-out_after : goal.returns-in_err-check_request-clause-out_after
unfolding coefficients_outcome coefficients_writes
returns-in_err-check_request-clause-out_after c =
    when-refused _ c.args.out.now (refused-first _ (sym c.in_err-check_request.ensures))

pub corners_layout-requires : goal.corners_layout-requires
corners_layout-requires c =
    let f = facts c.args.t c.args.records.now c.args.out.now c.args.cell c.in_ok-check_request.ensures in (f.shape, f.many, f.here)

pub returns-in_err-l-clause-result_value : goal.returns-in_err-l-clause-result_value
unfolding coefficients_outcome
returns-in_err-l-clause-result_value c =
    went-on _ _ _ c.in_ok-check_request.ensures (at_once _ _ _ c.from_residual-in_err-l.ensures c.in_err-l.ensures.outcome)

pub returns-in_err-l-clause-out_after : goal.returns-in_err-l-clause-out_after
unfolding coefficients_outcome coefficients_writes
returns-in_err-l-clause-out_after c =
    when-refused _ c.args.out.now (first-passed _ _ (sym c.in_ok-check_request.ensures) ∙ sym c.in_err-l.ensures.outcome)

pub overflow_shl-n : goal.overflow_shl-n
overflow_shl-n c =
    let h = (facts c.args.t c.args.records.now c.args.out.now c.args.cell c.in_ok-check_request.ensures).shape.axes-high in omega arith

pub filled-xs-requires : goal.filled-xs-requires
filled-xs-requires c =
    let f = (facts c.args.t c.args.records.now c.args.out.now c.args.cell c.in_ok-check_request.ensures).shape in
    let m = orders-in c.args.t.shape c.in_ok-l.l (place_at c.args.cell) c.in_ok-l.ensures.layout.0 in
    (m.0, m.1, f.axes-low, f.axes-high, le_of_eq (shifted c.args.t.shape.axes f.axes-high), c.in_ok-l.ensures.layout.1)

pub coefficient_count-count-requires : goal.coefficient_count-count-requires
coefficient_count-count-requires c =
    (facts c.args.t c.args.records.now c.args.out.now c.args.cell c.in_ok-check_request.ensures).shape.axes-high

-- room for all of them
roomy : (t : FullShape) (rs out : List ℤ) (cell : List ℕ) → done tt ≡ request_outcome t (length rs) (place_at cell) (length out)
    → (count : ℕ) → count ≡ coefficient_count (orders t.shape) t.shape.axes → count ≤ length out
roomy t rs out cell h count e = rw e (facts t rs out cell h).roomy

pub slice_bounds-copy_from_slice-end : goal.slice_bounds-copy_from_slice-end
slice_bounds-copy_from_slice-end c =
    roomy c.args.t c.args.records.now c.args.out.now c.args.cell c.in_ok-check_request.ensures _ c.coefficient_count-count.ensures.0

pub slice_bounds-copy_from_slice-end-2 : goal.slice_bounds-copy_from_slice-end-2
slice_bounds-copy_from_slice-end-2 c =
    sym (length-take-le c.coefficient_count-count.result c.args.out.now
    (roomy c.args.t c.args.records.now c.args.out.now c.args.cell c.in_ok-check_request.ensures _ c.coefficient_count-count.ensures.0))

pub copy_from_slice-requires : goal.copy_from_slice-requires
copy_from_slice-requires c =
    length-take-le c.coefficient_count-count.result c.args.out.now
    (roomy c.args.t c.args.records.now c.args.out.now c.args.cell c.in_ok-check_request.ensures _ c.coefficient_count-count.ensures.0)
    ∙ sym (length-take-le c.coefficient_count-count.result c.filled-xs.result
    (rw c.filled-xs.ensures.long c.coefficient_count-count.ensures.1))

pub returns-clause-result_value : goal.returns-clause-result_value
unfolding coefficients_outcome
returns-clause-result_value c = went-on _ _ _ c.in_ok-check_request.ensures c.in_ok-l.ensures.outcome

pub returns-clause-out_after : goal.returns-clause-out_after
unfolding coefficients_outcome coefficients_writes
returns-clause-out_after c =
    let a = c.args in
    let s = a.t.shape in
    let l = c.in_ok-l.l in
    let f = facts a.t a.records.now a.out.now a.cell c.in_ok-check_request.ensures in
    let xs = c.filled-xs.result in
    let count = c.coefficient_count-count.result in
    ap (λ (ys : List ℤ). ys ++ drop count a.out.now) c.copy_from_slice.ensures.after
    ∙ copied count xs a.out.now (rw c.filled-xs.ensures.long c.coefficient_count-count.ensures.1)
    ∙ ap (λ (k : ℕ). overwrite (tabulate k (at xs)) a.out.now) c.coefficient_count-count.ensures.0
    ∙ ap (λ (ys : List ℤ). overwrite ys a.out.now)
    (list-is s f.shape (place_at a.cell) f.here a.records.now f.many l c.in_ok-l.ensures.layout.0 xs
    (filled-all l.orders s.axes (let m2 = (orders-in s l (place_at a.cell) c.in_ok-l.ensures.layout.0).0 in omega arith) f.shape.axes-low
    f.shape.axes-high _ xs
    (subst (λ (k : ℕ). Filled l.orders s.axes (cell_coefficient l.orders s.axes l a.records.now) k xs)
    (shifted s.axes f.shape.axes-high) c.filled-xs.ensures)))
    ∙ when-done _ a.out.now
    (first-passed _ _ (sym c.in_ok-check_request.ensures) ∙ sym c.in_ok-l.ensures.outcome)
