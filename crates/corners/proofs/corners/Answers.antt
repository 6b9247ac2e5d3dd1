-- `corners::corners` meets its contract: refused, the slice stays as it is; else it is overwritten by the corner records.
use mathlib.Core.Path.{◌≡◌, refl, sym, ap, subst, ◌∙◌}
use mathlib.Core.List.{List, ◌++◌}
use Prim.Native.Nat.{ℕ, ◌≤◌, ◌<◌}
use native.Mathlib.Omega.{arith}
use lib.IntN.{ℤ}
use lib.ListN.{length, drop}
use Rattle.std.proofs.lemmas.List.{length-take-le}
use Rattle.lattice.specs.Outcome.{done}
use Rattle.lattice.specs.Buffer.{at, tabulate, overwrite}
use Rattle.lattice.specs.Shape.{orders_of}
use Rattle.lattice.proofs.BufferLaws.{tabulate-same}
use Rattle.lattice.proofs.OutcomeLaws.{stopped, went-on, at_once, refused-first, first-passed, when-done, when-refused}
use Rattle.lattice.proofs.ShapeLaws.{axes-range}
use Rattle.cell.specs.Coefficients.{coefficient_count}
use Rattle.coefficients.proofs.CallLaws.{copied}
use Rattle.corners.specs.Corners.{possible_outcome, entry_list, numbers_outcome, back_outcome, back_writes}
use Rattle.corners.specs.Back.{entry_of}
use Rattle.corners.proofs.CallLaws.{Numbered, numbered}
use Rattle.corners.proofs.corners.Goals as goal

-- not refused before 13
facts : (axes degree : ℕ) (cs out : List ℤ) → done tt ≡ numbers_outcome axes degree (length cs) (length out)
    → Numbered axes degree (length cs) (length out)
facts axes degree cs out h = numbered axes degree (length cs) (length out) (sym h)

-- what is tested, and what is written last, by the degree
module _ (m axes degree : ℕ) (e : m ≡ orders_of degree) (cs : List ℤ) where
  possible-is : possible_outcome m axes cs ≡ possible_outcome (orders_of degree) axes cs
  possible-is = ap (λ (k : ℕ). possible_outcome k axes cs) e

  list-is : (xs : List ℤ) → ((i : ℕ) → i < coefficient_count m axes → at xs i ≡ entry_of m axes cs i)
      → tabulate (coefficient_count (orders_of degree) axes) (at xs) ≡ entry_list (orders_of degree) axes cs
  unfolding entry_list
  list-is xs are =
      tabulate-same (coefficient_count (orders_of degree) axes) (at xs) (entry_of (orders_of degree) axes cs)
      (subst (λ (k : ℕ). (i : ℕ) → i < coefficient_count k axes → at xs i ≡ entry_of k axes cs i) e are)

pub returns-in_err-check_numbers-clause-result_value : goal.returns-in_err-check_numbers-clause-result_value
unfolding back_outcome
returns-in_err-check_numbers-clause-result_value c = stopped _ _ _ _ c.from_residual.ensures c.in_err-check_numbers.ensures

pub returns-in_err-check_numbers-clause-out_after : goal.returns-in_err-check_numbers-clause-out_after
unfolding back_outcome back_writes
returns-in_err-check_numbers-clause-out_after c =
    when-refused _ c.args.out.now (refused-first _ (sym c.in_err-check_numbers.ensures))

pub records_of-requires : goal.records_of-requires
records_of-requires c =
    let f = facts c.args.axes c.args.degree c.args.coefficients.now c.args.out.now c.in_ok-check_numbers.ensures in
    let n = axes-range c.args.axes f.axes-done in
    (n.0, n.1, f.many ∙ ap (λ (k : ℕ). coefficient_count k c.args.axes) (sym c.orders-m.ensures))

pub returns-in_err-records_of-clause-result_value : goal.returns-in_err-records_of-clause-result_value
unfolding back_outcome
returns-in_err-records_of-clause-result_value c =
    let a = c.args in
    went-on _ _ _ c.in_ok-check_numbers.ensures
    (at_once _ _ _ c.from_residual-in_err-records_of.ensures
    (c.in_err-records_of.ensures.result_value ∙ possible-is c.orders-m.result.count a.axes a.degree c.orders-m.ensures a.coefficients.now))

pub returns-in_err-records_of-clause-out_after : goal.returns-in_err-records_of-clause-out_after
unfolding back_outcome back_writes
returns-in_err-records_of-clause-out_after c =
    let a = c.args in
    when-refused _ a.out.now
    (first-passed _ _ (sym c.in_ok-check_numbers.ensures)
    ∙ sym (c.in_err-records_of.ensures.result_value
    ∙ possible-is c.orders-m.result.count a.axes a.degree c.orders-m.ensures a.coefficients.now))

pub coefficient_count-count-requires : goal.coefficient_count-count-requires
coefficient_count-count-requires c =
    let f = facts c.args.axes c.args.degree c.args.coefficients.now c.args.out.now c.in_ok-check_numbers.ensures in
    (axes-range c.args.axes f.axes-done).1

-- room for all of them
roomy : (axes degree : ℕ) (cs out : List ℤ) → done tt ≡ numbers_outcome axes degree (length cs) (length out)
    → (count : ℕ) → count ≡ coefficient_count (orders_of degree) axes → count ≤ length out
roomy axes degree cs out h count e = rw e (facts axes degree cs out h).roomy

pub slice_bounds-copy_from_slice-end : goal.slice_bounds-copy_from_slice-end
slice_bounds-copy_from_slice-end c =
    roomy c.args.axes c.args.degree c.args.coefficients.now c.args.out.now c.in_ok-check_numbers.ensures _
    c.coefficient_count-count.ensures.0

pub slice_bounds-copy_from_slice-end-2 : goal.slice_bounds-copy_from_slice-end-2
slice_bounds-copy_from_slice-end-2 c =
    sym (length-take-le c.coefficient_count-count.result c.args.out.now
    (roomy c.args.axes c.args.degree c.args.coefficients.now c.args.out.now c.in_ok-check_numbers.ensures _
    c.coefficient_count-count.ensures.0))

pub copy_from_slice-requires : goal.copy_from_slice-requires
copy_from_slice-requires c =
    length-take-le c.coefficient_count-count.result c.args.out.now
    (roomy c.args.axes c.args.degree c.args.coefficients.now c.args.out.now c.in_ok-check_numbers.ensures _
    c.coefficient_count-count.ensures.0)
    ∙ sym (length-take-le c.coefficient_count-count.result c.records_of.new.out
    (let l = c.coefficient_count-count.ensures.1 in omega arith))

pub returns-clause-result_value : goal.returns-clause-result_value
unfolding back_outcome
returns-clause-result_value c =
    let a = c.args in
    went-on _ _ _ c.in_ok-check_numbers.ensures
    (c.in_ok-records_of.ensures.result_value ∙ possible-is c.orders-m.result.count a.axes a.degree c.orders-m.ensures a.coefficients.now)

pub returns-clause-out_after : goal.returns-clause-out_after
unfolding back_outcome back_writes
returns-clause-out_after c =
    let a = c.args in
    let xs = c.records_of.new.out in
    let count = c.coefficient_count-count.result in
    let m = c.orders-m.result.count in
    ap (λ (ys : List ℤ). ys ++ drop count a.out.now) c.copy_from_slice.ensures.after
    ∙ copied count xs a.out.now (let l = c.coefficient_count-count.ensures.1 in omega arith)
    ∙ ap (λ (k : ℕ). overwrite (tabulate k (at xs)) a.out.now) c.coefficient_count-count.ensures.0
    ∙ ap (λ (ys : List ℤ). overwrite ys a.out.now)
    (list-is m a.axes a.degree c.orders-m.ensures a.coefficients.now xs (c.in_ok-records_of.ensures.i_after refl))
    ∙ when-done _ a.out.now
    (first-passed _ _ (sym c.in_ok-check_numbers.ensures)
    ∙ sym (c.in_ok-records_of.ensures.result_value ∙ possible-is m a.axes a.degree c.orders-m.ensures a.coefficients.now))
