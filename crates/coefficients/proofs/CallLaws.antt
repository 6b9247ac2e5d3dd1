-- What follows from a call that is not refused before 5; and that the array of a cell's coefficients is the list of them.
use mathlib.Core.Path.{◌≡◌, sym, ap, subst, ◌∙◌}
use mathlib.Core.List.{List, ◌++◌}
use Prim.Native.Nat.{ℕ, ◌*◌, ◌≤◌, ◌<◌}
use native.Mathlib.Omega.{arith}
use lib.Dec.{leb, eqb}
use lib.IntN.{ℤ, pos}
use lib.ListN.{length, take, drop}
use Rattle.std.proofs.lemmas.List.{get_or-take, length-take-le}
use borrow.Author.Tests.{leb-true, eqb-true}
use Rattle.lattice.specs.declared.Shape.{Shape}
use Rattle.lattice.specs.declared.FullShape.{FullShape}
use Rattle.lattice.specs.Outcome.{done, refuse_unless, first}
use Rattle.lattice.specs.Buffer.{at, tabulate, overwrite}
use Rattle.lattice.specs.Digits.{digit}
use Rattle.lattice.specs.Shape.{orders, entries, size, full_outcome, Shaped}
use Rattle.lattice.specs.Axes.{Place}
use Rattle.lattice.specs.Records.{records_field}
use Rattle.lattice.proofs.OutcomeLaws.{first_done, refuse-done}
use Rattle.lattice.proofs.ShapeLaws.{shaped, orders-range}
use Rattle.lattice.proofs.StepLaws.{full-shape}
use Rattle.lattice.proofs.BufferLaws.{tabulate-same, tabulate-get_or, length-tabulate}
use Rattle.lattice.proofs.DigitsLaws.{digits_in}
use Rattle.cell.specs.declared.Layout.{Layout}
use Rattle.cell.specs.Cell.{place_at, cell_outcome, Accepted, Laid}
use Rattle.cell.specs.Coefficients.{coefficients, coefficient_count}
use Rattle.cell.proofs.CellLaws.{accepted}
use Rattle.coefficients.specs.Coefficients.{coefficient_list, request_outcome}
use Rattle.coefficients.specs.Blocks.{gathered, cell_coefficient}
use Rattle.coefficients.proofs.TableCell.{cell_same, gathered-is}

pub record Asked (s : Shape) (given : ℕ) (cell : Place) (room : ℕ) : Type 0 where
  pub shape : Shaped s
  pub many : given ≡ size s
  pub roomy : coefficient_count (orders s) s.axes ≤ room
  pub here : Accepted s cell

pub asked : (t : FullShape) (given : ℕ) (xs : List ℕ) (room : ℕ) → request_outcome t given (place_at xs) room ≡ done tt
    → Asked t.shape given (place_at xs) room
unfolding request_outcome
asked t given xs room h =
    let s = t.shape in
    let n = coefficient_count (orders s) s.axes in
    let a = first_done (full_outcome t)
    (first (refuse_unless (eqb given (size s)) 4 0) (first (refuse_unless (leb n room) 9 0) (cell_outcome s (place_at xs)))) tt h in
    let b = first_done (refuse_unless (eqb given (size s)) 4 0) (first (refuse_unless (leb n room) 9 0) (cell_outcome s (place_at xs))) tt
    a.1 in
    let c = first_done (refuse_unless (leb n room) 9 0) (cell_outcome s (place_at xs)) tt b.1 in
    let ok = shaped s (full-shape t a.0) in
    record {
      shape = ok;
      many = eqb-true given (size s) (refuse-done (eqb given (size s)) 4 0 b.0);
      roomy = leb-true n room (refuse-done (leb n room) 9 0 c.0);
      here = accepted s xs ok.axes-high c.1;
    }

-- the first n numbers copied to the front of a slice
pub copied : (n : ℕ) (xs out : List ℤ) → n ≤ length xs → take n xs ++ drop n out ≡ overwrite (tabulate n (at xs)) out
copied n xs out l =
    let e : take n xs ≡ tabulate n (at xs) =
    sym (tabulate-get_or (take n xs) n (pos 0) (length-take-le n xs l))
    ∙ tabulate-same n (at (take n xs)) (at xs) (λ k h. get_or-take n xs k (pos 0) h) in
    ap (λ (ys : List ℤ). ys ++ drop n out) e
    ∙ ap (λ (k : ℕ). tabulate n (at xs) ++ drop k out) (sym (length-tabulate n (at xs)))

module _ (s : Shape) (ok : Shaped s) (cell : Place) (here : Accepted s cell) (rs : List ℤ) (many : length rs ≡ size s) (l : Layout)
    (laid : Laid s cell l) where
  pub list-is : (xs : List ℤ)
      → ((K : ℕ) → K < coefficient_count l.orders s.axes → at xs K ≡ cell_coefficient l.orders s.axes l rs K)
      → tabulate (coefficient_count (orders s) s.axes) (at xs) ≡ coefficient_list (orders s) s.axes cell (records_field s rs)
  unfolding coefficient_list entries
  list-is xs h =
      let f = subst (λ (m : ℕ). (K : ℕ) → K < coefficient_count m s.axes → at xs K ≡ cell_coefficient m s.axes l rs K)
      laid.orders-are h in
      tabulate-same (coefficient_count (orders s) s.axes) (at xs)
      (λ K. coefficients (orders s) s.axes cell (records_field s rs) (digit (λ a. 2 * orders s) K))
      (λ K q. f K q
      ∙ sym (cell_same s ok cell here (records_field s rs) (gathered (entries s) l rs) (gathered-is s ok cell here rs many l laid)
      (digit (λ a. 2 * orders s) K) (digits_in s.axes (2 * orders s) K (two (orders s) (orders-range s.degree).0) q)))
    where
      two : (m : ℕ) → 2 ≤ m → 0 < 2 * m
      two m h = omega arith
