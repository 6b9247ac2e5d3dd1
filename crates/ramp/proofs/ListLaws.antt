-- What follows from a list that is not refused by its lengths.
use mathlib.Core.Path.{◌≡◌, sym, ap, ap₂, ◌∙◌}
use mathlib.Core.Bool.{◌&&◌}
use mathlib.Core.List.{List, ◌++◌}
use Prim.Native.Nat.{ℕ, ◌%◌, ◌≤◌, ◌<◌}
use native.Mathlib.Omega.{arith}
use lib.Dec.{leb, eqb}
use lib.IntN.{ℤ, pos}
use lib.ListN.{length, take, drop}
use borrow.Author.Tests.{leb-true, eqb-true}
use Rattle.arith.proofs.Choices.{and-true}
use Rattle.lattice.specs.declared.FullShape.{FullShape}
use Rattle.std.proofs.lemmas.List.{length-take-le, get_or-take}
use Rattle.lattice.specs.Buffer.{at, tabulate, overwrite}
use Rattle.lattice.proofs.BufferLaws.{tabulate-get_or, tabulate-same, length-tabulate}
use Rattle.lattice.specs.Outcome.{Check, done, refuse_unless, first}
use Rattle.lattice.specs.Shape.{size, full_outcome}
use Rattle.lattice.proofs.OutcomeLaws.{first_done, refuse-done}
use Rattle.lattice.proofs.StepLaws.{full-shape}
use Rattle.ramp.specs.Ramp.{queries, list_outcome}
use Rattle.ramp.specs.Parts.{Listed}

-- and there is room for the answers
pub listed : (t : FullShape) (rs ps : List ℤ) (room : ℕ) → list_outcome t (length rs) (length ps) room ≡ done tt
    → Listed t.shape rs ps × (queries ps ≤ room) × (full_outcome t ≡ done tt)
unfolding list_outcome
listed t rs ps room h =
    let s = t.shape in
    let long : Check = refuse_unless (eqb (length rs) (size s)) 4 0 in
    let roomy : Check = refuse_unless (leb (queries ps) room) 9 0 in
    let f = first_done (full_outcome t) _ tt h in
    let g = first_done (refuse_unless (leb (length ps) 768 && eqb (length ps % 3) 0) 20 0) (first long roomy) tt f.1 in
    let i = first_done long roomy tt g.1 in
    let w = and-true (leb (length ps) 768) (eqb (length ps % 3) 0)
    (refuse-done (leb (length ps) 768 && eqb (length ps % 3) 0) 20 0 g.0) in
    let few = leb-true (length ps) 768 w.0 in
    let whole = eqb-true (length ps % 3) 0 w.1 in (
      record {
        shape = full-shape t f.0;
        long = eqb-true (length rs) (size s) (refuse-done (eqb (length rs) (size s)) 4 0 i.0);
        whole = omega arith;
        few = omega arith;
      },
      leb-true (queries ps) room (refuse-done (leb (queries ps) room) 9 0 i.1),
      f.0,
    )

-- ---- the answers that are written

-- the front of an array, by its elements
pub front : (found : List ℤ) (n : ℕ) (f : ℕ → ℤ) → n ≤ length found → ((i : ℕ) → i < n → at found i ≡ f i) → take n found ≡ tabulate n f
front found n f few is =
    sym (tabulate-get_or (take n found) n (pos 0) (length-take-le n found few))
    ∙ tabulate-same n (at (take n found)) f (λ i l. get_or-take n found i (pos 0) l ∙ is i l)

pub overwritten : (new old : List ℤ) (n : ℕ) (f : ℕ → ℤ) → new ≡ tabulate n f → new ++ drop n old ≡ overwrite (tabulate n f) old
overwritten new old n f e = ap₂ ◌++◌ e (ap (λ (k : ℕ). drop k old) (sym (length-tabulate n f)))
