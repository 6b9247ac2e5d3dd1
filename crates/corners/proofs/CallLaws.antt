-- What follows from back that is not refused before 13.
use mathlib.Core.Path.{◌≡◌}
use Prim.Native.Nat.{ℕ, ◌≤◌}
use lib.Dec.{leb, eqb}
use borrow.Author.Tests.{leb-true, eqb-true}
use Rattle.lattice.specs.Outcome.{done, refuse_unless, first}
use Rattle.lattice.specs.Shape.{orders_of, axes_outcome, degree_outcome}
use Rattle.lattice.proofs.OutcomeLaws.{first_done, refuse-done}
use Rattle.cell.specs.Coefficients.{coefficient_count}
use Rattle.corners.specs.Corners.{numbers_outcome}

pub record Numbered (n degree given room : ℕ) : Type 0 where
  pub axes-done : axes_outcome n ≡ done tt
  pub degree-done : degree_outcome degree ≡ done tt
  pub many : given ≡ coefficient_count (orders_of degree) n
  pub roomy : coefficient_count (orders_of degree) n ≤ room

pub numbered : (n degree given room : ℕ) → numbers_outcome n degree given room ≡ done tt → Numbered n degree given room
unfolding numbers_outcome
numbered n degree given room h =
    let k = coefficient_count (orders_of degree) n in
    let lengths = first (refuse_unless (eqb given k) 15 0) (refuse_unless (leb k room) 9 0) in
    let a = first_done (axes_outcome n) (first (degree_outcome degree) lengths) tt h in
    let b = first_done (degree_outcome degree) lengths tt a.1 in
    let c = first_done (refuse_unless (eqb given k) 15 0) (refuse_unless (leb k room) 9 0) tt b.1 in
    record {
      axes-done = a.0;
      degree-done = b.0;
      many = eqb-true given k (refuse-done (eqb given k) 15 0 c.0);
      roomy = leb-true k room (refuse-done (leb k room) 9 0 c.1);
    }
