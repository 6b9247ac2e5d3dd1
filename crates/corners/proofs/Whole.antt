-- When a doubled entry is whole and within its limit.
use mathlib.Core.Path.{◌≡◌, subst}
use mathlib.Core.Bool.{true}
use Prim.Native.Nat.{ℕ, ◌/◌, ◌%◌, ◌^◌, ◌≤◌, ◌<◌}
use native.Mathlib.Nat.{one-le-pow}
use lib.Dec.{leb, eqb, lit<}
use lib.IntN.{ℤ, pos, ◌*ℤ◌, nat_abs}
use borrow.Author.Tests.{leb-true, eqb-true, le-leb, eq-eqb}
use Rattle.arith.specs.Int.{floor_div}
use Rattle.arith.proofs.Choices.{and-true, true-and}
use Rattle.arith.proofs.Round.{whole_is, rest-none, size_of}
use Rattle.lattice.specs.Records.{entry_limit}
use Rattle.cell.specs.Corners.{corner_numbers}
use Rattle.corners.specs.Corners.{entry_allowed}

module _ (m n i : ℕ) (z : ℤ) where
  some : 0 < 2 ^ n
  some = one-le-pow n 2 (lit< tt)

  pub allowed_of : (q : ℤ) → z ≡ pos (2 ^ n) *ℤ q → nat_abs q ≤ entry_limit m n (corner_numbers m n i) → entry_allowed m n i z ≡ true
  unfolding entry_allowed
  allowed_of q e h =
      true-and (eqb (nat_abs z % 2 ^ n) 0) (leb (nat_abs z / 2 ^ n) (entry_limit m n (corner_numbers m n i)))
      (eq-eqb (nat_abs z % 2 ^ n) 0 (rest-none (2 ^ n) some z q e))
      (le-leb (nat_abs z / 2 ^ n) (entry_limit m n (corner_numbers m n i)) (rw (size_of (2 ^ n) some z q e) h))

  pub allowed-parts : entry_allowed m n i z ≡ true
      → (z ≡ pos (2 ^ n) *ℤ floor_div z (2 ^ n)) × (nat_abs (floor_div z (2 ^ n)) ≤ entry_limit m n (corner_numbers m n i))
  unfolding entry_allowed
  allowed-parts h =
      let t = and-true (eqb (nat_abs z % 2 ^ n) 0) (leb (nat_abs z / 2 ^ n) (entry_limit m n (corner_numbers m n i))) h in
      let e = whole_is (2 ^ n) some z (eqb-true (nat_abs z % 2 ^ n) 0 t.0) in (
        e,
        subst (λ (k : ℕ). k ≤ entry_limit m n (corner_numbers m n i)) (size_of (2 ^ n) some z (floor_div z (2 ^ n)) e)
            (leb-true (nat_abs z / 2 ^ n) (entry_limit m n (corner_numbers m n i)) t.1),
      )
