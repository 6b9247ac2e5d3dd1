-- The limit test of one entry, and the bits of the entries of two records, as the code makes them.
use mathlib.Core.Path.{◌≡◌, refl, sym, ap, ap₂, ◌∙◌}
use mathlib.Core.Bool.{Bool, true, false, ◌&&◌}
use mathlib.Core.List.{List}
use Prim.Native.Nat.{ℕ, ◌+◌, ◌^◌, ◌<◌}
use lib.Bits.{bit_or}
use lib.Dec.{leb, ltb, eqb}
use lib.IntN.{ℤ, nat_abs}
use lib.Signed.{mag}
use mir.Syntax.{w32}
use mir.Val.{to_z, of_z, bool_byte}
use borrow.Author.Tests.{ltb-true, ltb-false, le-leb, lt-leb}
use Rattle.lattice.specs.Outcome.{Check, done, refused, refuse_unless, first_of, passed}
use Rattle.lattice.specs.Buffer.{at}
use Rattle.lattice.proofs.OutcomeLaws.{passed-next}
use Rattle.arith.proofs.Bits.{or-none}
use Rattle.arith.proofs.Machine.{element}
use Rattle.cell.specs.Cell.{limit_in}

abbrev pub test : List ℤ → List ℤ → ℕ → ℕ → Check
test limits rs start e = refuse_unless (leb (nat_abs (at rs (start + e))) (limit_in limits e)) 5 (start + e)

module _ (limits rs : List ℤ) (start e : ℕ) where
  -- what the code's test of two elements says
  pub limit-told : (r : Bool) → mag (at rs (start + e)) < 2 ^ 31 → mag (at limits e) < 2 ^ 31
      → r ≡ ltb (nat_abs (to_z w32 (of_z w32 (at limits e)))) (nat_abs (to_z w32 (of_z w32 (at rs (start + e)))))
      → r ≡ ltb (limit_in limits e) (nat_abs (at rs (start + e)))
  limit-told r i j h = h ∙ rw (element (at rs (start + e)) i, element (at limits e) j) refl

  pub test-stopped : ltb (limit_in limits e) (nat_abs (at rs (start + e))) ≡ true → test limits rs start e ≡ refused 5 (start + e)
  test-stopped h =
      ap (λ (b : Bool). refuse_unless b 5 (start + e))
      (lt-leb (nat_abs (at rs (start + e))) (limit_in limits e) (ltb-true (limit_in limits e) (nat_abs (at rs (start + e))) h))

  pub test-passed : ltb (limit_in limits e) (nat_abs (at rs (start + e))) ≡ false → test limits rs start e ≡ done tt
  test-passed h =
      ap (λ (b : Bool). refuse_unless b 5 (start + e))
      (le-leb (nat_abs (at rs (start + e))) (limit_in limits e) (ltb-false (limit_in limits e) (nat_abs (at rs (start + e))) h))

  -- its bit is 0 where the test is passed
  pub test_bit : (r : Bool) → r ≡ ltb (limit_in limits e) (nat_abs (at rs (start + e))) → eqb (bool_byte r) 0 ≡ passed
      (test limits rs start e)
  test_bit true h = sym (ap passed (test-stopped (sym h)))
  test_bit false h = sym (ap passed (test-passed (sym h)))

-- the bits of one entry more of two records
pub bits-more : (over e : ℕ) (low high : Bool) (f g : ℕ → Check) → eqb over 0 ≡ (passed (first_of e f) && passed (first_of e g))
    → eqb (bool_byte low) 0 ≡ passed (f e) → eqb (bool_byte high) 0 ≡ passed (g e)
    → eqb (bit_or (bit_or over (bool_byte low)) (bool_byte high)) 0 ≡ (passed (first_of (e + 1) f) && passed (first_of (e + 1) g))
bits-more over e low high f g so_far at_low at_high =
    or-none (bit_or over (bool_byte low)) (bool_byte high) ∙ ap₂ ◌&&◌ (or-none over (bool_byte low) ∙ ap₂ ◌&&◌ so_far at_low) at_high
    ∙ turned (passed (first_of e f)) (passed (first_of e g)) (passed (f e)) (passed (g e))
    ∙ sym (ap₂ ◌&&◌ (passed-next e f) (passed-next e g))
  where
    turned : (p q x y : Bool) → (((p && q) && x) && y) ≡ ((p && x) && (q && y))
    turned true true x y = refl
    turned true false true y = refl
    turned true false false y = refl
    turned false q x y = refl
