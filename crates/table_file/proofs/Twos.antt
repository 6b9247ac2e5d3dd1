-- Two's complement at 32 bits is how the machine reads the bits of a signed number; reading and writing it undo each other.
use mathlib.Core.Path.{◌≡◌, refl, sym, ap, ◌∙◌}
use mathlib.Core.Bool.{Bool, true, false}
use Prim.Native.Nat.{ℕ, suc, ◌-◌, ◌≤◌, ◌<◌}
use native.Mathlib.Omega.{arith}
use borrow.Author.Tests.{lt-ltb, le-ltb}
use lib.Dec.{ltb}
use lib.IntN.{ℤ, pos, negsuc, ◌-ℤ◌}
use mir.Syntax.{w32, w64}
use mir.Val.{SFits, sel, to_z, of_z}
use mir.Facts.{to_z-of_z, of_z-to_z, to_z_pos, sfits_to_z, sfits_widen}
use Rattle.arith.specs.Choice.{pick}
use Rattle.arith.proofs.Choices.{pick-false}
use Rattle.arith.specs.Int.{unsigned_of}
use Rattle.arith.proofs.Twos.{unsigned_is, unsigned-below}
use Rattle.table_file.specs.Numbers.{signed_of}

pub signed_is : (v : ℕ) → v < 4294967296 → to_z w32 v ≡ signed_of v
unfolding signed_of pick
signed_is v h = either (ltb v 2147483648)
  where
    either : (b : Bool) → sel b (pos v) (negsuc (4294967296 - suc v)) ≡ pick b (pos v) (pos v -ℤ pos 4294967296)
    either true = refl
    either false = rw (lt-ltb v 4294967296 h) refl

pub signed-unsigned : (x : ℤ) → SFits w32 x → signed_of (unsigned_of x) ≡ x
signed-unsigned x f = sym (signed_is (unsigned_of x) (unsigned-below x f)) ∙ ap (λ (v : ℕ). to_z w32 v) (sym (unsigned_is x)) ∙ to_z-of_z f

pub unsigned_signed : (v : ℕ) → v < 4294967296 → unsigned_of (signed_of v) ≡ v
unsigned_signed v h = sym (unsigned_is (signed_of v)) ∙ ap (λ (x : ℤ). of_z w32 x) (sym (signed_is v h))
    ∙ of_z-to_z {w = w32} (record { fits = h })

pub signed-fits : (v : ℕ) → v < 4294967296 → SFits w32 (signed_of v)
signed-fits v h = rw (← signed_is v h) (sfits_to_z (record { fits = h }))

-- ---- at 64 bits

-- a number in the upper half: v − 2^32
module _ (v : ℕ) (big : 2147483648 ≤ v) (small : v < 4294967296) where
  high_is : to_z w64 v -ℤ pos 4294967296 ≡ signed_of v
  unfolding signed_of
  high_is = rw (to_z_pos w64 {n = v} (omega arith))
      (sym (pick-false (ltb v 2147483648) (pos v) (pos v -ℤ pos 4294967296) (le-ltb v 2147483648 big)))

  pub high_fits : SFits w64 (to_z w64 v -ℤ pos 4294967296)
  high_fits = rw high_is (sfits_widen {w = w32} tt (signed-fits v small))

  pub high_held : to_z w64 (of_z w64 (to_z w64 v -ℤ pos 4294967296)) ≡ signed_of v
  high_held = to_z-of_z {w = w64} high_fits ∙ high_is
