-- Two's complement at 32 bits is how the machine holds the bits of a signed number.
use mathlib.Core.Path.{◌≡◌, refl, ◌∙◌}
use mathlib.Core.Bool.{true}
use Prim.Native.Nat.{suc, ◌<◌}
use native.Mathlib.Nat.{not-suc-le-zero}
use native.Mathlib.Omega.{arith}
use borrow.Author.Tests.{le-ltb, ltb-true}
use lib.IntN.{ℤ, pos, negsuc, ◌+ℤ◌}
use lib.Signed.{lt_z}
use mir.Syntax.{w32, w64}
use mir.Val.{SFits, to_z, of_z}
use mir.Facts.{to_z-of_z, Fits-of_z}
use Rattle.arith.specs.Int.{unsigned_of}
use Rattle.arith.proofs.Machine.{element, widened}

pub unsigned_is : (x : ℤ) → of_z w32 x ≡ unsigned_of x
unfolding unsigned_of
unsigned_is (pos n) = refl
unsigned_is (negsuc n) = refl

pub unsigned-below : (x : ℤ) → SFits w32 x → unsigned_of x < 4294967296
unsigned-below x f = rw (← unsigned_is x) (Fits-of_z f).fits

-- ---- at 64 bits

-- a number below 0: x + 2^32
module _ (x : ℤ) (f : SFits w32 x) (below : lt_z (to_z w32 (of_z w32 x)) (pos 0) ≡ true) where
  raised : (x : ℤ) → SFits w32 x → lt_z x (pos 0) ≡ true → x +ℤ pos 4294967296 ≡ pos (unsigned_of x)
  unfolding unsigned_of
  raised (pos n) g e = absurd (not-suc-le-zero (ltb-true n 0 e))
  raised (negsuc n) g e = let h = g.sfits in rw (le-ltb 4294967296 (suc n) (omega arith)) refl

  raised_is : to_z w64 (of_z w64 (to_z w32 (of_z w32 x))) +ℤ pos 4294967296 ≡ pos (unsigned_of x)
  raised_is = rw (widened x f.sfits) (raised x f (rw (element x f.sfits) at below))

  pub raised-fits : SFits w64 (to_z w64 (of_z w64 (to_z w32 (of_z w32 x))) +ℤ pos 4294967296)
  raised-fits = rw raised_is (record { sfits = omega (arith, unsigned-below x f) })

  pub raised-held : to_z w64 (of_z w64 (to_z w64 (of_z w64 (to_z w32 (of_z w32 x))) +ℤ pos 4294967296)) ≡ pos (unsigned_of x)
  raised-held = to_z-of_z {w = w64} raised-fits ∙ raised_is
