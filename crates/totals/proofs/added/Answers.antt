-- `totals::added` meets its contract: the product and the sum fit.
use mathlib.Core.Path.{◌≡◌, ◌∙◌}
use Prim.Native.Nat.{◌+◌, ◌*◌, ◌^◌, ◌<◌}
use native.Mathlib.Omega.{arith}
use lib.IntN.{ℤ, nat_abs, ◌+ℤ◌, ◌*ℤ◌}
use mir.Facts.{to_z-of_z}
use mir.Syntax.{w64}
use mir.Val.{SFits, to_z, of_z}
use Rattle.arith.proofs.Abs.{abs-add, abs-mul, sfits-abs}
use Rattle.totals.proofs.added.Goals as goal

module _ (s f x : ℤ) (hf : SFits w64 f) (hx : SFits w64 x) (hs : SFits w64 s) (h : nat_abs s + nat_abs f * nat_abs x < 2 ^ 63) where
  product-fits : SFits w64 (to_z w64 (of_z w64 f) *ℤ to_z w64 (of_z w64 x))
  product-fits = rw (to_z-of_z {w = w64} hf, to_z-of_z {w = w64} hx) (sfits-abs (f *ℤ x) (omega (arith, abs-mul f x)))

  product_is : to_z w64 (of_z w64 (to_z w64 (of_z w64 f) *ℤ to_z w64 (of_z w64 x))) ≡ f *ℤ x
  product_is = to_z-of_z {w = w64} product-fits ∙ rw (to_z-of_z {w = w64} hf, to_z-of_z {w = w64} hx)

  sum_fits : SFits w64 (to_z w64 (of_z w64 s) +ℤ to_z w64 (of_z w64 (to_z w64 (of_z w64 f) *ℤ to_z w64 (of_z w64 x))))
  sum_fits = rw (product_is, to_z-of_z {w = w64} hs) (sfits-abs (s +ℤ f *ℤ x) (omega (arith, abs-mul f x, abs-add s (f *ℤ x))))

  sum_is : to_z w64 (of_z w64 (to_z w64 (of_z w64 s) +ℤ to_z w64 (of_z w64 (to_z w64 (of_z w64 f) *ℤ to_z w64 (of_z w64 x))))) ≡ s +ℤ f *ℤ x
  sum_is = to_z-of_z {w = w64} sum_fits ∙ rw (product_is, to_z-of_z {w = w64} hs)

pub overflow_mul-result : goal.overflow_mul-result
overflow_mul-result c = product-fits c.args.sum c.args.factor c.args.x c.ranges.factor c.ranges.x c.ranges.sum c.requires

pub overflow_add-result : goal.overflow_add-result
overflow_add-result c = sum_fits c.args.sum c.args.factor c.args.x c.ranges.factor c.ranges.x c.ranges.sum c.requires

pub returns : goal.returns
returns c = sum_is c.args.sum c.args.factor c.args.x c.ranges.factor c.ranges.x c.ranges.sum c.requires
