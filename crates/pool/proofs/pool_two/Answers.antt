-- `pool_two` meets its contract: the mean of the lifted samples is the pooled sample, lifted.
use mathlib.Core.Path.{◌≡◌, ap, ◌∙◌}
use Prim.Native.Nat.{ℕ, ◌≤◌}
use native.Mathlib.Omega.{arith}
use lib.IntN.{ℤ, pos, ◌+ℤ◌, ◌-ℤ◌, +ℤ-neg_ℤ_cancel}
use mir.Syntax.{w32}
use mir.Val.{SFits, to_z, of_z}
use mir.Facts.{to_z-of_z, to_z_pos}
use Rattle.arith.proofs.Abs.{abs-minus, sfits-abs}
use Rattle.pool.specs.Pool.{pooled}
use Rattle.pool.proofs.PoolLaws.{pooled-lifted}
use Rattle.pool.proofs.pool_two.Goals as goal

module _ (r : ℕ) (high : r ≤ 65536) (s : ℤ) (is : s ≡ to_z w32 r) where
  lowered : s ≡ pos r
  lowered = is ∙ to_z_pos w32 {n = r} (omega arith)

  kept : to_z w32 (of_z w32 s) ≡ pos r
  kept = ap (λ z. to_z w32 (of_z w32 z)) lowered ∙ to_z-of_z {w = w32} (sfits-abs {w = w32} (pos r) (omega arith))

  sub-fits : SFits w32 (to_z w32 (of_z w32 s) -ℤ pos 32768)
  sub-fits = rw kept (sfits-abs {w = w32} (pos r -ℤ pos 32768) (omega (arith, abs-minus (pos r) (pos 32768))))

  lowered_is : to_z w32 (of_z w32 (to_z w32 (of_z w32 s) -ℤ pos 32768)) ≡ pos r -ℤ pos 32768
  lowered_is = to_z-of_z {w = w32} sub-fits ∙ ap (λ z. z -ℤ pos 32768) kept

-- a sample, read
held : {a : ℤ} → SFits w32 a → to_z w32 (of_z w32 a) +ℤ pos 32768 ≡ a +ℤ pos 32768
held f = ap (λ z. z +ℤ pos 32768) (to_z-of_z {w = w32} f)

pub returns : goal.returns
returns c =
    let m = c.mean.ensures in
    let y = c.lifted-2.ensures in
    let x = c.lifted.ensures in
    let a = c.args in
    lowered_is c.mean.result m.1 _ c.cast_signed.ensures
    ∙ ap (λ z. z -ℤ pos 32768)
    (ap pos m.0
    ∙ pooled-lifted a.a a.b a.v a.w _ _ (x.is ∙ held c.ranges.a) (y.is ∙ held c.ranges.b) c.requires.2.some)
    ∙ +ℤ-neg_ℤ_cancel (pooled a.a a.v a.b a.w) (pos 32768)

pub overflow_sub-result : goal.overflow_sub-result
overflow_sub-result c = sub-fits c.mean.result c.mean.ensures.1 _ c.cast_signed.ensures
