-- `powers::columns` meets its contract.
use mathlib.Core.Path.{◌≡◌, refl, refl, sym, ap, ◌∙◌}
use mathlib.Core.List.{List}
use Prim.Native.Nat.{ℕ, ◌+◌, ◌/◌, ◌%◌, ◌^◌, ◌<◌}
use native.Mathlib.Nat.{not-suc-le-zero, not-suc-le-zero, lt_of_le_of_lt}
use native.Mathlib.Omega.{arith}
use lib.Dec.{lit<}
use lib.IntN.{ℤ, ◌*ℤ◌}
use lib.ListN.{length-set}
use lib.ListN.{length-set}
use lib.Signed.{mag}
use mir.Facts.{to_z-of_z}
use mir.Syntax.{w32}
use mir.Val.{SFits, to_z, of_z}
use Rattle.arith.proofs.Abs.{sfits-abs}
use Rattle.arith.proofs.Machine.{element}
use Rattle.lattice.specs.Buffer.{at}
use Rattle.lattice.proofs.BufferLaws.{fill}
use Rattle.cell.specs.declared.Layout.{Layout}
use Rattle.cell.specs.Cell.{start_of}
use Rattle.coefficients.specs.Blocks.{Gathered}
use Rattle.powers.specs.Powers.{factor}
use Rattle.powers.specs.Parts.{column_at}
use Rattle.powers.proofs.MatrixLaws.{column-at, column-within}
use Rattle.powers.proofs.columns.Goals as goal

abbrev held : ℤ → ℤ
held z = to_z w32 (of_z w32 z)

-- one column
module _ (l : Layout) (rs : List ℤ) (g : Gathered 2 2 l rs) (k start : ℕ) (low : k < 16) (here : start ≡ start_of l (k % 4)) where
  module _ (x : mag (factor k) < 2 ^ 31) (y : mag (at rs (start + k / 4)) < 2 ^ 31) where
    product_is : held (factor k) *ℤ held (at rs (start + k / 4)) ≡ column_at l rs k
    product_is =
        rw (element (factor k) x, element (at rs (start + k / 4)) y)
        (ap (λ (i : ℕ). factor k *ℤ at rs (i + k / 4)) here ∙ sym (column-at l rs k low))

    product-fits : SFits w32 (held (factor k) *ℤ held (at rs (start + k / 4)))
    product-fits = rw product_is (sfits-abs (column_at l rs k) (lt_of_le_of_lt (column-within l rs g k low) (lit< tt)))

    column-is : held (held (factor k) *ℤ held (at rs (start + k / 4))) ≡ column_at l rs k
    column-is = to_z-of_z {w = w32} product-fits ∙ product_is

pub overflow_mul-xs : goal.overflow_mul-xs
unfolding factor
overflow_mul-xs c =
    product-fits c.args.l c.args.records.now c.requires c.loop-k.k c.corner_start-start.result c.loop-k-test.true
    c.corner_start-start.ensures c.xs-1.given c.xs-in-loop-k-1.given

pub loop-k-init : goal.loop-k-init
loop-k-init c = (refl, λ K h. absurd (not-suc-le-zero h))

pub loop-k-preserved : goal.loop-k-preserved
unfolding factor
loop-k-preserved c =
    let w = c.loop-k in (
      simp length-set w.invariant.0,
      λ K h. fill w.xs w.k (column_at c.args.l c.args.records.now) _ (let n = w.invariant.0 in omega arith) w.invariant.1
          (column-is c.args.l c.args.records.now c.requires w.k c.corner_start-start.result c.loop-k-test.true
          c.corner_start-start.ensures c.xs-1.given c.xs-in-loop-k-1.given) K h,
    )
