-- `powers::by_rows` meets its contract: the slice is filled from the front, row by row.
use mathlib.Core.Path.{◌≡◌, ap, ◌∙◌}
use mathlib.Core.List.{List}
use Prim.Native.Nat.{ℕ, ◌+◌, ◌-◌, ◌*◌, ◌<◌}
use native.Mathlib.Omega.{arith}
use lib.IntN.{ℤ, pos, nat_abs, ◌*ℤ◌}
use lib.ListN.{length, take, drop}
use mir.Facts.{to_z-of_z}
use mir.Syntax.{w32}
use borrow.Author.Rules.{sfits_of}
use Rattle.std.proofs.lemmas.List.{get_or-take, get_or-drop, length-take, length-drop}
use Rattle.arith.proofs.Sums.{sum-ext, total_ext}
use Rattle.lattice.specs.Buffer.{at}
use Rattle.lattice.proofs.BufferLaws.{filled_none, filled_more}
use Rattle.powers.specs.Parts.{row_sum, row_load}
use Rattle.powers.proofs.by_rows.Goals as goal

-- number k of a row
row-at : (m : List ℤ) (r k : ℕ) → k < 16 → at (take (16 * r + 16 - 16 * r) (drop (16 * r) m)) k ≡ at m (16 * r + k)
row-at m r k l = get_or-take (16 * r + 16 - 16 * r) (drop (16 * r) m) k (pos 0) (omega arith) ∙ get_or-drop (16 * r) m k (pos 0)

pub loop-r-init : goal.loop-r-init
loop-r-init c = filled_none (row_sum c.args.matrix.now c.args.xs.now) c.args.out.now

-- a row of the matrix
row-long : (m : List ℤ) (r : ℕ) → length m ≡ 256 → r < 16 → length (take (16 * r + 16 - 16 * r) (drop (16 * r) m)) ≡ 16
row-long m r e l = omega (arith, length-take {A = ℤ}, length-drop {A = ℤ})

pub by_row-requires : goal.by_row-requires
unfolding row_load
by_row-requires c =
    let m = c.args.matrix.now in
    let r = c.loop-r.r in (
      row-long m r (omega arith) c.loop-r-test.true,
      rw (total_ext 16 _ (λ K. nat_abs (at m (16 * r + K)) * nat_abs (at c.args.xs.now K))
          (λ K l. ap (λ z. nat_abs z * nat_abs (at c.args.xs.now K)) (row-at m r K l)))
          (c.requires.1 r c.loop-r-test.true),
    )

pub loop-r-preserved : goal.loop-r-preserved
unfolding row_sum
loop-r-preserved c =
    let a = c.args in
    let w = c.loop-r in
    let h = c.requires.0 in
    filled_more (row_sum a.matrix.now a.xs.now) a.out.now w.r w.out _ (pos 0) (omega arith) w.invariant
    (to_z-of_z {w = w32} (sfits_of c.by_row.type_inv) ∙ c.by_row.ensures
    ∙ sum-ext 16 _ (λ K. at a.matrix.now (16 * w.r + K) *ℤ at a.xs.now K)
    (λ K l. ap (λ z. z *ℤ at a.xs.now K) (row-at a.matrix.now w.r K l)))
