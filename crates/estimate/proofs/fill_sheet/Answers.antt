-- `fill_sheet` meets its contract. The loop's invariant: the records of the rows before row y are written.
use mathlib.Core.Path.{◌≡◌}
use Prim.Native.Nat.{◌*◌, ◌≤◌}
use native.Mathlib.Nat.{mul-one, mul-le-mul}
use native.Mathlib.Omega.{arith}
use Rattle.estimate.specs.declared.Grid.{Grid}
use lib.ListN.{length-take}
use Rattle.estimate.specs.Passes.{row_yz, plane_of, Grids}
use Rattle.estimate.proofs.RowsLaws.{row_same, rows_in, row_seen}
use Rattle.estimate.proofs.PlacedLaws.{written-none, written-all, turn-room, turn-length, turn_more}
use Rattle.estimate.proofs.fill_sheet.Goals as goal

row-y-high : (g : Grid) → Grids g → g.z.orders ≡ 1 → g.y.orders * g.z.orders * g.x.count ≤ 192
row-y-high g ok e = rw (e, mul-one g.y.orders) (mul-le-mul ok.my.1 ok.x-high)

pub loop-y-init : goal.loop-y-init
loop-y-init c = let h = row-y-high c.args.g c.requires.0.grid c.requires.1 in (written-none, simp length-take (omega arith))

pub fill_row-requires : goal.fill_row-requires
fill_row-requires c =
    let g = c.args.g in
    let ok = c.requires.0 in
    let i = c.loop-y.invariant in
    record {
      rows = (rows_in g ok.grid, turn-length i.0 c.loop-y-test.true c.requires.3);
      read = row_seen ok c.loop-y.y 0 c.row_y.ensures (omega (arith, c.row_y.auto, i.1));
    }

pub loop-y-preserved : goal.loop-y-preserved
loop-y-preserved c =
    let g = c.args.g in
    let i = c.loop-y.invariant in (
      turn_more i.0 c.loop-y-test.true c.requires.3 c.fill_row.ensures
          (row_same g c.requires.0.grid _ (row_yz g c.args.xs.now c.loop-y.y 0) c.row_y.ensures),
      omega (arith, c.row_y.auto, i.1),
    )

pub slice_bounds-fill_row-end : goal.slice_bounds-fill_row-end
slice_bounds-fill_row-end c = omega (arith, turn-room c.loop-y.invariant.0 c.loop-y-test.true c.requires.3)

pub returns : goal.returns
unfolding plane_of
returns c = written-all c.loop-y.invariant.0 (omega (arith, c.loop-y.auto.y-end, c.loop-y-test.false))
