-- `fill_plane` meets its contract. The loop's invariant: the records of the rows before row y are written, and the ring holds what row y
-- asks for.
use native.Mathlib.Omega.{arith}
use Rattle.estimate.specs.Passes.{row_z, row_yz, plane_of}
use Rattle.estimate.proofs.PassesLaws.{row-z-high}
use Rattle.estimate.proofs.RowsLaws.{row_same, rows_in, row_seen}
use Rattle.estimate.proofs.RingLaws.{ring-first}
use Rattle.estimate.proofs.PlacedLaws.{placed-head, written-none, written-all, turn-room, turn-length, turn_more}
use Rattle.estimate.proofs.fill_plane.Goals as goal

pub loop-y-init : goal.loop-y-init
loop-y-init c =
    let g = c.args.g in
    let ok = c.requires.samples.0 in
    let s = c.requires.ring_len in (
      written-none,
      omega (arith, c.row_z.auto, s.0, row-z-high g ok.grid),
      s.1,
      ring-first ok c.args.z c.args.ring.now _ s.0
          (placed-head _ (row_z g c.args.xs.now 0 c.args.z) c.args.ring.now _ (omega (arith, row-z-high g ok.grid, s.0)) c.row_z.ensures),
    )

pub fill_row-requires : goal.fill_row-requires
fill_row-requires c =
    let g = c.args.g in
    let s = c.requires.samples in
    let i = c.loop-y.invariant in
    record {
      rows = (rows_in g s.0.grid, turn-length i.0 c.loop-y-test.true s.2);
      read = row_seen s.0 c.loop-y.y c.args.z c.row_yz.ensures.by_index (omega (arith, c.row_yz.auto, i.2));
    }

pub loop-y-preserved : goal.loop-y-preserved
loop-y-preserved c =
    let g = c.args.g in
    let s = c.requires.samples in
    let i = c.loop-y.invariant in (
      turn_more i.0 c.loop-y-test.true s.2 c.fill_row.ensures
          (row_same g s.0.grid _ (row_yz g c.args.xs.now c.loop-y.y c.args.z) c.row_yz.ensures.by_index),
      c.row_yz.ensures.ring.0,
      omega (arith, c.row_yz.auto, i.2),
      c.row_yz.ensures.ring.1,
    )

pub slice_bounds-fill_row-end : goal.slice_bounds-fill_row-end
slice_bounds-fill_row-end c = omega (arith, turn-room c.loop-y.invariant.0 c.loop-y-test.true c.requires.samples.2)

pub returns : goal.returns
unfolding plane_of
returns c = written-all c.loop-y.invariant.0 (omega (arith, c.loop-y.auto.y-end, c.loop-y-test.false))
