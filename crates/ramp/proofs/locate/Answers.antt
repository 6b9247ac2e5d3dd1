-- `ramp::locate` meets its contract: the cells and steps are those of the position, read by two's complement.
use Rattle.lattice.specs.Shape.{count}
use Rattle.cell.proofs.CellLaws.{accepted}
use Rattle.query.specs.Queries.{position_at}
use Rattle.query.proofs.Locate.{stands-for, cell_below, cell-held, located-axes, located-cells, located-tests, located-cell, located-step}
use Rattle.ramp.specs.Parts.{spot_outcome}
use Rattle.ramp.proofs.locate.Goals as goal

pub overflow_mul-result : goal.overflow_mul-result
overflow_mul-result c = cell-held _ _ _ c.cell_of-a.ensures c.unsigned-x.type_inv

pub overflow_sub-result : goal.overflow_sub-result
overflow_sub-result c = cell_below _ _ _ c.cell_of-a.ensures

pub overflow_mul-result-2 : goal.overflow_mul-result-2
overflow_mul-result-2 c = cell-held _ _ _ c.cell_of-b.ensures c.unsigned-y.type_inv

pub overflow_sub-result-2 : goal.overflow_sub-result-2
overflow_sub-result-2 c = cell_below _ _ _ c.cell_of-b.ensures

pub overflow_mul-result-3 : goal.overflow_mul-result-3
overflow_mul-result-3 c = cell-held _ _ _ c.cell_of-c.ensures c.unsigned-z.type_inv

pub overflow_sub-result-3 : goal.overflow_sub-result-3
overflow_sub-result-3 c = cell_below _ _ _ c.cell_of-c.ensures

pub returns : goal.returns
unfolding count spot_outcome
returns c even =
    let s = c.args.s in
    let ok = c.requires.0 in
    let xs = c.args.position.now in
    let p = position_at xs in
    let l = located-axes s xs c.unsigned-x.result c.unsigned-y.result c.unsigned-z.result _ _ _
    (stands-for _ c.unsigned-arg-1.given c.unsigned-x.ensures) (stands-for _ c.unsigned-arg-2-1.given c.unsigned-y.ensures)
    (stands-for _ c.unsigned-arg-3-1.given c.unsigned-z.ensures) c.cell_of-a.ensures c.cell_of-b.ensures c.cell_of-c.ensures in
    record {
      tests = located-tests s even p _ _ _ l ok;
      here = accepted s _ ok.axes-high (located-cells s even p _ _ _ l ok);
      cell-is = located-cell s even p _ _ _ l ok;
      step_is = located-step s even p _ _ _ l ok;
    }
