-- `totals::Rows::start` meets its contract: the steps along y and z, whose sums fit.
use mathlib.Core.Path.{refl}
use native.Mathlib.Omega.{arith}
use Rattle.totals.specs.Parts.{row_start}
use Rattle.totals.proofs.RowLaws.{y-step, z-step}
use Rattle.totals.proofs.Rows.start.Goals as goal

pub returns : goal.returns
unfolding row_start
returns c = refl

pub overflow_mul-result : goal.overflow_mul-result
overflow_mul-result c =
    let w = c.args.self.now.walk in
    let y = y-step c.args.self.now.cells c.args.r c.requires c.args.self.now.layout w.small w.cells-few in
    omega arith

pub overflow_mul-result-2 : goal.overflow_mul-result-2
overflow_mul-result-2 c =
    let w = c.args.self.now.walk in
    let z = z-step c.args.self.now.cells c.args.r c.requires c.args.self.now.layout w.small w.cells-few in
    omega arith

pub overflow_add-result : goal.overflow_add-result
overflow_add-result c =
    let w = c.args.self.now.walk in
    let y = y-step c.args.self.now.cells c.args.r c.requires c.args.self.now.layout w.small w.cells-few in
    let z = z-step c.args.self.now.cells c.args.r c.requires c.args.self.now.layout w.small w.cells-few in
    omega arith

pub overflow_add-result-2 : goal.overflow_add-result-2
overflow_add-result-2 c =
    let w = c.args.self.now.walk in
    let y = y-step c.args.self.now.cells c.args.r c.requires c.args.self.now.layout w.small w.cells-few in
    let z = z-step c.args.self.now.cells c.args.r c.requires c.args.self.now.layout w.small w.cells-few in
    let b = w.small.base-low in
    omega arith
