-- `totals::Rows::check` meets its contract: no row before the one at hand has an entry beyond its limit.
use mathlib.Core.Path.{◌≡◌, refl, sym, subst, ◌∙◌}
use Prim.Native.Nat.{ℕ, ◌<◌, ◌/◌}
use native.Mathlib.Omega.{arith}
use lib.Dec.{lit<}
use Rattle.lattice.specs.Outcome.{done, first_of}
use Rattle.lattice.proofs.OutcomeLaws.{first_of-stops, first_of-more, handed_on}
use Rattle.cell.specs.Cell.{limit_in}
use Rattle.totals.specs.Parts.{row_count}
use Rattle.totals.proofs.RowLaws.{entries-few, row-test, tested-at}
use Rattle.totals.proofs.Rows.check.Goals as goal

pub loop-r-init : goal.loop-r-init
unfolding first_of
loop-r-init c = refl

pub check_row-requires : goal.check_row-requires
check_row-requires c =
    let s = c.args.self.now in
    let w = s.walk in
    let k = w.inside c.loop-r.r (let e = c.count-r-end.ensures.0 in omega arith) in
    let h = w.cells-few 0 (lit< tt) in
    let n = w.entries-are in
    let m = entries-few s.layout.orders (s.layout.entries / s.layout.orders) w.orders-high w.groups-few in
    (omega arith, omega arith, omega arith)

pub returns-in_err-check_row : goal.returns-in_err-check_row
returns-in_err-check_row c =
    let s = c.args.self.now in
    let limits = limit_in c.args.limits.now.limits in
    let inside : c.loop-r.r < row_count s.cells = (let e = c.count-r-end.ensures.0 in omega arith) in
    handed_on _ _ c.from_residual.ensures
    ∙ sym (first_of-stops (row_count s.cells) c.loop-r.r (row-test limits s.layout s.cells s.records.now) _ _ inside c.loop-r.invariant
    (sym (c.in_err-check_row.ensures
    ∙ tested-at limits s.layout s.cells s.records.now c.start.result c.loop-r.r c.start.ensures)))

pub loop-r-preserved : goal.loop-r-preserved
loop-r-preserved c =
    let s = c.args.self.now in
    let limits = limit_in c.args.limits.now.limits in
    first_of-more c.loop-r.r (row-test limits s.layout s.cells s.records.now) c.loop-r.invariant
    (sym (c.in_ok-check_row.ensures ∙ tested-at limits s.layout s.cells s.records.now c.start.result c.loop-r.r c.start.ensures))

pub returns : goal.returns
returns c =
    let s = c.args.self.now in
    let e : c.loop-r.r ≡ row_count s.cells = (let h = c.count-r-end.ensures.0 in omega arith) in
    sym (subst (λ (k : ℕ). first_of k (row-test (limit_in c.args.limits.now.limits) s.layout s.cells s.records.now) ≡ done tt)
    e c.loop-r.invariant)
