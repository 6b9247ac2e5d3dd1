-- `totals::total_in` meets its contract: refused where the walk meets an entry beyond its limit, else the sum of all rows.
use mathlib.Core.Path.{sym, ap, ◌∙◌}
use native.Mathlib.Omega.{arith}
use mir.Facts.{to_z-of_z}
use mir.Syntax.{w64}
use borrow.Author.Rules.{sfits_of}
use lib.IntN.{ℤ}
use Rattle.lattice.specs.Outcome.{done}
use Rattle.lattice.proofs.OutcomeLaws.{stopped, went-on}
use Rattle.lattice.proofs.ShapeLaws.{orders-range}
use Rattle.cell.specs.Cell.{place_at}
use Rattle.totals.specs.Parts.{cells_within}
use Rattle.totals.proofs.NumeratorLaws.{numerator-rows}
use Rattle.totals.proofs.CallLaws.{first-accepted, walk, some-entries, rows-tested, entries-low}
use Rattle.totals.proofs.total_in.Goals as goal

pub layout_of-layout-requires : goal.layout_of-layout-requires
layout_of-layout-requires c =
    let a = c.args in
    record {
      shaped = c.requires.0;
      accepted = first-accepted a.s c.requires.0 (place_at a.from) (place_at a.to) c.requires.2 a.records.now c.requires.1;
    }

pub invariant_of-rows : goal.invariant_of-rows
unfolding cells_within
invariant_of-rows c =
    let a = c.args in
    record {
      some = some-entries a.s c.requires.0 (place_at a.from) (place_at a.to) c.requires.2 a.records.now c.requires.1
          c.layout_of-layout.result c.layout_of-layout.ensures c.cells_of-cells.result c.cells_of-cells.ensures;
      walk = walk a.s c.requires.0 (place_at a.from) (place_at a.to) c.requires.2 a.records.now c.requires.1 c.layout_of-layout.result
          c.layout_of-layout.ensures c.cells_of-cells.result c.cells_of-cells.ensures;
    }

pub invariant_of-entry_limits : goal.invariant_of-entry_limits
invariant_of-entry_limits c =
    let r = orders-range c.args.s.degree in
    let e = c.layout_of-layout.ensures.orders-are in
    record { bounds = (omega arith, omega arith) }

pub returns-in_err-check : goal.returns-in_err-check
unfolding cells_within
returns-in_err-check c =
    let a = c.args in
    stopped _ _ _ _ c.from_residual.ensures
    (c.in_err-check.ensures ∙ rows-tested a.s c.requires.0 (place_at a.from) (place_at a.to) c.requires.2 a.records.now c.requires.1
    c.layout_of-layout.result c.layout_of-layout.ensures c.cells_of-cells.result c.cells_of-cells.ensures c.entry_limits.result.limits
    c.entry_limits.ensures)

pub sum-requires : goal.sum-requires
unfolding cells_within
sum-requires c =
    let a = c.args in
    entries-low a.s c.requires.0 (place_at a.from) (place_at a.to) c.requires.2 a.records.now c.requires.1 c.layout_of-layout.result
    c.layout_of-layout.ensures c.cells_of-cells.result c.cells_of-cells.ensures
    (sym (c.in_ok-check.ensures ∙ rows-tested a.s c.requires.0 (place_at a.from) (place_at a.to) c.requires.2 a.records.now c.requires.1
    c.layout_of-layout.result c.layout_of-layout.ensures c.cells_of-cells.result c.cells_of-cells.ensures c.entry_limits.result.limits
    c.entry_limits.ensures))

pub returns : goal.returns
unfolding cells_within
returns c =
    let a = c.args in
    went-on _ _ _
    (c.in_ok-check.ensures ∙ rows-tested a.s c.requires.0 (place_at a.from) (place_at a.to) c.requires.2 a.records.now c.requires.1
    c.layout_of-layout.result c.layout_of-layout.ensures c.cells_of-cells.result c.cells_of-cells.ensures c.entry_limits.result.limits
    c.entry_limits.ensures)
    (ap (λ (v : ℤ). done v) (to_z-of_z {w = w64} (sfits_of c.sum.type_inv) ∙ c.sum.ensures
    ∙ numerator-rows a.s c.requires.0 (place_at a.from) (place_at a.to) c.requires.2 a.records.now c.layout_of-layout.result
    c.layout_of-layout.ensures c.cells_of-cells.result c.cells_of-cells.ensures))
