-- `ramp::fetch_by` meets its contract: the sizes of each number of axes are those of the cell.
use mathlib.Core.Path.{◌∙◌}
use native.Mathlib.Omega.{arith}
use Rattle.ramp.proofs.FetchLaws.{on_line, on-plane, in-space}
use Rattle.ramp.proofs.fetch_by.Goals as goal

pub copy_within-requires : goal.copy_within-requires
copy_within-requires c =
    let a = c.args in
    (on_line a.s a.records.now a.cell c.requires.0 c.requires.1 c.requires.2 a.m c.requires.3 c.layout_of-l.result c.layout_of-l.ensures
    c.entry_limits-limits.result.limits c.entry_limits-limits.ensures c.if-n-eq1.true).asked

pub returns-then-n-eq1 : goal.returns-then-n-eq1
returns-then-n-eq1 c =
    let a = c.args in
    let f = on_line a.s a.records.now a.cell c.requires.0 c.requires.1 c.requires.2 a.m c.requires.3 c.layout_of-l.result
    c.layout_of-l.ensures c.entry_limits-limits.result.limits c.entry_limits-limits.ensures c.if-n-eq1.true in
    record { held = f.is_held _ c.copy_within.ensures.copied; value = c.copy_within.ensures.value ∙ f.is }

pub copy_within-requires-then-n-eq2 : goal.copy_within-requires-then-n-eq2
copy_within-requires-then-n-eq2 c =
    let a = c.args in
    (on-plane a.s a.records.now a.cell c.requires.0 c.requires.1 c.requires.2 a.m c.requires.3 c.layout_of-l.result c.layout_of-l.ensures
    c.entry_limits-limits.result.limits c.entry_limits-limits.ensures c.if-n-eq2.true).asked

pub returns-then-n-eq2 : goal.returns-then-n-eq2
returns-then-n-eq2 c =
    let a = c.args in
    let f = on-plane a.s a.records.now a.cell c.requires.0 c.requires.1 c.requires.2 a.m c.requires.3 c.layout_of-l.result
    c.layout_of-l.ensures c.entry_limits-limits.result.limits c.entry_limits-limits.ensures c.if-n-eq2.true in
    record { held = f.is_held _ c.copy_within-then-n-eq2.ensures.copied; value = c.copy_within-then-n-eq2.ensures.value ∙ f.is }

pub copy_within-requires-2 : goal.copy_within-requires-2
copy_within-requires-2 c =
    let a = c.args in
    (in-space a.s a.records.now a.cell c.requires.0 c.requires.1 c.requires.2 a.m c.requires.3 c.layout_of-l.result c.layout_of-l.ensures
    c.entry_limits-limits.result.limits c.entry_limits-limits.ensures
    (omega (arith, c.requires.0.axes-low, c.requires.0.axes-high, c.if-n-eq1.false, c.if-n-eq2.false))).asked

pub returns : goal.returns
returns c =
    let a = c.args in
    let f = in-space a.s a.records.now a.cell c.requires.0 c.requires.1 c.requires.2 a.m c.requires.3 c.layout_of-l.result
    c.layout_of-l.ensures c.entry_limits-limits.result.limits c.entry_limits-limits.ensures
    (omega (arith, c.requires.0.axes-low, c.requires.0.axes-high, c.if-n-eq1.false, c.if-n-eq2.false)) in
    record { held = f.is_held _ c.copy_within-2.ensures.copied; value = c.copy_within-2.ensures.value ∙ f.is }
