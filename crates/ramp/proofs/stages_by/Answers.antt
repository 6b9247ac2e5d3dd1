-- `ramp::stages_by` meets its contract: the sizes of each number of axes are those of the table of one cell.
use mathlib.Core.Path.{sym, ◌∙◌}
use borrow.Author.Rules.{sfits_of}
use mir.Facts.{to_z-of_z}
use mir.Syntax.{w64}
use native.Mathlib.Omega.{arith}
use Rattle.arith.proofs.Editions.{edition-sound}
use Rattle.lattice.proofs.ShapeLaws.{pow-one, pow-two, pow-three}
use Rattle.ramp.proofs.DoseLaws.{on_line, on-plane, in-space}
use Rattle.ramp.proofs.stages_by.Goals as goal

pub on_line-requires : goal.on_line-requires
on_line-requires c =
    let a = c.args in
    (on_line (edition-sound a.even) a.s a.held.now a.step c.requires.0 a.m.count a.m.count (sym c.requires.1) c.if-n-eq1.true
    (pow-one a.m.count)).asks

pub returns-then-n-eq1 : goal.returns-then-n-eq1
returns-then-n-eq1 c =
    let a = c.args in
    to_z-of_z {w = w64} (sfits_of c.on_line.type_inv)
    ∙ (on_line (edition-sound a.even) a.s a.held.now a.step c.requires.0 a.m.count a.m.count (sym c.requires.1) c.if-n-eq1.true
    (pow-one a.m.count)).gives c.on_line.result c.on_line.ensures

pub on_plane-requires : goal.on_plane-requires
on_plane-requires c =
    let a = c.args in
    (on-plane (edition-sound a.even) a.s a.held.now a.step c.requires.0 a.m.count _ (sym c.requires.1) c.if-n-eq2.true
    (pow-two a.m.count)).asks

pub returns-then-n-eq2 : goal.returns-then-n-eq2
returns-then-n-eq2 c =
    let a = c.args in
    to_z-of_z {w = w64} (sfits_of c.on_plane.type_inv)
    ∙ (on-plane (edition-sound a.even) a.s a.held.now a.step c.requires.0 a.m.count _ (sym c.requires.1) c.if-n-eq2.true
    (pow-two a.m.count)).gives c.on_plane.result c.on_plane.ensures

pub in_space-requires : goal.in_space-requires
in_space-requires c =
    let a = c.args in
    (in-space (edition-sound a.even) a.s a.held.now a.step c.requires.0 a.m.count _ (sym c.requires.1)
    (omega (arith, c.requires.0.shape.axes-low, c.requires.0.shape.axes-high, c.if-n-eq1.false, c.if-n-eq2.false))
    (pow-three a.m.count)).asks

pub returns : goal.returns
returns c =
    let a = c.args in
    to_z-of_z {w = w64} (sfits_of c.in_space.type_inv)
    ∙ (in-space (edition-sound a.even) a.s a.held.now a.step c.requires.0 a.m.count _ (sym c.requires.1)
    (omega (arith, c.requires.0.shape.axes-low, c.requires.0.shape.axes-high, c.if-n-eq1.false, c.if-n-eq2.false))
    (pow-three a.m.count)).gives c.in_space.result c.in_space.ensures
