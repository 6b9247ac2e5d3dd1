-- `totals::factors` meets its contract: the numbers of each case are those of the multipliers.
use mathlib.Core.Path.{refl}
use mathlib.Core.Bool.{true, false}
use mathlib.Core.List.{[], ◌∷◌}
use native.Mathlib.Omega.{arith}
use lib.IntN.{pos, negsuc}
use borrow.Author.Tests.{lt-ltb, le-ltb}
use Rattle.arith.specs.Choice.{pick}
use Rattle.arith.specs.Sum.{sum}
use Rattle.hermite.specs.Hermite.{multiplier, mirrored, share}
use Rattle.totals.specs.Totals.{total_multiplier}
use Rattle.totals.specs.Parts.{taken}
use Rattle.totals.proofs.TakenLaws.{taken_by, taken_none, taken-cubic, taken-quintic}
use Rattle.totals.proofs.factors.Goals as goal

pub returns-then-cells-eq0 : goal.returns-then-cells-eq0
returns-then-cells-eq0 c = let a = c.args in taken_none a.m.count a.cells a.node a.m.bounds.1 c.if-cells-eq0.true

pub returns-then-node-eq0 : goal.returns-then-node-eq0
unfolding taken_by taken sum share multiplier mirrored pick total_multiplier
returns-then-node-eq0 c =
    let a = c.args in
    let h = a.m.bounds in
    taken-cubic a.m.count a.cells a.node true false (omega arith) (omega arith) (lt-ltb a.node a.cells (omega arith))
    (le-ltb 0 a.node (omega arith)) (pos 12 ∷ pos 1 ∷ pos 0 ∷ []) refl refl

pub returns-then-node-cells : goal.returns-then-node-cells
unfolding taken_by taken sum share multiplier mirrored pick total_multiplier
returns-then-node-cells c =
    let a = c.args in
    let h = a.m.bounds in
    taken-cubic a.m.count a.cells a.node false true (omega arith) (omega arith) (le-ltb a.node a.cells (omega arith))
    (lt-ltb 0 a.node (omega arith)) (pos 12 ∷ negsuc 0 ∷ pos 0 ∷ []) refl refl

pub returns-then-m-eq2 : goal.returns-then-m-eq2
unfolding taken_by taken sum share multiplier mirrored pick total_multiplier
returns-then-m-eq2 c =
    let a = c.args in
    let h = a.m.bounds in
    taken-cubic a.m.count a.cells a.node true true (omega arith) (omega arith) (lt-ltb a.node a.cells (omega arith))
    (lt-ltb 0 a.node (omega arith)) (pos 24 ∷ pos 0 ∷ pos 0 ∷ []) refl refl

pub returns-then-node-eq0-2 : goal.returns-then-node-eq0-2
unfolding taken_by taken sum share multiplier mirrored pick total_multiplier
returns-then-node-eq0-2 c =
    let a = c.args in
    let h = a.m.bounds in
    taken-quintic a.m.count a.cells a.node true false (omega arith) (omega arith) (lt-ltb a.node a.cells (omega arith))
    (le-ltb 0 a.node (omega arith)) (pos 60 ∷ pos 6 ∷ pos 1 ∷ []) refl refl refl

pub returns-then-node-cells-2 : goal.returns-then-node-cells-2
unfolding taken_by taken sum share multiplier mirrored pick total_multiplier
returns-then-node-cells-2 c =
    let a = c.args in
    let h = a.m.bounds in
    taken-quintic a.m.count a.cells a.node false true (omega arith) (omega arith) (le-ltb a.node a.cells (omega arith))
    (lt-ltb 0 a.node (omega arith)) (pos 60 ∷ negsuc 5 ∷ pos 1 ∷ []) refl refl refl

pub returns : goal.returns
unfolding taken_by taken sum share multiplier mirrored pick total_multiplier
returns c =
    let a = c.args in
    let h = a.m.bounds in
    taken-quintic a.m.count a.cells a.node true true (omega arith) (omega arith) (lt-ltb a.node a.cells (omega arith))
    (lt-ltb 0 a.node (omega arith)) (pos 120 ∷ pos 0 ∷ pos 2 ∷ []) refl refl refl
