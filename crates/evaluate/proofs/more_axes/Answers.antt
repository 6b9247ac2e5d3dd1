-- `evaluate::more_axes` meets its contract: the stages of two axes, or of three, are worked off one above the other.
use mathlib.Core.Path.{◌≡◌}
use mathlib.Core.Bool.{true}
use Prim.Native.Nat.{◌≤◌}
use native.Mathlib.Omega.{arith}
use borrow.Author.Tests.{not-true, not-false}
use Rattle.hermite.specs.Hermite.{steps}
use Rattle.evaluate.proofs.StageOrder.{steps_of, two-ask, two-give, three-ask, three-give}
use Rattle.evaluate.proofs.more_axes.Goals as goal
use Rattle.evaluate.proofs.more_axes.Goals.{Start}

low : (s : Start) → (s.args.a.step ≤ steps) × (s.args.c.step ≤ steps) × (s.args.three ≡ true → s.args.b.step ≤ steps)
low s = let a = s.args in steps_of a.a a.b a.c a.three s.requires.steps-in

pub both_stages-requires : goal.both_stages-requires
both_stages-requires c =
    let d = c in
    let s = d in let both = two-ask s.args.b d.axis_of-x.ensures d.last_stage-z.ensures s.args.three (not-true _ c.if-not-three.true-raw)
    s.requires in
    record { all_prepared = both.0; safe = both.1 }

pub returns-then-not-three : goal.returns-then-not-three
returns-then-not-three c =
    let d = c in
    let s = d in
    two-give s.args.b d.axis_of-x.ensures d.last_stage-z.ensures s.args.three (not-true _ c.if-not-three.true-raw)
    c.both_stages.ensures

pub third-requires : goal.third-requires
third-requires c =
    let d = c in
    let s = d in let both = three-ask s.args.b d.axis_of-x.ensures d.last_stage-z.ensures c.axis_of-y.ensures s.args.three
    (not-false _ c.if-not-three.false-raw) s.requires in
    record { all_prepared = both.0; safe = both.1 }

pub returns : goal.returns
returns c =
    let e = c in
    let d = e in
    let s = d in
    three-give s.args.b d.axis_of-x.ensures d.last_stage-z.ensures e.axis_of-y.ensures s.args.three
    (not-false _ e.if-not-three.false-raw)
    c.third.ensures

pub axis_of-x-requires : goal.axis_of-x-requires
axis_of-x-requires c = (omega (arith, c.requires.m-low), (low c).0)

pub last_stage-z-requires : goal.last_stage-z-requires
last_stage-z-requires c = (c.requires.smooth, (low c.before).1)

pub axis_of-y-requires : goal.axis_of-y-requires
axis_of-y-requires c = let s = c.before.before.before in
    (omega (arith, s.requires.m-low), (low s).2 (not-false _ c.if-not-three.false-raw))
