-- `evaluate::in_sequence` meets its contract: the last axis is one of three, each with its own case.
use mathlib.Core.Path.{◌≡◌, refl, sym, subst}
use Prim.Native.Nat.{ℕ}
use native.Mathlib.Omega.{arith}
use Rattle.arith.specs.Choice.{pick}
use Rattle.evaluate.specs.declared.Strides.{Strides}
use Rattle.evaluate.specs.Stages.{of_axis, beside}
use Rattle.evaluate.proofs.in_sequence.Goals as goal
use Rattle.evaluate.proofs.in_sequence.Goals.{Start}

-- the axes a, b and c are in working order where `last` is the last
abbrev Ordered : Start → Strides → Strides → Strides → ℕ → Type 0
Ordered s a b c last =
    let f = of_axis s.args.x s.args.y s.args.z in
    (a ≡ f (beside 0 last)) × (b ≡ f (beside 2 last)) × (c ≡ f last)

pub returns-then-last-eq1 : goal.returns-then-last-eq1
unfolding of_axis beside pick
returns-then-last-eq1 c = let s = c.before in let a = s.args in subst (Ordered s a.x a.z a.y) (sym c.if-last-eq1.true) (refl, refl, refl)

pub returns-then-last-eq0 : goal.returns-then-last-eq0
unfolding of_axis beside pick
returns-then-last-eq0 c = let s = c.before.before in let a = s.args in
    subst (Ordered s a.y a.z a.x) (sym c.if-last-eq0.true) (refl, refl, refl)

pub returns : goal.returns
unfolding of_axis beside pick
returns c =
    let s = c.before.before in
    let a = s.args in
    let e : 2 ≡ a.last = omega (arith, s.requires, c.if-last-eq1.false, c.if-last-eq0.false) in
    subst (Ordered s a.x a.y a.z) e (refl, refl, refl)
