-- `evaluate::place_at` meets its contract: a number of the low end stands before the stride to the high one, one of the high end behind it.
use mathlib.Core.Path.{◌≡◌, sym}
use Prim.Native.Nat.{◌+◌, ◌*◌, ◌-◌, ◌≤◌, ◌<◌}
use native.Mathlib.Omega.{arith}
use lib.Dec.{ltb}
use borrow.Author.Tests.{lt-ltb, le-ltb}
use Rattle.arith.proofs.Choices.{pick_true, pick-false}
use Rattle.evaluate.specs.Stages.{place_of}
use Rattle.evaluate.proofs.place_at.Goals as goal
use Rattle.evaluate.proofs.place_at.Goals.{Start}

module _ (b : Start) where
  low : b.args.t < b.args.m → place_of b.args.m b.args.order b.args.node b.args.t ≡ b.args.t * b.args.order
  unfolding place_of
  low l = let a = b.args in pick_true (ltb a.t a.m) _ _ (lt-ltb a.t a.m l)

  high : b.args.m ≤ b.args.t
      → place_of b.args.m b.args.order b.args.node b.args.t ≡ b.args.node + (b.args.t - b.args.m) * b.args.order
  unfolding place_of
  high l = let a = b.args in pick-false (ltb a.t a.m) _ _ (le-ltb a.t a.m l)

pub overflow_mul-result : goal.overflow_mul-result
overflow_mul-result c = let h = low c.before c.if-t-m.true in let k = c.requires.1 in omega arith

pub returns-then-t-m : goal.returns-then-t-m
returns-then-t-m c = sym (low c.before c.if-t-m.true)

pub overflow_mul-result-2 : goal.overflow_mul-result-2
overflow_mul-result-2 c = let h = high c.before c.if-t-m.false in let k = c.requires.1 in omega arith

pub overflow_add-result : goal.overflow_add-result
overflow_add-result c = let h = high c.before c.if-t-m.false in let k = c.requires.1 in omega arith

pub returns : goal.returns
returns c = sym (high c.before c.if-t-m.false)
