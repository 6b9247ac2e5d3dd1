-- `query::is_finest` meets its contract: the tests of three axes.
use mathlib.Core.Path.{◌≡◌, sym, ◌∙◌}
use Prim.Native.Nat.{ℕ, ◌≤◌}
use native.Mathlib.Omega.{arith}
use lib.Dec.{ltb}
use borrow.Author.Tests.{eqb-true, lt-ltb}
use Rattle.arith.proofs.Choices.{clash, pick_true, by-3}
use Rattle.lattice.specs.Shape.{steps_on, finest_on}
use Rattle.query.proofs.is_finest.Goals as goal

finest-first : (n : ℕ) → 1 ≤ n → 256 ≡ finest_on n 0
unfolding finest_on
finest-first n h = sym (pick_true (ltb 0 n) 256 1 (lt-ltb 0 n (omega arith)))

pub returns : goal.returns
unfolding steps_on
returns c e h =
    let two = c in
    let y = two in
    let one = y in
    let t = one.args.t in
    by-3 (λ (a : ℕ). steps_on t a ≡ finest_on t.shape.axes a)
    (one.if-t-ne256.false ∙ finest-first t.shape.axes h) (two.if-t-finest_on.false ∙ y.finest_on.ensures)
    (eqb-true _ _ e ∙ c.finest_on-2.ensures)

pub returns-then-t-ne256 : goal.returns-then-t-ne256
returns-then-t-ne256 c e = clash (cc)

pub returns-then-t-finest_on : goal.returns-then-t-finest_on
returns-then-t-finest_on c e = clash (cc)
