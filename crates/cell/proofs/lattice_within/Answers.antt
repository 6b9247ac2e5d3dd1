-- `cell::lattice_within` meets its contract: the sizes of each degree and number of axes as literals are those of the cell.
use mathlib.Core.Path.{◌≡◌, refl, sym, ◌∙◌}
use Prim.Native.Nat.{ℕ, ◌≤◌}
use native.Mathlib.Omega.{arith}
use lib.Dec.{lit≤}
use Rattle.lattice.specs.declared.Shape.{Shape}
use Rattle.lattice.specs.Shape.{Shaped}
use Rattle.cell.proofs.LayoutLaws.{Called, called, quintic-orders}
use Rattle.cell.proofs.lattice_within.Goals as goal
use Rattle.cell.proofs.lattice_within.Goals.{After-all_within-arg-1, After-all_within-arg-2-1, After-all_within-arg-then-l-eq2-1, After-all_within-arg-then-n-eq2-2-1}

-- a number of axes that is neither 1 nor 2
three : (s : Shape) (n : ℕ) → Shaped s → (n ≡ s.axes) × (2 ≤ n) → (n ≡ 2 → ⊥) → n ≡ 3
three s n ok is f = let h = ok.axes-high in let e = is.0 in let l = is.1 in omega (arith, f)

square : (c : After-all_within-arg-1) → Called c.args.s c.args.cell c.args.l c.args.records.now c.entry_limits-limits.result.limits 4 2
square c = called c.args.s c.args.cell c.args.l c.requires.accepted.1 2 2 4 2 c.if-l-eq2.true
    (sym c.requires.n_value.0 ∙ c.if-n-eq2.true) refl refl c.args.records.now c.entry_limits-limits.result.limits
    c.requires.shaped.0 c.requires.shaped.1 c.requires.accepted.0 c.cubic.result.count c.cubic.ensures c.entry_limits-limits.ensures
    (lit≤ tt) (lit≤ tt) (lit≤ tt)

cube : (c : After-all_within-arg-then-l-eq2-1)
    → Called c.args.s c.args.cell c.args.l c.args.records.now c.entry_limits-limits.result.limits 8 4
cube c = called c.args.s c.args.cell c.args.l c.requires.accepted.1 2 3 8 4 c.if-l-eq2.true
    (sym c.requires.n_value.0 ∙ three c.args.s c.args.n c.requires.shaped.0 c.requires.n_value c.if-n-eq2.false) refl refl
    c.args.records.now c.entry_limits-limits.result.limits
    c.requires.shaped.0 c.requires.shaped.1 c.requires.accepted.0 c.cubic.result.count c.cubic.ensures c.entry_limits-limits.ensures
    (lit≤ tt) (lit≤ tt) (lit≤ tt)

quintic_square : (c : After-all_within-arg-then-n-eq2-2-1) → Called c.args.s c.args.cell c.args.l c.args.records.now
    c.entry_limits-limits-2.result.limits 9 2
quintic_square c = called c.args.s c.args.cell c.args.l c.requires.accepted.1 3 2 9 2
    (quintic-orders c.args.s c.args.cell c.args.l c.requires.accepted.1 c.if-l-eq2.false)
    (sym c.requires.n_value.0 ∙ c.if-n-eq2-2.true) refl refl c.args.records.now c.entry_limits-limits-2.result.limits
    c.requires.shaped.0 c.requires.shaped.1 c.requires.accepted.0 c.quintic.result.count c.quintic.ensures c.entry_limits-limits-2.ensures
    (lit≤ tt) (lit≤ tt) (lit≤ tt)

quintic_cube : (c : After-all_within-arg-2-1)
    → Called c.args.s c.args.cell c.args.l c.args.records.now c.entry_limits-limits-2.result.limits 27 4
quintic_cube c = called c.args.s c.args.cell c.args.l c.requires.accepted.1 3 3 27 4
    (quintic-orders c.args.s c.args.cell c.args.l c.requires.accepted.1 c.if-l-eq2.false)
    (sym c.requires.n_value.0 ∙ three c.args.s c.args.n c.requires.shaped.0 c.requires.n_value c.if-n-eq2-2.false) refl refl
    c.args.records.now c.entry_limits-limits-2.result.limits
    c.requires.shaped.0 c.requires.shaped.1 c.requires.accepted.0 c.quintic.result.count c.quintic.ensures c.entry_limits-limits-2.ensures
    (lit≤ tt) (lit≤ tt) (lit≤ tt)

pub all_within-requires : goal.all_within-requires
all_within-requires c = (square c).asked

pub returns-then-n-eq2 : goal.returns-then-n-eq2
returns-then-n-eq2 c = c.all_within.ensures ∙ (square c.before).same

pub all_within-requires-then-l-eq2 : goal.all_within-requires-then-l-eq2
all_within-requires-then-l-eq2 c = (cube c).asked

pub returns-then-l-eq2 : goal.returns-then-l-eq2
returns-then-l-eq2 c = c.all_within-then-l-eq2.ensures ∙ (cube c.before).same

pub all_within-requires-then-n-eq2-2 : goal.all_within-requires-then-n-eq2-2
all_within-requires-then-n-eq2-2 c = (quintic_square c).asked

pub returns-then-n-eq2-2 : goal.returns-then-n-eq2-2
returns-then-n-eq2-2 c = c.all_within-then-n-eq2-2.ensures ∙ (quintic_square c.before).same

pub all_within-requires-2 : goal.all_within-requires-2
all_within-requires-2 c = (quintic_cube c).asked

pub returns : goal.returns
returns c = c.all_within-2.ensures ∙ (quintic_cube c.before).same
