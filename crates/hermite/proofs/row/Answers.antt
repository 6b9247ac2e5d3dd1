-- `hermite::row` meets its contract: the constant table is the definition's.
use mathlib.Core.Path.{◌≡◌, ap}
use mathlib.Core.List.{[]}
use Prim.Native.Nat.{ℕ, ◌+◌, ◌*◌, ◌-◌}
use native.Mathlib.Omega.{arith}
use lib.ListN.{get_or}
use Rattle.lattice.specs.Buffer.{at}
use Rattle.hermite.specs.Hermite.{rows, multiplier}
use Rattle.hermite.proofs.row.Goals as goal

pub returns-then-m-eq2 : goal.returns-then-m-eq2
unfolding multiplier
returns-then-m-eq2 c o =
    let s = c.before.before in
    let e : s.args.k ≡ 3 * (s.args.m.count - 2) + s.args.k = omega (arith, c.if-m-eq2.true) in
    ap (λ (i : ℕ). at (get_or rows i []) o) e

pub returns : goal.returns
unfolding multiplier
returns c o =
    let s = c.before.before in
    let e : 3 + s.args.k ≡ 3 * (s.args.m.count - 2) + s.args.k = omega (arith, c.if-m-eq2.false) in
    ap (λ (i : ℕ). at (get_or rows i []) o) e
