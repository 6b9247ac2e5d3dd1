-- `coefficients::place_rows` meets its contract: row after row is written.
use mathlib.Core.Path.{◌≡◌, sym, ap, subst}
use Prim.Native.Nat.{ℕ, ◌+◌, ◌*◌}
use native.Mathlib.Omega.{arith}
use lib.ListN.{length}
use Rattle.lattice.proofs.DigitsLaws.{no-group, next-group, group-room}
use Rattle.coefficients.specs.Blocks.{RowOf, Placed}
use Rattle.coefficients.proofs.BlockLaws.{first-row, row-low}
use Rattle.coefficients.proofs.place_rows.Goals as goal

pub loop-g-init : goal.loop-g-init
loop-g-init c =
    let m2 = c.args.m.bounds.0 in
    let none = no-group c.args.m.count in
    let long : length c.args.ps.now ≡ 27 = omega arith in
    (first-row c.args.m.count (omega arith), record { long = long; is = λ j h. absurd (none j h) })

pub place_row-requires : goal.place_row-requires
place_row-requires c =
    let room = group-room c.args.m.count c.loop-g.g c.args.r c.loop-g-test.true in
    let low = row-low c.args.m c.loop-g.g c.args.r c.loop-g.o c.loop-g-test.true c.requires.2 c.loop-g.invariant.0 in
    (c.requires.0, (let h = c.requires.1 in omega arith), low.2, c.loop-g.invariant.0, c.loop-g.invariant.1)

pub next_row-o-requires : goal.next_row-o-requires
next_row-o-requires c =
    let low = row-low c.args.m c.loop-g.g c.args.r c.loop-g.o c.loop-g-test.true c.requires.2 c.loop-g.invariant.0 in
    (c.args.m.bounds.1, c.loop-g.invariant.0.low, low.1)

pub loop-g-preserved : goal.loop-g-preserved
loop-g-preserved c =
    let m = c.args.m.count in
    let w = c.loop-g in (
      subst (λ (k : ℕ). RowOf m k c.next_row-o.result) (ap (λ (k : ℕ). k + 1) (sym w.invariant.0.number_is)) c.next_row-o.ensures,
      subst (λ (k : ℕ). Placed m c.args.c k c.place_row.new.ps) (next-group m w.g) c.place_row.ensures,
    )

pub returns : goal.returns
returns c =
    let e : c.loop-g.g ≡ c.args.r = omega arith in
    subst (λ (k : ℕ). Placed c.args.m.count c.args.c (c.args.m.count * k) c.loop-g.ps) e c.loop-g.invariant.1
