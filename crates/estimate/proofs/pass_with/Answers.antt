-- `pass_with` meets its contract. The invariant: the orders of the numbers so far are written.
use mathlib.Core.Bool.{Bool}
use mathlib.Core.Path.{◌≡◌, refl}
use Prim.Native.Nat.{ℕ, ◌*◌, ◌≤◌}
use native.Mathlib.Nat.{le_trans}
use native.Mathlib.Omega.{arith}
use lib.Dec.{lit≤}
use lib.IntN.{ℤ, nat_abs}
use mir.Syntax.{w32}
use mir.Val.{to_z, of_z}
use Rattle.lattice.specs.Buffer.{at}
use Rattle.estimate.specs.Estimate.{by_order}
use Rattle.estimate.specs.Passes.{pass_limit, lower, upper}
use Rattle.estimate.proofs.PassesLaws.{bits, small-bits}
use Rattle.estimate.proofs.PlacedLaws.{written-none, written-all, turn-length, turn_more}
use Rattle.estimate.proofs.pass_with.Goals as goal

-- a number as the machine holds it
abbrev held : ℤ → ℤ
held x = to_z w32 (of_z w32 x)

-- the orders of the machine's numbers are those of the definition
turned : (border : Bool) (l f r u v : ℤ) → nat_abs l ≤ pass_limit → nat_abs f ≤ pass_limit → nat_abs r ≤ pass_limit
    → nat_abs u ≤ 3 * pass_limit → nat_abs v ≤ 3 * pass_limit
    → u ≡ lower border (held l) (held f) (held r) → v ≡ upper border (held l) (held f) (held r) → (o : ℕ)
    → by_order o (held u) (held f) (held v) ≡ by_order o (lower border l f r) f (upper border l f r)
turned border l f r u v hl hf hr hu hv low high o =
    rw (
      bits u hu,
      bits v hv,
      low,
      high,
      bits l (le_trans hl (lit≤ tt)),
      bits f (le_trans hf (lit≤ tt)),
      bits r (le_trans hr
          (lit≤ tt)),
    ) refl

pub loop-i-init : goal.loop-i-init
loop-i-init g c = written-none

pub neighbours-l-requires : goal.neighbours-l-requires
neighbours-l-requires g c =
    let r = c.requires.read in
    let l = c.loop-i-test.true in
    let i = c.loop-i.i in (
      small-bits pass_limit (at c.args.low.now i) (lit≤ tt) (r.0.small i l),
      small-bits pass_limit (at c.args.mid.now i) (lit≤ tt) (r.1.small i l),
      small-bits pass_limit (at c.args.high.now i) (lit≤ tt) (r.2.small i l),
    )

pub put_orders-requires : goal.put_orders-requires
put_orders-requires g c =
    let i = c.loop-i.i in record {
      order_count = (c.requires.order_count.0, omega (arith, turn-length c.loop-i.invariant c.loop-i-test.true c.requires.order_count.1));
      bounds = (
        small-bits (3 * pass_limit) c.neighbours-l.result.0 (lit≤ tt) c.neighbours-l.ensures.size.0,
        small-bits pass_limit (at c.args.mid.now i) (lit≤ tt) (c.requires.read.1.small i c.loop-i-test.true),
        small-bits (3 * pass_limit) c.neighbours-l.result.1 (lit≤ tt) c.neighbours-l.ensures.size.1,
      );
    }

pub loop-i-preserved : goal.loop-i-preserved
loop-i-preserved g c =
    let r = c.requires.read in
    let l = c.loop-i-test.true in
    let i = c.loop-i.i in
    let e = c.neighbours-l.ensures in
    turn_more c.loop-i.invariant l c.requires.order_count.1 c.put_orders.ensures
    (λ o k. turned c.args.border (at c.args.low.now i) (at c.args.mid.now i) (at c.args.high.now i) c.neighbours-l.result.0
    c.neighbours-l.result.1 (r.0.small i l) (r.1.small i l) (r.2.small i l) e.size.0 e.size.1 e.value.0 e.value.1 o)

pub returns : goal.returns
returns g c = written-all c.loop-i.invariant (omega (arith, c.loop-i.auto.i-end, c.loop-i-test.false))
