-- `totals::Rows::across` meets its contract. The invariant: the first g products stand.
use mathlib.Core.Path.{refl}
use Prim.Native.Nat.{◌/◌}
use native.Mathlib.Nat.{not-suc-le-zero}
use native.Mathlib.Omega.{arith}
use lib.ListN.{length-set}
use Rattle.lattice.proofs.BufferLaws.{fill}
use Rattle.totals.specs.Parts.{across}
use Rattle.totals.proofs.SumLaws.{nine}
use Rattle.totals.proofs.RowLaws.{along-z, pair-asks, pair-across}
use Rattle.totals.proofs.Rows.across.Goals as goal

pub factors-z-requires : goal.factors-z-requires
factors-z-requires c = along-z c.args.self.now.cells c.args.r c.requires

pub loop-g-init : goal.loop-g-init
loop-g-init c = (refl, λ j h. absurd (not-suc-le-zero h))

pub overflow_mul-ys : goal.overflow_mul-ys
overflow_mul-ys c =
    let s = c.args.self.now in
    let m = s.layout.orders in
    pair-asks m (s.layout.entries / m) s.walk.orders-low s.walk.orders-high s.walk.groups-few s.cells c.args.r c.loop-g.g c.loop-g-test.true
    c.factors-y.result c.factors-z.result c.factors-y.ensures c.factors-z.ensures

pub loop-g-preserved : goal.loop-g-preserved
loop-g-preserved c =
    let s = c.args.self.now in
    let m = s.layout.orders in
    let n = c.loop-g.invariant.0 in
    let few = s.walk.groups-few in
    let f = nine m c.loop-g.g s.walk.orders-high (omega (arith, c.loop-g-test.true)) in (
      simp length-set c.loop-g.invariant.0,
      fill c.loop-g.ys c.loop-g.g (across m s.cells c.args.r) _ (omega arith) c.loop-g.invariant.1
          (pair-across m (s.layout.entries / m) s.walk.orders-low s.walk.orders-high s.walk.groups-few s.cells c.args.r c.loop-g.g
          c.loop-g-test.true c.factors-y.result c.factors-z.result c.factors-y.ensures c.factors-z.ensures),
    )

pub returns : goal.returns
returns c g h = c.loop-g.invariant.1 g (omega (arith, c.loop-g-test.false))
