-- `fill_planes` meets its contract. The loop's invariant: the records of the planes before plane z are written.
use mathlib.Core.Path.{refl}
use native.Mathlib.Omega.{arith}
use Rattle.estimate.specs.Passes.{planes_of}
use Rattle.estimate.proofs.PlacedLaws.{written-none, written-all, turn-room, turn_more}
use Rattle.estimate.proofs.fill_planes.Goals as goal

pub loop-z-init : goal.loop-z-init
loop-z-init c = written-none

pub loop-z-preserved : goal.loop-z-preserved
loop-z-preserved c = turn_more c.loop-z.invariant c.loop-z-test.true c.requires.1 c.fill_plane.ensures (λ o i. refl)

pub returns : goal.returns
unfolding planes_of
returns c = written-all c.loop-z.invariant (omega (arith, c.loop-z.auto.z-end, c.loop-z-test.false))

pub overflow_add-plane : goal.overflow_add-plane
overflow_add-plane c = omega (arith, turn-room c.loop-z.invariant c.loop-z-test.true c.requires.1)

pub offset_bounds-out-step : goal.offset_bounds-out-step
offset_bounds-out-step c = omega (arith, turn-room c.loop-z.invariant c.loop-z-test.true c.requires.1)

pub slice_bounds-plane-end : goal.slice_bounds-plane-end
slice_bounds-plane-end c = omega (arith, turn-room c.loop-z.invariant c.loop-z-test.true c.requires.1)
