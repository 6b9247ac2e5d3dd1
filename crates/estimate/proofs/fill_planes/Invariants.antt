-- `fill_planes` meets its contract. The loop's invariant: the records of the planes before plane z are written.
use Rattle.estimate.specs.Passes.{plane_size, plane_of}
use Rattle.estimate.proofs.PlacedLaws.{Written}
use Rattle.estimate.proofs.fill_planes.Given as goal

abbrev pub invariant-loop-z : goal.invariant-loop-z
invariant-loop-z l = Written (plane_size l.g) (plane_of l.g l.xs) l.initial.out l.z l.out
