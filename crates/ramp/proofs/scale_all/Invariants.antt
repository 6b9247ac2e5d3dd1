-- `ramp::scale_all` meets its contract. The invariant: the first j numbers are scaled.
use mathlib.Core.Path.{◌≡◌}
use Prim.Native.Nat.{ℕ, ◌%◌, ◌<◌}
use lib.ListN.{length, get_or}
use Rattle.lattice.specs.Buffer.{at}
use Rattle.query.specs.Parts.{scaled_position}
use Rattle.ramp.proofs.scale_all.Given as goal

abbrev pub invariant-loop-j : goal.invariant-loop-j
invariant-loop-j l =
    (length l.finer ≡ 768)
    × ((i : ℕ) → i < l.j → at l.finer i ≡ scaled_position (get_or l.factors (i % 3) 0) (at l.positions i))
