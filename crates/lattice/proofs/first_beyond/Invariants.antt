-- `lattice::first_beyond` meets its contract: no number before the one at hand is beyond the limit.
use mathlib.Core.Path.{◌≡◌}
use Prim.Native.Nat.{ℕ}
use Rattle.lattice.specs.Outcome.{done, first_of}
use Rattle.lattice.proofs.RecordsLaws.{limit_test}
use Rattle.lattice.proofs.first_beyond.Given as goal

abbrev pub invariant-loop-i : goal.invariant-loop-i
invariant-loop-i l = (number : ℕ) → first_of l.i (limit_test number l.limit l.xs) ≡ done tt
