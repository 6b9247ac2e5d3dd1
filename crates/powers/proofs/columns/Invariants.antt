-- `powers::columns` meets its contract. The invariant: the first k columns stand.
use mathlib.Core.Path.{◌≡◌}
use Prim.Native.Nat.{ℕ, ◌<◌}
use lib.ListN.{length}
use Rattle.lattice.specs.Buffer.{at}
use Rattle.powers.specs.Parts.{column_at}
use Rattle.powers.proofs.columns.Given as goal

abbrev pub invariant-loop-k : goal.invariant-loop-k
invariant-loop-k q = (length q.xs ≡ 16) × ((K : ℕ) → K < q.k → at q.xs K ≡ column_at q.l q.records K)
