-- `corners::corner_records` meets its contract: corner after corner the tests are passed and the entries stand in order.
use mathlib.Core.Path.{◌≡◌}
use mathlib.Core.List.{List}
use Prim.Native.Nat.{ℕ, ◌<◌, ◌+◌, ◌^◌, ◌*◌}
use lib.IntN.{ℤ}
use lib.ListN.{length}
use Rattle.lattice.specs.Outcome.{Check, done, first_of}
use Rattle.lattice.specs.Buffer.{at}
use Rattle.corners.specs.Back.{entry_of, entry_test}
use Rattle.corners.proofs.corner_records.Given as goal

-- the tests of corner c
abbrev pub row : ℕ → ℕ → List ℤ → ℕ → Check
row m n cs c = first_of (m ^ n) (λ k. entry_test m n cs (m ^ n * c + k))

abbrev pub invariant-loop-c : goal.invariant-loop-c
invariant-loop-c l =
    (length l.out ≡ 216)
    × (first_of l.c (row l.b.orders.count l.b.axes l.cs) ≡ done tt)
    × ((i : ℕ) → i < l.b.orders.count ^ l.b.axes * l.c → at l.out i ≡ entry_of l.b.orders.count l.b.axes l.cs i)
