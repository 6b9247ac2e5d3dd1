-- `cell::all_within` meets its contract: no record of a row before the one at hand has an entry beyond its limit.
use mathlib.Core.Path.{◌≡◌}
use mathlib.Core.List.{List}
use Prim.Native.Nat.{ℕ, ◌+◌, ◌*◌}
use lib.IntN.{ℤ}
use Rattle.lattice.specs.Outcome.{Check, done, first, first_of}
use Rattle.cell.specs.declared.Layout.{Layout}
use Rattle.cell.proofs.LayoutLaws.{corner_test}
use Rattle.cell.proofs.all_within.Given as goal

-- the limit tests of the two records of a row
abbrev pub row_test : List ℤ → ℕ → List ℤ → Layout → ℕ → Check
row_test limits n rs l r = first (corner_test limits n rs l (2 * r)) (corner_test limits n rs l (2 * r + 1))

abbrev pub invariant-loop-row : goal.invariant-loop-row
invariant-loop-row q = first_of q.row (row_test q.limits q.n q.records q.l) ≡ done tt
