-- `evaluate::two_ends` meets its contract: the numbers of both ends, one after the other.
use mathlib.Core.Path.{◌≡◌}
use mathlib.Core.Bool.{Bool}
use Prim.Native.Nat.{ℕ, ◌+◌, ◌<◌}
use lib.ListN.{length}
use lib.Dec.{eqb}
use lib.IntN.{ℤ}
use Rattle.arith.specs.Choice.{all}
use Rattle.lattice.specs.Buffer.{at}
use Rattle.evaluate.specs.Stages.{AtBoth, Tells, place_of}
use Rattle.evaluate.proofs.two_ends.Given as goal

-- the first t numbers stand in n, and their rests are joined in `rest`
abbrev pub invariant-loop-t : goal.invariant-loop-t
invariant-loop-t g l =
    (length l.n ≡ 6)
    × ((f : ℕ → ℤ) (c : ℕ → Bool) → AtBoth l.m.count (Tells (goal.F-post g l.number) f c) l.p l.order l.node
    → ((j : ℕ) → j < l.t → at l.n j ≡ f (l.p + place_of l.m.count l.order l.node j))
    × (eqb l.rest 0 ≡ all l.t (λ j. c (l.p + place_of l.m.count l.order l.node j))))
