-- `totals::Rows::across` meets its contract. The invariant: the first g products stand.
use mathlib.Core.Path.{◌≡◌}
use Prim.Native.Nat.{ℕ, ◌<◌}
use lib.ListN.{length}
use Rattle.lattice.specs.Buffer.{at}
use Rattle.totals.specs.Parts.{across}
use Rattle.totals.proofs.Rows.across.Given as goal

abbrev pub invariant-loop-g : goal.invariant-loop-g
invariant-loop-g l = (length l.ys ≡ 9) × ((j : ℕ) → j < l.g → at l.ys j ≡ across l.m.count l.self.cells l.r j)
