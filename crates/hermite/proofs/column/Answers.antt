-- `hermite::column` meets its contract: the multipliers of one order, row by row.
use lib.Dec.{lit<}
use lib.IntN.{ℤ}
use Prim.Native.Nat.{ℕ, ◌<◌}
use mathlib.Core.Path.{◌≡◌}
use Rattle.arith.proofs.Choices.{by-3}
use Rattle.hermite.specs.Hermite.{multiplier}
use Rattle.hermite.proofs.DotLaws.{held}
use Rattle.hermite.proofs.BasisLaws.{multiplier-read}
use Rattle.hermite.proofs.column.Goals as goal

pub returns : goal.returns
returns c =
    let a = c.args in
    let one : (k : ℕ) → k < 3 → (z : ℤ) → z ≡ multiplier a.m.count k a.o → held z ≡ multiplier a.m.count k a.o =
    λ k l z e. multiplier-read a.m.count a.m.bounds.0 a.m.bounds.1 k l a.o c.requires z e in
    by-3 _ (one 0 (lit< tt) _ (c.row.ensures a.o)) (one 1 (lit< tt) _ (c.row-2.ensures a.o)) (one 2 (lit< tt) _ (c.row-3.ensures a.o))
