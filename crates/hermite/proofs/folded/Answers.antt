-- `hermite::folded` meets its contract: the columns of the table by the weights.
use mathlib.Core.Path.{◌≡◌, ap, ◌∙◌}
use Prim.Native.Nat.{ℕ, ◌≤◌, ◌<◌, ◌^◌, ◌-◌, ◌*◌}
use native.Mathlib.Nat.{le_trans, le_of_eq}
use native.Mathlib.Omega.{arith}
use lib.Dec.{lit≤, lit<}
use lib.IntN.{nat_abs}
use Rattle.lattice.specs.Buffer.{at}
use Rattle.hermite.specs.Hermite.{multiplier, weight}
use Rattle.hermite.proofs.DotLaws.{held}
use Rattle.hermite.proofs.WeightLaws.{weight-size, weight-held, held-size}
use Rattle.hermite.proofs.BasisLaws.{multiplier-small, rows_on}
use Rattle.hermite.proofs.folded.Goals as goal
use Rattle.hermite.proofs.folded.Goals.{After-weights-w}

-- the weights' sizes, and what they are of the arguments
module _ (c : After-weights-w) where
  small : (k : ℕ) → k < 3 → nat_abs (at c.weights-w.result k) ≤ 2 ^ 46
  small k l =
      let s = c.before in
      le_trans (le_of_eq (ap nat_abs (c.weights-w.ensures k l)))
      (weight-size s.args.order (omega (arith, s.requires.0, s.args.m.bounds.1)) (2 * s.args.m.count - 1) (held s.args.a) (held s.args.b)
      (omega arith)
      (held-size s.args.a s.ranges.a s.requires.1) (held-size s.args.b s.ranges.b s.requires.2) k l)

  plain : (k : ℕ) → k < 3 → at c.weights-w.result k ≡ weight c.args.order c.args.a c.args.b
      (2 * c.args.m.count - 1) k
  plain k l =
      let s = c.before in
      c.weights-w.ensures k l ∙ weight-held s.args.a s.args.b s.ranges.a s.ranges.b s.args.order (2 * s.args.m.count - 1) k

pub by_rows-requires : goal.by_rows-requires
by_rows-requires c =
    let w = c.before.before.before in
    let s = w.before in record {
      by_index = (λ k l. (
        multiplier-small s.args.m.count s.args.m.bounds.0 s.args.m.bounds.1 k l 0 (lit< tt) _ (c.column.ensures k l),
        multiplier-small s.args.m.count s.args.m.bounds.0 s.args.m.bounds.1 k l 1 (lit< tt) _ (c.column-2.ensures k l),
        multiplier-small s.args.m.count s.args.m.bounds.0 s.args.m.bounds.1 k l 2 (lit< tt) _ (c.column-3.ensures k l),
      ));
      by_index_2 = (λ k l. le_trans (small w k l) (lit≤ tt));
    }

pub returns : goal.returns
returns c =
    let w = c.before.before.before.before in
    let s = w.before in
    rows_on (at c.column.result) (at c.column-2.result) (at c.column-3.result)
    (at w.weights-w.result) (at c.by_rows.result) c.by_rows.ensures
    (λ o k. multiplier s.args.m.count k o) (weight s.args.order s.args.a s.args.b (2 * s.args.m.count - 1))
    c.column.ensures c.column-2.ensures c.column-3.ensures (plain w)
