-- `evaluate::middle` meets its contract: the shift of a stage from eighths to eighths.
use mathlib.Core.Path.{sym, subst}
use mathlib.Core.Bool.{true}
use mathlib.Core.List.{[], ◌∷◌}
use Prim.Native.Nat.{ℕ, ◌≤◌}
use native.Mathlib.Omega.{arith}
use Rattle.arith.specs.Int.{rounding_of}
use Rattle.lattice.specs.Buffer.{at}
use Rattle.hermite.proofs.StageLaws.{shifted}
use Rattle.evaluate.specs.Stages.{Reported}
use Rattle.evaluate.proofs.middle.Goals as goal

pub shift-requires : goal.shift-requires
shift-requires c = omega (arith, c.args.m.bounds.0)

pub second-requires : goal.second-requires
second-requires c =
    let m = c.args.m in
    record {
      all_prepared = (
        c.requires.all_prepared,
        subst (λ (i : ℕ). i ≤ 44) (sym c.shift.ensures)
            (shifted 0 m.count true true (omega (arith, m.bounds.0)) m.bounds.0 m.bounds.1).low,
      );
      safe = c.requires.safe;
    }

pub returns : goal.returns
returns c =
    let a = c.args in
    subst (λ (k : ℕ). Reported (rounding_of a.even) a.m.count k a.y (a.x ∷ []) (at a.records.now) a.p c.second.result)
    c.shift.ensures c.second.ensures
