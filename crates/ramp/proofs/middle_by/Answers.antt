-- `ramp::middle_by` meets its contract: the shift and the stride are small.
use mathlib.Core.Bool.{true}
use mathlib.Core.Path.{sym, subst}
use Prim.Native.Nat.{ℕ, ◌≤◌}
use native.Mathlib.Nat.{mul-le-mul}
use native.Mathlib.Omega.{arith}
use Rattle.hermite.proofs.StageLaws.{shifted}
use Rattle.ramp.proofs.middle_by.Goals as goal

pub second_by-requires-clause-all_prepared : goal.second_by-requires-clause-all_prepared
second_by-requires-clause-all_prepared c =
    let m = c.args.m in (
      c.requires.all_prepared.0,
      subst (λ (k : ℕ). k ≤ 44) (sym c.shift-k.ensures)
          (shifted 0 m.count true true (omega (arith, m.bounds.0)) m.bounds.0 m.bounds.1).low,
      mul-le-mul (mul-le-mul m.bounds.1 m.bounds.1) m.bounds.1,
    )
