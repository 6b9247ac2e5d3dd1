-- `node_before` meets its contract.
use mathlib.Core.Path.{◌≡◌, refl, ◌∙◌}
use Prim.Native.Nat.{ℕ, zero, suc, ◌-◌}
use native.Mathlib.Omega.{arith}
use Rattle.estimate.specs.Passes.{before}
use Rattle.estimate.proofs.node_before.Goals as goal

less : (i : ℕ) → i - 1 ≡ before i
unfolding before
less zero = refl
less (suc i) = omega arith

pub returns : goal.returns
returns c = (c.saturating_sub.ensures ∙ less c.args.i, omega (arith, c.saturating_sub.ensures))
