-- `neighbours` meets its contract: within ±2^19 the machine's sums are those of the definition.
use mathlib.Core.Path.{◌≡◌}
use Prim.Native.Nat.{◌≤◌}
use native.Mathlib.Omega.{arith}
use lib.IntN.{ℤ, nat_abs, ◌+ℤ◌, ◌-ℤ◌}
use mir.Syntax.{w32}
use mir.Val.{to_z, of_z}
use Rattle.arith.specs.Choice.{pick}
use Rattle.arith.proofs.Machine.{Size, sizes, sized, s-bits, value?}
use Rattle.estimate.specs.Passes.{pass_limit, lower, upper}
use Rattle.estimate.proofs.neighbours.Goals as goal

-- a number as the machine holds it
abbrev held : ℤ → ℤ
held x = to_z w32 (of_z w32 x)

module _ (l f r : ℤ) (small : (nat_abs l ≤ pass_limit) × (nat_abs f ≤ pass_limit) × (nat_abs r ≤ pass_limit)) where
  abbrev L : Size (held l)
  L = s-bits w32 l (sized l pass_limit small.0)

  abbrev F : Size (held f)
  F = s-bits w32 f (sized f pass_limit small.1)

  abbrev R : Size (held r)
  R = s-bits w32 r (sized r pass_limit small.2)

  less : held (held f -ℤ held (held r -ℤ held l)) ≡ f -ℤ (r -ℤ l)
  less = value? (search (L, F, R, sizes) depth 12) (omega arith)

  more : held (held f +ℤ held (held r -ℤ held l)) ≡ f +ℤ (r -ℤ l)
  more = value? (search (L, F, R, sizes) depth 12) (omega arith)

  low : held l ≡ l
  low = value? L (omega arith)

  high : held r ≡ r
  high = value? R (omega arith)

pub returns-then-border-clause-value : goal.returns-then-border-clause-value
unfolding lower upper pick
returns-then-border-clause-value c =
    let a = c.args in rw c.if-border.true (less a.l a.f a.r c.requires, more a.l a.f a.r c.requires)

pub returns-else-border-clause-value : goal.returns-else-border-clause-value
unfolding lower upper pick
returns-else-border-clause-value c =
    let a = c.args in rw c.if-border.false (low a.l a.f a.r c.requires, high a.l a.f a.r c.requires)
