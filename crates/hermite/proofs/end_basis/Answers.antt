-- `hermite::end_basis` meets its contract, by the two degrees.
use mathlib.Core.Path.{◌≡◌, sym, ap, ap₂, ◌∙◌}
use Prim.Native.Nat.{ℕ, ◌*◌, ◌-◌}
use native.Mathlib.Omega.{arith}
use lib.IntN.{ℤ, ◌*ℤ◌}
use mir.Facts.{to_z-of_z}
use Rattle.arith.specs.Sum.{sum}
use Rattle.hermite.specs.Hermite.{multiplier, weight}
use Rattle.hermite.proofs.DotLaws.{held}
use Rattle.hermite.proofs.end_basis.Goals as goal
use Rattle.hermite.proofs.end_basis.Goals.{Start}

-- of the distances as the machine holds them, for the degree of a branch
module _ (s : Start) (o : ℕ) where
  parts : ℕ → ℤ → ℤ → ℤ
  parts n x y = sum 3 (λ k. multiplier n k o *ℤ weight s.args.order x y (2 * n - 1) k)

  same : (n : ℕ) → n ≡ s.args.m.count → parts n (held s.args.a) (held s.args.b) ≡ parts s.args.m.count s.args.a s.args.b
  same n e = ap₂ (parts n) (to_z-of_z s.ranges.a) (to_z-of_z s.ranges.b) ∙ ap (λ (i : ℕ). parts i s.args.a s.args.b) e

pub returns-then-m-eq2 : goal.returns-then-m-eq2
unfolding parts
returns-then-m-eq2 c o l =
    let e : c.cubic.result.count ≡ c.args.m.count = c.cubic.ensures ∙ sym c.if-m-eq2.true in
    c.folded.ensures o l ∙ same c.before.before.before.before o c.cubic.result.count e

pub returns : goal.returns
unfolding parts
returns c o l =
    let e : c.quintic.result.count ≡ c.args.m.count = omega (arith, c.if-m-eq2.false, c.quintic.ensures) in
    c.folded-2.ensures o l ∙ same c.before.before.before.before o c.quintic.result.count e
