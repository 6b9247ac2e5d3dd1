-- `estimate::put_orders` meets its contract: within ±2^19 the machine's D and S are those of document 01, and the orders stand one behind
-- the other.
use mathlib.Core.Path.{◌≡◌, refl}
use mathlib.Core.List.{List}
use Prim.Native.Nat.{ℕ, ◌≤◌, ◌*◌}
use native.Mathlib.Omega.{arith}
use lib.ListN.{set}
use lib.IntN.{ℤ, pos, nat_abs, ◌+ℤ◌, ◌-ℤ◌, ◌*ℤ◌}
use mir.Syntax.{w32}
use mir.Val.{to_z, of_z}
use Rattle.arith.proofs.Machine.{Size, sizes, sized, s-bits, value?}
use Rattle.estimate.specs.Estimate.{by_order}
use Rattle.estimate.specs.Passes.{pass_limit, placed}
use Rattle.estimate.proofs.put_orders.Goals as goal

-- a number as the machine holds it
abbrev held : ℤ → ℤ
held x = to_z w32 (of_z w32 x)

module _ (l f r : ℤ) (small : (nat_abs l ≤ 3 * pass_limit) × (nat_abs f ≤ pass_limit) × (nat_abs r ≤ 3 * pass_limit)) where
  abbrev L : Size (held l)
  L = s-bits w32 l (sized l (3 * pass_limit) small.0)

  abbrev F : Size (held f)
  F = s-bits w32 f (sized f pass_limit small.1)

  abbrev R : Size (held r)
  R = s-bits w32 r (sized r (3 * pass_limit) small.2)

  value : held f ≡ f
  value = value? F (omega arith)

  D : held (held r -ℤ held l) ≡ r -ℤ l
  D = value? (search (L, R, sizes)) (omega arith)

  S : held (held (held l -ℤ held (pos 2 *ℤ held f)) +ℤ held r) ≡ l -ℤ pos 2 *ℤ f +ℤ r
  S = value? (search (L, F, R, sizes) depth 12) (omega arith)

  -- one, two and three orders
  module _ (b : List ℤ) (m : ℕ) where
    one : m ≡ 1 → set b 0 (held f) ≡ placed 0 m (λ o. by_order o l f r) b
    unfolding placed by_order
    one e = rw (e, value) refl

    two : m ≡ 2 → set (set b 0 (held f)) 1 (held (held r -ℤ held l)) ≡ placed 0 m (λ o. by_order o l f r) b
    unfolding placed by_order
    two e = rw (e, D, value) refl

    three : m ≡ 3 → set (set (set b 0 (held f)) 1 (held (held r -ℤ held l))) 2
        (held (held (held l -ℤ held (pos 2 *ℤ held f)) +ℤ held r)) ≡ placed 0 m (λ o. by_order o l f r) b
    unfolding placed by_order
    three e = rw (e, S, D, value) refl

pub returns-then-this-gt2 : goal.returns-then-this-gt2
returns-then-this-gt2 g c = let a = c.args in three a.l a.f a.r c.requires.bounds a.out.now g.row.M (omega arith)

pub returns-else-this-gt2 : goal.returns-else-this-gt2
returns-else-this-gt2 g c = let a = c.args in two a.l a.f a.r c.requires.bounds a.out.now g.row.M (omega arith)

pub returns-else-this-gt1 : goal.returns-else-this-gt1
returns-else-this-gt1 g c = let a = c.args in one a.l a.f a.r c.requires.bounds a.out.now g.row.M (omega arith)
