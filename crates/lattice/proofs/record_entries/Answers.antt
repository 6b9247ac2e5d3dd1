-- `lattice::record_entries` meets its contract: the power of m for each number of axes.
use native.Mathlib.Nat.{mul-le-mul}
use Rattle.lattice.specs.declared.Shape.{Shape}
use Rattle.lattice.specs.Shape.{orders, entries, Shaped}
use Rattle.lattice.proofs.ShapeLaws.{pow-one, pow-two, pow-three, orders-range}
use mathlib.Core.Path.{◌≡◌, refl, sym, ap, ◌∙◌}
use Prim.Native.Nat.{ℕ, ◌≤◌, ◌^◌, ◌*◌}
use native.Mathlib.Omega.{arith}
use Rattle.lattice.proofs.record_entries.Goals as goal

three : (s : Shape) → Shaped s → (s.axes ≡ 1 → ⊥) → (s.axes ≡ 2 → ⊥) → s.axes ≡ 3
three s ok a b = omega (arith, a, b)

-- m^n for each number of axes
module _ (s : Shape) (m : ℕ) (e : m ≡ orders s) where
  power : (n : ℕ) → s.axes ≡ n → orders s ^ n ≡ entries s
  unfolding entries
  power n h = sym (ap (λ (k : ℕ). orders s ^ k) h)

  square-high : m * m ≤ 9
  square-high = rw e (mul-le-mul (orders-range s.degree).1 (orders-range s.degree).1)

  cube-high : m * m * m ≤ 27
  cube-high = mul-le-mul {m₂ = 3} square-high (rw e (orders-range s.degree).1)

pub returns-then-n-eq1 : goal.returns-then-n-eq1
returns-then-n-eq1 c = let s = c.args.s in c.orders-m.ensures ∙ sym (pow-one (orders s)) ∙ power s _ refl 1 c.if-n-eq1.true

pub overflow_mul-result : goal.overflow_mul-result
overflow_mul-result c = let s = c.args.s in omega (arith, square-high s _ c.orders-m.ensures)

pub returns-then-n-eq2 : goal.returns-then-n-eq2
returns-then-n-eq2 c = let s = c.args.s in
    rw c.orders-m.ensures (sym (pow-two (orders s)) ∙ power s _ refl 2 c.if-n-eq2.true)

pub overflow_mul-result-2 : goal.overflow_mul-result-2
overflow_mul-result-2 c = let s = c.args.s in omega (arith, square-high s _ c.orders-m.ensures)

pub overflow_mul-result-3 : goal.overflow_mul-result-3
overflow_mul-result-3 c = let s = c.args.s in omega (arith, cube-high s _ c.orders-m.ensures)

pub returns : goal.returns
returns c =
    let s = c.args.s in
    rw c.orders-m.ensures
    (sym (pow-three (orders s)) ∙ power s _ refl 3 (three s c.requires c.if-n-eq1.false c.if-n-eq2.false))
