-- `same_shape` meets its contract: equal shapes are those with equal members.
use native.Mathlib.Omega.{arith}
use mathlib.Core.Path.{◌≡◌, sym, ap, ap₂, ◌∙◌}
use mathlib.Core.Bool.{Bool, ◌&&◌, beq}
use mathlib.Core.List.{List}
use Prim.Native.Nat.{ℕ}
use lib.Dec.{eqb}
use lib.ListN.{length, get_or}
use lib.Pointwise.{pointwise}
use Rattle.std.proofs.Math.Bool.{and_assoc, and-true}
use Rattle.lattice.specs.Buffer.{tabulate}
use Rattle.lattice.specs.Shape.{count, steps_on}
use Rattle.lattice.proofs.BufferLaws.{tabulate-get_or}
use Rattle.pool.specs.Pool.{same_shape, alike}
use Rattle.pool.proofs.same_shape.Goals as goal

-- lists of three numbers
three : (f g : ℕ → ℕ) → pointwise eqb (tabulate 3 f) (tabulate 3 g) ≡ alike f g
unfolding tabulate alike
three f g = ap (λ (t : Bool). eqb (f 0) (g 0) && (eqb (f 1) (g 1) && t)) (and-true (eqb (f 2) (g 2)))

listed : (xs ys : List ℕ) → length xs ≡ 3 → length ys ≡ 3
    → pointwise eqb xs ys ≡ alike (λ a. get_or xs a 0) (λ a. get_or ys a 0)
listed xs ys h k =
    ap₂ (pointwise eqb) (sym (tabulate-get_or xs 3 0 h)) (sym (tabulate-get_or ys 3 0 k))
    ∙ three (λ a. get_or xs a 0) (λ a. get_or ys a 0)

-- the members in another grouping
grouped : (a d c s e : Bool) → ((a && (d && c)) && (s && e)) ≡ (a && (d && (c && (s && e))))
grouped a d c s e = and_assoc a (d && c) (s && e) ∙ ap (λ (t : Bool). a && t) (and_assoc d c (s && e))

pub returns : goal.returns
unfolding same_shape count steps_on
returns c =
    let a = c.args.a in
    let b = c.args.b in
    c.eq.ensures
    ∙ grouped (eqb a.shape.axes b.shape.axes) (eqb a.shape.degree b.shape.degree) _ _ (beq a.second_edition b.second_edition)
    ∙ ap₂ (λ (p q : Bool). eqb a.shape.axes b.shape.axes && (eqb a.shape.degree b.shape.degree
    && (p && (q && beq a.second_edition b.second_edition))))
    (listed a.shape.counts b.shape.counts (omega (arith, c.well_formed)) (omega (arith, c.well_formed))) (listed a.steps b.steps (omega
    (arith, c.well_formed)) (omega (arith, c.well_formed)))
