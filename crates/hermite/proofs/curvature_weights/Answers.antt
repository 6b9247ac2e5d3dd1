-- `hermite::curvature_weights` meets its contract: three rows of small factors by the products of degree 3.
use mathlib.Core.Path.{◌≡◌}
use mathlib.Core.List.{[], ◌∷◌}
use Prim.Native.Nat.{ℕ, ◌≤◌, ◌<◌, ◌^◌}
use native.Mathlib.Nat.{le_trans}
use native.Mathlib.Omega.{arith}
use lib.Dec.{lit≤}
use lib.IntN.{ℤ, pos, negsuc, nat_abs, ◌*ℤ◌}
use mir.Syntax.{w64}
use mir.Val.{to_z, of_z}
use Rattle.arith.proofs.Abs.{abs-mul-le}
use Rattle.arith.proofs.Choices.{by-3}
use Rattle.arith.proofs.Machine.{Size, held, sizes, fits?, value?}
use Rattle.lattice.specs.Buffer.{at}
use Rattle.hermite.proofs.WeightLaws.{curvature-weights}
use Rattle.hermite.proofs.curvature_weights.Goals as goal
use Rattle.hermite.proofs.curvature_weights.Goals.{Start}

abbrev k-a : (c : Start) → Size (to_z w64 (of_z w64 c.args.a))
k-a c = held w64 c.args.a 256 c.ranges.a c.requires.0

abbrev k-b : (c : Start) → Size (to_z w64 (of_z w64 c.args.b))
k-b c = held w64 c.args.b 256 c.ranges.b c.requires.1

ruleset known = (k-a, k-b, sizes)

three : (x y z : ℤ) (B : ℕ) → nat_abs x ≤ B → nat_abs y ≤ B → nat_abs z ≤ B → (o : ℕ) → o < 3 → nat_abs (at (x ∷ y ∷ z ∷ []) o) ≤ B
three x y z B = by-3 (λ o. nat_abs (at (x ∷ y ∷ z ∷ []) o) ≤ B)

-- products of three distances
cubes : (a b x y z : ℤ) → nat_abs a ≤ 256 → nat_abs b ≤ 256 → x ≡ a *ℤ (a *ℤ a) → y ≡ a *ℤ (a *ℤ b) → z ≡ b *ℤ (a *ℤ b) → (o : ℕ) → o < 3
    → nat_abs (at (x ∷ y ∷ z ∷ []) o) ≤ 2 ^ 50
cubes a b x y z ha hb p q r = rw (p, q, r) (three _ _ _ (2 ^ 50) (one a a a ha ha ha) (one a a b ha ha hb) (one b a b hb ha hb))
  where
    one : (p q r : ℤ) → nat_abs p ≤ 256 → nat_abs q ≤ 256 → nat_abs r ≤ 256 → nat_abs (p *ℤ (q *ℤ r)) ≤ 2 ^ 50
    one p q r hp hq hr = le_trans (abs-mul-le p (q *ℤ r) hp (abs-mul-le q r hq hr)) (lit≤ tt)

pub by_rows-requires : goal.by_rows-requires
by_rows-requires c = record {
  by_index = (λ o l. (
    three (pos 20) (pos 0) (pos 0) 20 (lit≤ tt) (lit≤ tt) (lit≤ tt) o l,
    three (negsuc 7) (pos 12) (pos 0) 20 (lit≤ tt) (lit≤ tt) (lit≤ tt) o l,
    three (pos 2) (negsuc 11) (pos 6) 20 (lit≤ tt) (lit≤ tt) (lit≤ tt) o l,
  ));
  by_index_2 = cubes c.args.a c.args.b _ _ _ c.requires.0 c.requires.1 (value? (search known depth 40 fits 3000) (omega arith))
      (value? (search known depth 40 fits 3000) (omega arith)) (value? (search known depth 40 fits 3000) (omega arith));
}

pub returns : goal.returns
returns c =
    let s = c.before in
    curvature-weights s.args.a s.args.b _ _ _ (value? (search known depth 40 fits 3000) (omega arith))
    (value? (search known depth 40 fits 3000) (omega arith)) (value? (search known depth 40 fits 3000) (omega arith))
    (at c.by_rows.result) c.by_rows.ensures

pub overflow_mul-c : goal.overflow_mul-c
overflow_mul-c c = fits? (search known depth 40 fits 3000) (omega arith)

pub overflow_mul-d : goal.overflow_mul-d
overflow_mul-d c = fits? (search known depth 40 fits 3000) (omega arith)

pub overflow_mul-a : goal.overflow_mul-a
overflow_mul-a c = fits? (search known depth 40 fits 3000) (omega arith)

pub overflow_mul-a-2 : goal.overflow_mul-a-2
overflow_mul-a-2 c = fits? (search known depth 40 fits 3000) (omega arith)

pub overflow_mul-b : goal.overflow_mul-b
overflow_mul-b c = fits? (search known depth 40 fits 3000) (omega arith)
