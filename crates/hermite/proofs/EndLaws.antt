-- One end: the rule of its conversion, each way, is linear, reads the numbers of its orders only and gives at most 32 times them;
-- three rows by three numbers.
use mathlib.Core.Path.{◌≡◌, refl, ap, ap₂}
use mathlib.Core.Bool.{Bool, true, false}
use Prim.Native.Nat.{ℕ, ◌*◌, ◌^◌, ◌≤◌, ◌<◌}
use native.Mathlib.Nat.{le_trans, le_of_eq, lt_of_le_of_lt, mul-le-mul, mul-le-mul_right}
use native.Mathlib.Omega.{arith}
use lib.Dec.{lit≤, lit<}
use lib.IntN.{ℤ, pos, ◌-ℤ◌, ◌*ℤ◌, nat_abs}
use Rattle.arith.proofs.Choices.{on-pick, by-m, by-3, by_order}
use Rattle.arith.proofs.Sums.{sum-ext, total_mono, total-part, abs-weighted}
use Rattle.arith.specs.Choice.{pick}
use Rattle.arith.specs.Sum.{sum, total}
use Rattle.lattice.proofs.Along.{Linear}
use Rattle.lattice.proofs.Local.{Depends}
use mir.Syntax.{w64}
use mir.Val.{SFits}
use Rattle.arith.proofs.Machine.{sized, sizes, fits?, value?}
use Rattle.hermite.specs.Hermite.{multiplier, solved, end_rule}
use Rattle.hermite.proofs.DotLaws.{held}
use Rattle.hermite.proofs.BackLaws.{unit, solved-linear, solved-sum, solved-ext}

-- ---- three rows

-- a small row by three numbers does not overflow
pub row-load : (f g : ℕ → ℤ) → ((o : ℕ) → o < 3 → nat_abs (f o) ≤ 20) → ((o : ℕ) → o < 3 → nat_abs (g o) ≤ 2 ^ 50)
    → total 3 (λ i. nat_abs (f i) * nat_abs (g i)) < 2 ^ 63
unfolding total
row-load f g h k =
    lt_of_le_of_lt (total_mono 3 (λ i. nat_abs (f i) * nat_abs (g i)) (λ i. 20 * 2 ^ 50) (λ i l. mul-le-mul (h i l) (k i l))) (lit< tt)

-- ---- back

-- twice an end's numbers from its coefficients x, y, z by the multipliers p, q, r: no step overflows
pub record Solves (p q r x y z : ℤ) : Type 0 where
  pub yy : SFits w64 (pos 2 *ℤ y)
  pub px : SFits w64 (p *ℤ x)
  pub d : SFits w64 (held (pos 2 *ℤ y) -ℤ held (p *ℤ x))
  pub zz : SFits w64 (pos 2 *ℤ z)
  pub qx : SFits w64 (q *ℤ x)
  pub less-qx : SFits w64 (held (pos 2 *ℤ z) -ℤ held (q *ℤ x))
  pub rd : SFits w64 (r *ℤ held (held (pos 2 *ℤ y) -ℤ held (p *ℤ x)))
  pub less-rd : SFits w64 (held (held (pos 2 *ℤ z) -ℤ held (q *ℤ x)) -ℤ held (r *ℤ held (held (pos 2 *ℤ y) -ℤ held (p *ℤ x))))
  pub second : held (held (pos 2 *ℤ y) -ℤ held (p *ℤ x)) ≡ pos 2 *ℤ y -ℤ p *ℤ x
  pub third : held (held (held (pos 2 *ℤ z) -ℤ held (q *ℤ x)) -ℤ held (r *ℤ held (held (pos 2 *ℤ y) -ℤ held (p *ℤ x)))) ≡ pos
      2 *ℤ z -ℤ q *ℤ x -ℤ r *ℤ (pos 2 *ℤ y -ℤ p *ℤ x)

module _ (p q r x y z : ℤ) (hp : nat_abs p ≤ 20) (hq : nat_abs q ≤ 20) (hr : nat_abs r ≤ 20) (hx : nat_abs x ≤ 2 ^ 50)
    (hy : nat_abs y ≤ 2 ^ 50)
    (hz : nat_abs z ≤ 2 ^ 50) where
  pub solves-fit : Solves p q r x y z
  solves-fit = record {
    yy = fits? (search (sizes, sized, hy) depth 40) (omega arith);
    px = fits? (search (sizes, sized, hp, hx) depth 40) (omega arith);
    d = fits? (search (sizes, sized, hp, hx, hy) depth 40) (omega arith);
    zz = fits? (search (sizes, sized, hz) depth 40) (omega arith);
    qx = fits? (search (sizes, sized, hq, hx) depth 40) (omega arith);
    less-qx = fits? (search (sizes, sized, hq, hx, hz) depth 40) (omega arith);
    rd = fits? (search (sizes, sized, hp, hr, hx, hy) depth 40) (omega arith);
    less-rd = fits? (search (sizes, sized, hp, hq, hr, hx, hy, hz) depth 40) (omega arith);
    second = value? (search (sizes, sized, hp, hx, hy) depth 40) (omega arith);
    third = value? (search (sizes, sized, hp, hq, hr, hx, hy, hz) depth 40) (omega arith);
  }

-- ---- the rule of an end

-- the sums of the sizes of the factors
solved-total : (m : ℕ) → 2 ≤ m → m ≤ 3 → (o : ℕ) → o < 3 → total 3 (λ k. nat_abs (solved m (unit k) o)) ≤ 32
unfolding solved multiplier total pick
solved-total =
    by-m (λ m. (o : ℕ) → o < 3 → total 3 (λ k. nat_abs (solved m (unit k) o)) ≤ 32)
    (by-3 (λ o. total 3 (λ k. nat_abs (solved 2 (unit k) o)) ≤ 32) (lit≤ tt) (lit≤ tt) (lit≤ tt))
    (by-3 (λ o. total 3 (λ k. nat_abs (solved 3 (unit k) o)) ≤ 32) (lit≤ tt) (lit≤ tt) (lit≤ tt))

multiplier-total : (m : ℕ) → 2 ≤ m → m ≤ 3 → (k : ℕ) → k < m → total m (λ o. nat_abs (multiplier m k o)) ≤ 32
unfolding total multiplier
multiplier-total = by_order (λ m k. total m (λ o. nat_abs (multiplier m k o)) ≤ 32) (lit≤ tt) (lit≤ tt) (lit≤ tt) (lit≤ tt) (lit≤ tt)

pub end-linear : (back : Bool) (m : ℕ) → Linear (end_rule back m)
unfolding end_rule pick
end-linear true m = record { width = 3; factor = λ k t. solved m (unit t) k; place = λ k t. t; is = λ x k. solved-linear m x k }
end-linear false m = record { width = m; factor = multiplier m; place = λ k t. t; is = λ x k. refl }

module _ (back : Bool) (m : ℕ) (m2 : 2 ≤ m) (m3 : m ≤ 3) where
  pub end-depends : Depends (end_rule back m) (λ k. k < m) (λ t. t < m)
  unfolding end_rule
  end-depends x y k l h =
      ap₂ (pick back) (solved-ext m m2 m3 x y k l h)
      (sum-ext m (λ o. multiplier m k o *ℤ x o) (λ o. multiplier m k o *ℤ y o) (λ o p. ap (λ z. multiplier m k o *ℤ z) (h o p)))

  pub end-size : (x : ℕ → ℤ) (B k : ℕ) → k < m → ((t : ℕ) → t < m → nat_abs (x t) ≤ B) → nat_abs (end_rule back m x k) ≤ 32 * B
  unfolding end_rule
  end-size x B k l h =
      on-pick (λ z. nat_abs z ≤ 32 * B) back (solved m x k) (sum m (λ o. multiplier m k o *ℤ x o))
      (λ e. le_trans (le_of_eq (ap nat_abs (solved-sum m m2 m3 x k l)))
      (le_trans (abs-weighted m (λ t. solved m (unit t) k) x B h)
      (mul-le-mul_right B (le_trans (total-part m 3 (λ t. nat_abs (solved m (unit t) k)) m3) (solved-total m m2 m3 k (omega arith))))))
      (λ e. le_trans (abs-weighted m (multiplier m k) x B h) (mul-le-mul_right B (multiplier-total m m2 m3 k l)))
