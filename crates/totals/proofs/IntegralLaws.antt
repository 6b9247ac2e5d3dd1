-- The total of a cell is the integral of its exact interpolant: the weights in powers, the integral of each, and all axes together.
use mathlib.Core.Path.{◌≡◌, refl, sym, ap, ◌∙◌, fun_ext}
use mathlib.Core.List.{[], ◌∷◌}
use Prim.Native.Nat.{ℕ, zero, suc, ◌+◌, ◌*◌, ◌-◌, ◌^◌, ◌≤◌, ◌<◌}
use native.Mathlib.Nat.{pow-succ'}
use native.Mathlib.Omega.{arith}
use lib.Dec.{eqb}
use lib.IntN.{ℤ, pos, ◌-ℤ◌, ◌+ℤ◌, ◌*ℤ◌}
use Rattle.arith.specs.Choice.{pick}
use Rattle.arith.specs.Int.{◌^ℤ◌}
use Rattle.arith.specs.Sum.{sum, product, times}
use Rattle.arith.proofs.Choices.{by-m, by_n, by_2, by-3, by_place}
use Rattle.arith.proofs.Quote.{quotes, ring! }
use Rattle.arith.proofs.Sums.{sum-ext, sum_left, sum-right, sum-swap}
use Rattle.lattice.specs.Axes.{Place, Field, Rule, origin, sweep, axes}
use Rattle.lattice.proofs.Along.{Linear, distinct-axes, each-axes, sweep-rules, sweep-fuse}
use Rattle.hermite.specs.Hermite.{weight, weight_at, divisor}
use Rattle.hermite.proofs.HermiteLaws.{weigh, weigh-linear}
use Rattle.cell.specs.Coefficients.{coefficients}
use Rattle.evaluate.specs.Evaluate.{dose, order_on, weight_on, sum_over, exact_sum, divisor_on, exact_divisor}
use Rattle.evaluate.proofs.Exact.{weigh-each}
use Rattle.totals.specs.Totals.{total_multiplier, total_divisor, cell_numerator}
use Rattle.totals.specs.Promises.{polynomial_at, power_multiple, power_integral, integral_of, WholeIntegrals}

-- the coefficient of x^k in (1 − x)^p·x^q
in_powers : ℕ → ℕ → ℕ → ℤ
in_powers zero q k = pick (eqb k q) (pos 1) (pos 0)
in_powers (suc p) q k = in_powers p q k -ℤ in_powers p (suc q) k

-- and in weight i
weight_power : ℕ → ℕ → ℕ → ℤ
weight_power m i k = in_powers (2 * m - 1 - i) i k

-- ---- one axis

-- a weight is the sum of its powers, where a = N − u and b = u
OneAxis : ℕ → Type 0
OneAxis m = (a b : ℤ) (i : ℕ) → i < 2 * m → sum (2 * m) (λ k. weight_power m i k *ℤ (b ^ℤ k *ℤ (a +ℤ b) ^ℤ (2 * m - 1 - k)))
    ≡ weight 0 a b (2 * m - 1) i

one-2 : OneAxis 2
unfolding OneAxis weight_power in_powers sum pick weight
one-2 a b =
    by_place 2 _ (by_2 _ (ring! (a ∷ b ∷ []) (search quotes depth 60) tt) (ring! (a ∷ b ∷ []) (search quotes depth 60) tt))
    (by_2 _ (ring! (a ∷ b ∷ []) (search quotes depth 60) tt) (ring! (a ∷ b ∷ []) (search quotes depth 60) tt))

one-3 : OneAxis 3
unfolding OneAxis weight_power in_powers sum pick weight
one-3 a b =
    by_place 3 _
    (by-3 _ (ring! (a ∷ b ∷ []) (search quotes depth 80) tt) (ring! (a ∷ b ∷ []) (search quotes depth 80) tt)
    (ring! (a ∷ b ∷ []) (search quotes depth 80) tt))
    (by-3 _ (ring! (a ∷ b ∷ []) (search quotes depth 80) tt) (ring! (a ∷ b ∷ []) (search quotes depth 80) tt)
    (ring! (a ∷ b ∷ []) (search quotes depth 80) tt))

-- its integral is the multiplier of its coefficient
Integral : ℕ → Type 0
Integral m = (i : ℕ) → i < 2 * m → sum (2 * m) (λ k. weight_power m i k *ℤ pos (power_integral m k)) ≡ total_multiplier m i

integral-2 : Integral 2
unfolding Integral weight_power in_powers sum pick power_integral power_multiple total_multiplier
integral-2 = by_place 2 _ (by_2 _ refl refl) (by_2 _ refl refl)

integral-3 : Integral 3
unfolding Integral weight_power in_powers sum pick power_integral power_multiple total_multiplier
integral-3 = by_place 3 _ (by-3 _ refl refl refl) (by-3 _ refl refl refl)

whole-2 : (k : ℕ) → k < 4 → (k + 1) * power_integral 2 k ≡ power_multiple 2
unfolding power_integral power_multiple pick
whole-2 = by_place 2 _ (by_2 _ refl refl) (by_2 _ refl refl)

whole-3 : (k : ℕ) → k < 6 → (k + 1) * power_integral 3 k ≡ power_multiple 3
unfolding power_integral power_multiple pick
whole-3 = by_place 3 _ (by-3 _ refl refl refl) (by-3 _ refl refl refl)

pub whole-integrals : WholeIntegrals
whole-integrals = by-m (λ m. (k : ℕ) → k < 2 * m → (k + 1) * power_integral m k ≡ power_multiple m) whole-2 whole-3

-- 24^n is 2^n·12^n, 120^n is 2^n·60^n
pub divisor-is : (m n : ℕ) → 2 ≤ m → m ≤ 3 → 1 ≤ n → n ≤ 3 → total_divisor m n ≡ 2 ^ n * power_multiple m ^ n
unfolding total_divisor power_multiple pick
divisor-is m n m2 m3 low high =
    by-m (λ m. total_divisor m n ≡ 2 ^ n * power_multiple m ^ n)
    (by_n (λ n. total_divisor 2 n ≡ 2 ^ n * power_multiple 2 ^ n) refl refl refl n low high)
    (by_n (λ n. total_divisor 3 n ≡ 2 ^ n * power_multiple 3 ^ n) refl refl refl n low high) m m2 m3

-- ---- all axes

-- the coefficients of powers along an axis
to_powers : ℕ → Rule
to_powers m x k = sum (2 * m) (λ i. weight_power m i k *ℤ x i)

powers-linear : (m : ℕ) → Linear (to_powers m)
unfolding to_powers
powers-linear m = record { width = 2 * m; factor = λ k i. weight_power m i k; place = λ k i. i; is = λ x k. refl }

-- numbers P of the powers, and what they make of the weights
module _ (m : ℕ) (P w : ℕ → ℤ) (is : (i : ℕ) → i < 2 * m → sum (2 * m) (λ k. weight_power m i k *ℤ P k) ≡ w i) where
  weigh-powers : (λ (x : ℕ → ℤ). weigh (2 * m) P (to_powers m x)) ≡ weigh (2 * m) w
  unfolding to_powers
  weigh-powers = fun_ext (λ x. fun_ext (λ j.
      sum-ext (2 * m) _ (λ k. sum (2 * m) (λ i. x i *ℤ (weight_power m i k *ℤ P k))) (λ k l.
      sym (sum-right (2 * m) (λ i. weight_power m i k *ℤ x i) (P k))
      ∙ sum-ext (2 * m) _ (λ i. x i *ℤ (weight_power m i k *ℤ P k)) (λ i q. regroup (weight_power m i k) (x i) (P k)))
      ∙ sum-swap (2 * m) (2 * m) (λ k i. x i *ℤ (weight_power m i k *ℤ P k))
      ∙ sum-ext (2 * m) _ (λ i. x i *ℤ w i) (λ i l. sum_left (2 * m) (x i) (λ k. weight_power m i k *ℤ P k) ∙ ap (λ z. x i *ℤ z) (is i l))))
    where
      regroup : (e x p : ℤ) → e *ℤ x *ℤ p ≡ x *ℤ (e *ℤ p)
      regroup e x p = ring! (e ∷ x ∷ p ∷ []) (search quotes depth 40) tt

-- a sum over powers is one over coefficients
module _ (m n : ℕ) (C : Field) (P w : ℕ → ℕ → ℤ)
    (is : (a : ℕ) → a < n → (i : ℕ) → i < 2 * m → sum (2 * m) (λ k. weight_power m i k *ℤ P a k) ≡ w a i) where
  by-powers : sum_over (axes n) (2 * m) (λ k. sweep (axes n) (λ a. to_powers m) C k *ℤ product (axes n) (λ a. P a (k a))) origin
      ≡ sum_over (axes n) (2 * m) (λ i. C i *ℤ product (axes n) (λ a. w a (i a))) origin
  by-powers = ap (λ (h : Field). h origin)
      (weigh-each (2 * m) P (axes n) (distinct-axes n) (sweep (axes n) (λ a. to_powers m) C)
      ∙ sweep-fuse (axes n) (distinct-axes n) (λ a. weigh (2 * m) (P a)) (λ a. to_powers m) (λ a. weigh-linear (2 * m) (P a))
      (λ a. powers-linear m) C
      ∙ sweep-rules (axes n) (λ a x. weigh (2 * m) (P a) (to_powers m x)) (λ a. weigh (2 * m) (w a)) C
      (each-axes n (λ a. (λ (x : ℕ → ℤ). weigh (2 * m) (P a) (to_powers m x)) ≡ weigh (2 * m) (w a))
      (λ a l. weigh-powers m (P a) (w a) (is a l)))
      ∙ sym (weigh-each (2 * m) w (axes n) (distinct-axes n) C))

-- what the exact sum is over
pub over-powers : (m n : ℕ) (N cell u : Place) → exact_divisor (record { m = m; n = n; want = dose; N = N; cell = cell; step = u })
    ≡ 2 ^ n * times (axes n) (λ a. N a ^ (2 * m - 1))
unfolding exact_divisor divisor_on divisor order_on times axes
over-powers m zero N cell u = refl
over-powers m (suc n) N cell u =
    let e : 2 * m - 1 - 0 ≡ 2 * m - 1 = omega arith in
    ap (λ (k : ℕ). 2 * N n ^ k * times (axes n) (λ a. divisor 0 m (N a))) e
    ∙ one_more (N n ^ (2 * m - 1)) (2 ^ n) (times (axes n) (λ a. N a ^ (2 * m - 1))) _ (over-powers m n N cell u)
    ∙ ap (λ (p : ℕ). p * (N n ^ (2 * m - 1) * times (axes n) (λ a. N a ^ (2 * m - 1)))) (sym (pow-succ' 2 n))
  where
    one_more : (x p t s : ℕ) → s ≡ p * t → 2 * x * s ≡ 2 * p * (x * t)
    one_more x p t s h = rw h (omega arith)

-- ---- a cell

module _ (m n : ℕ) (m2 : 2 ≤ m) (m3 : m ≤ 3) (cell : Place) (g : Field) where
  pub cell_powers : Field
  cell_powers = sweep (axes n) (λ a. to_powers m) (coefficients m n cell g)

  pub cell-integral : cell_numerator m n cell g ≡ integral_of m n cell_powers
  unfolding cell_numerator integral_of cell_powers Integral
  cell-integral = sym (by-powers m n (coefficients m n cell g) (λ a k. pos (power_integral m k)) (λ a. total_multiplier m)
      (λ a l. by-m Integral integral-2 integral-3 m m2 m3))

  pub cell-polynomial : (N u : Place) → ((a : ℕ) → a < n → u a ≤ N a)
      → exact_sum (record { m = m; n = n; want = dose; N = N; cell = cell; step = u }) g ≡ polynomial_at m n cell_powers N u
  unfolding exact_sum polynomial_at cell_powers weight_on order_on weight_at OneAxis
  cell-polynomial N u h = sym (by-powers m n (coefficients m n cell g) (λ a k. pos (u a) ^ℤ k *ℤ pos (N a) ^ℤ (2 * m - 1 - k))
      (λ a i. weight 0 (pos (N a - u a)) (pos (u a)) (2 * m - 1) i)
      (λ a l i q. let e : N a ≡ N a - u a + u a = (let k = h a l in omega arith) in
      ap (λ (d : ℕ). sum (2 * m) (λ k. weight_power m i k *ℤ (pos (u a) ^ℤ k *ℤ pos d ^ℤ (2 * m - 1 - k)))) e
      ∙ by-m OneAxis one-2 one-3 m m2 m3 (pos (N a - u a)) (pos (u a)) i q))
