-- The polynomial of the power coefficients is the exact value: on one axis equation 8 is a stage, and the matrix is equation 8 on both.
use mathlib.Core.Path.{◌≡◌, refl, sym, ap, ap₂, ◌∙◌, fun_ext}
use mathlib.Core.List.{[], ◌∷◌}
use Prim.Native.Nat.{ℕ, zero, suc, ◌+◌, ◌*◌, ◌-◌, ◌^◌, ◌≤◌, ◌<◌}
use native.Mathlib.Omega.{arith}
use lib.IntN.{ℤ, pos, ◌+ℤ◌, ◌*ℤ◌}
use Rattle.arith.specs.Choice.{pick}
use Rattle.arith.specs.Int.{◌^ℤ◌}
use Rattle.arith.specs.Sum.{sum, times}
use Rattle.arith.proofs.Choices.{by_2, by_place}
use Rattle.arith.proofs.Quote.{quotes, ring! }
use Rattle.arith.proofs.Sums.{sum-ext, sum_left, sum-right, sum-swap}
use Rattle.lattice.specs.Axes.{Place, Field, origin, put, sweep, axes}
use Rattle.lattice.proofs.Along.{put-off, same}
use Rattle.hermite.specs.Hermite.{multiplier, mirrored, share, weight, weight_at, divisor, stage_sum, basis}
use Rattle.hermite.proofs.HermiteLaws.{stage-linear}
use Rattle.evaluate.specs.Evaluate.{Ask, dose, order_on, exact_sum, divisor_on, exact_divisor, stage_on}
use Rattle.evaluate.proofs.Exact.{exact-stages}
use Rattle.powers.specs.Powers.{one_axis, column_numbers, factor, power_coefficient, power_of}
use Rattle.powers.proofs.MatrixLaws.{numbers-low, by-columns, double, factor-is, matrix-product}

-- ---- one axis

-- equation 8 at step u of N, multiplied by N³
unfoldable pub axis_at : ℕ → ℕ → ℕ → ℤ
axis_at N u t = sum 4 (λ i. one_axis i t *ℤ power_of N u i)

-- where a = N − u and b = u
one-axis : (a b : ℤ) (t : ℕ) → t < 4
    → sum 4 (λ i. share 2 i t *ℤ weight 0 a b 3 i) ≡ double t *ℤ sum 4 (λ i. one_axis i t *ℤ (b ^ℤ i *ℤ (a +ℤ b) ^ℤ (3 - i)))
unfolding sum share multiplier mirrored pick weight double one_axis
one-axis a b =
    by_place 2 _ (by_2 _ (ring! (a ∷ b ∷ []) (search quotes depth 60) tt) (ring! (a ∷ b ∷ []) (search quotes depth 60) tt))
    (by_2 _ (ring! (a ∷ b ∷ []) (search quotes depth 60) tt) (ring! (a ∷ b ∷ []) (search quotes depth 60) tt))

-- what a stage takes of number t: of a value twice what equation 8 makes of it, of D what it makes of the slope
basis-is : (N u t : ℕ) → u ≤ N → t < 4 → basis 0 2 N u t ≡ double t *ℤ axis_at N u t
unfolding basis weight_at axis_at power_of
basis-is N u t h l =
    let e : N - u + u ≡ N = omega arith in
    one-axis (pos (N - u)) (pos u) t l
    ∙ ap (λ (n : ℕ). double t *ℤ sum 4 (λ i. one_axis i t *ℤ (pos u ^ℤ i *ℤ pos n ^ℤ (3 - i)))) e

-- ---- two axes

-- a sum over columns of products of both axes, by powers
by-powers : (A B : ℕ → ℕ → ℤ) (p q w : ℕ → ℤ)
    → sum 4 (λ j. sum 4 (λ i. sum 16 (λ K. A i K *ℤ B j K *ℤ w K) *ℤ (p i *ℤ q j)))
    ≡ sum 16 (λ K. sum 4 (λ i. A i K *ℤ p i) *ℤ (sum 4 (λ j. B j K *ℤ q j) *ℤ w K))
by-powers A B p q w =
    sum-ext 4 (λ j. sum 4 (λ i. sum 16 (λ K. A i K *ℤ B j K *ℤ w K) *ℤ (p i *ℤ q j))) (λ j. sum 16 (λ K. S K *ℤ (B j K *ℤ q j *ℤ w K)))
    (λ j h. sum-ext 4 (λ i. sum 16 (λ K. A i K *ℤ B j K *ℤ w K) *ℤ (p i *ℤ q j)) (λ i. sum 16 (λ K. A i K *ℤ p i *ℤ (B j K *ℤ q j *ℤ w K)))
    (λ i k. sym (sum-right 16 (λ K. A i K *ℤ B j K *ℤ w K) (p i *ℤ q j))
    ∙ sum-ext 16 (λ K. A i K *ℤ B j K *ℤ w K *ℤ (p i *ℤ q j)) (λ K. A i K *ℤ p i *ℤ (B j K *ℤ q j *ℤ w K))
    (λ K l. regroup (A i K) (B j K) (w K) (p i) (q j)))
    ∙ sum-swap 4 16 (λ i K. A i K *ℤ p i *ℤ (B j K *ℤ q j *ℤ w K))
    ∙ sum-ext 16 (λ K. sum 4 (λ i. A i K *ℤ p i *ℤ (B j K *ℤ q j *ℤ w K))) (λ K. S K *ℤ (B j K *ℤ q j *ℤ w K))
    (λ K l. sum-right 4 (λ i. A i K *ℤ p i) (B j K *ℤ q j *ℤ w K)))
    ∙ sum-swap 4 16 (λ j K. S K *ℤ (B j K *ℤ q j *ℤ w K))
    ∙ sum-ext 16 (λ K. sum 4 (λ j. S K *ℤ (B j K *ℤ q j *ℤ w K))) (λ K. S K *ℤ (sum 4 (λ j. B j K *ℤ q j) *ℤ w K))
    (λ K l. sum_left 4 (S K) (λ j. B j K *ℤ q j *ℤ w K) ∙ ap (λ z. S K *ℤ z) (sum-right 4 (λ j. B j K *ℤ q j) (w K)))
  where
    S : ℕ → ℤ
    S K = sum 4 (λ i. A i K *ℤ p i)

    regroup : (a b w p q : ℤ) → a *ℤ b *ℤ w *ℤ (p *ℤ q) ≡ a *ℤ p *ℤ (b *ℤ q *ℤ w)
    regroup a b w p q = ring! (a ∷ b ∷ w ∷ p ∷ q ∷ []) (search quotes depth 40) tt

-- a dose of a two-axis cubic table
abbrev pub asked : Place → Place → Place → Ask
asked N cell u = record { m = 2; n = 2; want = dose; N = N; cell = cell; step = u }

module _ (N cell u : Place) (g : Field) (unused : (a : ℕ) → 2 ≤ a → cell a ≡ 0) (x : u 0 ≤ N 0) (y : u 1 ≤ N 1) where
  -- a number of the cell
  number_at : ℕ → ℕ → ℤ
  number_at t s = g (put 0 (2 * cell 0 + t) (put 1 (2 * cell 1 + s) origin))

  -- stage after stage
  staged : exact_sum (asked N cell u) g
      ≡ sum 4 (λ s. sum 4 (λ t. basis 0 2 (N 1) (u 1) s *ℤ (basis 0 2 (N 0) (u 0) t *ℤ number_at t s)))
  unfolding sweep axes stage_on order_on number_at stage-linear basis sum
  staged =
      exact-stages (asked N cell u) (axes 2) same g
      ∙ (stage-linear 0 2 (N 1) (cell 1) (u 1)).is (λ s. first (put 1 s origin)) 0
      ∙ sum-ext 4 (λ s. basis 0 2 (N 1) (u 1) s *ℤ first (put 1 (2 * cell 1 + s) origin))
      (λ s. sum 4 (λ t. basis 0 2 (N 1) (u 1) s *ℤ (basis 0 2 (N 0) (u 0) t *ℤ number_at t s)))
      (λ s l. ap (λ z. basis 0 2 (N 1) (u 1) s *ℤ z)
      ((stage-linear 0 2 (N 0) (cell 0) (u 0)).is (λ t. g (put 0 t (put 1 (2 * cell 1 + s) origin))) 0)
      ∙ sym (sum_left 4 (basis 0 2 (N 1) (u 1) s) (λ t. basis 0 2 (N 0) (u 0) t *ℤ number_at t s)))
    where
      first : Place → ℤ
      first p = stage_sum 0 2 (N 0) (cell 0) (u 0) (λ t. g (put 0 t p)) (p 0)

  -- column K has the number of its two axes
  column-place : (K : ℕ) → K < 16 → g (λ a. 2 * cell a + column_numbers K a) ≡ number_at (column_numbers K 0) (column_numbers K 1)
  unfolding number_at put pick
  column-place K h = ap g (fun_ext places)
    where
      places : (a : ℕ) → 2 * cell a + column_numbers K a
          ≡ put 0 (2 * cell 0 + column_numbers K 0) (put 1 (2 * cell 1 + column_numbers K 1) origin) a
      places zero = refl
      places (suc zero) = refl
      places (suc (suc a)) =
          rw (
            unused (suc (suc a)) (omega arith),
            (numbers-low K h).unused (suc (suc a)) (omega arith),
            put-off 0 (2 * cell 0 + column_numbers K 0) (suc (suc a)) (put 1 (2 * cell 1 + column_numbers K 1) origin) (λ e. omega arith),
            put-off 1 (2 * cell 1 + column_numbers K 1) (suc (suc a)) origin (λ e. omega arith),
          ) refl

  pub polynomial-exact : exact_sum (asked N cell u) g
      ≡ sum 4 (λ j. sum 4 (λ i. power_coefficient cell g (i + 4 * j) *ℤ (power_of (N 0) (u 0) i *ℤ power_of (N 1) (u 1) j)))
  unfolding power_coefficient axis_at
  polynomial-exact =
      staged
      ∙ sym (by-columns (λ t s. basis 0 2 (N 1) (u 1) s *ℤ (basis 0 2 (N 0) (u 0) t *ℤ number_at t s)))
      ∙ sum-ext 16 (λ K. basis 0 2 (N 1) (u 1) (Y K) *ℤ (basis 0 2 (N 0) (u 0) (X K) *ℤ number_at (X K) (Y K)))
      (λ K. axis_at (N 0) (u 0) (X K) *ℤ (axis_at (N 1) (u 1) (Y K) *ℤ w K)) each
      ∙ sym (by-powers (λ i K. one_axis i (X K)) (λ j K. one_axis j (Y K)) (power_of (N 0) (u 0)) (power_of (N 1) (u 1)) w)
      ∙ sum-ext 4 _ _ (λ j h. sum-ext 4 _ _ (λ i k. ap (λ z. z *ℤ (power_of (N 0) (u 0) i *ℤ power_of (N 1) (u 1) j))
      (sum-ext 16 _ _ (λ K l. ap (λ z. z *ℤ w K) (sym (matrix-product i j K k))))))
    where
      X : ℕ → ℕ
      X K = column_numbers K 0

      Y : ℕ → ℕ
      Y K = column_numbers K 1

      w : ℕ → ℤ
      w K = factor K *ℤ g (λ a. 2 * cell a + column_numbers K a)

      regroup : (d e s t z : ℤ) → e *ℤ t *ℤ (d *ℤ s *ℤ z) ≡ s *ℤ (t *ℤ (d *ℤ e *ℤ z))
      regroup d e s t z = ring! (d ∷ e ∷ s ∷ t ∷ z ∷ []) (search quotes depth 40) tt

      each : (K : ℕ) → K < 16 → basis 0 2 (N 1) (u 1) (Y K) *ℤ (basis 0 2 (N 0) (u 0) (X K) *ℤ number_at (X K) (Y K))
          ≡ axis_at (N 0) (u 0) (X K) *ℤ (axis_at (N 1) (u 1) (Y K) *ℤ w K)
      each K h =
          let d = (numbers-low K h).used in
          ap₂ ◌*ℤ◌ (basis-is (N 1) (u 1) (Y K) y (d 1 (omega arith)))
          (ap₂ ◌*ℤ◌ (basis-is (N 0) (u 0) (X K) x (d 0 (omega arith))) (sym (column-place K h)))
          ∙ regroup (double (X K)) (double (Y K)) (axis_at (N 0) (u 0) (X K)) (axis_at (N 1) (u 1) (Y K))
          (g (λ a. 2 * cell a + column_numbers K a))
          ∙ ap (λ f. axis_at (N 0) (u 0) (X K) *ℤ (axis_at (N 1) (u 1) (Y K) *ℤ (f *ℤ g (λ a. 2 * cell a + column_numbers K a))))
          (sym (factor-is K h))

pub polynomial-divisor : (N cell u : Place) → exact_divisor (asked N cell u) ≡ 4 * (N 0 ^ 3 * N 1 ^ 3)
unfolding exact_divisor times axes divisor_on order_on divisor
polynomial-divisor N cell u = twice (N 0 ^ 3) (N 1 ^ 3)
  where
    twice : (x y : ℕ) → 2 * y * (2 * x * 1) ≡ 4 * (x * y)
    twice x y = omega arith
