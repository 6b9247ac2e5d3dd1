-- A cell of k·N steps at step k·u is a cell of N steps at step u: weights and divisor have one power of k in common.
use mathlib.Core.Path.{◌≡◌, refl, sym, ap, ap₂, ◌∙◌}
use mathlib.Core.List.{[], ◌∷◌}
use Prim.Native.Nat.{ℕ, zero, suc, ◌+◌, ◌*◌, ◌-◌, ◌^◌, ◌≤◌, ◌<◌}
use native.Mathlib.Omega.{arith}
use native.Mathlib.Nat.{pow-zero, pow-suc, mul-sub, one-le-pow}
use lib.IntN.{ℤ, pos, ◌-ℤ◌, ◌*ℤ◌, zero-*ℤ}
use Rattle.arith.specs.Int.{◌^ℤ◌}
use Rattle.arith.proofs.Quote.{quotes, ring! }
use Rattle.arith.proofs.Round.{pos-power}
use Rattle.arith.proofs.Sums.{sum-ext, sum_left}
use Rattle.hermite.specs.Hermite.{forward, weight, weight_at, divisor, stage_sum}

-- ---- powers of products

power-product : (k a : ℤ) (n : ℕ) → (k *ℤ a) ^ℤ n ≡ k ^ℤ n *ℤ a ^ℤ n
power-product k a zero = refl
power-product k a (suc n) = ap (λ z. k *ℤ a *ℤ z) (power-product k a n) ∙ turn k a (k ^ℤ n) (a ^ℤ n)
  where
    turn : (k a x y : ℤ) → k *ℤ a *ℤ (x *ℤ y) ≡ k *ℤ x *ℤ (a *ℤ y)
    turn k a x y = ring! (k ∷ a ∷ x ∷ y ∷ []) (search quotes depth 40) tt

power-join : (k : ℤ) (i j n : ℕ) → i + j ≡ n → k ^ℤ i *ℤ k ^ℤ j ≡ k ^ℤ n
power-join k zero j n e = one (k ^ℤ j) ∙ ap (λ (i : ℕ). k ^ℤ i) (let f : j ≡ n = omega arith in f)
  where
    one : (x : ℤ) → pos 1 *ℤ x ≡ x
    one x = ring! (x ∷ []) (search quotes depth 40) tt
power-join k (suc i) j zero e = absurd (none i j e)
  where
    none : (i j : ℕ) → suc i + j ≡ 0 → ⊥
    none i j e = omega arith
power-join k (suc i) j (suc n) e = assoc k (k ^ℤ i) (k ^ℤ j) ∙ ap (λ z. k *ℤ z) (power-join k i j n (omega arith))
  where
    assoc : (k x y : ℤ) → k *ℤ x *ℤ y ≡ k *ℤ (x *ℤ y)
    assoc k x y = ring! (k ∷ x ∷ y ∷ []) (search quotes depth 40) tt

power-times : (k N n : ℕ) → (k * N) ^ n ≡ k ^ n * N ^ n
power-times k N zero = rw (pow-zero (k * N), pow-zero k, pow-zero N) refl
power-times k N (suc n) =
    pow-suc (k * N) n ∙ ap (λ (i : ℕ). i * (k * N)) (power-times k N n) ∙ turn (k ^ n) (N ^ n) k N
    ∙ sym (ap₂ ◌*◌ (pow-suc k n) (pow-suc N n))
  where
    turn : (a b k N : ℕ) → a * b * (k * N) ≡ a * k * (b * N)
    turn a b k N = omega arith

-- ---- weights, of every order of the derivative

-- two weights times their numbers, from one power each
joined : (t x y p q : ℤ) → p *ℤ (t *ℤ x) -ℤ q *ℤ (t *ℤ y) ≡ t *ℤ (p *ℤ x -ℤ q *ℤ y)
joined t x y p q = ring! (t ∷ x ∷ y ∷ p ∷ q ∷ []) (search quotes depth 40) tt

weight_scaled : (order : ℕ) (k a b : ℤ) (d i : ℕ) → i ≤ d → weight order (k *ℤ a) (k *ℤ b) d i ≡ k ^ℤ (d - order) *ℤ weight order a b d i
unfolding weight
weight_scaled zero k a b d i h =
    ap₂ ◌*ℤ◌ (power-product k a (d - i)) (power-product k b i) ∙ turn (k ^ℤ (d - i)) (a ^ℤ (d - i)) (k ^ℤ i) (b ^ℤ i)
    ∙ ap (λ z. z *ℤ (a ^ℤ (d - i) *ℤ b ^ℤ i)) (power-join k (d - i) i (d - 0) (omega arith))
  where
    turn : (p x q y : ℤ) → p *ℤ x *ℤ (q *ℤ y) ≡ p *ℤ q *ℤ (x *ℤ y)
    turn p x q y = ring! (p ∷ x ∷ q ∷ y ∷ []) (search quotes depth 40) tt
weight_scaled (suc order) k a b d i h =
    ap₂ (λ x y. pos i *ℤ x -ℤ y) (weight_scaled order k a b (d - 1) (i - 1) (omega arith))
    (falling (d - i) refl (weight_scaled order k a b (d - 1) i))
    ∙ joined (k ^ℤ (d - 1 - order)) (weight order a b (d - 1) (i - 1)) (weight order a b (d - 1) i) (pos i) (pos (d - i))
    ∙ ap (λ (n : ℕ). k ^ℤ n *ℤ (pos i *ℤ weight order a b (d - 1) (i - 1) -ℤ pos (d - i) *ℤ weight order a b (d - 1) i)) (less d order)
  where
    less : (d order : ℕ) → d - 1 - order ≡ d - suc order
    less d order = omega arith

    nothing : (x t y : ℤ) → pos 0 *ℤ x ≡ pos 0 *ℤ (t *ℤ y)
    nothing x t y = zero-*ℤ x ∙ sym (zero-*ℤ (t *ℤ y))

    falling : (e : ℕ) → e ≡ d - i
        → (i ≤ d - 1 → weight order (k *ℤ a) (k *ℤ b) (d - 1) i ≡ k ^ℤ (d - 1 - order) *ℤ weight order a b (d - 1) i)
        → pos e *ℤ weight order (k *ℤ a) (k *ℤ b) (d - 1) i ≡ pos e *ℤ (k ^ℤ (d - 1 - order) *ℤ weight order a b (d - 1) i)
    falling zero e h = nothing (weight order (k *ℤ a) (k *ℤ b) (d - 1) i) (k ^ℤ (d - 1 - order)) (weight order a b (d - 1) i)
    falling (suc n) e h = ap (λ z. pos (suc n) *ℤ z) (h (omega arith))

-- ---- a stage

-- the power of k in a stage's sum and in its divisor
abbrev pub common : ℕ → ℕ → ℕ → ℕ
common order m k = k ^ (2 * m - 1 - order)

pub common-some : (order m k : ℕ) → 0 < k → 0 < common order m k
common-some order m k h = one-le-pow (2 * m - 1 - order) k h

pub stage-scaled : (order m N c u k : ℕ) (x : ℕ → ℤ) (j : ℕ)
    → stage_sum order m (k * N) c (k * u) x j ≡ pos (common order m k) *ℤ stage_sum order m N c u x j
unfolding stage_sum weight_at
stage-scaled order m N c u k x j =
    sum-ext (2 * m) (λ i. forward m c x i *ℤ weight order (pos (k * N - k * u)) (pos (k * u)) (2 * m - 1) i)
    (λ i. pos (common order m k) *ℤ (forward m c x i *ℤ weight order (pos (N - u)) (pos u) (2 * m - 1) i))
    (λ i l. ap (λ (r : ℕ). forward m c x i *ℤ weight order (pos r) (pos (k * u)) (2 * m - 1) i) (sym (mul-sub k N u))
    ∙ ap (λ z. forward m c x i *ℤ z) (weight_scaled order (pos k) (pos (N - u)) (pos u) (2 * m - 1) i (omega arith))
    ∙ ap (λ z. forward m c x i *ℤ (z *ℤ weight order (pos (N - u)) (pos u) (2 * m - 1) i)) (pos-power k (2 * m - 1 - order))
    ∙ out (forward m c x i) (pos (common order m k)) (weight order (pos (N - u)) (pos u) (2 * m - 1) i))
    ∙ sum_left (2 * m) (pos (common order m k)) (λ i. forward m c x i *ℤ weight order (pos (N - u)) (pos u) (2 * m - 1) i)
  where
    out : (f t x : ℤ) → f *ℤ (t *ℤ x) ≡ t *ℤ (f *ℤ x)
    out f t x = ring! (f ∷ t ∷ x ∷ []) (search quotes depth 40) tt

pub divisor-scaled : (order m N k : ℕ) → divisor order m (k * N) ≡ common order m k * divisor order m N
unfolding divisor
divisor-scaled order m N k =
    ap (λ (i : ℕ). 2 * i) (power-times k N (2 * m - 1 - order)) ∙ out (k ^ (2 * m - 1 - order)) (N ^ (2 * m - 1 - order))
  where
    out : (a b : ℕ) → 2 * (a * b) ≡ a * (2 * b)
    out a b = omega arith
