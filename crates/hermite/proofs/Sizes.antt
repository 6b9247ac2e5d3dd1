-- How large a stage's sums and its rounded result can be, for numbers within B, doubled with each order.
use mathlib.Core.Path.{◌≡◌, ap, subst}
use Prim.Native.Nat.{ℕ, zero, suc, ◌+◌, ◌*◌, ◌-◌, ◌%◌, ◌^◌, ◌≤◌, ◌<◌}
use native.Mathlib.Nat.{le_trans, le_of_eq, mul-le-mul_right, one-le-pow}
use native.Mathlib.Omega.{arith}
use native.Mathlib.Decide.{dec_le}
use lib.IntN.{ℤ, nat_abs}
use Rattle.arith.specs.Int.{Rounding}
use Rattle.arith.specs.Sum.{total}
use Rattle.arith.proofs.Round.{Sound, sound-size}
use Rattle.hermite.specs.Hermite.{divisor, basis, stage_sum}
use Rattle.hermite.specs.Stage.{Smooth}
use Rattle.arith.proofs.Sums.{graded-total, graded-sum}
use Rattle.hermite.proofs.HermiteLaws.{stage-linear}
use Rattle.hermite.proofs.Reach.{coarse, growth, coarse-growth}

pub divisor-some : (k m N : ℕ) → 0 < N → 0 < divisor k m N
unfolding divisor
divisor-some k m N h = let e = one-le-pow (2 * m - 1 - k) N h in omega arith

-- a sum within C·B, divided by D and rounded, is at most f times B where C is at most f times D
rounded-bound : (f r s D C B : ℕ) → s ≤ C * B → 2 * (r * D) ≤ 2 * s + D → C ≤ f * D → 0 < D → r ≤ f * B
rounded-bound f r s D C B sum h c o = go (dec_le r (f * B))
  where
    go : Dec (r ≤ f * B) → r ≤ f * B
    go (yes l) = l
    go (no n) =
        let more : suc (f * B) ≤ r = omega arith in
        let f = mul-le-mul_right D more in
        let g = mul-le-mul_right B c in
        absurd (omega arith)

growth-most : (k D C : ℕ) → 5 * C ≤ growth k * D → C ≤ 9 * (8 * D)
unfolding growth
growth-most zero D C h = omega arith
growth-most (suc zero) D C h = omega arith
growth-most (suc (suc k)) D C h = omega arith

module _ (k m N c u : ℕ) (x : ℕ → ℤ) (B : ℕ) (small : (t : ℕ) → t < 2 * m → nat_abs (x (m * c + t)) ≤ B * 2 ^ (t % m)) where
  -- the sum of the sizes, which no sum on the way exceeds
  pub stage-total : total (2 * m) (λ t. nat_abs (basis k m N u t) * nat_abs (x (m * c + t))) ≤ coarse k m N u * B
  unfolding coarse
  stage-total = graded-total (2 * m) (basis k m N u) (λ t. x (m * c + t)) (λ t. 2 ^ (t % m)) B small

  pub stage-size : (j : ℕ) → nat_abs (stage_sum k m N c u x j) ≤ coarse k m N u * B
  unfolding coarse stage-linear
  stage-size j = le_trans (le_of_eq (ap nat_abs ((stage-linear k m N c u).is x j)))
      (graded-sum (2 * m) (basis k m N u) (λ t. x (m * c + t)) (λ t. 2 ^ (t % m)) B small)

  module _ (round : Rounding) (sound : Sound round) (smooth : Smooth k m) (m2 : 2 ≤ m) (m3 : m ≤ 3) (some : 0 < N) (h : u ≤ N) (j : ℕ) where
    most : 5 * coarse k m N u ≤ growth k * divisor k m N
    most = coarse-growth k m N u smooth m2 m3 h

    some-divisor : 0 < divisor k m N
    some-divisor = divisor-some k m N some

    rounded-size : (f D : ℕ) → 0 < D → coarse k m N u ≤ f * D → nat_abs (round (stage_sum k m N c u x j) D) ≤ f * B
    rounded-size f D o g =
        rounded-bound f (nat_abs (round (stage_sum k m N c u x j) D)) (nat_abs (stage_sum k m N c u x j)) D (coarse k m N u) B
        (stage-size j)
        (sound-size sound (stage_sum k m N c u x j) D o) g o

    -- a dose's stage to eighths of eighths
    pub eighth-size : k ≡ 0 → nat_abs (round (stage_sum k m N c u x j) (divisor k m N)) ≤ 2 * B
    unfolding growth
    eighth-size e =
        let g = subst (λ (i : ℕ). 5 * coarse k m N u ≤ growth i * divisor k m N) e most in
        rounded-size 2 (divisor k m N) some-divisor (omega arith)

    -- a stage to units of eighths
    pub unit_size : nat_abs (round (stage_sum k m N c u x j) (8 * divisor k m N)) ≤ 9 * B
    unit_size =
        rounded-size 9 (8 * divisor k m N) (let o = some-divisor in omega arith) (growth-most k (divisor k m N) (coarse k m N u) most)
