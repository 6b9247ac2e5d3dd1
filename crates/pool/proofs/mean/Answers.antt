-- `mean` meets its contract: every sum stays below 2^32.
use mathlib.Core.Path.{refl}
use Prim.Native.Nat.{ℕ, ◌+◌, ◌*◌, ◌/◌, ◌≤◌, ◌<◌}
use native.Mathlib.Nat.{mul-le-mul_right, div-lt_iff_lt-mul}
use native.Mathlib.Omega.{arith}
use Rattle.pool.specs.Parts.{Weights}
use Rattle.pool.proofs.mean.Goals as goal
use Rattle.pool.proofs.mean.Goals.{Start}

-- the sums
record Sums (x v y w : ℕ) : Type 0 where
  first : x * v ≤ 655360000
  second : y * w ≤ 655360000
  mean : (2 * (x * v + y * w) + (v + w)) / (2 * (v + w)) ≤ 65536

below : {n : ℕ} → n < 65537 → n ≤ 65536
below h = omega arith

sums : (x v y w : ℕ) → x ≤ 65536 → y ≤ 65536 → Weights v w → Sums x v y w
sums x v y w hx hy ok =
    let p : x * v ≤ 65536 * v = mul-le-mul_right v hx in
    let q : y * w ≤ 65536 * w = mul-le-mul_right w hy in
    record {
      first = omega (arith, ok.first);
      second = omega (arith, ok.second);
      mean = below ((div-lt_iff_lt-mul {y = 65537} (omega (arith, ok.some))).1 (omega (arith, ok.some)));
    }

facts : (s : Start) → Sums s.args.x s.args.v s.args.y s.args.w
facts s = sums s.args.x s.args.v s.args.y s.args.w s.requires.0 s.requires.1 s.requires.2

pub overflow_mul-result : goal.overflow_mul-result
overflow_mul-result c = record { fits = omega (arith, (facts c).first) }

pub overflow_mul-result-2 : goal.overflow_mul-result-2
overflow_mul-result-2 c = record { fits = omega (arith, (facts c).second) }

pub overflow_add-result : goal.overflow_add-result
overflow_add-result c = record { fits = omega (arith, (facts c).first, (facts c).second) }

pub overflow_mul-result-3 : goal.overflow_mul-result-3
overflow_mul-result-3 c = record { fits = omega (arith, (facts c).first, (facts c).second) }

pub overflow_add-result-2 : goal.overflow_add-result-2
overflow_add-result-2 c = record { fits = omega (arith, (facts c).first, (facts c).second) }

pub returns : goal.returns
returns c = (refl, (facts c).mean)
