-- `coefficients::row_place` meets its contract: along y and z the orders of the row are counted from their ends; the sums are small.
use mathlib.Core.Path.{◌≡◌}
use Prim.Native.Nat.{ℕ, ◌≤◌, ◌<◌, ◌+◌, ◌*◌, ◌/◌, ◌%◌}
use native.Mathlib.Nat.{mul-le-mul, mod-eq_of_lt}
use native.Mathlib.Omega.{arith}
use Rattle.lattice.specs.Digits.{number, digit}
use Rattle.lattice.proofs.DigitsLaws.{high_digit, low_digit}
use Rattle.coefficients.specs.Blocks.{coefficient_number, block_numbers, coefficient_index}
use Rattle.coefficients.proofs.row_place.Goals as goal

-- a place by its number along x and its row
place_is : (m c y z t : ℕ) → c < 8 → y < m → z < m → t < m
    → coefficient_index m c (m * (m * z + y) + t) ≡ 2 * m
    * (coefficient_number m (m * (c / 2 % 2) + y) + 2 * m * coefficient_number m (m * (c / 2 / 2) + z)) + coefficient_number m
    (m * (c % 2) + t)
unfolding coefficient_index number block_numbers digit
place_is m c y z t few ly lz l =
    rw (
      low_digit m (m * z + y) t l,
      high_digit m (m * z + y) t l,
      low_digit m z y ly,
      high_digit m z y ly,
      mod-eq_of_lt lz,
      mod-eq_of_lt half,
    )
    (turn (coefficient_number m (m * (c % 2) + t)) (coefficient_number m (m * (c / 2 % 2) + y))
    (coefficient_number m (m * (c / 2 / 2) + z)) (2 * m))
  where
    half : c / 2 / 2 < 2
    half = omega arith

    turn : (x y z w : ℕ) → x + w * (y + w * (z + w * 0)) ≡ w * (y + w * z) + x
    turn x y z w = omega arith

-- the sums are small
sums : (m y z : ℕ) → m ≤ 3 → y < 2 * m → z < 2 * m → (2 * m * z ≤ 30) × (2 * m * (y + 2 * m * z) ≤ 210)
sums m y z m3 ly lz =
    let a = mul-le-mul {n₁ = 2 * m} {m₁ = z} {n₂ = 6} {m₂ = 5} (omega arith) (omega arith) in (
      a,
      mul-le-mul {n₁ = 2 * m} {m₁ = y + 2 * m * z} {n₂ = 6} {m₂ = 35} (omega arith) (omega arith),
    )

pub returns : goal.returns
returns c =
    let a = c.args in
    let p = c.requires in (
      (sums a.m c.place.result c.place-2.result p.1 c.place.ensures.1 c.place-2.ensures.1).1,
      λ t l. rw (c.place.ensures.0, c.place-2.ensures.0)
          (place_is a.m a.c a.o.y a.o.z t p.2 p.3 p.4 l),
    )
