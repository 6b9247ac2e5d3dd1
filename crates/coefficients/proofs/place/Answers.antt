-- `coefficients::place` meets its contract: the low end counts up, the high end down.
use mathlib.Core.Path.{◌≡◌, sym, ap, ◌∙◌}
use Prim.Native.Nat.{ℕ, zero, suc, ◌<◌, ◌+◌, ◌-◌, ◌*◌}
use native.Mathlib.Omega.{arith}
use Rattle.coefficients.specs.Blocks.{coefficient_number}
use Rattle.coefficients.proofs.SpotLaws.{mirror-low, mirror-high}
use Rattle.coefficients.proofs.place.Goals as goal

-- by the end
place_is : (m b o : ℕ) → b < 2 → o < m → (2 * m - 1 - 2 * o) * b + o ≡ coefficient_number m (m * b + o)
place_is m zero o l h =
    let z : m * 0 + o ≡ o = omega arith in
    let w : (2 * m - 1 - 2 * o) * 0 + o ≡ o = omega arith in
    w ∙ sym (ap (coefficient_number m) z ∙ mirror-low m o h)
place_is m (suc zero) o l h =
    let w : (2 * m - 1 - 2 * o) * 1 + o ≡ 3 * m - 1 - (m * 1 + o) = omega arith in
    w ∙ sym (mirror-high m (m * 1 + o) (omega arith))
place_is m (suc (suc b)) o l h = absurd (omega arith)

place-low : (m b o : ℕ) → b < 2 → o < m → (2 * m - 1 - 2 * o) * b + o < 2 * m
place-low m zero o l h = omega arith
place-low m (suc zero) o l h = omega arith
place-low m (suc (suc b)) o l h = absurd (omega arith)

pub returns : goal.returns
returns c = (
  place_is c.args.m c.args.b c.args.o c.requires.1 c.requires.2,
  place-low c.args.m c.args.b c.args.o c.requires.1 c.requires.2,
)
