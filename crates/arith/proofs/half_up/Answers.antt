-- `arith::half_up` meets its contract: half the divisor is added, and the shift rounds down.
use mathlib.Core.Path.{◌≡◌, sym}
use Prim.Native.Nat.{ℕ, ◌+◌, ◌*◌, ◌%◌, ◌^◌, ◌≤◌, ◌<◌}
use native.Mathlib.Nat.{lt_of_le_of_lt}
use lib.Pow.{pow_pos}
use lib.IntN.{ℤ, pos, nat_abs, ◌+ℤ◌}
use lib.Signed.{shr_z}
use mir.Syntax.{w64}
use mir.Val.{SFits, to_z, of_z}
use mir.Facts.{to_z-of_z}
use Rattle.arith.specs.Int.{round_half_up}
use Rattle.arith.proofs.Abs.{abs-add, sfits-abs, sfits_shr}
use Rattle.arith.proofs.Machine.{power-held, power-double}
use Rattle.arith.proofs.Round.{round-half}
use Rattle.arith.proofs.half_up.Goals as goal

module _ (x : ℤ) (k : ℕ) (f : SFits w64 x) (hk : k ≤ 61) (small : nat_abs x + 2 ^ k < 2 ^ 63) where
  sum_fits : SFits w64 (x +ℤ pos (2 ^ k))
  sum_fits = sfits-abs (x +ℤ pos (2 ^ k)) (lt_of_le_of_lt (abs-add x (pos (2 ^ k))) small)

  nearest : shr_z (x +ℤ pos (2 ^ k)) (2 ^ (k + 1)) ≡ round_half_up x (2 ^ (k + 1))
  nearest = rw (power-double k) (sym (round-half x (2 ^ k) (pow_pos k)))

  raised : SFits w64 (to_z w64 (of_z w64 x) +ℤ to_z w64 (1 * 2 ^ k % 18446744073709551616))
  raised = rw (to_z-of_z f, power-held k hk) sum_fits

  ends : to_z w64 (of_z w64 (shr_z (to_z w64 (of_z w64 (to_z w64 (of_z w64 x) +ℤ to_z w64 (1 * 2 ^ k % 18446744073709551616))))
      (2 ^ (k + 1))))
      ≡ round_half_up x (2 ^ (k + 1))
  ends = rw (to_z-of_z f, power-held k hk, to_z-of_z sum_fits, to_z-of_z (sfits_shr (x +ℤ pos (2 ^ k)) (2 ^ (k + 1)) sum_fits)) nearest

pub overflow_add-result : goal.overflow_add-result
overflow_add-result c = raised c.args.x c.args.k c.ranges.x c.requires.0 c.requires.1

pub returns : goal.returns
returns c = ends c.args.x c.args.k c.ranges.x c.requires.0 c.requires.1
