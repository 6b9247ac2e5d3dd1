-- `arith::half_even` meets its contract: half the divisor is added, or one less where the quotient below is even, and the shift rounds
-- down.
use mathlib.Core.Path.{◌≡◌, ap, ap₂, ◌∙◌}
use mathlib.Core.List.{[], ◌∷◌}
use Prim.Native.Nat.{ℕ, ◌+◌, ◌*◌, ◌%◌, ◌^◌, ◌≤◌, ◌<◌}
use native.Mathlib.Nat.{lt_of_le_of_lt}
use native.Mathlib.Omega.{arith}
use lib.Dec.{lit<}
use lib.Pow.{pow_pos}
use lib.IntN.{ℤ, pos, nat_abs, ◌+ℤ◌, ◌-ℤ◌, ◌*ℤ◌}
use lib.Signed.{shr_z}
use mir.Syntax.{w64}
use mir.Val.{SFits, to_z, of_z}
use mir.Facts.{to_z-of_z}
use Rattle.arith.specs.Int.{floor_div, round_half_even}
use Rattle.arith.proofs.Abs.{abs-add, abs-minus, abs-shr, sfits-abs, sfits_shr}
use Rattle.arith.proofs.Quote.{quotes, ring! }
use Rattle.arith.proofs.Machine.{power-held, power-double}
use Rattle.arith.proofs.Editions.{even-half, odd-small, addend_small}
use Rattle.arith.proofs.half_even.Goals as goal

-- a number as the machine holds it
abbrev held : ℤ → ℤ
held z = to_z w64 (of_z w64 z)

module _ (x : ℤ) (k : ℕ) (f : SFits w64 x) (hk : k ≤ 61) (small : nat_abs x + 2 ^ k < 2 ^ 63) where
  some : 0 < 2 ^ k
  some = pow_pos k

  abbrev half : ℤ
  half = to_z w64 (1 * 2 ^ k % 18446744073709551616)

  abbrev below : ℤ
  below = floor_div x (2 ^ (k + 1))

  abbrev odd : ℤ
  odd = below -ℤ pos 2 *ℤ floor_div below 2

  below-fits : SFits w64 below
  below-fits = sfits_shr x (2 ^ (k + 1)) f

  abbrev held_below : ℤ
  held_below = held (shr_z (held x) (2 ^ (k + 1)))

  below-is : held_below ≡ below
  below-is = rw (to_z-of_z f) (to_z-of_z below-fits)

  abbrev twice : ℤ
  twice = pos 2 *ℤ held (shr_z held_below 2)

  twice-is : twice ≡ pos 2 *ℤ floor_div below 2
  twice-is = rw below-is (ap (λ z. pos 2 *ℤ z) (to_z-of_z (sfits_shr below 2 below-fits)))

  parity : nat_abs odd ≤ 1
  parity = rw (power-double k) (odd-small x (2 ^ k) some)

  twice-fits : SFits w64 twice
  twice-fits = rw twice-is
      (sfits-abs (pos 2 *ℤ floor_div below 2)
      (let e = ap nat_abs (back below (pos 2 *ℤ floor_div below 2)) in
      let a = abs-minus below odd in
      let b = abs-shr x (2 ^ (k + 1)) in
      let p = parity in
      let s = some in
      omega arith))
    where
      back : (b c : ℤ) → c ≡ b -ℤ (b -ℤ c)
      back b c = ring! (b ∷ c ∷ []) (search quotes depth 40) tt

  abbrev held-odd : ℤ
  held-odd = held_below -ℤ held twice

  held-odd-is : held-odd ≡ odd
  held-odd-is = rw (to_z-of_z twice-fits, twice-is, below-is)

  odd-fits : SFits w64 held-odd
  odd-fits = rw held-odd-is (sfits-abs odd (lt_of_le_of_lt parity (lit< tt)))

  abbrev less : ℤ
  less = pos 1 -ℤ held held-odd

  less-is : less ≡ pos 1 -ℤ odd
  less-is = rw (to_z-of_z odd-fits, held-odd-is)

  less-fits : SFits w64 less
  less-fits = rw less-is (sfits-abs (pos 1 -ℤ odd) (lt_of_le_of_lt (abs-minus (pos 1) odd) (let p = parity in omega arith)))

  abbrev addend : ℤ
  addend = half -ℤ held less

  addend-is : addend ≡ pos (2 ^ k) -ℤ (pos 1 -ℤ odd)
  addend-is = rw (to_z-of_z less-fits, less-is, power-held k hk)

  addend-size : nat_abs (pos (2 ^ k) -ℤ (pos 1 -ℤ odd)) ≤ 2 ^ k
  addend-size = rw (power-double k) (addend_small x (2 ^ k) some)

  addend-fits : SFits w64 addend
  addend-fits = rw addend-is (sfits-abs (pos (2 ^ k) -ℤ (pos 1 -ℤ odd)) (let a = addend-size in omega arith))

  abbrev raised : ℤ
  raised = held x +ℤ held addend

  raised_is : raised ≡ x +ℤ (pos (2 ^ k) -ℤ (pos 1 -ℤ odd))
  raised_is = ap₂ ◌+ℤ◌ (to_z-of_z f) (to_z-of_z addend-fits ∙ addend-is)

  raised-fits : SFits w64 raised
  raised-fits = rw raised_is
      (sfits-abs (x +ℤ (pos (2 ^ k) -ℤ (pos 1 -ℤ odd)))
      (let a = abs-add x (pos (2 ^ k) -ℤ (pos 1 -ℤ odd)) in
      let b = addend-size in
      omega arith))

  ends : held (shr_z (held raised) (2 ^ (k + 1))) ≡ round_half_even x (2 ^ (k + 1))
  ends =
      ap (λ z. held (shr_z z (2 ^ (k + 1)))) (to_z-of_z raised-fits)
      ∙ to_z-of_z (sfits_shr raised (2 ^ (k + 1)) raised-fits)
      ∙ ap (λ z. shr_z z (2 ^ (k + 1))) raised_is
      ∙ rw (power-double k) (even-half x (2 ^ k) some)

pub overflow_mul-odd : goal.overflow_mul-odd
overflow_mul-odd c = twice-fits c.args.x c.args.k c.ranges.x c.requires.0 c.requires.1

pub overflow_sub-odd : goal.overflow_sub-odd
overflow_sub-odd c = odd-fits c.args.x c.args.k c.ranges.x c.requires.0 c.requires.1

pub overflow_sub-result : goal.overflow_sub-result
overflow_sub-result c = less-fits c.args.x c.args.k c.ranges.x c.requires.0 c.requires.1

pub overflow_sub-result-2 : goal.overflow_sub-result-2
overflow_sub-result-2 c = addend-fits c.args.x c.args.k c.ranges.x c.requires.0 c.requires.1

pub overflow_add-result : goal.overflow_add-result
overflow_add-result c = raised-fits c.args.x c.args.k c.ranges.x c.requires.0 c.requires.1

pub returns : goal.returns
returns c = ends c.args.x c.args.k c.ranges.x c.requires.0 c.requires.1
