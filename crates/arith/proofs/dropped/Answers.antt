-- `arith::dropped` meets its contract: x less the multiple below it is the rest of the quotient rounded down, 0 where x is a multiple.
use mathlib.Core.Path.{◌≡◌, sym, ap, ap₂, ◌∙◌}
use mathlib.Core.List.{[], ◌∷◌}
use Prim.Native.Nat.{ℕ, ◌+◌, ◌*◌, ◌%◌, ◌^◌, ◌≤◌, ◌<◌}
use native.Mathlib.Omega.{arith}
use lib.Dec.{T, eqb}
use lib.Pow.{pow_pos}
use lib.IntN.{ℤ, pos, nat_abs, ◌+ℤ◌, ◌-ℤ◌, ◌*ℤ◌}
use lib.Signed.{non_neg, shr_z}
use mir.Syntax.{w64}
use mir.Val.{SFits, Fits, to_z, of_z}
use mir.Facts.{to_z-of_z}
use Rattle.arith.specs.Int.{floor_div, divides}
use Rattle.arith.proofs.Rests.{same_none}
use Rattle.arith.proofs.Abs.{abs-minus, sfits-abs, sfits_shr}
use Rattle.arith.proofs.Quote.{quotes, ring! }
use Rattle.arith.proofs.Machine.{power-held}
use Rattle.arith.proofs.Round.{Floor, floor-is, floor-rest, whole_is, rest-none}
use Rattle.arith.proofs.dropped.Goals as goal

twice : (x m : ℤ) → m ≡ x -ℤ (x -ℤ m)
twice x m = ring! (x ∷ m ∷ []) (search quotes depth 40) tt

module _ (x : ℤ) (k : ℕ) (f : SFits w64 x) (hk : k ≤ 60) (small : nat_abs x + 2 ^ (k + 1) ≤ 2 ^ 63) where
  abbrev d : ℕ
  d = 2 ^ (k + 1)

  some : 0 < d
  some = pow_pos (k + 1)

  abbrev quotient : Floor x d (floor_div x d)
  quotient = floor-is x d some

  abbrev rest : ℕ
  rest = quotient.rest

  left : x -ℤ pos d *ℤ floor_div x d ≡ pos rest
  left = ap (λ z. z -ℤ pos d *ℤ floor_div x d) quotient.is ∙ plain (pos d *ℤ floor_div x d) (pos rest)
    where
      plain : (a b : ℤ) → (a +ℤ b) -ℤ a ≡ b
      plain a b = ring! (a ∷ b ∷ []) (search quotes depth 40) tt

  -- as the machine holds them
  abbrev multiple : ℤ
  multiple = to_z w64 (1 * d % 18446744073709551616) *ℤ to_z w64 (of_z w64 (shr_z (to_z w64 (of_z w64 x)) d))

  multiple-is : multiple ≡ pos d *ℤ floor_div x d
  multiple-is = rw (power-held (k + 1) (omega arith), to_z-of_z f, to_z-of_z (sfits_shr x d f))

  multiple-fits : SFits w64 multiple
  multiple-fits = rw multiple-is
      (sfits-abs (pos d *ℤ floor_div x d)
      (let e = ap nat_abs (back x (pos d *ℤ floor_div x d) (pos rest) left) in
      let a = abs-minus x (pos rest) in
      let b = quotient.below in
      omega arith))
    where
      back : (x m r : ℤ) → x -ℤ m ≡ r → m ≡ x -ℤ r
      back x m r e = twice x m ∙ ap (λ z. x -ℤ z) e

  abbrev above : ℤ
  above = to_z w64 (of_z w64 x) -ℤ to_z w64 (of_z w64 multiple)

  above-is : above ≡ pos rest
  above-is = ap₂ ◌-ℤ◌ (to_z-of_z f) (to_z-of_z multiple-fits ∙ multiple-is) ∙ left

  above-fits : SFits w64 above
  above-fits = rw above-is (sfits-abs (pos rest) (let b = quotient.below in omega arith))

  abbrev held : ℤ
  held = to_z w64 (of_z w64 above)

  held-is : held ≡ pos rest
  held-is = to_z-of_z above-fits ∙ above-is

  casts : T (non_neg held) × Fits w64 (nat_abs held)
  casts = rw held-is (tt, record { fits = (let b = quotient.below in omega arith) })

  ends : eqb (nat_abs held) 0 ≡ divides d x
  unfolding divides
  ends = rw held-is
      (same_none rest (nat_abs x % d)
      (λ e. rest-none d some x (floor_div x d)
      (quotient.is ∙ ap (λ (r : ℕ). pos d *ℤ floor_div x d +ℤ pos r) e ∙ none (pos d *ℤ floor_div x d)))
      (λ e. floor-rest quotient (record { rest = 0; below = some; is = whole_is d some x e ∙ sym (none (pos d *ℤ floor_div x d)) })))
    where
      none : (z : ℤ) → z +ℤ pos 0 ≡ z
      none z = ring! (z ∷ []) (search quotes depth 40) tt

pub overflow_mul-result : goal.overflow_mul-result
overflow_mul-result c = multiple-fits c.args.x c.args.k c.ranges.x c.requires.0 c.requires.1

pub overflow_sub-result : goal.overflow_sub-result
overflow_sub-result c = above-fits c.args.x c.args.k c.ranges.x c.requires.0 c.requires.1

pub overflow_cast-result : goal.overflow_cast-result
overflow_cast-result c = casts c.args.x c.args.k c.ranges.x c.requires.0 c.requires.1

pub returns : goal.returns
returns c = ends c.args.x c.args.k c.ranges.x c.requires.0 c.requires.1
