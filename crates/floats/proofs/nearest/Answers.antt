-- `floats::nearest` meets its contract: each branch by what `proofs/Bits.antt` says of the bits of y.
use mathlib.Core.Path.{◌≡◌, sym, ap, subst, ◌∙◌}
use Prim.Native.Nat.{ℕ, ◌+◌, ◌-◌, ◌^◌, ◌≤◌}
use native.Mathlib.Nat.{lt_of_le_of_lt, add-le-add}
use lib.Pow.{pow_mono}
use native.Mathlib.Omega.{arith}
use mathlib.Core.Bool.{Bool, not}
use lib.Dec.{T, leb, lit<}
use lib.IntN.{ℤ}
use lib.Ieee.{Float, inf, binary32, is_nan, to_bits, of_bits}
use lib.Ieee.Bits.{of_bits-to_bits}
use mir.Syntax.{w32, w64}
use mir.Val.{SFits, to_z, of_z}
use mir.Facts.{to_z-of_z}
use borrow.Author.Rules.{sfits_of}
use borrow.Author.Tests.{le-leb, lt-leb}
use Rattle.arith.specs.Int.{round_half_up}
use Rattle.arith.proofs.Abs.{sfits-abs}
use Rattle.floats.specs.Bits.{exponent, significand_of, nearest_held}
use Rattle.floats.proofs.Bits.{bits-low, bits-mid, bits-high, digits-size, rounded-size}
use Rattle.floats.proofs.StepLaws.{clamped-fits}
use Rattle.floats.proofs.nearest.Goals as goal
use Rattle.floats.proofs.nearest.Goals.{After-half_up, After-significand, Start}

-- y is what its bits say
abbrev bits : Start → ℕ
bits c = to_bits binary32 c.args.y

back : (c : Start) → of_bits binary32 (bits c) ≡ c.args.y
back c = of_bits-to_bits binary32 c.args.y (subst T (sym c.well_formed.0.1) tt)

high : (c : Start) → 158 ≤ exponent (bits c) → nearest_held c.args.y ≡ nearest_held (inf (leb 2147483648 (bits c)))
high c h = ap nearest_held (sym (back c)) ∙ bits-high (bits c) h (subst (λ (v : Float). T (not (is_nan v))) (sym (back c)) c.requires)

pub returns-then-e-lt126 : goal.returns-then-e-lt126
returns-then-e-lt126 c = sym (ap nearest_held (sym (back c.before)) ∙ bits-low (bits c.before) (omega arith))

-- the significand, read back
significand : (c : After-significand) → to_z w64 (of_z w64 c.significand.result) ≡ significand_of (bits c.before.before.before)
significand c = to_z-of_z {w = w64} (sfits_of c.significand.type_inv) ∙ c.significand.ensures

pub half_up-requires : goal.half_up-requires
half_up-requires c = (
  omega arith,
  rw (significand c)
      (lt_of_le_of_lt (add-le-add (digits-size (bits c.before.before.before)) (pow_mono {j = 32} (omega arith))) (lit< tt)),
)

-- what is rounded: in 32 signed bits, and nearest to y
module _ (c : After-half_up) where
  rounding : ℤ
  rounding = let b = bits c.before.before.before.before in round_half_up (significand_of b) (2 ^ (158 - exponent b + 1))

  result : to_z w64 (of_z w64 c.half_up.result) ≡ rounding
  unfolding rounding
  result =
      let b = bits c.before.before.before.before in
      to_z-of_z {w = w64} (sfits_of c.half_up.type_inv) ∙ c.half_up.ensures
      ∙ ap (λ z. round_half_up z (2 ^ (158 - exponent b + 1))) (significand c.before)

  small : SFits w32 rounding
  unfolding rounding
  small =
      let b = bits c.before.before.before.before in
      sfits-abs rounding (rounded-size (significand_of b) (158 - exponent b) (digits-size b) (omega arith))

  held : rounding ≡ nearest_held c.args.y
  unfolding rounding
  held =
      let start = c.before.before.before.before in
      sym (ap nearest_held (sym (back start)) ∙ bits-mid (bits start) c.if-e-lt126.false c.if-e-lt158.true
      ∙ clamped-fits rounding small.sfits)

pub returns-then-b-lt2147483648 : goal.returns-then-b-lt2147483648
unfolding nearest_held
returns-then-b-lt2147483648 c =
    let start = c.before.before.before in
    sym (high start c.if-e-lt158.false ∙ ap (λ (s : Bool). nearest_held (inf s)) (lt-leb 2147483648 (bits start) c.if-b-lt2147483648.true))

pub returns-else-b-lt2147483648 : goal.returns-else-b-lt2147483648
unfolding nearest_held
returns-else-b-lt2147483648 c =
    let start = c.before.before.before in
    sym (high start c.if-e-lt158.false ∙ ap (λ (s : Bool). nearest_held (inf s)) (le-leb 2147483648 (bits start) c.if-b-lt2147483648.false))

pub overflow_cast-result : goal.overflow_cast-result
overflow_cast-result c = subst (SFits w32) (sym (result c)) (small c)

pub returns-then-e-lt158 : goal.returns-then-e-lt158
returns-then-e-lt158 c = ap (λ z. to_z w32 (of_z w32 z)) (result c) ∙ to_z-of_z {w = w32} (small c) ∙ held c
