-- A float result says what the reading says: the float itself, or the refusal with the float 0.
use mathlib.Core.Path.{◌≡◌, refl, sym, ap, ap₂, ◌∙◌}
use mathlib.Core.Option.{Option, some}
use Prim.Native.Nat.{ℕ}
use lib.Ieee.{of_bits, binary32}
use lib.IntN.{ℤ, pos}
use Rattle.arith.specs.Choice.{pick}
use Rattle.floats.specs.Whole.{whole_of}
use Rattle.float_query.specs.Answers.{outcome_of_float}
use Rattle.lukhtari.specs.Host.{real_of}
use Rattle.lukhtari.proofs.float_queries.RealFromFloatReading.from.Goals as goal

-- the float that a refused result holds
nought : whole_of (of_bits binary32 0) ≡ some (pos 0)
unfolding whole_of pick of_bits
nought = refl

pub returns-in-Refused : goal.returns-in-Refused
returns-in-Refused c =
    let r = c.in-Refused.refusal in
    ap₂ (λ (n : ℕ) (w : Option ℤ). record { number = n; place = r.place; value = w }) c.number.ensures nought
    ∙ ap (λ a. real_of (outcome_of_float a)) (sym c.in-Refused.is)
