-- The two editions of a table differ only where a stage meets a half.
use Rattle.std.specs.Prelude.{◌≡◌, true, false, List, [], ◌∷◌, ℕ, ◌+◌, ◌*◌, ◌<◌, ℤ}
use Rattle.arith.specs.Int.{round_half_up, IsHalf}
use Rattle.lattice.specs.declared.Shape.{Shape}
use Rattle.lattice.specs.Shape.{full_shape}
use Rattle.lattice.specs.Axes.{Place, Field, origin, put, along, sweep}
use Rattle.estimate.specs.Estimate.{table_records}
use Rattle.evaluate.specs.Evaluate.{Want, Ask, last_axis, divisor_on, stage_on, to_eighth, in_eighths, before}
use Rattle.claims.specs.Third.{Query, asked, both_calls}

-- the number that the stages of a list of axes give at a place, halves up, meets no half: none of the numbers that it is made of does, and
-- its own sum over its divisor is none
unfoldable pub OffHalves : Ask → List ℕ → Field → Place → Type 0
OffHalves q [] g p = Unit {0}
OffHalves q (a ∷ ls) g p =
    ((t : ℕ) → t < 2 * q.m → OffHalves q ls g (put a (q.m * q.cell a + t) p))
    × (IsHalf (along a (stage_on q a) (sweep ls (to_eighth round_half_up q) g) p) (divisor_on q a) → ⊥)

-- no stage of an answer meets a half
unfoldable pub NoHalf : Ask → Field → Type 0
NoHalf q g =
    let l = last_axis q.n q.want in
    ((t : ℕ) → t < 2 * q.m → OffHalves q (before q) (in_eighths g) (put l (q.m * q.cell l + t) origin))
    × (IsHalf (along l (stage_on q l) (sweep (before q) (to_eighth round_half_up q) (in_eighths g)) origin) (8 * divisor_on q l) → ⊥)

-- then the two calls give the same in both editions
abbrev pub EditionsAgree : Type 0
EditionsAgree =
    (s : Shape) (numbers : List ℕ) (xs old : List ℤ) (want : Want) (q : Query)
    → NoHalf (asked (full_shape s numbers false) want q) (table_records s xs)
    → both_calls (full_shape s numbers true) xs old want q ≡ both_calls (full_shape s numbers false) xs old want q
