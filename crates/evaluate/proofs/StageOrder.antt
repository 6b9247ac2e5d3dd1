-- The axes in their working order, and the stages of two or three of them.
use mathlib.Core.Path.{◌≡◌, refl, sym, subst}
use mathlib.Core.Bool.{Bool, true, false}
use mathlib.Core.List.{List, [], ◌∷◌}
use Prim.Native.Nat.{ℕ, ◌≤◌, ◌<◌}
use native.Mathlib.Omega.{arith}
use lib.Dec.{eqb}
use lib.IntN.{ℤ}
use Rattle.arith.specs.Int.{Rounding}
use Rattle.arith.specs.Choice.{pick}
use Rattle.arith.proofs.Choices.{clash, by-m, by_2, by-3}
use Rattle.lattice.specs.Axes.{axes, without}
use Rattle.hermite.specs.Hermite.{steps}
use Rattle.hermite.proofs.StageLaws.{folds-none, shifted}
use Rattle.evaluate.specs.declared.Axis.{Axis}
use Rattle.evaluate.specs.declared.Strides.{Strides}
use Rattle.evaluate.specs.Stages.{also, beside, Prepared, AllPrepared, Safe, Made, AllSteps, Workable, WorkedOff}

-- ---- the axes in their working order

-- the axes before the last, the last of them first
pub axes-before : (n a : ℕ) → 2 ≤ n → n ≤ 3 → a < n → without a (axes n) ≡ also (eqb n 3) (beside 2 a) (beside 0 a ∷ [])
unfolding axes without pick beside
axes-before n a h k l =
    by-m (λ n. a < n → without a (axes n) ≡ also (eqb n 3) (beside 2 a) (beside 0 a ∷ []))
    (by_2 (λ a. without a (axes 2) ≡ also (eqb 2 3) (beside 2 a) (beside 0 a ∷ [])) refl refl a)
    (by-3 (λ a. without a (axes 3) ≡ also (eqb 3 3) (beside 2 a) (beside 0 a ∷ [])) refl refl refl a) n h k l

pub beside-low : (outer a : ℕ) → outer < 3 → beside outer a < 3
unfolding beside pick
beside-low outer a h = low (eqb a outer)
  where
    low : (b : Bool) → pick b 1 outer < 3
    low true = omega arith
    low false = h

-- ---- the stages of two or three axes

apart : {A : Type 0} (b : Bool) → b ≡ true → b ≡ false → A
apart true e k = clash (cc)
apart false e k = clash (cc)

-- what the stage of an axis holds is prepared, and its shift is small
pub made-prepared : {m order : ℕ} {from to : Bool} {a : Strides} {x : Axis} → Made m order from to a x → Prepared m x
made-prepared h = record { m-low = h.folds.m-low; m-high = h.folds.m-high; none = folds-none h.folds }

pub made-small : {m order : ℕ} {from to : Bool} {a : Strides} {x : Axis} → Made m order from to a x → x.shift ≤ 44
made-small {m} {order} {from} {to} h =
    subst (λ (i : ℕ). i ≤ 44) (sym h.shift_is) (shifted order m from to h.folds.smooth h.folds.m-low h.folds.m-high).low

pub steps_of : (a b c : Strides) (three : Bool) → AllSteps (c ∷ also three b (a ∷ [])) → (a.step ≤ steps) × (c.step ≤ steps)
    × (three ≡ true → b.step ≤ steps)
steps_of a b c true h = (h.1.1.0, h.0, λ e. h.1.0)
steps_of a b c false h = (h.1.0, h.0, λ e. apart false e refl)

module _ {m order : ℕ} {a c : Strides} (b : Strides) {x z : Axis} (made-x : Made m 0 false true a x)
    (made-z : Made m order true false c z) where
  pub two-ask : {round : Rounding} {n : ℕ} {g : ℕ → ℤ} {p : ℕ} (three : Bool) → three ≡ false
      → Workable round m order c (also three b (a ∷ [])) n g p
      → (AllPrepared m (z ∷ x ∷ []) × (z.shift ≤ 44)) × Safe round m n (z ∷ x ∷ []) g p
  two-ask true e w = apart true refl e
  two-ask false e w = (((made-prepared made-z, (made-prepared made-x, tt)), made-small made-z), w.safe z (x ∷ []) made-z (made-x, tt))

  pub two-give : {Is : Axis → List Axis → Type 0} (three : Bool) → three ≡ false → Is z (x ∷ [])
      → WorkedOff m order c (also three b (a ∷ [])) Is
  two-give true e is = apart true refl e
  two-give false e is = record { last = z; others = x ∷ []; made-last = made-z; made = (made-x, tt); is = is }

  module _ {y : Axis} (made-y : Made m 0 true true b y) where
    pub three-ask : {round : Rounding} {n : ℕ} {g : ℕ → ℤ} {p : ℕ} (three : Bool) → three ≡ true
        → Workable round m order c (also three b (a ∷ [])) n g p
        → (AllPrepared m (z ∷ y ∷ x ∷ []) × (z.shift ≤ 44)) × Safe round m n (z ∷ y ∷ x ∷ []) g p
    three-ask true e w = (
      ((made-prepared made-z, (made-prepared made-y, (made-prepared made-x, tt))), made-small made-z),
      w.safe z (y ∷ x ∷ []) made-z (made-y, (made-x, tt)),
    )
    three-ask false e w = apart false e refl

    pub three-give : {Is : Axis → List Axis → Type 0} (three : Bool) → three ≡ true → Is z (y ∷ x ∷ [])
        → WorkedOff m order c (also three b (a ∷ [])) Is
    three-give true e is = record { last = z; others = y ∷ x ∷ []; made-last = made-z; made = (made-y, (made-x, tt)); is = is }
    three-give false e is = apart false e refl

-- two stages with m and the rounding as constants
module _ (round constant : Rounding) (y x : Axis) (n : ℕ) (g : ℕ → ℤ) (p m k : ℕ) (e : m ≡ k) (er : round ≡ constant) where
  pub second-as : (shift : ℕ) → AllPrepared m (y ∷ x ∷ []) × (shift ≤ 44) → Safe round m n (y ∷ x ∷ []) g p
      → (AllPrepared k (y ∷ x ∷ []) × (shift ≤ 44)) × Safe constant k n (y ∷ x ∷ []) g p
  second-as shift h s =
      subst (λ (r : Rounding). (AllPrepared k (y ∷ x ∷ []) × (shift ≤ 44)) × Safe r k n (y ∷ x ∷ []) g p) er
      (subst (λ (i : ℕ). (AllPrepared i (y ∷ x ∷ []) × (shift ≤ 44)) × Safe round i n (y ∷ x ∷ []) g p) e (h, s))

-- a stage of one axis with m and the order as constants
module _ (round : Rounding) (a : Strides) (rest : List Strides) (g : ℕ → ℤ) (p m k order c : ℕ) (em : m ≡ k) (eo : order ≡ c) where
  pub workable-as : (n : ℕ) → Workable round m order a rest n g p → Workable round k c a rest n g p
  workable-as n w = subst (λ (i : ℕ). Workable round i c a rest n g p) em (subst (λ (o : ℕ). Workable round m o a rest n g p) eo w)

-- what follows of the stages
pub worked-off-then : {m order : ℕ} {b : Strides} {rest : List Strides} {Is So : Axis → List Axis → Type 0}
    → ((z : Axis) (xs : List Axis) → Is z xs → So z xs) → WorkedOff m order b rest Is → WorkedOff m order b rest So
worked-off-then f w =
    record { last = w.last; others = w.others; made-last = w.made-last; made = w.made; is = f w.last w.others w.is }
