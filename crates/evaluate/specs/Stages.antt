-- What the functions of the stages state. Numbers are known by their index in the records; g is what stands at each index.
use Rattle.std.specs.Prelude.{◌≡◌, Bool, true, false, ◌&&◌, ℕ, zero, suc, ◌+◌, ◌*◌, ◌-◌, ◌^◌, ◌≤◌, ◌<◌, List, [], ◌∷◌, ltb, eqb, ℤ, pos, length}
use Rattle.arith.specs.Int.{Rounding, divides}
use Rattle.arith.specs.Choice.{pick, all}
use Rattle.lattice.specs.declared.Shape.{Shape}
use Rattle.lattice.specs.Buffer.{at}
use Rattle.lattice.specs.Outcome.{done}
use Rattle.lattice.specs.Shape.{orders, size, Shaped}
use Rattle.lattice.specs.Axes.{Place}
use Rattle.hermite.specs.Hermite.{steps}
use Rattle.hermite.specs.declared.Ends.{Ends}
use Rattle.hermite.specs.declared.Rounded.{Rounded}
use Rattle.hermite.specs.Stage.{Smooth, Folds, weighted, load, shift_of}
use Rattle.cell.specs.declared.Layout.{Layout}
use Rattle.cell.specs.Cell.{Accepted, Laid, corners_outcome}
use Rattle.evaluate.specs.declared.Axis.{Axis}
use Rattle.evaluate.specs.declared.Strides.{Strides}
use Rattle.evaluate.specs.Evaluate.{Want, order_wanted, last_axis}

-- the number of order o of an end whose numbers stand from index p on, 0 from order m on
unfoldable pub numbers_at : ℕ → (ℕ → ℤ) → ℕ → ℕ → ℕ → ℤ
numbers_at m g p order_stride o = pick (ltb o m) (g (p + o * order_stride)) (pos 0)

-- an array holds the numbers of an end
abbrev pub IsEnd : ℕ → (ℕ → ℤ) → ℕ → ℕ → List ℤ → Type 0
IsEnd m g p order_stride xs = (o : ℕ) → o < 3 → at xs o ≡ numbers_at m g p order_stride o

-- two ends hold their numbers, the high one's one node behind the low one's
pub record AreEnds (m : ℕ) (g : ℕ → ℤ) (p order_stride node_stride : ℕ) (e : Ends) : Type 0 where
  pub low : IsEnd m g p order_stride e.low
  pub high : IsEnd m g (p + node_stride) order_stride e.high

-- at the index of each number of two ends
abbrev pub AtBoth : ℕ → (ℕ → Type 0) → ℕ → ℕ → ℕ → Type 0
AtBoth m P p order_stride node_stride = (o : ℕ) → o < m → P (p + o * order_stride) × P (p + node_stride + o * order_stride)

-- what R says of index i is the number g i, and a rest of 0 where c i
abbrev pub Tells : (ℕ → Rounded → Type 0) → (ℕ → ℤ) → (ℕ → Bool) → ℕ → Type 0
Tells R g c i = (r : Rounded) → R i r → (r.number ≡ g i) × (eqb r.rest 0 ≡ c i)

-- where number t of two ends stands from the first on: those of the low end, then those of the high one
unfoldable pub place_of : ℕ → ℕ → ℕ → ℕ → ℕ
place_of m order_stride node_stride t = pick (ltb t m) (t * order_stride) (node_stride + (t - m) * order_stride)

-- a test of the number at each of these places
abbrev pub all_at : ℕ → (ℕ → Bool) → ℕ → ℕ → ℕ → Bool
all_at m c p order_stride node_stride = all (2 * m) (λ t. c (p + place_of m order_stride node_stride t))

-- the sum of a stage along axis x of the numbers g from index p on
unfoldable pub sum_at : Axis → (ℕ → ℤ) → ℕ → ℤ
sum_at x g p = weighted x.basis (λ o. g (p + o * x.order)) (λ o. g (p + x.node + o * x.order))

-- the number that a stage of shift k makes of it
unfoldable pub worked : Rounding → ℕ → Axis → (ℕ → ℤ) → ℕ → ℤ
worked round k x g p = round (sum_at x g p) (2 ^ (k + 1))

-- nothing is dropped of that number, where c says so of each of the numbers g
unfoldable pub cleanly : ℕ → ℕ → Axis → (ℕ → ℤ) → (ℕ → Bool) → ℕ → Bool
cleanly m k x g c p = divides (2 ^ (k + 1)) (sum_at x g p) && all_at m c p x.order x.node

-- numbers come in units to the first stage and in eighths to each later one
abbrev pub later : {A : Type 0} → List A → Bool
later [] = false
later (a ∷ rest) = true

-- after the stages of a list of axes, each to eighths, the last of the list first
unfoldable pub after : Rounding → ℕ → List Axis → (ℕ → ℤ) → ℕ → ℤ
after round m [] g = g
after round m (x ∷ xs) g = worked round (shift_of 0 m (later xs) true) x (after round m xs g)

-- nothing is dropped by them
unfoldable pub clean_after : Rounding → ℕ → List Axis → (ℕ → ℤ) → ℕ → Bool
clean_after round m [] g = λ i. true
clean_after round m (x ∷ xs) g = cleanly m (shift_of 0 m (later xs) true) x (after round m xs g) (clean_after round m xs g)

-- a stage of shift k along axis x, after those of a list of axes, reports its number, and a rest of 0 where nothing was dropped
pub record Reported (round : Rounding) (m k : ℕ) (x : Axis) (xs : List Axis) (g : ℕ → ℤ) (p : ℕ) (r : Rounded) : Type 0 where
  pub number_is : r.number ≡ worked round k x (after round m xs g) p
  pub rest-is : eqb r.rest 0 ≡ cleanly m k x (after round m xs g) (clean_after round m xs g) p

-- the basis of a stage has nothing from order m on
pub record Prepared (m : ℕ) (x : Axis) : Type 0 where
  pub m-low : 2 ≤ m
  pub m-high : m ≤ 3
  pub none : (o : ℕ) → m ≤ o → o < 3 → (at x.basis.low o ≡ pos 0) × (at x.basis.high o ≡ pos 0)

abbrev pub AllPrepared : ℕ → List Axis → Type 0
AllPrepared m [] = Unit {0}
AllPrepared m (x ∷ xs) = Prepared m x × AllPrepared m xs

-- every index is one of n, and no sum of the stages leaves 64 bits
abbrev pub Safe : Rounding → ℕ → ℕ → List Axis → (ℕ → ℤ) → ℕ → Type 0
Safe round m n [] g p = p < n
Safe round m n (x ∷ xs) g p =
    AtBoth m (Safe round m n xs g) p x.order x.node
    × (load x.basis (numbers_at m (after round m xs g) p x.order)
    (numbers_at m (after round m xs g) (p + x.node) x.order) ≤ 2 ^ 63 - 2 ^ 45)

-- a list with one more in front where there is one
abbrev pub also : {A : Type 0} → Bool → A → List A → List A
also true x xs = x ∷ xs
also false x xs = xs

-- the axis x or z, or y where that one is worked off last: beside the last, x comes first, then z
unfoldable pub beside : ℕ → ℕ → ℕ
beside outer last = pick (eqb last outer) 1 outer

-- the axis with number a
unfoldable pub of_axis : Strides → Strides → Strides → ℕ → Strides
of_axis x y z zero = x
of_axis x y z (suc zero) = y
of_axis x y z (suc (suc a)) = z

-- the step and the strides of an axis
abbrev pub strides_of : ℕ → ℕ → ℕ → Strides
strides_of step node_stride order_stride = record { step = step; node = node_stride; order = order_stride }

-- what the stage of an axis holds of it, where numbers come and go in units, or in eighths
pub record Made (m order : ℕ) (from to : Bool) (a : Strides) (x : Axis) : Type 0 where
  pub folds : Folds order m a.step x.basis
  pub node-is : x.node ≡ a.node
  pub order_is : x.order ≡ a.order
  pub shift_is : x.shift ≡ shift_of order m from to

-- the stages of a list of axes, each to eighths
abbrev pub AllMade : ℕ → List Strides → List Axis → Type 0
AllMade m [] [] = Unit {0}
AllMade m [] (x ∷ xs) = ⊥
AllMade m (a ∷ rest) [] = ⊥
AllMade m (a ∷ rest) (x ∷ xs) = Made m 0 (later rest) true a x × AllMade m rest xs

abbrev pub AllSteps : List Strides → Type 0
AllSteps [] = Unit {0}
AllSteps (a ∷ rest) = (a.step ≤ steps) × AllSteps rest

-- the stages of a list of axes and of a last one, which goes to units, can be worked off
pub record Workable (round : Rounding) (m order : ℕ) (b : Strides) (rest : List Strides) (n : ℕ) (g : ℕ → ℤ) (p : ℕ) : Type 0 where
  pub smooth : Smooth order m
  pub m-low : 2 ≤ m
  pub m-high : m ≤ 3
  pub steps-in : AllSteps (b ∷ rest)
  pub safe : (z : Axis) (xs : List Axis) → Made m order (later rest) false b z → AllMade m rest xs → Safe round m n (z ∷ xs) g p

-- and something holds of them
pub record WorkedOff (m order : ℕ) (b : Strides) (rest : List Strides) (Is : Axis → List Axis → Type 0) : Type 0 where
  pub last : Axis
  pub others : List Axis
  pub made-last : Made m order (later rest) false b last
  pub made : AllMade m rest others
  pub is : Is last others

-- r is their number
abbrev pub Gives : Rounding → ℕ → (ℕ → ℤ) → ℕ → ℤ → Axis → List Axis → Type 0
Gives round m g p r z xs = r ≡ worked round z.shift z (after round m xs g) p

-- c says that nothing is dropped by them
abbrev pub Cleans : Rounding → ℕ → (ℕ → ℤ) → ℕ → Bool → Axis → List Axis → Type 0
Cleans round m g p c z xs = c ≡ cleanly m z.shift z (after round m xs g) (clean_after round m xs g) p

-- r reports both
abbrev pub Reports : Rounding → ℕ → (ℕ → ℤ) → ℕ → Rounded → Axis → List Axis → Type 0
Reports round m g p r z xs = Reported round m z.shift z xs g p r

-- what a query has tested before its stages
pub record Ready (s : Shape) (rs : List ℤ) (cell step : Place) (want : Want) (l : Layout) : Type 0 where
  pub shape : Shaped s
  pub long : length rs ≡ size s
  pub here : Accepted s cell
  pub laid : Laid s cell l
  pub steps_low : (a : ℕ) → a < s.axes → step a ≤ steps
  pub last : last_axis s.axes want < s.axes
  pub smooth : Smooth (order_wanted want) (orders s)
  pub corners : corners_outcome s rs cell ≡ done tt
