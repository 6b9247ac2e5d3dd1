-- The stages of a cell that a query has tested, worked off axis by axis, a derivative's axis last: they read the records only, no sum of
-- theirs leaves 64 bits, and they give the answer of the definition.
use mathlib.Core.Path.{◌≡◌, refl, sym, ap, ap₂, subst, ◌∙◌, fun_ext}
use mathlib.Core.List.{List, [], ◌∷◌}
use Prim.Native.Nat.{ℕ, suc, ◌+◌, ◌*◌, ◌-◌, ◌%◌, ◌^◌, ◌≤◌, ◌<◌}
use native.Mathlib.Nat.{lt_of_lt_of_le, le_trans, le_of_eq, mul-le-mul_left, le_of_mul-le-mul_left}
use native.Mathlib.Omega.{arith}
use native.Mathlib.Decide.{dec_lt}
use lib.Dec.{ltb, eqb, lit≤}
use lib.ListN.{length, get_or}
use lib.Pow.{pow_mono}
use lib.IntN.{ℤ, pos, ◌*ℤ◌, nat_abs}
use lib.Signed.{mag}
use mir.Syntax.{w32, w64}
use mir.Val.{SFits, to_z, of_z}
use mir.Facts.{to_z-of_z}
use Rattle.arith.specs.Int.{Rounding}
use Rattle.arith.proofs.Abs.{abs-mul, sfits-abs}
use Rattle.arith.proofs.Machine.{read}
use Rattle.arith.proofs.Choices.{pick_true, by-m, by-3}
use borrow.Author.Tests.{lt-ltb}
use Rattle.arith.proofs.Round.{Sound}
use Rattle.lattice.specs.declared.Shape.{Shape}
use Rattle.lattice.specs.Buffer.{at}
use Rattle.lattice.specs.Shape.{orders, Shaped}
use Rattle.lattice.specs.Axes.{Place, put, axes, without}
use Rattle.lattice.specs.Records.{total_order, entry_limit, entry_index, records_field}
use Rattle.lattice.proofs.Along.{Each, Fresh, Distinct}
use Rattle.lattice.proofs.ShapeLaws.{orders-range}
use Rattle.hermite.specs.declared.Rounded.{Rounded}
use Rattle.hermite.specs.Hermite.{steps, divisor}
use Rattle.hermite.specs.Stage.{Smooth, Folds, eighths_in, shift_of}
use Rattle.hermite.proofs.StageLaws.{worth-some, shifted, stage-fits}
use Rattle.cell.specs.Cell.{Accepted, InCorners, offset, place_at, Laid, base, node_stride, order_stride}
use Rattle.cell.proofs.CellLaws.{Numbers, placed, entry_at, entry-below}
use Rattle.cell.proofs.CornerLaws.{corners-within}
use Rattle.evaluate.specs.declared.Axis.{Axis}
use Rattle.evaluate.specs.Evaluate.{Want, Ask, ask_at, order_on, last_axis, before, answer_by, exact_by}
use Rattle.evaluate.specs.Wants.{want_of}
use Rattle.evaluate.specs.Stages.{after, numbers_at, also, strides_of, Safe, Made, later, AllMade, AllSteps, Workable, WorkedOff, Gives, Cleans, Reports, Ready}
use Rattle.evaluate.proofs.AnswerLaws.{order-smooth, distinct-before, fresh-before}
use Rattle.evaluate.proofs.EndLaws.{number_at}
use Rattle.evaluate.proofs.StageOrder.{worked-off-then}
use Rattle.evaluate.proofs.Sizes.{noughts, orders-left, cap, Plain, reads-size, plain-before, answer-below}
use Rattle.evaluate.proofs.ByIndex.{Holds, low-at, high-at, lows, highs, counts, AllHeld, Left, index, index-put, left-put, got, got-at, index-base, nought, answer-is, exact-is}
use mathlib.Core.Bool.{Bool, true, false}
use Rattle.cell.specs.declared.Layout.{Layout}
use Rattle.evaluate.specs.declared.Strides.{Strides}

-- ---- the bounds

-- of a number after the stages of a list, as it counts
cap_of : List ℕ → ℕ
cap_of [] = 32768
cap_of (a ∷ ls) = cap (suc (length ls))

cap-is : (ls : List ℕ) → cap (length ls) ≡ counts ls * cap_of ls
unfolding cap cap_of
cap-is [] = refl
cap-is (a ∷ ls) = omega arith

-- what is left of the orders of three axes after k + 1 stages
few-orders : (m n k o : ℕ) → 2 ≤ m → m ≤ 3 → n ≤ 3 → o + (m - 1) * suc k ≤ (m - 1) * n → (k ≤ 2) × (o + 2 * k ≤ 4)
few-orders m n k o m2 m3 n3 h =
    by-m (λ m. o + (m - 1) * suc k ≤ (m - 1) * n → (k ≤ 2) × (o + 2 * k ≤ 4)) (λ h. (omega arith, omega arith))
    (λ h. (omega arith, omega arith)) m m2 m3 h

small-cap : (ls : List ℕ) (o : ℕ) → length ls ≤ 2 → o + 2 * length ls ≤ 4 → cap_of ls * 2 ^ o ≤ 2 ^ 21
unfolding cap_of cap
small-cap [] o h k = le_trans (mul-le-mul_left 32768 (pow_mono {i = o} {j = 4} (omega arith))) (lit≤ tt)
small-cap (a ∷ []) o h k = le_trans (mul-le-mul_left 524288 (pow_mono {i = o} {j = 2} (omega arith))) (lit≤ tt)
small-cap (a ∷ b ∷ []) o h k = le_trans (mul-le-mul_left 1048576 (pow_mono {i = o} {j = 0} (omega arith))) (lit≤ tt)
small-cap (a ∷ b ∷ c ∷ ls) o h k = absurd (none (length ls) h)
  where
    none : (k : ℕ) → suc (suc (suc k)) ≤ 2 → ⊥
    none k h = omega arith

-- a number that counts w eighths, from a bound in eighths
counted : (w x b c e y : ℕ) → 0 < w → w * x ≤ b * e * y → b ≡ w * c → x ≤ c * e * y
counted w x b c e y some h k = le_of_mul-le-mul_left (le_trans h (le_of_eq (ap (λ (i : ℕ). i * e * y) k ∙ regroup w c e y))) some
  where
    regroup : (w c e y : ℕ) → w * c * e * y ≡ w * (c * e * y)
    regroup w c e y = omega arith

-- ---- the stages

-- an entry of the corners is a number of the cell
number_of : (s : Shape) (cell p : Place) → Accepted s cell → InCorners (orders s) s.axes cell p
    → Numbers s (λ a. p a - orders s * cell a) × (p ≡ placed s cell (λ a. p a - orders s * cell a))
number_of s cell p here h = (record { used = low; unused = none }, fun_ext (λ a. whole a (dec_lt a s.axes)))
  where
    low : (a : ℕ) → a < s.axes → p a - orders s * cell a < 2 * orders s
    low a l = let e = (h.used a l).low in let f = (h.used a l).high in omega arith

    none : (a : ℕ) → s.axes ≤ a → p a - orders s * cell a ≡ 0
    none a l = rw (h.unused a l) (omega arith)

    whole : (a : ℕ) → Dec (a < s.axes) → p a ≡ orders s * cell a + (p a - orders s * cell a)
    whole a (yes l) = let e = (h.used a l).low in omega arith
    whole a (no n) = let e = h.unused a (omega arith) in let f = ap (λ (i : ℕ). orders s * i) (here.unused a (omega arith)) in omega arith

placed-corners : (s : Shape) (cell t : Place) → Accepted s cell → Numbers s t → InCorners (orders s) s.axes cell (placed s cell t)
placed-corners s cell t here h =
    record {
      used = λ a l. record { low = omega arith; high = (let k = h.used a l in omega arith) };
      unused =
          λ a l. rw (here.unused a l, h.unused a l) (omega arith);
    }

-- ---- the strides of an axis

-- the strides of axis a
pub record IsAxis (s : Shape) (step : Place) (a : ℕ) (v : Strides) : Type 0 where
  pub step_is : v.step ≡ step a
  pub node-is : v.node ≡ node_stride s a
  pub order_is : v.order ≡ order_stride s a

-- those of a list of axes
abbrev pub AreAxes : Shape → Place → List ℕ → List Strides → Type 0
AreAxes s step [] [] = Unit {0}
AreAxes s step [] (v ∷ vs) = ⊥
AreAxes s step (a ∷ ls) [] = ⊥
AreAxes s step (a ∷ ls) (v ∷ vs) = IsAxis s step a v × AreAxes s step ls vs

-- numbers count 8 eighths before the first stage and 1 after it
later-counts : (s : Shape) (step : Place) (ls : List ℕ) (vs : List Strides) → AreAxes s step ls vs → eighths_in (later vs) ≡ counts ls
unfolding eighths_in
later-counts s step [] [] h = refl
later-counts s step [] (v ∷ vs) h = absurd h
later-counts s step (a ∷ ls) [] h = absurd h
later-counts s step (a ∷ ls) (v ∷ vs) h = refl

held : {s : Shape} {want : Want} {step : Place} {a : ℕ} (order : ℕ) (from to : Bool) {v : Strides} {x : Axis} → order ≡ order_on want a
    → IsAxis s step a v
    → Made (orders s) order from to v x → Holds s want step (eighths_in from) (eighths_in to) a x.shift x
held {s} {want} {step} {a} order from to {v} {x} k i h =
    let f = shifted order (orders s) from to h.folds.smooth h.folds.m-low h.folds.m-high in
    record {
      folds = subst (λ (u : ℕ). Folds (order_on want a) (orders s) u x.basis) i.step_is
          (subst (λ (k : ℕ). Folds k (orders s) v.step x.basis) k h.folds);
      node-is = h.node-is ∙ i.node-is;
      order_is = h.order_is ∙ i.order_is;
      some = worth-some from;
      shift_is = ap (λ (n : ℕ). 2 ^ (n + 1) * eighths_in from) h.shift_is ∙ f.is
          ∙ ap (λ (k : ℕ). divisor k (orders s) steps * eighths_in to) k;
    }

-- a stage for each axis
later_same : (m : ℕ) (vs : List Strides) (xs : List Axis) → AllMade m vs xs → later vs ≡ later xs
later_same m [] [] h = refl
later_same m [] (x ∷ xs) h = absurd h
later_same m (v ∷ vs) [] h = absurd h
later_same m (v ∷ vs) (x ∷ xs) h = refl

all_held : (s : Shape) (want : Want) (step : Place) (ls : List ℕ) (vs : List Strides) (xs : List Axis) → AreAxes s step ls vs
    → Each (λ a. order_on want a ≡ 0) ls
    → AllMade (orders s) vs xs → AllHeld s want step ls xs
unfolding eighths_in
all_held s want step [] [] [] i k h = tt
all_held s want step [] [] (x ∷ xs) i k h = absurd h
all_held s want step [] (v ∷ vs) xs i k h = absurd i
all_held s want step (a ∷ ls) [] xs i k h = absurd i
all_held s want step (a ∷ ls) (v ∷ vs) [] i k h = absurd h
all_held s want step (a ∷ ls) (v ∷ vs) (x ∷ xs) i k h = (
  subst (λ (n : ℕ). Holds s want step (counts ls) 1 a n x)
      (h.0.shift_is ∙ ap (λ (b : Bool). shift_of 0 (orders s) b true) (later_same (orders s) vs xs h.1))
      (subst (λ (c : ℕ). Holds s want step c 1 a x.shift x) (later-counts s step ls vs i.1)
      (held 0 (later vs) true (sym k.0) i.0 h.0)),
  all_held s want step ls vs xs i.1 k.1 h.1,
)

module _ {round : Rounding} (sound : Sound round) (s : Shape) (rs : List ℤ) (cell step : Place) (want : Want) (l : Layout)
    (ready : Ready s rs cell step want l) where
  abbrev m : ℕ
  m = orders s

  abbrev ok : Shaped s
  ok = ready.shape

  abbrev here : Accepted s cell
  here = ready.here

  -- the index of number t
  abbrev place : Place → ℕ
  place = index s ok cell here

  pub m2 : 2 ≤ m
  m2 = (orders-range s.degree).0

  pub m3 : m ≤ 3
  m3 = (orders-range s.degree).1

  abbrev q : Ask
  q = record { m = m; n = s.axes; want = want; N = λ a. steps; cell = cell; step = step }

  pub some : (a : ℕ) → 0 < q.N a
  some a = lit≤ tt

  pub limited : (p : Place) → InCorners m s.axes cell p → nat_abs (records_field s rs p) ≤ entry_limit m s.axes p
  limited p h =
      let n = number_of s cell p here h in
      subst (λ (p : Place). nat_abs (records_field s rs p) ≤ entry_limit m s.axes p) (sym n.1)
      (corners-within s rs cell ready.corners ok here (λ a. p a - m * cell a) n.0)

  abbrev pub PlainHere : ℕ → Type 0
  PlainHere = Plain round sound q ready.smooth m2 m3 some (records_field s rs) limited

  -- one more stage, of axis a
  module _ (a to k : ℕ) (ls : List ℕ) (x : Axis) (xs : List Axis) (hx : Holds s want step (counts ls) to a k x)
      (hs : AllHeld s want step ls xs)
      (fresh : Fresh a ls) (used : a < s.axes) (d : Distinct ls) (plains : Each PlainHere ls) (t : Place) (left : Left s (a ∷ ls) t) where
    below_all : (ms : List ℕ) → Each PlainHere ms → Each (λ a. a < s.axes) ms
    below_all [] h = tt
    below_all (b ∷ ms) h = (h.0.used, below_all ms h.1)

    axis-low : s.axes ≤ 3 → a < 3
    axis-low k = omega (arith, used)

    abbrev order : ℕ
    order = total_order m s.axes (noughts ls (put a 0 (placed s cell t)))

    number_size : (u : ℕ) → u < 2 * m → nat_abs (after round m xs (at rs) (place t + offset s a u)) ≤ cap_of ls * 2 ^ order * 2 ^ (u % m)
    unfolding ask_at
    number_size u l =
        counted (counts ls) (nat_abs (after round m xs (at rs) (place t + offset s a u))) (cap (length ls)) (cap_of ls) (2 ^ order)
        (2 ^ (u % m)) hx.some
        (le_trans (le_of_eq (sym (ap nat_abs value ∙ abs-mul (pos (counts ls)) (after round m xs (at rs) (place t + offset s a u)))))
        (reads-size round sound q ready.smooth m2 m3 some (records_field s rs) limited ls d plains a fresh used (placed s cell t)
        (placed-corners s cell t here left.numbers) u l))
        (cap-is ls)
      where
        value : got s ok cell here sound rs want step ls (put a (m * cell a + u) (placed s cell t)) ≡ pos (counts ls) *ℤ after round m xs
            (at rs) (place t + offset s a u)
        value = got-at s ok cell here sound rs want step a ls xs hs fresh d used (below_all ls plains) t left u l

    small : cap_of ls * 2 ^ order ≤ 2 ^ 21
    unfolding noughts
    small =
        let h = few-orders m s.axes (length ls) order m2 m3 ok.axes-high
        (orders-left m s.axes m2 (a ∷ ls) (fresh, d) (used, below_all ls plains) (placed s cell t)) in
        small-cap ls order h.0 h.1

    -- the numbers of the two ends
    abbrev number : ℕ → ℤ
    number = after round m xs (at rs)

    end_low : (o : ℕ) → o < m → numbers_at m number (place t) x.order o ≡ number (place t + offset s a o)
    end_low o l = number_at m number (place t) x.order o l ∙ lows hx number (place t) o l

    end-high : (o : ℕ) → o < m → numbers_at m number (place t + x.node) x.order o ≡ number (place t + offset s a (m + o))
    end-high o l = number_at m number (place t + x.node) x.order o l ∙ highs hx number (place t) o l

    pub safe-more : ((t : Place) → Left s ls t → Safe round m (length rs) xs (at rs) (place t))
        → Safe round m (length rs) (x ∷ xs) (at rs) (place t)
    safe-more rest = (
      λ o l. (
        subst (λ (i : ℕ). Safe round m (length rs) xs (at rs) (place t + i)) (low-at hx o l) (moved o (omega arith)),
        subst (Safe round m (length rs) xs (at rs))
            (ap (λ (i : ℕ). place t + i) (high-at hx o l) ∙ assoc (place t) x.node (o * x.order)) (moved (m + o) (omega arith)),
      ),
      stage-fits hx.folds (numbers_at m number (place t) x.order) (numbers_at m number (place t + x.node) x.order)
          (λ u. number (place t + offset s a u)) end_low end-high
          (cap_of ls * 2 ^ order) number_size small,
    )
      where
        moved : (u : ℕ) → u < 2 * m → Safe round m (length rs) xs (at rs) (place t + offset s a u)
        moved u l =
            subst (Safe round m (length rs) xs (at rs)) (index-put s ok cell here a u t (axis-low ok.axes-high) left.worked-off.0)
            (rest (put a u t) (left-put s ok cell here a ls u t fresh used l left))

        assoc : (i f n : ℕ) → i + (f + n) ≡ i + f + n
        assoc i f n = omega arith

  pub safe : (ls : List ℕ) (xs : List Axis) → AllHeld s want step ls xs → Distinct ls → Each PlainHere ls → (t : Place) → Left s ls t
      → Safe round m (length rs) xs (at rs) (place t)
  unfolding index
  safe [] [] h d e t left =
      subst (λ (i : ℕ). i < length rs) (entry_at s ok cell here t left.numbers)
      (subst (λ (i : ℕ). entry_index s (placed s cell t) < i) (sym ready.long) (entry-below s ok cell here t left.numbers))
  safe [] (x ∷ xs) h d e t left = absurd h
  safe (a ∷ ls) [] h d e t left = absurd h
  safe (a ∷ ls) (x ∷ xs) h d e t left =
      safe-more a 1 (shift_of 0 m (later xs) true) ls x xs h.0 h.1 d.0 e.0.used d.1 e.1 t left
      (safe ls xs h.1 d.1 e.1)

  -- ---- the stages of all axes

  -- the axes before the last
  abbrev prior : List ℕ
  prior = before (ask_at s want cell step)

  plain : Each PlainHere prior
  unfolding ask_at
  plain =
      plain-before round sound q ready.smooth m2 m3 some (records_field s rs) limited ready.last ready.steps_low
      ready.here.unused

  module _ (order : ℕ) (order_is : order ≡ order_on want (last_axis s.axes want)) (b : Strides) (vs : List Strides)
      (last-is : IsAxis s step (last_axis s.axes want) b) (are : AreAxes s step prior vs) where
    none_before : (ls : List ℕ) → Each PlainHere ls → Each (λ a. order_on want a ≡ 0) ls
    none_before [] h = tt
    none_before (a ∷ ls) h = (h.0.plain, none_before ls h.1)

    last-held : (z : Axis) → Made m order (later vs) false b z → Holds s want step (counts prior) 8 (last_axis s.axes want) z.shift z
    unfolding eighths_in
    last-held z h = subst (λ (c : ℕ). Holds s want step c 8 (last_axis s.axes want) z.shift z) (later-counts s step prior vs are)
        (held order (later vs) false order_is last-is h)

    others-held : (xs : List Axis) → AllMade m vs xs → AllHeld s want step prior xs
    others-held xs = all_held s want step prior vs xs are (none_before prior plain)

    all-steps : (ls : List ℕ) (ws : List Strides) → Each PlainHere ls → AreAxes s step ls ws → AllSteps ws
    all-steps [] [] h i = tt
    all-steps [] (v ∷ ws) h i = absurd i
    all-steps (a ∷ ls) [] h i = absurd i
    all-steps (a ∷ ls) (v ∷ ws) h i = (subst (λ (u : ℕ). u ≤ steps) (sym i.0.step_is) h.0.step, all-steps ls ws h.1 i.1)

    pub workable : Workable round l.orders order b vs (length rs) (at rs) l.base
    unfolding ask_at
    workable =
        subst (λ (m : ℕ). Workable round m order b vs (length rs) (at rs) l.base) (sym ready.laid.orders-are)
        (subst (λ (p : ℕ). Workable round m order b vs (length rs) (at rs) p) (index-base s ok cell here ∙ sym ready.laid.base-is)
        (record {
          smooth = subst (λ (i : ℕ). Smooth i m) (sym order_is) (order-smooth want (last_axis s.axes want) m ready.smooth);
          m-low = m2;
          m-high = m3;
          steps-in = (
            subst (λ (u : ℕ). u ≤ steps) (sym last-is.step_is) (ready.steps_low (last_axis s.axes want) ready.last),
            all-steps prior vs plain are,
          );
          safe = safe-all;
        }))
      where
        safe-all : (z : Axis) (xs : List Axis) → Made m order (later vs) false b z → AllMade m vs xs
            → Safe round m (length rs) (z ∷ xs) (at rs) (place (λ a. 0))
        safe-all z xs hz hx =
            safe-more (last_axis s.axes want) 8 z.shift prior z xs (last-held z hz) (others-held xs hx)
            (fresh-before q) ready.last (distinct-before q) plain (λ a. 0)
            (nought s ok cell here sound rs want step)
            (safe prior xs (others-held xs hx) (distinct-before q) plain)

    -- by the layout as by the shape and the cell
    laid_out : (Is : ℕ → ℕ → Axis → List Axis → Type 0) → WorkedOff l.orders order b vs (Is l.orders l.base)
        → WorkedOff m order b vs (Is m (base s cell))
    laid_out Is w =
        subst (λ (m : ℕ). WorkedOff m order b vs (Is m (base s cell))) ready.laid.orders-are
        (subst (λ (p : ℕ). WorkedOff l.orders order b vs (Is l.orders p)) ready.laid.base-is w)

    pub worked-answer : (r : ℤ) → WorkedOff l.orders order b vs (Gives round l.orders (at rs) l.base r)
        → r ≡ answer_by round (ask_at s want cell step) (records_field s rs)
    worked-answer r h =
        let w = laid_out (λ m p. Gives round m (at rs) p r) h in
        w.is ∙ sym (answer-is s ok cell here sound rs want step w.last w.others ready.last
        (last-held w.last w.made-last) (others-held w.others w.made))

    pub worked-exact : (c : Bool) → WorkedOff l.orders order b vs (Cleans round l.orders (at rs) l.base c)
        → c ≡ exact_by round (ask_at s want cell step) (records_field s rs)
    worked-exact c h =
        let w = laid_out (λ m p. Cleans round m (at rs) p c) h in
        w.is ∙ sym (exact-is s ok cell here sound rs want step w.last w.others ready.last
        (last-held w.last w.made-last) (others-held w.others w.made))

  -- the answer fits 32 bits
  pub answer-fits : nat_abs (answer_by round (ask_at s want cell step) (records_field s rs)) < 2 ^ 24
  unfolding ask_at
  answer-fits =
      answer-below round sound q ready.smooth m2 m3 some (records_field s rs) limited ready.last ready.steps_low
      ready.here.unused ready.shape.axes-high

  -- n axes, of which a is the last
  module _ (n a : ℕ) (en : s.axes ≡ n) (ea : last_axis s.axes want ≡ a) (order : ℕ)
      (order_is : (n : ℕ) → order ≡ order_on want (last_axis n want)) (b : Strides) (vs : List Strides)
      (last-is : IsAxis s step a b) (are : AreAxes s step (without a (axes n)) vs) where
    last-in : IsAxis s step (last_axis s.axes want) b
    last-in = subst (λ (i : ℕ). IsAxis s step i b) (sym ea) last-is

    are-in : AreAxes s step prior vs
    unfolding before ask_at
    are-in = subst (λ (ls : List ℕ). AreAxes s step ls vs) (sym (ap₂ (λ (i j : ℕ). without i (axes j)) ea en)) are

    pub workable-in : Workable round l.orders order b vs (length rs) (at rs) l.base
    workable-in = workable order (order_is s.axes) b vs last-in are-in

    pub answer-in : (r : ℤ) → WorkedOff l.orders order b vs (Gives round l.orders (at rs) l.base r)
        → r ≡ answer_by round (ask_at s want cell step) (records_field s rs)
    answer-in = worked-answer order (order_is s.axes) b vs last-in are-in

    -- what is reported is the answer and its mark
    pub reported-in : (r : Rounded) → WorkedOff l.orders order b vs (Reports round l.orders (at rs) l.base r)
        → (r.number ≡ answer_by round (ask_at s want cell step) (records_field s rs))
        × (eqb r.rest 0 ≡ exact_by round (ask_at s want cell step) (records_field s rs))
    reported-in r w = (
      answer-in r.number (worked-off-then (λ z xs h. h.number_is) w),
      worked-exact order (order_is s.axes) b vs last-in are-in (eqb r.rest 0) (worked-off-then (λ z xs h. h.rest-is) w),
    )

-- the axes of a layout
module _ (s : Shape) (cell : Place) (xs : List ℕ) (l : Layout) (laid : Laid s cell l) where
  pub is-axis : (a : ℕ) → a < 3 → IsAxis s (place_at xs) a (strides_of (get_or xs a 0) (get_or l.strides a 0) (l.orders ^ a))
  unfolding place_at order_stride
  is-axis a h = record {
    step_is = sym (pick_true (ltb a 3) (get_or xs a 0) 0 (lt-ltb a 3 h));
    node-is =
        by-3 (λ a. get_or l.strides a 0 ≡ node_stride s a) laid.stride-x laid.stride-y laid.stride-z a h;
    order_is =
        ap (λ (m : ℕ). m ^ a) laid.orders-are;
  }

-- two axes, and a third between them where there is one
pub are-axes : (s : Shape) (step : Place) (three : Bool) (i j : ℕ) (a b : Strides) → IsAxis s step i a → IsAxis s step j b
    → AreAxes s step (also three j (i ∷ [])) (also three b (a ∷ []))
are-axes s step true i j a b h k = (k, (h, tt))
are-axes s step false i j a b h k = (h, tt)

-- ---- what the calls return

module _ {round : Rounding} (sound : Sound round) (s : Shape) (rs : List ℤ) (cell : Place) (xs : List ℕ) (order axis : ℕ) (l : Layout)
    (ready : Ready s rs cell (place_at xs) (want_of order axis) l) where
  pub orders-low : l.orders ≤ 3
  orders-low = subst (λ (i : ℕ). i ≤ 3) (sym ready.laid.orders-are) (orders-range s.degree).1

  -- the strides that the code finds
  pub found : (a : ℕ) → a < 3 → (v : Strides) → v ≡ strides_of (get_or xs a 0) (get_or l.strides a 0) (l.orders ^ a)
      → IsAxis s (place_at xs) a v
  found a h v e = subst (IsAxis s (place_at xs) a) (sym e) (is-axis s cell xs l ready.laid a h)

  -- the stages' result r is the answer, and fits 32 bits
  module _ (r : ℤ) (ok : mag r < 2 ^ 63) (e : r ≡ answer_by round (ask_at s (want_of order axis) cell (place_at xs)) (records_field s rs))
    where
      pub fits : SFits w32 (to_z w64 (of_z w64 r))
      fits =
          sfits-abs (to_z w64 (of_z w64 r)) (lt_of_lt_of_le
          (subst (λ z. nat_abs z < 2 ^ 24) (sym (read r ok ∙ e)) (answer-fits sound s rs cell (place_at xs) (want_of order axis) l ready))
          (lit≤ tt))

      pub cast : to_z w32 (of_z w32 (to_z w64 (of_z w64 r))) ≡ answer_by round (ask_at s (want_of order axis) cell (place_at xs))
          (records_field s rs)
      cast = to_z-of_z {w = w32} fits ∙ read r ok ∙ e
