-- The stages by index in the records are those of the definition: number t of a cell stands at its base plus its offset on each axis.
use mathlib.Core.Path.{◌≡◌, refl, sym, ap, ap₂, subst, ◌∙◌, fun_ext}
use mathlib.Core.Bool.{Bool, true, ◌&&◌}
use mathlib.Core.List.{List, [], ◌∷◌}
use Prim.Native.Nat.{ℕ, ◌+◌, ◌*◌, ◌/◌, ◌^◌, ◌≤◌, ◌<◌}
use native.Mathlib.Nat.{zero-div, zero-mod, mul-one, mul_comm, mod-eq_of_lt, add-mod_left, div-eq_of_lt, add-div_left}
use lib.Pow.{pow_pos}
use native.Mathlib.Omega.{arith}
use native.Mathlib.Decide.{ℕ_discrete}
use lib.IntN.{ℤ, pos, ◌*ℤ◌}
use Rattle.arith.specs.Int.{Rounding, divides}
use Rattle.arith.specs.Choice.{pick, all}
use Rattle.arith.proofs.Choices.{all-ext, by-3, by_place}
use Rattle.arith.proofs.Laws.{pos-one-*ℤ}
use Rattle.arith.proofs.Round.{Sound}
use Rattle.arith.proofs.Rests.{common-divides}
use Rattle.lattice.specs.declared.Shape.{Shape}
use Rattle.lattice.specs.Buffer.{at}
use Rattle.lattice.specs.Shape.{orders, Shaped}
use Rattle.lattice.specs.Axes.{Place, Field, put, sweep}
use Rattle.lattice.specs.Records.{records_field}
use Rattle.lattice.proofs.Along.{put-at, put-off, linear-multiple, Each, Fresh, Distinct}
use Rattle.lattice.proofs.ShapeLaws.{orders-range}
use Rattle.hermite.specs.Hermite.{steps, divisor, stage_sum}
use Rattle.hermite.specs.Stage.{Folds, shift_of}
use Rattle.hermite.proofs.HermiteLaws.{stage-linear}
use Rattle.hermite.proofs.StageLaws.{stage-folded}
use Rattle.cell.specs.Cell.{Accepted, base, node_stride, order_stride, offset}
use Rattle.cell.proofs.CellLaws.{Numbers, placed, entry_at}
use Rattle.evaluate.specs.declared.Axis.{Axis}
use Rattle.evaluate.specs.Evaluate.{Want, Ask, order_on, last_axis, stage_on, divisor_on, to_eighth, to_unit, in_eighths, before, answer_by, clean, exact_by, ask_at}
use Rattle.evaluate.specs.Stages.{place_of, all_at, sum_at, worked, cleanly, later, after, clean_after}
use Rattle.evaluate.proofs.AnswerLaws.{each-before, distinct-before, fresh-before, answer-anywhere, exact-anywhere}
use Rattle.evaluate.proofs.EndLaws.{stage-of, place-low, place-high}

-- ---- one stage

-- what a stage of shift k along an axis of the code holds of axis a of a cell; of its numbers one counts `from` eighths, of its stage's
-- `to`
pub record Holds (s : Shape) (want : Want) (step : Place) (from to a k : ℕ) (x : Axis) : Type 0 where
  pub folds : Folds (order_on want a) (orders s) (step a) x.basis
  pub node-is : x.node ≡ node_stride s a
  pub order_is : x.order ≡ order_stride s a
  pub some : 0 < from
  pub shift_is : 2 ^ (k + 1) * from ≡ divisor (order_on want a) (orders s) steps * to

module _ {s : Shape} {want : Want} {step : Place} {from to a k : ℕ} {x : Axis} (h : Holds s want step from to a k x) where
  -- where the numbers of the two ends stand
  pub low-at : (o : ℕ) → o < orders s → offset s a o ≡ o * x.order
  unfolding offset
  low-at o l = rw (div-eq_of_lt l, mod-eq_of_lt l, h.order_is) (omega arith)

  pub high-at : (o : ℕ) → o < orders s → offset s a (orders s + o) ≡ x.node + o * x.order
  unfolding offset
  high-at o l =
      ap₂ (λ (d r : ℕ). d * node_stride s a + r * order_stride s a) (above (orders s) o l) (add-mod_left (orders s) o ∙ mod-eq_of_lt l)
      ∙ rw (h.node-is, h.order_is) (omega arith)
    where
      above : (m o : ℕ) → o < m → (m + o) / m ≡ 1
      above m o l = add-div_left o {k = m} (omega arith) ∙ ap (λ (i : ℕ). i + 1) (div-eq_of_lt l)

  -- the numbers g from index i on, by end
  module _ (g : ℕ → ℤ) (i : ℕ) where
    pub lows : (o : ℕ) → o < orders s → g (i + o * x.order) ≡ g (i + offset s a o)
    lows o l = ap (λ (j : ℕ). g (i + j)) (sym (low-at o l))

    pub highs : (o : ℕ) → o < orders s → g (i + x.node + o * x.order) ≡ g (i + offset s a (orders s + o))
    highs o l = ap g (assoc i x.node (o * x.order) ∙ ap (λ (j : ℕ). i + j) (sym (high-at o l)))
      where
        assoc : (i f n : ℕ) → i + f + n ≡ i + (f + n)
        assoc i f n = omega arith

    -- the definition's stage of numbers X, which count `from` eighths each, by a rule that a common factor does not change
    module _ (c j : ℕ) (X : ℕ → ℤ)
        (e : (t : ℕ) → t < 2 * orders s → X (orders s * c + t) ≡ pos from *ℤ g (i + offset s a t)) where
      stage_is : {A : Type 0} (f : ℤ → ℕ → A) → ((k : ℕ) (x : ℤ) (y : ℕ) → 0 < k → 0 < y → f (pos k *ℤ x) (k * y) ≡ f x y)
          → f (stage_sum (order_on want a) (orders s) steps c (step a) X j) (divisor (order_on want a) (orders s) steps * to)
          ≡ f (sum_at x g i) (2 ^ (k + 1))
      unfolding sum_at
      stage_is f common =
          ap₂ f
          (stage-of (order_on want a) (orders s) steps c (step a) X (λ t. pos from *ℤ g (i + offset s a t)) j e
          ∙ linear-multiple (stage-linear (order_on want a) (orders s) steps 0 (step a)) (pos from) (λ t. g (i + offset s a t)) 0)
          (sym h.shift_is ∙ mul_comm (2 ^ (k + 1)) from)
          ∙ common from (stage_sum (order_on want a) (orders s) steps 0 (step a) (λ t. g (i + offset s a t)) 0) (2 ^ (k + 1)) h.some
          (pow_pos (k + 1))
          ∙ ap (λ z. f z (2 ^ (k + 1)))
          (sym (stage-folded h.folds (λ o. g (i + o * x.order)) (λ o. g (i + x.node + o * x.order))
          (λ t. g (i + offset s a t)) lows highs))

      worked-is : {round : Rounding} → Sound round
          → round (stage_sum (order_on want a) (orders s) steps c (step a) X j) (divisor (order_on want a) (orders s) steps * to)
          ≡ worked round k x g i
      unfolding worked
      worked-is {round} sound = stage_is round sound.common

      divided-is : divides (divisor (order_on want a) (orders s) steps * to) (stage_sum (order_on want a) (orders s) steps c (step a) X j)
          ≡ divides (2 ^ (k + 1)) (sum_at x g i)
      divided-is = stage_is (λ z y. divides y z) common-divides

  -- the offset of a number is its place
  placed_at : (u : ℕ) → u < 2 * orders s → offset s a u ≡ place_of (orders s) x.order x.node u
  placed_at =
      by_place (orders s) (λ u. offset s a u ≡ place_of (orders s) x.order x.node u)
      (λ o l. low-at o l ∙ sym (place-low (orders s) x.order x.node o l))
      (λ o l. high-at o l ∙ sym (place-high (orders s) x.order x.node o))

-- ---- all stages

-- how many eighths a number counts before the stages of a list, and after them
abbrev pub counts : List ℕ → ℕ
counts [] = 8
counts (a ∷ ls) = 1

-- the axes of a list, each held
abbrev pub AllHeld : Shape → Want → Place → List ℕ → List Axis → Type 0
AllHeld s want step [] [] = Unit {0}
AllHeld s want step [] (x ∷ xs) = ⊥
AllHeld s want step (a ∷ ls) [] = ⊥
AllHeld s want step (a ∷ ls) (x ∷ xs) = Holds s want step (counts ls) 1 a (shift_of 0 (orders s) (later xs) true) x
    × AllHeld s want step ls xs

-- numbers of a cell, 0 on the axes of a list
pub record Left (s : Shape) (ls : List ℕ) (t : Place) : Type 0 where
  pub numbers : Numbers s t
  pub worked-off : Each (λ a. t a ≡ 0) ls

module _ (s : Shape) (ok : Shaped s) (cell : Place) (here : Accepted s cell) where
  -- the index of number t
  unfoldable pub index : Place → ℕ
  index t = base s cell + (offset s 0 (t 0) + (offset s 1 (t 1) + offset s 2 (t 2)))

  offset-none : (a : ℕ) → offset s a 0 ≡ 0
  unfolding offset
  offset-none a = rw (zero-div (orders s), zero-mod (orders s)) (omega arith)

  pub index-put : (a u : ℕ) (t : Place) → a < 3 → t a ≡ 0 → index (put a u t) ≡ index t + offset s a u
  unfolding index put pick
  index-put a u t = by-3 (λ a. t a ≡ 0 → index (put a u t) ≡ index t + offset s a u)
      (λ e. rw (e, offset-none 0) (omega arith)) (λ e. rw (e, offset-none 1) (omega arith)) (λ e. rw (e, offset-none 2) (omega arith)) a

  pub index-base : index (λ a. 0) ≡ base s cell
  unfolding index
  index-base = rw (offset-none 0, offset-none 1, offset-none 2) (omega arith)

  -- moving to number u of an axis
  pub placed-put : (a u : ℕ) (t : Place) → put a (orders s * cell a + u) (placed s cell t) ≡ placed s cell (put a u t)
  placed-put a u t = fun_ext (λ b. go b (ℕ_discrete b a))
    where
      go : (b : ℕ) → Dec (b ≡ a) → put a (orders s * cell a + u) (placed s cell t) b ≡ orders s * cell b + put a u t b
      go b (yes e) =
          subst (λ (i : ℕ). put a (orders s * cell a + u) (placed s cell t) i ≡ orders s * cell i + put a u t i) (sym e)
          (put-at a (orders s * cell a + u) (placed s cell t) ∙ ap (λ (i : ℕ). orders s * cell a + i) (sym (put-at a u t)))
      go b (no n) = put-off a (orders s * cell a + u) b (placed s cell t) n
          ∙ ap (λ (i : ℕ). orders s * cell b + i) (sym (put-off a u b t n))

  pub left-put : (a : ℕ) (ls : List ℕ) (u : ℕ) (t : Place) → Fresh a ls → a < s.axes → u < 2 * orders s → Left s (a ∷ ls) t
      → Left s ls (put a u t)
  left-put a ls u t f l k h =
      record {
        numbers = record { used = λ b i. used b i (ℕ_discrete b a); unused = λ b i. put-off a u b t (apart b i) ∙ h.numbers.unused b i };
        worked-off = off ls f h.worked-off.1;
      }
    where
      apart : (b : ℕ) → s.axes ≤ b → b ≡ a → ⊥
      apart b i e = omega arith

      used : (b : ℕ) → b < s.axes → Dec (b ≡ a) → put a u t b < 2 * orders s
      used b i (yes e) = subst (λ (c : ℕ). put a u t c < 2 * orders s) (sym e) (subst (λ (v : ℕ). v < 2 * orders s) (sym (put-at a u t)) k)
      used b i (no n) = subst (λ (v : ℕ). v < 2 * orders s) (sym (put-off a u b t n)) (h.numbers.used b i)

      off : (ms : List ℕ) → Fresh a ms → Each (λ b. t b ≡ 0) ms → Each (λ b. put a u t b ≡ 0) ms
      off [] f e = tt
      off (b ∷ ms) f e = (put-off a u b t (λ i. f.0 (sym i)) ∙ e.0, off ms f.1 e.1)

  module _ {round : Rounding} (sound : Sound round) (rs : List ℤ) (want : Want) (step : Place) where
    abbrev q : Ask
    q = ask_at s want cell step

    abbrev pub got : List ℕ → Field
    got ls = sweep ls (to_eighth round q) (in_eighths (records_field s rs))

    pub after_is : (ls : List ℕ) (xs : List Axis) → AllHeld s want step ls xs → Distinct ls → Each (λ a. a < s.axes) ls → (t : Place)
        → Left s ls t
        → got ls (placed s cell t) ≡ pos (counts ls) *ℤ after round (orders s) xs (at rs) (index t)
    unfolding sweep in_eighths records_field after to_eighth stage_on divisor_on ask_at index
    after_is [] [] m d e t h = ap (λ (i : ℕ). pos 8 *ℤ at rs i) (entry_at s ok cell here t h.numbers)
    after_is [] (x ∷ xs) m d e t h = absurd m
    after_is (a ∷ ls) [] m d e t h = absurd m
    after_is (a ∷ ls) (x ∷ xs) m d e t h =
        ap (round (stage_sum (order_on want a) (orders s) steps (cell a) (step a) (λ j. got ls (put a j (placed s cell t)))
        (placed s cell t a))) (sym (mul-one (divisor (order_on want a) (orders s) steps)))
        ∙ worked-is m.0 (after round (orders s) xs (at rs)) (index t) (cell a) (placed s cell t a)
        (λ j. got ls (put a j (placed s cell t)))
        (λ u l. ap (got ls) (placed-put a u t) ∙ after_is ls xs m.1 d.1 e.1 (put a u t) (left-put a ls u t d.0 e.0 l h)
        ∙ ap (λ (i : ℕ). pos (counts ls) *ℤ after round (orders s) xs (at rs) i)
        (index-put a u t (below a e.0 ok.axes-high) h.worked-off.0)) sound
        ∙ sym (pos-one-*ℤ (after round (orders s) (x ∷ xs) (at rs) (index t)))
      where
        below : (a : ℕ) → a < s.axes → s.axes ≤ 3 → a < 3
        below a i k = omega arith

    -- the numbers of a further axis a
    module _ (a : ℕ) (ls : List ℕ) (xs : List Axis) (m : AllHeld s want step ls xs) (f : Fresh a ls) (d : Distinct ls) (i : a < s.axes)
        (e : Each (λ a. a < s.axes) ls) (t : Place) (h : Left s (a ∷ ls) t) where
      moved : (u : ℕ) → index (put a u t) ≡ index t + offset s a u
      moved u = index-put a u t (below ok.axes-high) h.worked-off.0
        where
          below : s.axes ≤ 3 → a < 3
          below k = omega (arith, i)

      pub got-at : (u : ℕ) → u < 2 * orders s
          → got ls (put a (orders s * cell a + u) (placed s cell t))
          ≡ pos (counts ls) *ℤ after round (orders s) xs (at rs) (index t + offset s a u)
      got-at u l =
          ap (got ls) (placed-put a u t) ∙ after_is ls xs m d e (put a u t) (left-put a ls u t f i l h)
          ∙ ap (λ (j : ℕ). pos (counts ls) *ℤ after round (orders s) xs (at rs) j) (moved u)

      -- nothing is dropped of them by the definition where nothing is by index
      abbrev keeps : Place → Bool
      keeps = clean round q ls (in_eighths (records_field s rs))

      module _ (same : (t : Place) → Left s ls t → keeps (placed s cell t) ≡ clean_after round (orders s) xs (at rs) (index t))
          {to k : ℕ} {x : Axis} (hx : Holds s want step (counts ls) to a k x) where
        cleans : all (2 * orders s) (λ u. keeps (put a (orders s * cell a + u) (placed s cell t)))
            ≡ all_at (orders s) (clean_after round (orders s) xs (at rs)) (index t) x.order x.node
        cleans =
            all-ext (2 * orders s) (λ u. keeps (put a (orders s * cell a + u) (placed s cell t)))
            (λ u. clean_after round (orders s) xs (at rs) (index t + place_of (orders s) x.order x.node u))
            (λ u l. ap keeps (placed-put a u t) ∙ same (put a u t) (left-put a ls u t f i l h)
            ∙ ap (clean_after round (orders s) xs (at rs)) (moved u ∙ ap (λ (j : ℕ). index t + j) (placed_at hx u l)))

    pub clean_is : (ls : List ℕ) (xs : List Axis) → AllHeld s want step ls xs → Distinct ls → Each (λ a. a < s.axes) ls → (t : Place)
        → Left s ls t
        → clean round q ls (in_eighths (records_field s rs)) (placed s cell t) ≡ clean_after round (orders s) xs (at rs) (index t)
    unfolding clean clean_after cleanly stage_on divisor_on ask_at
    clean_is [] [] m d e t h = refl
    clean_is [] (x ∷ xs) m d e t h = absurd m
    clean_is (a ∷ ls) [] m d e t h = absurd m
    clean_is (a ∷ ls) (x ∷ xs) m d e t h =
        ap₂ ◌&&◌
        (ap (λ (y : ℕ). divides y (stage_sum (order_on want a) (orders s) steps (cell a) (step a) (λ j. got ls (put a j (placed s cell t)))
        (placed s cell t a))) (sym (mul-one (divisor (order_on want a) (orders s) steps)))
        ∙ divided-is m.0 (after round (orders s) xs (at rs)) (index t) (cell a) (placed s cell t a)
        (λ j. got ls (put a j (placed s cell t)))
        (got-at a ls xs m.1 d.0 d.1 e.0 e.1 t h))
        (cleans a ls xs m.1 d.0 d.1 e.0 e.1 t h (clean_is ls xs m.1 d.1 e.1) m.0)

    -- ---- the answer

    abbrev l : ℕ
    l = last_axis s.axes want

    pub nought : Left s (l ∷ before q) (λ a. 0)
    nought = record { numbers = record { used = λ a i. some; unused = λ a i. refl }; worked-off = each (l ∷ before q) }
      where
        some : 0 < 2 * orders s
        some = let h = (orders-range s.degree).0 in omega arith

        each : (ls : List ℕ) → Each (λ a. ◌≡◌ {A = ℕ} 0 0) ls
        each [] = tt
        each (a ∷ ls) = (refl, each ls)

    none : (a : ℕ) → s.axes ≤ a → orders s * cell a + 0 ≡ 0
    none a h = rw (here.unused a h) (omega arith)

    used-before : Each (λ a. a < s.axes) (before q)
    unfolding ask_at
    used-before = each-before q (λ a. a < s.axes) (λ a i n. i)

    module _ (z : Axis) (xs : List Axis) (last : l < s.axes) (hz : Holds s want step (counts (before q)) 8 l z.shift z)
        (hx : AllHeld s want step (before q) xs) where
      abbrev start : Place
      start = placed s cell (λ a. 0)

      abbrev X : ℕ → ℤ
      X j = got (before q) (put l j start)

      numbers : (u : ℕ) → u < 2 * orders s → X (orders s * cell l + u)
          ≡ pos (counts (before q)) *ℤ after round (orders s) xs (at rs) (index (λ a. 0) + offset s l u)
      unfolding ask_at
      numbers = got-at l (before q) xs hx (fresh-before q) (distinct-before q) last used-before (λ a. 0) nought

      pub answer-is : answer_by round q (records_field s rs) ≡ worked round z.shift z (after round (orders s) xs (at rs)) (base s cell)
      unfolding to_unit stage_on divisor_on ask_at
      answer-is =
          answer-anywhere round q (records_field s rs) start none
          ∙ ap (round (stage_sum (order_on want l) (orders s) steps (cell l) (step l) X (start l)))
          (mul_comm 8 (divisor (order_on want l) (orders s) steps))
          ∙ worked-is hz (after round (orders s) xs (at rs)) (index (λ a. 0)) (cell l) (start l) X numbers sound
          ∙ ap (worked round z.shift z (after round (orders s) xs (at rs))) index-base

      pub exact-is : exact_by round q (records_field s rs)
          ≡ cleanly (orders s) z.shift z (after round (orders s) xs (at rs)) (clean_after round (orders s) xs (at rs)) (base s cell)
      unfolding cleanly stage_on divisor_on ask_at
      exact-is =
          exact-anywhere round q (records_field s rs) start none
          ∙ ap₂ ◌&&◌
          (ap (λ (y : ℕ). divides y (stage_sum (order_on want l) (orders s) steps (cell l) (step l) X (start l)))
          (mul_comm 8 (divisor (order_on want l) (orders s) steps))
          ∙ divided-is hz (after round (orders s) xs (at rs)) (index (λ a. 0)) (cell l) (start l) X numbers)
          (cleans l (before q) xs hx (fresh-before q) (distinct-before q) last used-before (λ a. 0) nought
          (clean_is (before q) xs hx (distinct-before q) used-before) hz)
          ∙ ap (cleanly (orders s) z.shift z (after round (orders s) xs (at rs)) (clean_after round (orders s) xs (at rs))) index-base
