-- What an answer reads, for every rounding: the numbers of the corners only, whichever cell they are of, and no place on the axes worked
-- off; and what it is on one axis.
use mathlib.Core.Path.{◌≡◌, refl, sym, ap, ap₂, subst, ◌∙◌, fun_ext}
use mathlib.Core.Bool.{Bool, true, false, ◌&&◌}
use mathlib.Core.List.{List, [], ◌∷◌}
use Prim.Native.Nat.{ℕ, zero, suc, ◌+◌, ◌*◌, ◌≤◌, ◌<◌}
use native.Mathlib.Omega.{arith}
use native.Mathlib.Decide.{ℕ_discrete, dec_lt}
use lib.Dec.{eqb}
use lib.IntN.{ℤ, pos, ◌*ℤ◌}
use borrow.Author.Tests.{ne_eqb, eq-eqb}
use Rattle.arith.specs.Int.{Rounding, divides}
use Rattle.arith.specs.Choice.{pick, all}
use Rattle.arith.proofs.Choices.{pick_true, pick-false, all-ext}
use Rattle.lattice.specs.Axes.{Place, Field, origin, put, along, sweep, axes, without}
use Rattle.lattice.proofs.Along.{put-at, put-off, Each, each-axes, each-without, Fresh, Distinct, distinct-axes, distinct_without, fresh-out, fresh-back}
use Rattle.lattice.proofs.Local.{Carries, sweep-carries, used}
use Rattle.hermite.specs.Hermite.{stage_sum}
use Rattle.hermite.specs.Stage.{Smooth}
use Rattle.hermite.proofs.HermiteLaws.{stage-moved}
use Rattle.cell.specs.Cell.{AtEnds, InCorners}
use Rattle.evaluate.specs.Evaluate.{Want, dose, derivative_along, Ask, order_wanted, order_on, last_axis, divisor_on, stage_on, to_eighth, to_unit, in_eighths, before, answer_by, clean, exact_by}
use Rattle.evaluate.specs.Wants.{want_of}

-- on an axis before the last no derivative is taken
pub order-before : (w : Want) (a n : ℕ) → (a ≡ last_axis n w → ⊥) → order_on w a ≡ 0
unfolding order_on last_axis
order-before dose a n h = refl
order-before (derivative_along order l) a n h = pick-false (eqb a l) order 0 (ne_eqb a l h)

-- on the last it is that which is wanted
pub order-on-last : (w : Want) (n : ℕ) → order_on w (last_axis n w) ≡ order_wanted w
unfolding order_on order_wanted last_axis
order-on-last dose n = refl
order-on-last (derivative_along order l) n = pick_true (eqb l l) order 0 (eq-eqb l l refl)

-- and so it is by the order that the code is given
pub order-last : (order a n : ℕ) → order ≡ order_on (want_of order a) (last_axis n (want_of order a))
unfolding order_wanted
order-last zero a n = sym (order-on-last (want_of 0 a) n)
order-last (suc order) a n = sym (order-on-last (want_of (suc order) a) n)

-- any order but 0 is that of a derivative
pub want-some : (order a : ℕ) → (order ≡ 0 → ⊥) → want_of order a ≡ derivative_along order a
want-some zero a h = absurd (h refl)
want-some (suc order) a h = refl

pub order-smooth : (w : Want) (a m : ℕ) → Smooth (order_wanted w) m → Smooth (order_on w a) m
unfolding order_on order_wanted pick
order-smooth dose a m h = h
order-smooth (derivative_along order l) a m h = one (eqb a l)
  where
    one : (b : Bool) → Smooth (pick b order 0) m
    one true = h
    one false = omega (arith, h)

-- ---- the axes before the last

module _ (q : Ask) where
  abbrev last-axis : ℕ
  last-axis = last_axis q.n q.want

  pub each-before : (U : ℕ → Type 0) → ((a : ℕ) → a < q.n → (a ≡ last-axis → ⊥) → U a) → Each U (before q)
  unfolding before
  each-before U h = each-without U last-axis (axes q.n) (each-axes q.n (λ a. (a ≡ last-axis → ⊥) → U a) h)

  pub distinct-before : Distinct (before q)
  unfolding before
  distinct-before = distinct_without last-axis (axes q.n) (distinct-axes q.n)

  pub fresh-before : Fresh last-axis (before q)
  unfolding before
  fresh-before = fresh-out last-axis (axes q.n)

-- ---- the corners only, in whichever cell

-- on one axis: a number of cell c, and the same number of cell d
pub record SameNumber (m c d i j : ℕ) : Type 0 where
  pub number : ℕ
  pub low : number < 2 * m
  pub one : i ≡ m * c + number
  pub other : j ≡ m * d + number

-- on each used axis the same number of two cells, place 0 on an unused one
abbrev pub Alike : ℕ → ℕ → Place → Place → ℕ → ℕ → ℕ → Type 0
Alike m n c d a i j = (a < n → SameNumber m (c a) (d a) i j) × (n ≤ a → (i ≡ 0) × (j ≡ 0))

-- the same asked of another cell
abbrev pub moved_to : Ask → Place → Ask
moved_to q d = record { m = q.m; n = q.n; want = q.want; N = q.N; cell = d; step = q.step }

module _ (round : Rounding) (q : Ask) (d : Place) where
  abbrev Any : ℕ → ℕ → ℕ → Type 0
  Any a i j = Unit {0}

  abbrev Pair : ℕ → ℕ → ℕ → Type 0
  Pair = Alike q.m q.n q.cell d

  -- a stage reads the numbers of its cell
  stage-carries : (a : ℕ) → a < q.n → Carries (stage_on q a) (stage_on (moved_to q d) a) (Any a) (Pair a)
  unfolding stage_on
  stage-carries a l x y j k s h =
      stage-moved (order_on q.want a) q.m (q.N a) (q.cell a) (d a) (q.step a) x y
      (λ t e. h (q.m * q.cell a + t) (q.m * d a + t)
      (λ k. record { number = t; low = e; one = refl; other = refl }, λ k. absurd (not-both l k))) j k
    where
      not-both : {a n : ℕ} → a < n → n ≤ a → ⊥
      not-both l k = omega arith

  eighth-carries : (a : ℕ) → a < q.n → Carries (to_eighth round q a) (to_eighth round (moved_to q d) a) (Any a) (Pair a)
  unfolding to_eighth divisor_on
  eighth-carries a l x y j k s h = ap (λ z. round z (divisor_on q a)) (stage-carries a l x y j k s h)

  unit-carries : (a : ℕ) → a < q.n → Carries (to_unit round q a) (to_unit round (moved_to q d) a) (Any a) (Pair a)
  unfolding to_unit divisor_on
  unit-carries a l x y j k s h = ap (λ z. round z (8 * divisor_on q a)) (stage-carries a l x y j k s h)

  -- cells with the same numbers have the same answers
  pub answer-moved : last_axis q.n q.want < q.n → (g h : Field)
      → ((p r : Place) → ((a : ℕ) → Alike q.m q.n q.cell d a (p a) (r a)) → g p ≡ h r)
      → answer_by round q g ≡ answer_by round (moved_to q d) h
  unfolding answer_by before in_eighths
  answer-moved last g h eq =
      unit-carries l last (λ t. sweep ls (to_eighth round q) (in_eighths g) (put l t origin))
      (λ t. sweep ls (to_eighth round (moved_to q d)) (in_eighths h) (put l t origin)) 0 0 tt
      (λ s t e. sweep-carries Any Pair (to_eighth round q) (to_eighth round (moved_to q d)) ls (distinct-before q)
      (each-before q (λ a. Carries (to_eighth round q a) (to_eighth round (moved_to q d) a) (Any a) (Pair a)) (λ a k n. eighth-carries a k))
      (in_eighths g) (in_eighths h) (λ p r x. ap (λ z. pos 8 *ℤ z) (eq p r x)) (put l s origin) (put l t origin)
      (record { done = λ b f. tt; left = λ b f. other s t e b f (ℕ_discrete b l) }))
    where
      l : ℕ
      l = last_axis q.n q.want

      ls : List ℕ
      ls = without l (axes q.n)

      other : (s t : ℕ) → Pair l s t → (b : ℕ) → Fresh b ls → Dec (b ≡ l) → Pair b (put l s origin b) (put l t origin b)
      other s t e b f (yes p) =
          subst (λ (i : ℕ). Pair i (put l s origin i) (put l t origin i)) (sym p) (rw (put-at l s origin, put-at l t origin) e)
      other s t e b f (no n) =
          (λ k. absurd (used q.n b k (fresh-back b l (axes q.n) n f)), λ k. (put-off l s b origin n, put-off l t b origin n))

module _ (round : Rounding) (q : Ask) where
  -- in one cell
  pub answer-local : last_axis q.n q.want < q.n → (g h : Field) → ((p : Place) → InCorners q.m q.n q.cell p → g p ≡ h p)
      → answer_by round q g ≡ answer_by round q h
  answer-local last g h eq =
      answer-moved round q q.cell last g h (λ p r x. ap g (fun_ext (λ a. same p r x a (dec_lt a q.n))) ∙ eq r (inside p r x))
    where
      same : (p r : Place) → ((a : ℕ) → Alike q.m q.n q.cell q.cell a (p a) (r a)) → (a : ℕ) → Dec (a < q.n) → p a ≡ r a
      same p r x a (yes l) = let e = (x a).0 l in e.one ∙ sym e.other
      same p r x a (no l) = let e = (x a).1 (omega (arith, l)) in e.0 ∙ sym e.1

      ends : (m c j t : ℕ) → j ≡ m * c + t → t < 2 * m → AtEnds m c j
      ends m c j t e l = record { low = omega arith; high = omega arith }

      inside : (p r : Place) → ((a : ℕ) → Alike q.m q.n q.cell q.cell a (p a) (r a)) → InCorners q.m q.n q.cell r
      inside p r x = record {
        used = λ a l. let e = (x a).0 l in ends q.m (q.cell a) (r a) e.number e.other e.low;
        unused = λ a l. ((x a).1 l).1;
      }

  -- ---- no place on the axes worked off

  -- two places that are equal but on the axes of a list
  Beside : List ℕ → Place → Place → Type 0
  Beside ls p r = (b : ℕ) → Fresh b ls → p b ≡ r b

  beside-put : (a : ℕ) (ls : List ℕ) (p r : Place) → Beside (a ∷ ls) p r → (t : ℕ) → Beside ls (put a t p) (put a t r)
  unfolding Beside
  beside-put a ls p r h t b f = go (ℕ_discrete b a)
    where
      go : Dec (b ≡ a) → put a t p b ≡ put a t r b
      go (yes e) = subst (λ (i : ℕ). put a t p i ≡ put a t r i) (sym e) (put-at a t p ∙ sym (put-at a t r))
      go (no n) = put-off a t b p n ∙ h b (n, f) ∙ sym (put-off a t b r n)

  stages-anywhere : (g : Field) (ls : List ℕ) (p r : Place) → Beside ls p r
      → sweep ls (to_eighth round q) g p ≡ sweep ls (to_eighth round q) g r
  unfolding sweep Beside to_eighth stage_on stage_sum
  stages-anywhere g [] p r h = ap g (fun_ext (λ b. h b tt))
  stages-anywhere g (a ∷ ls) p r h =
      ap (λ (x : ℕ → ℤ). round (stage_on q a x 0) (divisor_on q a))
      (fun_ext (λ t. stages-anywhere g ls (put a t p) (put a t r) (beside-put a ls p r h t)))

  sum-anywhere : (g : Field) (a : ℕ) (ls : List ℕ) (p r : Place) → Beside (a ∷ ls) p r
      → along a (stage_on q a) (sweep ls (to_eighth round q) g) p ≡ along a (stage_on q a) (sweep ls (to_eighth round q) g) r
  unfolding stage_on stage_sum
  sum-anywhere g a ls p r h =
      ap (λ (x : ℕ → ℤ). stage_on q a x 0) (fun_ext (λ t. stages-anywhere g ls (put a t p) (put a t r) (beside-put a ls p r h t)))

  clean-anywhere : (g : Field) (ls : List ℕ) (p r : Place) → Beside ls p r → clean round q ls g p ≡ clean round q ls g r
  unfolding clean
  clean-anywhere g [] p r h = refl
  clean-anywhere g (a ∷ ls) p r h =
      ap₂ ◌&&◌ (ap (divides (divisor_on q a)) (sum-anywhere g a ls p r h))
      (all-ext _ _ _ (λ t l. clean-anywhere g ls (put a (q.m * q.cell a + t) p) (put a (q.m * q.cell a + t) r)
      (beside-put a ls p r h (q.m * q.cell a + t))))

  -- the answer and its mark, at any place that is 0 on the unused axes
  module _ (g : Field) (p : Place) (none : (a : ℕ) → q.n ≤ a → p a ≡ 0) where
    abbrev l : ℕ
    l = last_axis q.n q.want

    beside-origin : Beside (l ∷ before q) origin p
    unfolding Beside before
    beside-origin b f = sym (none b (unused b f.0 f.1))
      where
        unused : (b : ℕ) → (b ≡ l → ⊥) → Fresh b (without l (axes q.n)) → q.n ≤ b
        unused b n f = let z = used q.n b in let y = fresh-back b l (axes q.n) n f in omega-not (λ k. z k y)
          where
            omega-not : (b < q.n → ⊥) → q.n ≤ b
            omega-not h = omega (arith, h)

    pub answer-anywhere : answer_by round q g ≡ along l (to_unit round q l) (sweep (before q) (to_eighth round q) (in_eighths g)) p
    unfolding answer_by to_unit
    answer-anywhere = ap (λ z. round z (8 * divisor_on q l)) (sum-anywhere (in_eighths g) l (before q) origin p beside-origin)

    pub exact-anywhere : exact_by round q g
        ≡ (divides (8 * divisor_on q l) (along l (stage_on q l) (sweep (before q) (to_eighth round q) (in_eighths g)) p)
        && all (2 * q.m) (λ t. clean round q (before q) (in_eighths g) (put l (q.m * q.cell l + t) p)))
    unfolding exact_by
    exact-anywhere =
        ap₂ ◌&&◌ (ap (divides (8 * divisor_on q l)) (sum-anywhere (in_eighths g) l (before q) origin p beside-origin))
        (all-ext (2 * q.m) (λ t. clean round q (before q) (in_eighths g) (put l (q.m * q.cell l + t) origin))
        (λ t. clean round q (before q) (in_eighths g) (put l (q.m * q.cell l + t) p))
        (λ t k. clean-anywhere (in_eighths g) (before q) (put l (q.m * q.cell l + t) origin) (put l (q.m * q.cell l + t) p)
        (beside-put l (before q) origin p beside-origin (q.m * q.cell l + t))))
