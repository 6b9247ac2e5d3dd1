-- Answers at steps k·u of axes with k·N steps are those at steps u of axes with N steps.
use mathlib.Core.Path.{◌≡◌, refl, sym, ap, ap₂, ◌∙◌, fun_ext}
use mathlib.Core.Bool.{◌&&◌}
use mathlib.Core.List.{List, [], ◌∷◌}
use Prim.Native.Nat.{ℕ, ◌+◌, ◌*◌, ◌<◌}
use native.Mathlib.Omega.{arith}
use lib.IntN.{ℤ, pos, ◌*ℤ◌}
use Rattle.arith.specs.Int.{Rounding, divides}
use Rattle.arith.specs.Sum.{times}
use Rattle.arith.proofs.Laws.{pos-one-*ℤ, *ℤ-assoc}
use Rattle.arith.proofs.Choices.{all-ext}
use Rattle.arith.proofs.Rests.{common-divides}
use Rattle.arith.proofs.Round.{Sound}
use Rattle.lattice.specs.Axes.{Place, Field, Rule, origin, put, along, sweep, axes}
use Rattle.lattice.proofs.Along.{Each, each-axes, linear-multiple, sweep-rules, same}
use Rattle.hermite.proofs.HermiteLaws.{stage-linear}
use Rattle.hermite.proofs.Sizes.{divisor-some}
use Rattle.hermite.proofs.Scaled.{common, common-some, stage-scaled, divisor-scaled}
use Rattle.evaluate.specs.Evaluate.{Ask, order_on, last_axis, exact_sum, exact_divisor, divisor_on, stage_on, to_eighth, to_unit, in_eighths, before, answer_by, clean, exact_by}
use Rattle.evaluate.proofs.AnswerLaws.{each-before}
use Rattle.evaluate.proofs.Exact.{exact-stages}

-- the same asked at other steps of axes with other numbers of steps
abbrev pub at_steps : Ask → (N step : Place) → Ask
at_steps q N step = record { m = q.m; n = q.n; want = q.want; N = N; cell = q.cell; step = step }

-- on each used axis k times the number of steps, and k times the step
pub record Scales (q : Ask) (k N step : Place) : Type 0 where
  pub some : (a : ℕ) → a < q.n → 0 < k a
  pub steps-some : (a : ℕ) → a < q.n → 0 < q.N a
  pub number_is : (a : ℕ) → a < q.n → N a ≡ k a * q.N a
  pub step_is : (a : ℕ) → a < q.n → step a ≡ k a * q.step a

module _ (q : Ask) (k N step : Place) (f : Scales q k N step) where
  abbrev finer : Ask
  finer = at_steps q N step

  -- what both parts of a stage have in common
  abbrev pub common_on : ℕ → ℕ
  common_on a = common (order_on q.want a) q.m (k a)

  module _ (a : ℕ) (l : a < q.n) where
    common-on : 0 < common_on a
    common-on = common-some (order_on q.want a) q.m (k a) (f.some a l)

    divisor-on : 0 < divisor_on q a
    unfolding divisor_on
    divisor-on = divisor-some (order_on q.want a) q.m (q.N a) (f.steps-some a l)

    stage-on : (x : ℕ → ℤ) (j : ℕ) → stage_on finer a x j ≡ pos (common_on a) *ℤ stage_on q a x j
    unfolding stage_on
    stage-on x j =
        rw (f.number_is a l, f.step_is a l)
        (stage-scaled (order_on q.want a) q.m (q.N a) (q.cell a) (q.step a) (k a) x j)

    divisor-is : divisor_on finer a ≡ common_on a * divisor_on q a
    unfolding divisor_on
    divisor-is = rw (f.number_is a l) (divisor-scaled (order_on q.want a) q.m (q.N a) (k a))

    -- with a further factor of the divisor
    eight : (t d : ℕ) → 8 * (t * d) ≡ t * (8 * d)
    eight t d = omega arith

    eight_is : 8 * divisor_on finer a ≡ common_on a * (8 * divisor_on q a)
    eight_is = ap (λ (i : ℕ). 8 * i) divisor-is ∙ eight (common_on a) (divisor_on q a)

    eight-some : 0 < 8 * divisor_on q a
    eight-some = let h = divisor-on in omega arith

    divides-same : (x : ℕ → ℤ) (j : ℕ) → divides (divisor_on finer a) (stage_on finer a x j) ≡ divides (divisor_on q a) (stage_on q a x j)
    divides-same x j =
        ap₂ divides divisor-is (stage-on x j) ∙ common-divides (common_on a) (stage_on q a x j) (divisor_on q a) common-on divisor-on

    last-divides-same : (x : ℕ → ℤ) (j : ℕ)
        → divides (8 * divisor_on finer a) (stage_on finer a x j) ≡ divides (8 * divisor_on q a) (stage_on q a x j)
    last-divides-same x j =
        ap₂ divides eight_is (stage-on x j) ∙ common-divides (common_on a) (stage_on q a x j) (8 * divisor_on q a) common-on eight-some

    module _ {round : Rounding} (ok : Sound round) where
      eighth-same : to_eighth round finer a ≡ to_eighth round q a
      unfolding to_eighth
      eighth-same = fun_ext (λ x. fun_ext (λ j. ap₂ round (stage-on x j) divisor-is
          ∙ ok.common (common_on a) (stage_on q a x j) (divisor_on q a) common-on divisor-on))

      unit-same : to_unit round finer a ≡ to_unit round q a
      unfolding to_unit
      unit-same = fun_ext (λ x. fun_ext (λ j. ap₂ round (stage-on x j) eight_is
          ∙ ok.common (common_on a) (stage_on q a x j) (8 * divisor_on q a) common-on eight-some))

  -- ---- the answer and its mark

  module _ {round : Rounding} (ok : Sound round) where
    rules : (ls : List ℕ) → Each (λ a. a < q.n) ls → Each (λ a. to_eighth round finer a ≡ to_eighth round q a) ls
    rules [] e = tt
    rules (a ∷ ls) e = (eighth-same a e.0 ok, rules ls e.1)

    stages-same : (ls : List ℕ) → Each (λ a. a < q.n) ls → (g : Field)
        → sweep ls (to_eighth round finer) g ≡ sweep ls (to_eighth round q) g
    stages-same ls e g = sweep-rules ls (to_eighth round finer) (to_eighth round q) g (rules ls e)

    each-low : Each (λ a. a < q.n) (before q)
    each-low = each-before q (λ a. a < q.n) (λ a l n. l)

    clean-same : (ls : List ℕ) → Each (λ a. a < q.n) ls → (g : Field) (p : Place) → clean round finer ls g p ≡ clean round q ls g p
    unfolding clean
    clean-same [] e g p = refl
    clean-same (a ∷ ls) e g p =
        ap₂ ◌&&◌
        (ap (λ (h : Field). divides (divisor_on finer a) (along a (stage_on finer a) h p)) (stages-same ls e.1 g)
        ∙ divides-same a e.0 (λ t. sweep ls (to_eighth round q) g (put a t p)) (p a))
        (all-ext _ _ _ (λ t l. clean-same ls e.1 g (put a (q.m * q.cell a + t) p)))

    module _ (last : last_axis q.n q.want < q.n) (g : Field) where
      abbrev l : ℕ
      l = last_axis q.n q.want

      abbrev eighths : Field
      eighths = sweep (before q) (to_eighth round q) (in_eighths g)

      pub answer-scaled : answer_by round finer g ≡ answer_by round q g
      unfolding answer_by before
      answer-scaled =
          ap₂ (λ (R : Rule) (h : Field). along l R h origin) (unit-same l last ok) (stages-same (before q) each-low (in_eighths g))

      pub exact-scaled : exact_by round finer g ≡ exact_by round q g
      unfolding exact_by before
      exact-scaled =
          ap₂ ◌&&◌
          (ap (λ (h : Field). divides (8 * divisor_on finer l) (along l (stage_on finer l) h origin))
          (stages-same (before q) each-low (in_eighths g))
          ∙ last-divides-same l last (λ t. eighths (put l t origin)) 0)
          (all-ext (2 * q.m) _ _ (λ t k. clean-same (before q) each-low (in_eighths g) (put l (q.m * q.cell l + t) origin)))

  -- ---- the exact value: its sum and its divisor have a common factor

  abbrev pub common_all : ℕ
  common_all = times (axes q.n) common_on

  multiple : (a : ℕ) (z : ℤ) (x : ℕ → ℤ) (j : ℕ) → stage_on q a (λ t. z *ℤ x t) j ≡ z *ℤ stage_on q a x j
  unfolding stage_on
  multiple a z x j =
      linear-multiple (stage-linear (order_on q.want a) q.m (q.N a) (q.cell a) (q.step a)) z x j

  sums : (ls : List ℕ) → Each (λ a. a < q.n) ls → (g : Field) (p : Place)
      → sweep ls (stage_on finer) g p ≡ pos (times ls common_on) *ℤ sweep ls (stage_on q) g p
  unfolding sweep times
  sums [] e g p = sym (pos-one-*ℤ (g p))
  sums (a ∷ ls) e g p =
      stage-on a e.0 (λ t. sweep ls (stage_on finer) g (put a t p)) (p a)
      ∙ ap (λ (x : ℕ → ℤ). pos (common_on a) *ℤ stage_on q a x (p a)) (fun_ext (λ t. sums ls e.1 g (put a t p)))
      ∙ ap (λ z. pos (common_on a) *ℤ z) (multiple a (pos (times ls common_on)) (λ t. sweep ls (stage_on q) g (put a t p)) (p a))
      ∙ sym (*ℤ-assoc (pos (common_on a)) (pos (times ls common_on)) (stage_on q a (λ t. sweep ls (stage_on q) g (put a t p)) (p a)))

  divisors : (ls : List ℕ) → Each (λ a. a < q.n) ls → times ls (divisor_on finer) ≡ times ls common_on * times ls (divisor_on q)
  unfolding times
  divisors [] e = refl
  divisors (a ∷ ls) e =
      ap₂ ◌*◌ (divisor-is a e.0) (divisors ls e.1) ∙ turn (common_on a) (divisor_on q a) (times ls common_on) (times ls (divisor_on q))
    where
      turn : (t d u e : ℕ) → t * d * (u * e) ≡ t * u * (d * e)
      turn t d u e = omega arith

  pub sum-scaled : (g : Field) → exact_sum finer g ≡ pos common_all *ℤ exact_sum q g
  sum-scaled g =
      exact-stages finer (axes q.n) same g ∙ sums (axes q.n) (each-axes q.n (λ a. a < q.n) (λ a l. l)) g origin
      ∙ ap (λ z. pos common_all *ℤ z) (sym (exact-stages q (axes q.n) same g))

  pub exact-divisor-scaled : exact_divisor finer ≡ common_all * exact_divisor q
  unfolding exact_divisor
  exact-divisor-scaled = divisors (axes q.n) (each-axes q.n (λ a. a < q.n) (λ a l. l))
