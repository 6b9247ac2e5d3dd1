-- A table with coarser axes answers as the one of 256 steps does at the multiplied steps.
use mathlib.Core.Path.{◌≡◌, refl, sym, ap, subst, ◌∙◌}
use mathlib.Core.Bool.{false}
use mathlib.Core.List.{List, [], ◌∷◌}
use Prim.Native.Nat.{ℕ, zero, suc, ◌*◌, ◌/◌, ◌≤◌, ◌<◌}
use native.Mathlib.Nat.{mul_comm, mul-zero}
use native.Mathlib.Decide.{dec_lt}
use native.Mathlib.Omega.{arith}
use lib.Dec.{eqb}
use lib.IntN.{ℤ, pos, negsuc, neg_ℤ, nat_abs, ◌*ℤ◌}
use lib.Signed.{non_neg}
use Rattle.arith.proofs.Abs.{abs-mul}
use Rattle.arith.proofs.Laws.{*ℤ-negℤ}
use Rattle.arith.proofs.Quote.{quotes, ring! }
use Rattle.arith.proofs.Rests.{same_none}
use Rattle.lattice.specs.declared.FullShape.{FullShape}
use Rattle.lattice.specs.Outcome.{done}
use Rattle.lattice.specs.Shape.{steps_on, full_outcome}
use Rattle.lattice.specs.Axes.{Place}
use Rattle.lattice.proofs.ShapeLaws.{shaped}
use Rattle.lattice.proofs.StepLaws.{step-factor, factor-range, full-shape, full-stepped}
use Rattle.evaluate.specs.Evaluate.{Want, exact_sum, exact_divisor}
use Rattle.evaluate.proofs.Scaled.{Scales, common_all, sum-scaled, exact-divisor-scaled}
use Rattle.query.specs.Queries.{Position, position_at, ask_in}
use Rattle.query.proofs.QueryLaws.{finest-used}
use Rattle.query.proofs.Coarse.{InFiner, product-finer, position-beyond, FinerSteps, FinerPosition, full-same, by-cell-scaled, cell-mark-scaled, by-position-scaled}
use Rattle.claims.specs.Coarser.{finest_of, finer_steps, finer_position, CoarserAxes}
use Rattle.claims.proofs.General.{number-used, steps-some}

-- a product with a factor that is not 0
none-same : (k n : ℕ) → 1 ≤ k → eqb (k * n) 0 ≡ eqb n 0
none-same k n h = same_none (k * n) n (λ e. none n e) (λ e. ap (λ (i : ℕ). k * i) e ∙ mul-zero k)
  where
    none : (n : ℕ) → k * n ≡ 0 → n ≡ 0
    none zero e = refl
    none (suc n) e = absurd (omega arith)

sign_same : (k : ℕ) → 1 ≤ k → (z : ℤ) → non_neg (pos k *ℤ z) ≡ non_neg z
sign_same k h (pos n) = refl
sign_same k h (negsuc n) = ap non_neg (*ℤ-negℤ (pos k) (pos (suc n))) ∙ below (k * suc n) (omega arith)
  where
    below : (m : ℕ) → 0 < m → non_neg (neg_ℤ (pos m)) ≡ false
    below zero h = absurd (omega arith)
    below (suc m) h = refl

module _ (t : FullShape) (full : full_outcome t ≡ done tt) where
  abbrev factor : ℕ → ℕ
  factor a = 256 / steps_on t a

  -- 256 on an unused axis
  factor-some : (a : ℕ) → a < 3 → 1 ≤ factor a
  factor-some a l = go (dec_lt a t.shape.axes)
    where
      go : Dec (a < t.shape.axes) → 1 ≤ factor a
      go (yes k) = (factor-range (steps_on t a) (number-used t full a k)).0
      go (no k) = rw ((full-stepped t full).unused a l (omega (arith, k))) (omega arith)

  steps-finer : (u : Place) → FinerSteps t u (finer_steps t u)
  steps-finer u = record {
    used = λ a l k. product-finer (factor a) (u a) (factor-some a l);
    unused = λ a l k. none-same (factor a) (u a) (factor-some a l);
  }

  position-finer : (p : Position) → FinerPosition t p (finer_position t p)
  position-finer p = record {
    sign = λ a l. sign_same (factor a) (factor-some a l) (p a);
    used = λ a l k h. subst (InFiner (factor a) (nat_abs (p a))) (sym (abs-mul (pos (factor a)) (p a)))
        (product-finer (factor a) (nat_abs (p a)) (factor-some a l));
    unused = λ a l k. ap (λ (i : ℕ). eqb i 0) (abs-mul (pos (factor a)) (p a)) ∙ none-same (factor a) (nat_abs (p a)) (factor-some a l);
  }

  nowhere : (xs : List ℤ) (a : ℕ) → 3 ≤ a → (nat_abs (position_at xs a) ≡ 0) × (nat_abs (finer_position t (position_at xs) a) ≡ 0)
  nowhere xs a l =
      let e = ap nat_abs (position-beyond xs a l) in
      (e, abs-mul (pos (factor a)) (position_at xs a) ∙ ap (λ (i : ℕ). factor a * i) e ∙ mul-zero (factor a))

  scales : (want : Want) (cell u : Place) → Scales (ask_in t want cell u) factor (steps_on (finest_of t)) (finer_steps t u)
  scales want cell u = record {
    some = λ a l. factor-some a (low l);
    steps-some = steps-some t full;
    number_is = λ a l. finest-used t.shape t.second_edition a (low l) l ∙ sym (step-factor (steps_on t a) (number-used t full a l))
        ∙ mul_comm (steps_on t a) (factor a);
    step_is = λ a l. refl;
  }
    where
      low : {a : ℕ} → a < t.shape.axes → a < 3
      low l = let h = (shaped t.shape (full-shape t full)).axes-high in omega arith

-- both parts of the exact value have the same factor
multiplied : (c x : ℤ) (d : ℤ) → x *ℤ (c *ℤ d) ≡ c *ℤ x *ℤ d
multiplied c x d = ring! (c ∷ x ∷ d ∷ []) (search quotes depth 40) tt

pub coarser-axes : CoarserAxes
coarser-axes t rs want full = record {
  by-position = λ p. sym (by-position-scaled t same rs want (position_at p) (finer_position t (position_at p))
      (λ e. position-finer t full (position_at p)) (nowhere t full p));
  by-cell = λ cell u. sym (by-cell-scaled t same rs want cell u (finer_steps t u) (λ e. steps-finer t full u));
  mark = λ cell u given. sym (cell-mark-scaled t same rs want cell u (finer_steps t u) (λ e. steps-finer t full u) given);
  exact = λ cell u g.
      let q = ask_in t want cell u in
      let f = scales t full want cell u in
      let k = factor t full in
      ap (λ (d : ℕ). exact_sum q g *ℤ pos d) (exact-divisor-scaled q k (steps_on (finest_of t)) (finer_steps t u) f)
      ∙ multiplied (pos (common_all q k (steps_on (finest_of t)) (finer_steps t u) f)) (exact_sum q g) (pos (exact_divisor q))
      ∙ ap (λ z. z *ℤ pos (exact_divisor q)) (sym (sum-scaled q k (steps_on (finest_of t)) (finer_steps t u) f g));
}
  where
    same : full_outcome (finest_of t) ≡ full_outcome t
    same = full-same t full
