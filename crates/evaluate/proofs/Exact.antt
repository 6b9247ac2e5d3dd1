-- The exact value, the sum over all coefficients of coefficient times weights, is what the stages give without rounding, in any order of
-- the axes.
use mathlib.Core.Path.{◌≡◌, refl, sym, ap, ◌∙◌, fun_ext}
use mathlib.Core.List.{List, [], ◌∷◌}
use Prim.Native.Nat.{ℕ, ◌*◌, ◌<◌}
use lib.IntN.{ℤ, ◌*ℤ◌}
use Rattle.arith.specs.Sum.{sum, product}
use Rattle.arith.proofs.Laws.{*ℤ-assoc, *ℤ-pos-one}
use Rattle.arith.proofs.Quote.{quotes, ring! }
use Rattle.arith.proofs.Sums.{sum-ext, sum-right}
use Rattle.lattice.specs.Axes.{Place, Field, Rule, origin, put, along, sweep, axes, without}
use Rattle.lattice.proofs.Along.{put-at, put-off, Fresh, Distinct, distinct-axes, sweep-fuse, Reordered, sweep-order, last-first}
use Rattle.hermite.specs.Hermite.{forward, stage_sum}
use Rattle.hermite.proofs.HermiteLaws.{forward-linear, weigh, weigh-linear, stage-linear}
use Rattle.cell.specs.Coefficients.{coefficients}
use Rattle.evaluate.specs.Evaluate.{Ask, order_on, weight_on, sum_over, exact_sum, stage_on}

module _ (w : ℕ) (W : ℕ → ℕ → ℤ) where
  abbrev weighs : ℕ → Rule
  weighs a = weigh w (W a)

  -- a factor that varies along another axis only stays outside
  outside : (a : ℕ) (v : ℕ → ℤ) (ls : List ℕ) → Fresh a ls → (C : Field)
      → sweep ls weighs (λ i. C i *ℤ v (i a)) ≡ (λ p. sweep ls weighs C p *ℤ v (p a))
  unfolding sweep
  outside a v [] f C = refl
  outside a v (b ∷ ls) f C = ap (along b (weighs b)) (outside a v ls f.1 C) ∙ fun_ext (λ p. one (sweep ls weighs C) p)
    where
      regroup : (x y z : ℤ) → x *ℤ y *ℤ z ≡ x *ℤ z *ℤ y
      regroup x y z = ring! (x ∷ y ∷ z ∷ []) (search quotes depth 40) tt

      one : (X : Field) (p : Place)
          → sum w (λ t. X (put b t p) *ℤ v (put b t p a) *ℤ W b t) ≡ sum w (λ t. X (put b t p) *ℤ W b t) *ℤ v (p a)
      one X p =
          sum-ext w (λ t. X (put b t p) *ℤ v (put b t p a) *ℤ W b t) (λ t. X (put b t p) *ℤ W b t *ℤ v (p a))
          (λ t l. ap (λ (j : ℕ). X (put b t p) *ℤ v j *ℤ W b t) (put-off b t a p f.0) ∙ regroup (X (put b t p)) (v (p a)) (W b t))
          ∙ sum-right w (λ t. X (put b t p) *ℤ W b t) (v (p a))

  -- to sum with the products of weights is to weigh axis after axis
  pub weigh-each : (ls : List ℕ) → Distinct ls → (C : Field) → sum_over ls w (λ i. C i *ℤ product ls (λ a. W a (i a))) ≡ sweep ls weighs C
  unfolding sum_over sweep product
  weigh-each [] d C = fun_ext (λ i. *ℤ-pos-one (C i))
  weigh-each (a ∷ ls) d C =
      ap (λ (g : Field). along a (λ x j. sum w x) (sum_over ls w g))
      (fun_ext (λ i. sym (*ℤ-assoc (C i) (W a (i a)) (product ls (λ b. W b (i b))))))
      ∙ ap (along a (λ x j. sum w x)) (weigh-each ls d.1 (λ i. C i *ℤ W a (i a)) ∙ outside a (W a) ls d.0 C)
      ∙ fun_ext (λ p. sum-ext w (λ t. sweep ls weighs C (put a t p) *ℤ W a (put a t p a)) (λ t. sweep ls weighs C (put a t p) *ℤ W a t)
      (λ t l. ap (λ (j : ℕ). sweep ls weighs C (put a t p) *ℤ W a j) (put-at a t p)))

-- in any order
pub exact-stages : (q : Ask) (ls : List ℕ) → Reordered (axes q.n) ls → (g : Field) → exact_sum q g ≡ sweep ls (stage_on q) g origin
unfolding exact_sum coefficients weight_on stage_on stage_sum
exact-stages q ls r g =
    ap (λ (h : Field). h origin)
    (weigh-each (2 * q.m) (weight_on q) (axes q.n) (distinct-axes q.n) (coefficients q.m q.n q.cell g)
    ∙ sweep-fuse (axes q.n) (distinct-axes q.n) (λ a. weigh (2 * q.m) (weight_on q a)) (λ a. forward q.m (q.cell a))
    (λ a. weigh-linear (2 * q.m) (weight_on q a)) (λ a. forward-linear q.m (q.cell a)) g
    ∙ sweep-order r (stage_on q) (λ a. stage-linear (order_on q.want a) q.m (q.N a) (q.cell a) (q.step a)) g)

-- whatever axis is worked off last
pub exact-last : (q : Ask) (l : ℕ) → l < q.n → (g : Field)
    → exact_sum q g ≡ along l (stage_on q l) (sweep (without l (axes q.n)) (stage_on q) g) origin
unfolding sweep
exact-last q l h g = exact-stages q (l ∷ without l (axes q.n)) (last-first q.n l h) g
