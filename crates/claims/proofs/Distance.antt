-- How far the rounded stages are from the exact value, for every rounding that is off by at most half: each stage adds its own half and
-- carries the errors before it.
use mathlib.Core.Path.{◌≡◌, sym, ap, ap₂, ◌∙◌}
use mathlib.Core.List.{List, [], ◌∷◌}
use Prim.Native.Nat.{ℕ, zero, suc, ◌+◌, ◌*◌, ◌-◌, ◌^◌, ◌≤◌, ◌<◌}
use native.Mathlib.Nat.{le_trans, le_of_eq, mul-le-mul_left, mul-le-mul_right, le_of_mul-le-mul_left, pow-suc}
use native.Mathlib.Omega.{arith}
use lib.ListN.{length}
use lib.IntN.{ℤ, pos, ◌+ℤ◌, ◌-ℤ◌, ◌*ℤ◌, *ℤ_comm, nat_abs}
use Rattle.arith.specs.Int.{Rounding}
use Rattle.arith.specs.Sum.{sum, times}
use Rattle.arith.proofs.Abs.{abs-mul, abs-add}
use Rattle.arith.proofs.Choices.{by_n}
use Rattle.arith.proofs.Quote.{quotes, ring! }
use Rattle.arith.proofs.Round.{Sound}
use Rattle.lattice.specs.Axes.{Place, Field, Rule, origin, put, along, sweep}
use Rattle.lattice.proofs.Along.{Linear, linear-size, Each, last-first, times-order, length-order, length-axes}
use Rattle.hermite.specs.Hermite.{divisor, stage_sum}
use Rattle.hermite.specs.Stage.{Smooth}
use Rattle.hermite.proofs.HermiteLaws.{stage-linear}
use Rattle.hermite.proofs.Reach.{reach, gain, reach-gain}
use Rattle.hermite.proofs.Sizes.{divisor-some}
use Rattle.evaluate.specs.Evaluate.{Ask, order_wanted, order_on, last_axis, divisor_on, exact_sum, exact_divisor, stage_on, to_eighth, to_unit, in_eighths, before, answer_by}
use Rattle.evaluate.proofs.Exact.{exact-last}
use Rattle.evaluate.proofs.AnswerLaws.{order-before, order-on-last, order-smooth, each-before}
use Rattle.claims.specs.Third.{Fraction, allowed_distance, WithinDistance}

-- a question of one of the two degrees and an order that it permits, on up to three axes, the last one worked off among them, at steps of
-- the cell
pub record Proper (q : Ask) : Type 0 where
  pub m-low : 2 ≤ q.m
  pub m-high : q.m ≤ 3
  pub smooth : Smooth (order_wanted q.want) q.m
  pub n-high : q.n ≤ 3
  pub some : (a : ℕ) → a < q.n → 0 < q.N a
  pub last : last_axis q.n q.want < q.n
  pub inside : (a : ℕ) → a < q.n → q.step a ≤ q.N a

-- ---- one stage

-- what a linear rule makes of differences is the difference of what it makes
module _ {R : Rule} (L : Linear R) (c p e : ℤ) (G E : ℕ → ℤ) (j : ℕ) where
  apart : ℕ → ℤ
  apart t = c *ℤ (G t *ℤ p -ℤ e *ℤ E t)

  summed : (n : ℕ) (b g x : ℕ → ℤ)
      → sum n (λ t. b t *ℤ (c *ℤ (g t *ℤ p -ℤ e *ℤ x t))) ≡ c *ℤ (sum n (λ t. b t *ℤ g t) *ℤ p -ℤ e *ℤ sum n (λ t. b t *ℤ x t))
  unfolding sum
  summed zero b g x = ring! (c ∷ p ∷ e ∷ []) (record { left = search quotes depth 40; right = search quotes depth 40 }) tt
  summed (suc n) b g x =
      ap (λ z. z +ℤ b n *ℤ (c *ℤ (g n *ℤ p -ℤ e *ℤ x n))) (summed n b g x)
      ∙ one (sum n (λ t. b t *ℤ g t)) (sum n (λ t. b t *ℤ x t)) (b n) (g n) (x n)
    where
      one : (s t b g x : ℤ) → c *ℤ (s *ℤ p -ℤ e *ℤ t) +ℤ b *ℤ (c *ℤ (g *ℤ p -ℤ e *ℤ x)) ≡ c *ℤ ((s +ℤ b *ℤ g) *ℤ p -ℤ e *ℤ (t +ℤ b *ℤ x))
      one s t b g x = ring! (c ∷ p ∷ e ∷ s ∷ t ∷ b ∷ g ∷ x ∷ []) (search quotes depth 40 fits 4000) tt

  linear-apart : R apart j ≡ c *ℤ (R G j *ℤ p -ℤ e *ℤ R E j)
  unfolding apart
  linear-apart =
      L.is apart j ∙ summed L.width (L.factor j) (λ t. G (L.place j t)) (λ t. E (L.place j t))
      ∙ ap (λ z. c *ℤ (z *ℤ p -ℤ e *ℤ sum L.width (λ t. L.factor j t *ℤ E (L.place j t)))) (sym (L.is G j))
      ∙ ap (λ z. c *ℤ (R G j *ℤ p -ℤ e *ℤ z)) (sym (L.is E j))

-- x is the rounding's error, y the stage of the errors before, z both
arithmetic : (x y z H P Q A R g D : ℕ) → 2 * x ≤ H → 2 * Q * y ≤ R * (A * P) → 4 * R ≤ g * D → z ≤ x * P + y
    → 2 * (4 * Q) * z ≤ 4 * Q * (H * P) + g * D * (A * P)
arithmetic x y z H P Q A R g D hx hy hR hz =
    let f = mul-le-mul_left (4 * Q * P) hx in
    let h = mul-le-mul_right (A * P) hR in
    let k = mul-le-mul_left (8 * Q) hz in
    omega arith

-- G in eighths stands for E, which is over P, and is off by at most A / (2Q) eighths; the sum of the stage of G is divided by H
module _ (round : Rounding) (sound : Sound round) (k m N c u H P Q A : ℕ) (smooth : Smooth k m) (m2 : 2 ≤ m) (m3 : m ≤ 3) (hu : u ≤ N)
    (hH : 0 < H) (G E : ℕ → ℤ)
    (near : (t : ℕ) → 2 * Q * nat_abs (G t *ℤ pos P -ℤ pos 8 *ℤ E t) ≤ A * P) (j : ℕ) where
  stage-near : 2 * (4 * Q) * nat_abs (round (stage_sum k m N c u G j) H *ℤ pos (H * P) -ℤ pos 8 *ℤ stage_sum k m N c u E j)
      ≤ 4 * Q * (H * P) + gain k * divisor k m N * (A * P)
  unfolding reach stage-linear apart
  stage-near =
      arithmetic (nat_abs (r *ℤ pos H -ℤ S)) (nat_abs (S *ℤ pos P -ℤ pos 8 *ℤ X)) (nat_abs (r *ℤ pos (H * P) -ℤ pos 8 *ℤ X)) H P Q A
      (reach k m N u) (gain k) (divisor k m N)
      (sound.nearly S H hH) carried (reach-gain k m N u smooth m2 m3 hu) both
    where
      S : ℤ
      S = stage_sum k m N c u G j

      X : ℤ
      X = stage_sum k m N c u E j

      r : ℤ
      r = round S H

      L : Linear (stage_sum k m N c u)
      L = stage-linear k m N c u

      split : (r H P S X : ℤ) → r *ℤ (H *ℤ P) -ℤ pos 8 *ℤ X ≡ (r *ℤ H -ℤ S) *ℤ P +ℤ (S *ℤ P -ℤ pos 8 *ℤ X)
      split r H P S X = ring! (r ∷ H ∷ P ∷ S ∷ X ∷ []) (search quotes depth 40) tt

      both : nat_abs (r *ℤ pos (H * P) -ℤ pos 8 *ℤ X) ≤ nat_abs (r *ℤ pos H -ℤ S) * P + nat_abs (S *ℤ pos P -ℤ pos 8 *ℤ X)
      both =
          let e = ap nat_abs (split r (pos H) (pos P) S X) in
          let f = abs-add ((r *ℤ pos H -ℤ S) *ℤ pos P) (S *ℤ pos P -ℤ pos 8 *ℤ X) in
          let g = abs-mul (r *ℤ pos H -ℤ S) (pos P) in
          omega arith

      carried : 2 * Q * nat_abs (S *ℤ pos P -ℤ pos 8 *ℤ X) ≤ reach k m N u * (A * P)
      carried =
          le_trans
          (le_of_eq (sym (ap nat_abs (linear-apart L (pos (2 * Q)) (pos P) (pos 8) G E j)
          ∙ abs-mul (pos (2 * Q)) (S *ℤ pos P -ℤ pos 8 *ℤ X))))
          (linear-size L (apart L (pos (2 * Q)) (pos P) (pos 8) G E j) j (A * P)
          (λ t l. le_trans (le_of_eq (abs-mul (pos (2 * Q)) (G (L.place j t) *ℤ pos P -ℤ pos 8 *ℤ E (L.place j t))))
          (near (L.place j t))))

-- ---- all stages

-- the error after k stages, in eighths, times 2·4^k
unfoldable error : ℕ → ℕ
error zero = 0
error (suc k) = 4 ^ suc k + 5 * error k

module _ (round : Rounding) (sound : Sound round) (q : Ask) (ok : Proper q) (g : Field) where
  -- no derivative, a step of the cell, and some steps
  abbrev Plain : ℕ → Type 0
  Plain a = (order_on q.want a ≡ 0) × (q.step a ≤ q.N a) × (0 < q.N a)

  abbrev got : List ℕ → Field
  got ls = sweep ls (to_eighth round q) (in_eighths g)

  abbrev exact : List ℕ → Field
  exact ls = sweep ls (stage_on q) g

  abbrev scale : List ℕ → ℕ
  scale ls = times ls (divisor_on q)

  stages-near : (ls : List ℕ) → Each Plain ls → (p : Place)
      → 2 * 4 ^ length ls * nat_abs (got ls p *ℤ pos (scale ls) -ℤ pos 8 *ℤ exact ls p) ≤ error (length ls) * scale ls
  unfolding sweep times in_eighths error to_eighth stage_on divisor_on gain
  stages-near [] h p = le_trans (le_of_eq (ap (λ (z : ℤ). 2 * 1 * nat_abs z) (start (g p)))) (omega arith)
    where
      start : (z : ℤ) → pos 8 *ℤ z *ℤ pos 1 -ℤ pos 8 *ℤ z ≡ pos 0
      start z = ring! (z ∷ []) (record { left = search quotes depth 40; right = search quotes depth 40 }) tt
  stages-near (a ∷ ls) h p =
      next (4 ^ length ls) (4 ^ suc (length ls)) (divisor k q.m (q.N a)) (scale ls) (error (length ls)) (gain k)
      (nat_abs (got (a ∷ ls) p *ℤ pos (scale (a ∷ ls)) -ℤ pos 8 *ℤ exact (a ∷ ls) p)) (pow-suc 4 (length ls)) (ap gain h.0.0)
      (stage-near round sound k q.m (q.N a) (q.cell a) (q.step a) (divisor k q.m (q.N a)) (scale ls) (4 ^ length ls)
      (error (length ls)) (order-smooth q.want a q.m ok.smooth) ok.m-low ok.m-high h.0.1
      (divisor-some k q.m (q.N a) h.0.2)
      (λ t. got ls (put a t p)) (λ t. exact ls (put a t p)) (λ t. stages-near ls h.1 (put a t p)) (p a))
    where
      k : ℕ
      k = order_on q.want a

      next : (Q R H P A w z : ℕ) → R ≡ Q * 4 → w ≡ 5 → 2 * (4 * Q) * z ≤ 4 * Q * (H * P) + w * H * (A * P)
          → 2 * R * z ≤ (R + 5 * A) * (H * P)
      next Q R H P A w z e f h = rw e (let i = rw f at h in omega arith)

  -- ---- the last stage

  plain : Each Plain (before q)
  plain = each-before q Plain (λ a l n. (order-before q.want a q.n n, ok.inside a l, ok.some a l))

  answer-near : 64 * 4 ^ length (before q) * nat_abs (answer_by round q g *ℤ pos (exact_divisor q) -ℤ exact_sum q g)
      ≤ (32 * 4 ^ length (before q) + gain (order_on q.want (last_axis q.n q.want)) * error (length (before q))) * exact_divisor q
  unfolding answer_by to_unit stage_on divisor_on before exact_divisor times
  answer-near =
      finish (4 ^ length (before q)) D P (error (length (before q))) (gain k) (exact_divisor q) v X (exact_sum q g)
      (times-order (last-first q.n l ok.last) (divisor_on q)) (exact-last q l ok.last g)
      (stage-near round sound k q.m (q.N l) (q.cell l) (q.step l) (8 * D) P (4 ^ length (before q)) (error (length (before q)))
      (order-smooth q.want l q.m ok.smooth) ok.m-low ok.m-high (ok.inside l ok.last)
      (more D (divisor-some k q.m (q.N l) (ok.some l ok.last)))
      (λ t. got (before q) (put l t origin)) (λ t. exact (before q) (put l t origin))
      (λ t. stages-near (before q) plain (put l t origin)) 0)
    where
      l : ℕ
      l = last_axis q.n q.want

      k : ℕ
      k = order_on q.want l

      D : ℕ
      D = divisor k q.m (q.N l)

      P : ℕ
      P = scale (before q)

      v : ℤ
      v = answer_by round q g

      X : ℤ
      X = along l (stage_on q l) (exact (before q)) origin

      more : (D : ℕ) → 0 < D → 0 < 8 * D
      more D h = omega arith

      eight : (v D P X : ℤ) → v *ℤ (pos 8 *ℤ D *ℤ P) -ℤ pos 8 *ℤ X ≡ pos 8 *ℤ (v *ℤ (D *ℤ P) -ℤ X)
      eight v D P X = ring! (v ∷ D ∷ P ∷ X ∷ []) (search quotes depth 40) tt

      finish : (Q D P A w C : ℕ) (v X Y : ℤ) → C ≡ D * P → Y ≡ X
          → 2 * (4 * Q) * nat_abs (v *ℤ pos (8 * D * P) -ℤ pos 8 *ℤ X) ≤ 4 * Q * (8 * D * P) + w * D * (A * P)
          → 64 * Q * nat_abs (v *ℤ pos C -ℤ Y) ≤ (32 * Q + w * A) * C
      finish Q D P A w C v X Y e f h =
          rw (e, f) (let i = ap nat_abs (eight v (pos D) (pos P) X) ∙ abs-mul (pos 8) (v *ℤ pos (D * P) -ℤ X) in let j = rw i at h in
          omega arith)

-- ---- the distances

abbrev Sums : ℕ → ℕ → Type 0
Sums k n = (v x : ℤ) (C : ℕ) → 64 * 4 ^ (n - 1) * nat_abs (v *ℤ pos C -ℤ x) ≤ (32 * 4 ^ (n - 1) + gain k * error (n - 1)) * C
    → WithinDistance (allowed_distance k n) v x C

distances : (k n : ℕ) → 1 ≤ n → n ≤ 3 → Sums k n
unfolding allowed_distance gain error
distances zero = by_n (Sums 0) (λ v x C h. omega arith) (λ v x C h. omega arith) (λ v x C h. omega arith)
distances (suc zero) = by_n (Sums 1) (λ v x C h. omega arith) (λ v x C h. omega arith) (λ v x C h. omega arith)
distances (suc (suc k)) = by_n (Sums (suc (suc k))) (λ v x C h. omega arith) (λ v x C h. omega arith) (λ v x C h. omega arith)

pub distance : (round : Rounding) → Sound round → (q : Ask) → Proper q → (g : Field)
    → WithinDistance (allowed_distance (order_wanted q.want) q.n) (answer_by round q g) (exact_sum q g) (exact_divisor q)
unfolding before
distance round sound q ok g =
    distances (order_wanted q.want) q.n (let h = ok.last in omega arith) ok.n-high (answer_by round q g) (exact_sum q g)
    (exact_divisor q)
    (rw (sym stages, sym (order-on-last q.want q.n)) (answer-near round sound q ok g))
  where
    stages : length (before q) ≡ q.n - 1
    stages = let e = sym (length-axes q.n) ∙ length-order (last-first q.n (last_axis q.n q.want) ok.last) in omega arith

-- ---- equal fractions

-- x / d and y / c
pub same-fraction : (f : Fraction) (v x y : ℤ) (d c : ℕ) → 0 < d → x *ℤ pos c ≡ y *ℤ pos d → WithinDistance f v x d → WithinDistance f v y c
same-fraction f v x y d c some e h =
    le_of_mul-le-mul_left (go f.bottom f.top (nat_abs (v *ℤ pos d -ℤ x)) (nat_abs (v *ℤ pos c -ℤ y)) h both) some
  where
    spread : (v x c d : ℤ) → (v *ℤ d -ℤ x) *ℤ c ≡ v *ℤ (d *ℤ c) -ℤ x *ℤ c
    spread v x c d = ring! (v ∷ x ∷ c ∷ d ∷ []) (search quotes depth 40) tt

    across : (v *ℤ pos d -ℤ x) *ℤ pos c ≡ (v *ℤ pos c -ℤ y) *ℤ pos d
    across = spread v x (pos c) (pos d) ∙ ap₂ (λ i j. v *ℤ i -ℤ j) (*ℤ_comm (pos d) (pos c)) e ∙ sym (spread v y (pos d) (pos c))

    both : nat_abs (v *ℤ pos d -ℤ x) * c ≡ nat_abs (v *ℤ pos c -ℤ y) * d
    both = sym (abs-mul (v *ℤ pos d -ℤ x) (pos c)) ∙ ap nat_abs across ∙ abs-mul (v *ℤ pos c -ℤ y) (pos d)

    go : (b t m n : ℕ) → b * m ≤ t * d → m * c ≡ n * d → d * (b * n) ≤ d * (t * c)
    go b t m n h k = let i = mul-le-mul_right c h in let j = ap (λ (z : ℕ). b * z) k in omega arith
