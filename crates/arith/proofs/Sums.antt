-- Finite sums: they are linear, change places, are cut in two, and are no larger than the sum of the sizes.
use mathlib.Core.Path.{◌≡◌, refl, sym, ap, ap₂, subst, ◌∙◌}
use mathlib.Core.List.{List, [], ◌∷◌}
use Prim.Native.Nat.{ℕ, zero, suc, ◌+◌, ◌*◌, ◌-◌, ◌≤◌, ◌<◌}
use native.Mathlib.Nat.{le_refl, le_trans, le_of_eq, add-le-add, mul-le-mul_left, add-zero, add-suc, le-add_right, le-add_left, mul-pos, not-suc-le-zero}
use native.Mathlib.Omega.{arith}
use lib.Dec.{lit≤}
use lib.IntN.{ℤ, pos, neg_ℤ, ◌+ℤ◌, ◌*ℤ◌, nat_abs, *ℤ-zero, zero-*ℤ, +ℤ_idl, +ℤ_idr, neg_ℤ-+ℤ}
use Rattle.arith.specs.Sum.{sum, total, times}
use Rattle.arith.proofs.Laws.{+ℤ-swap4, +ℤ-*ℤ, *ℤ-+ℤ}
use Rattle.arith.proofs.Abs.{abs-add, abs-mul}
use Rattle.arith.proofs.Choices.{by-m}
use Rattle.arith.proofs.Quote.{quotes, ring! }

-- ---- sums of integers

pub sum-ext : (n : ℕ) (f g : ℕ → ℤ) → ((i : ℕ) → i < n → f i ≡ g i) → sum n f ≡ sum n g
unfolding sum
sum-ext zero f g h = refl
sum-ext (suc n) f g h = ap (λ x. x +ℤ f n) (sum-ext n f g (λ i p. h i (omega arith))) ∙ ap (λ x. sum n g +ℤ x) (h n (omega arith))

pub sum-add : (n : ℕ) (f g : ℕ → ℤ) → sum n (λ i. f i +ℤ g i) ≡ sum n f +ℤ sum n g
unfolding sum
sum-add zero f g = refl
sum-add (suc n) f g = ap (λ x. x +ℤ (f n +ℤ g n)) (sum-add n f g) ∙ +ℤ-swap4 (sum n f) (sum n g) (f n) (g n)

pub sum_left : (n : ℕ) (c : ℤ) (f : ℕ → ℤ) → sum n (λ i. c *ℤ f i) ≡ c *ℤ sum n f
unfolding sum
sum_left zero c f = sym (*ℤ-zero c)
sum_left (suc n) c f = ap (λ x. x +ℤ c *ℤ f n) (sum_left n c f) ∙ sym (*ℤ-+ℤ c (sum n f) (f n))

pub sum-right : (n : ℕ) (f : ℕ → ℤ) (c : ℤ) → sum n (λ i. f i *ℤ c) ≡ sum n f *ℤ c
unfolding sum
sum-right zero f c = sym (zero-*ℤ c)
sum-right (suc n) f c = ap (λ x. x +ℤ f n *ℤ c) (sum-right n f c) ∙ sym (+ℤ-*ℤ (sum n f) (f n) c)

pub sum-zero : (n : ℕ) (f : ℕ → ℤ) → ((i : ℕ) → i < n → f i ≡ pos 0) → sum n f ≡ pos 0
unfolding sum
sum-zero zero f h = refl
sum-zero (suc n) f h = ap (λ z. z +ℤ f n) (sum-zero n f (λ i l. h i (omega arith))) ∙ ap (λ z. pos 0 +ℤ z) (h n (omega arith))

-- nothing but the first
pub sum_first : (n : ℕ) → 0 < n → (f : ℕ → ℤ) → ((i : ℕ) → 0 < i → i < n → f i ≡ pos 0) → sum n f ≡ f 0
unfolding sum
sum_first zero p f h = absurd (not-suc-le-zero p)
sum_first (suc zero) p f h = +ℤ_idl (f 0)
sum_first (suc (suc n)) p f h =
    ap₂ ◌+ℤ◌ (sum_first (suc n) (omega arith) f (λ i l k. h i l (omega arith))) (h (suc n) (omega arith) (omega arith)) ∙ +ℤ_idr (f 0)

pub sum-neg : (n : ℕ) (f : ℕ → ℤ) → sum n (λ i. neg_ℤ (f i)) ≡ neg_ℤ (sum n f)
unfolding sum
sum-neg zero f = refl
sum-neg (suc n) f = ap (λ z. z +ℤ neg_ℤ (f n)) (sum-neg n f) ∙ sym (neg_ℤ-+ℤ (sum n f) (f n))

-- two sums change places
pub sum-swap : (n m : ℕ) (f : ℕ → ℕ → ℤ) → sum n (λ i. sum m (λ j. f i j)) ≡ sum m (λ j. sum n (λ i. f i j))
unfolding sum
sum-swap zero m f = sym (sum-zero m (λ j. pos 0) (λ j l. refl))
sum-swap (suc n) m f = ap (λ x. x +ℤ sum m (λ j. f n j)) (sum-swap n m f) ∙ sym (sum-add m (λ j. sum n (λ i. f i j)) (λ j. f n j))

-- ---- sums of natural numbers

pub total_ext : (n : ℕ) (f g : ℕ → ℕ) → ((i : ℕ) → i < n → f i ≡ g i) → total n f ≡ total n g
unfolding total
total_ext zero f g h = refl
total_ext (suc n) f g h = let e = total_ext n f g (λ i l. h i (omega arith)) in let k = h n (omega arith) in omega arith

pub total_mono : (n : ℕ) (f g : ℕ → ℕ) → ((i : ℕ) → i < n → f i ≤ g i) → total n f ≤ total n g
unfolding total
total_mono zero f g h = le_refl 0
total_mono (suc n) f g h = add-le-add (total_mono n f g (λ i p. h i (omega arith))) (h n (omega arith))

pub total_right : (n : ℕ) (f : ℕ → ℕ) (c : ℕ) → total n (λ i. f i * c) ≡ total n f * c
unfolding total
total_right zero f c = omega arith
total_right (suc n) f c = let h = total_right n f c in omega arith

total-more : (k j : ℕ) (f : ℕ → ℕ) → total k f ≤ total (k + j) f
unfolding total
total-more k zero f = rw add-zero (le_refl (total k f))
total-more k (suc j) f = rw (add-suc k j) (le_trans (total-more k j f) (le-add_right (total (k + j) f) (f (k + j))))

pub times-some : (ls : List ℕ) (f : ℕ → ℕ) → ((a : ℕ) → 0 < f a) → 0 < times ls f
unfolding times
times-some [] f h = omega arith
times-some (a ∷ ls) f h = mul-pos (h a) (times-some ls f h)

-- a shorter sum is at most a longer one
pub total-part : (k n : ℕ) (f : ℕ → ℕ) → k ≤ n → total k f ≤ total n f
total-part k n f h = subst (λ (x : ℕ). total k f ≤ total x f) (rejoined k n h) (total-more k (n - k) f)
  where
    rejoined : (k n : ℕ) → k ≤ n → k + (n - k) ≡ n
    rejoined k n h = omega arith

-- ---- two ends, and three numbers

-- two ends of m numbers each
module _ (m : ℕ) (m2 : 2 ≤ m) (m3 : m ≤ 3) where
  pub sum-ends : (f : ℕ → ℤ) → sum (2 * m) f ≡ sum m f +ℤ sum m (λ o. f (m + o))
  unfolding sum
  sum-ends = by-m (λ m. (f : ℕ → ℤ) → sum (2 * m) f ≡ sum m f +ℤ sum m (λ o. f (m + o)))
      (λ f. ring! (f 0 ∷ f 1 ∷ f 2 ∷ f 3 ∷ []) (search quotes depth 40) tt)
      (λ f. ring! (f 0 ∷ f 1 ∷ f 2 ∷ f 3 ∷ f 4 ∷ f 5 ∷ []) (search quotes depth 40) tt) m m2 m3

  -- the high end counted from its end
  pub sum-halves : (f : ℕ → ℤ) → sum (2 * m) f ≡ sum m f +ℤ sum m (λ k. f (2 * m - 1 - k))
  unfolding sum
  sum-halves = by-m (λ m. (f : ℕ → ℤ) → sum (2 * m) f ≡ sum m f +ℤ sum m (λ k. f (2 * m - 1 - k)))
      (λ f. ring! (f 0 ∷ f 1 ∷ f 2 ∷ f 3 ∷ []) (search quotes depth 40) tt)
      (λ f. ring! (f 0 ∷ f 1 ∷ f 2 ∷ f 3 ∷ f 4 ∷ f 5 ∷ []) (search quotes depth 40) tt) m m2 m3

  pub total-ends : (f : ℕ → ℕ) → total (2 * m) f ≡ total m f + total m (λ o. f (m + o))
  unfolding total
  total-ends = by-m (λ m. (f : ℕ → ℕ) → total (2 * m) f ≡ total m f + total m (λ o. f (m + o))) (λ f. omega arith)
      (λ f. omega arith) m m2 m3

-- three numbers of which there are m, the others nothing
module _ (m : ℕ) (m2 : 2 ≤ m) (m3 : m ≤ 3) where
  pub sum-three : (f : ℕ → ℤ) → ((o : ℕ) → m ≤ o → o < 3 → f o ≡ pos 0) → sum 3 f ≡ sum m f
  unfolding sum
  sum-three = by-m (λ m. (f : ℕ → ℤ) → ((o : ℕ) → m ≤ o → o < 3 → f o ≡ pos 0) → sum 3 f ≡ sum m f)
      (λ f h. ap (λ z. sum 2 f +ℤ z) (h 2 (lit≤ tt) (lit≤ tt)) ∙ +ℤ_idr (sum 2 f)) (λ f h. refl) m m2 m3

  pub total-three : (f : ℕ → ℕ) → ((o : ℕ) → m ≤ o → o < 3 → f o ≡ 0) → total 3 f ≡ total m f
  unfolding total
  total-three = by-m (λ m. (f : ℕ → ℕ) → ((o : ℕ) → m ≤ o → o < 3 → f o ≡ 0) → total 3 f ≡ total m f)
      (λ f h. let e = h 2 (lit≤ tt) (lit≤ tt) in omega arith) (λ f h. refl) m m2 m3

-- ---- sizes

pub abs-sum : (n : ℕ) (f : ℕ → ℤ) → nat_abs (sum n f) ≤ total n (λ i. nat_abs (f i))
unfolding sum total
abs-sum zero f = le_refl 0
abs-sum (suc n) f = le_trans (abs-add (sum n f) (f n)) (add-le-add (abs-sum n f) (le_refl (nat_abs (f n))))

-- numbers within B, each times its factor, sum to no more than B times the sizes of the factors
pub abs-weighted : (n : ℕ) (k x : ℕ → ℤ) (B : ℕ) → ((i : ℕ) → i < n → nat_abs (x i) ≤ B)
    → nat_abs (sum n (λ i. k i *ℤ x i)) ≤ total n (λ i. nat_abs (k i)) * B
abs-weighted n k x B h =
    le_trans (abs-sum n (λ i. k i *ℤ x i))
    (le_trans (total_mono n (λ i. nat_abs (k i *ℤ x i)) (λ i. nat_abs (k i) * B)
    (λ i l. le_trans (le_of_eq (abs-mul (k i) (x i))) (mul-le-mul_left (nat_abs (k i)) (h i l))))
    (le_of_eq (total_right n (λ i. nat_abs (k i)) B)))

-- numbers within B times a measure of their own, each times its factor
module _ (n : ℕ) (k x : ℕ → ℤ) (g : ℕ → ℕ) (B : ℕ) (h : (i : ℕ) → i < n → nat_abs (x i) ≤ B * g i) where
  pub graded-total : total n (λ i. nat_abs (k i) * nat_abs (x i)) ≤ total n (λ i. nat_abs (k i) * g i) * B
  graded-total =
      le_trans (total_mono n (λ i. nat_abs (k i) * nat_abs (x i)) (λ i. nat_abs (k i) * g i * B)
      (λ i l. le_trans (mul-le-mul_left (nat_abs (k i)) (h i l)) (le_of_eq (regroup (nat_abs (k i)) B (g i)))))
      (le_of_eq (total_right n (λ i. nat_abs (k i) * g i) B))
    where
      regroup : (s b w : ℕ) → s * (b * w) ≡ s * w * b
      regroup s b w = omega arith

  pub graded-sum : nat_abs (sum n (λ i. k i *ℤ x i)) ≤ total n (λ i. nat_abs (k i) * g i) * B
  graded-sum =
      le_trans (abs-sum n (λ i. k i *ℤ x i))
      (le_trans (le_of_eq (total_ext n (λ i. nat_abs (k i *ℤ x i)) (λ i. nat_abs (k i) * nat_abs (x i)) (λ i l. abs-mul (k i) (x i))))
      graded-total)

-- a sum of products whose sizes sum to at most B: so do each product and each shorter sum
module _ (n : ℕ) (f g : ℕ → ℤ) (B : ℕ) (small : total n (λ j. nat_abs (f j) * nat_abs (g j)) ≤ B) where
  dot-parts : (k : ℕ) → k ≤ n → total k (λ j. nat_abs (f j *ℤ g j)) ≤ B
  dot-parts k h =
      le_trans (total_mono k (λ j. nat_abs (f j *ℤ g j)) (λ j. nat_abs (f j) * nat_abs (g j)) (λ i p. le_of_eq (abs-mul (f i) (g i))))
      (le_trans (total-part k n (λ j. nat_abs (f j) * nat_abs (g j)) h) small)

  pub dot-sum : (k : ℕ) → k ≤ n → nat_abs (sum k (λ j. f j *ℤ g j)) ≤ B
  dot-sum k h = le_trans (abs-sum k (λ j. f j *ℤ g j)) (dot-parts k h)

  pub dot-term : (k : ℕ) → k < n → nat_abs (f k *ℤ g k) ≤ B
  unfolding total
  dot-term k h =
      le_trans (le-add_left (nat_abs (f k *ℤ g k)) (total k (λ j. nat_abs (f j *ℤ g j)))) (dot-parts (suc k) h)
