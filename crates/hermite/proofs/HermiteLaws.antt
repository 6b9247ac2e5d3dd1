-- One axis: coefficients and stages are linear and depend on the numbers of the cell only; each coefficient and each basis number belongs
-- to
-- one end, and the high end is the low one mirrored.
use mathlib.Core.Path.{◌≡◌, refl, sym, ap, ap₂, ◌∙◌, fun_ext}
use mathlib.Core.List.{[], ◌∷◌}
use Prim.Native.Nat.{ℕ, zero, suc, ◌+◌, ◌*◌, ◌-◌, ◌≤◌, ◌<◌}
use native.Mathlib.Nat.{zero-add, suc-add}
use native.Mathlib.Omega.{arith}
use borrow.Author.Tests.{lt-ltb, le-ltb}
use lib.IntN.{ℤ, pos, neg_ℤ, ◌+ℤ◌, ◌-ℤ◌, ◌*ℤ◌, *ℤ_comm, zero-*ℤ, +ℤ_idl, +ℤ_idr, nat_abs, neg_ℤ-neg_ℤ}
use Rattle.arith.proofs.Abs.{abs_neg}
use Rattle.arith.proofs.Choices.{pick_true, pick-false}
use Rattle.arith.proofs.Laws.{negℤ-*ℤ, *ℤ-negℤ}
use Rattle.arith.proofs.Quote.{quotes, ring! }
use Rattle.arith.proofs.Sums.{sum-ext, sum-right, sum-swap, sum-zero, sum-neg, sum-ends, sum-halves}
use Rattle.arith.specs.Int.{◌^ℤ◌}
use Rattle.arith.specs.Sum.{sum}
use Rattle.lattice.specs.Axes.{Rule}
use Rattle.lattice.proofs.Along.{Linear}
use Rattle.hermite.specs.Hermite.{multiplier, mirrored, share, forward, weight, weight_at, stage_sum, basis}

-- ---- linear

unfoldable pub forward-linear : (m c : ℕ) → Linear (forward m c)
unfolding forward
forward-linear m c = record { width = 2 * m; factor = share m; place = λ i t. m * c + t; is = λ x i. refl }

-- numbers with weights w
abbrev pub weigh : ℕ → (ℕ → ℤ) → Rule
weigh n w x j = sum n (λ i. x i *ℤ w i)

unfoldable pub weigh-linear : (n : ℕ) (w : ℕ → ℤ) → Linear (weigh n w)
weigh-linear n w =
    record {
      width = n;
      factor = λ j i. w i;
      place = λ j i. i;
      is =
          λ x j. sum-ext n (λ i. x i *ℤ w i) (λ i. w i *ℤ x i) (λ i l. *ℤ_comm (x i) (w i));
    }

unfoldable pub stage-linear : (k m N c u : ℕ) → Linear (stage_sum k m N c u)
unfolding stage_sum forward basis
stage-linear k m N c u = record
    { width = 2 * m; factor = λ j t. basis k m N u t; place = λ j t. m * c + t; is = λ x j. by_number (λ t. x (m * c + t)) }
  where
    W : ℕ → ℤ
    W i = weight_at k m N u i

    regroup : (s x w : ℤ) → s *ℤ x *ℤ w ≡ s *ℤ w *ℤ x
    regroup s x w = ring! (s ∷ x ∷ w ∷ []) (search quotes depth 40) tt

    by_number : (y : ℕ → ℤ) → sum (2 * m) (λ i. sum (2 * m) (λ t. share m i t *ℤ y t) *ℤ W i) ≡ sum (2 * m) (λ t. basis k m N u t *ℤ y t)
    by_number y =
        sum-ext (2 * m) (λ i. sum (2 * m) (λ t. share m i t *ℤ y t) *ℤ W i) (λ i. sum (2 * m) (λ t. share m i t *ℤ W i *ℤ y t))
        (λ i l. sym (sum-right (2 * m) (λ t. share m i t *ℤ y t) (W i))
        ∙ sum-ext (2 * m) (λ t. share m i t *ℤ y t *ℤ W i) (λ t. share m i t *ℤ W i *ℤ y t) (λ t k. regroup (share m i t) (y t) (W i)))
        ∙ sum-swap (2 * m) (2 * m) (λ i t. share m i t *ℤ W i *ℤ y t)
        ∙ sum-ext (2 * m) (λ t. sum (2 * m) (λ i. share m i t *ℤ W i *ℤ y t)) (λ t. basis k m N u t *ℤ y t)
        (λ t l. sum-right (2 * m) (λ i. share m i t *ℤ W i) (y t))

-- ---- one cell and another whose numbers are the same

pub forward-moved : (m c d : ℕ) (x y : ℕ → ℤ) → ((t : ℕ) → t < 2 * m → x (m * c + t) ≡ y (m * d + t)) → forward m c x ≡ forward m d y
unfolding forward
forward-moved m c d x y h = fun_ext (λ i.
    sum-ext (2 * m) (λ t. share m i t *ℤ x (m * c + t)) (λ t. share m i t *ℤ y (m * d + t)) (λ t l. ap (λ z. share m i t *ℤ z) (h t l)))

pub stage-moved : (k m N c d u : ℕ) (x y : ℕ → ℤ) → ((t : ℕ) → t < 2 * m → x (m * c + t) ≡ y (m * d + t)) → (i j : ℕ)
    → stage_sum k m N c u x i ≡ stage_sum k m N d u y j
unfolding stage_sum
stage-moved k m N c d u x y h i j = ap (λ (f : ℕ → ℤ). sum (2 * m) (λ i. f i *ℤ weight_at k m N u i)) (forward-moved m c d x y h)

-- ---- a number of the high end

pub mirrored-suc : (o : ℕ) (z : ℤ) → mirrored (suc o) z ≡ neg_ℤ (mirrored o z)
unfolding mirrored
mirrored-suc zero z = refl
mirrored-suc (suc zero) z = sym (neg_ℤ-neg_ℤ z)
mirrored-suc (suc (suc o)) z = mirrored-suc o z

pub mirrored-twice : (o k : ℕ) (z : ℤ) → mirrored o (mirrored k z) ≡ mirrored (o + k) z
unfolding mirrored
mirrored-twice zero k z = ap (λ (i : ℕ). mirrored i z) (sym (zero-add k))
mirrored-twice (suc o) k z = mirrored-suc o (mirrored k z) ∙ ap neg_ℤ (mirrored-twice o k z)
    ∙ sym (ap (λ (i : ℕ). mirrored i z) (suc-add o k) ∙ mirrored-suc (o + k) z)

pub mirrored-mul : (o : ℕ) (x z : ℤ) → mirrored o x *ℤ z ≡ mirrored o (x *ℤ z)
unfolding mirrored
mirrored-mul zero x z = refl
mirrored-mul (suc zero) x z = negℤ-*ℤ x z
mirrored-mul (suc (suc o)) x z = mirrored-mul o x z

pub mul-mirrored : (o : ℕ) (x z : ℤ) → x *ℤ mirrored o z ≡ mirrored o (x *ℤ z)
unfolding mirrored
mul-mirrored zero x z = refl
mul-mirrored (suc zero) x z = *ℤ-negℤ x z
mul-mirrored (suc (suc o)) x z = mul-mirrored o x z

pub sum-mirrored : (n o : ℕ) (f : ℕ → ℤ) → sum n (λ i. mirrored o (f i)) ≡ mirrored o (sum n f)
unfolding mirrored
sum-mirrored n zero f = refl
sum-mirrored n (suc zero) f = sum-neg n f
sum-mirrored n (suc (suc o)) f = sum-mirrored n o f

pub mirrored-size : (o : ℕ) (z : ℤ) → nat_abs (mirrored o z) ≡ nat_abs z
unfolding mirrored
mirrored-size zero z = refl
mirrored-size (suc zero) z = abs_neg z
mirrored-size (suc (suc o)) z = mirrored-size o z

pub mirrored-none : (o : ℕ) → mirrored o (pos 0) ≡ pos 0
unfolding mirrored
mirrored-none zero = refl
mirrored-none (suc zero) = refl
mirrored-none (suc (suc o)) = mirrored-none o

-- ---- what a coefficient takes

module _ (m : ℕ) where
  share-low : (i t : ℕ) → i < m → t < m → share m i t ≡ multiplier m i t
  unfolding share
  share-low i t p q = simp (pick_true {A = ℤ}, lt-ltb i m p, lt-ltb t m q)

  share-cross : (i t : ℕ) → i < m → m ≤ t → share m i t ≡ pos 0
  unfolding share
  share-cross i t p q = simp (pick_true {A = ℤ}, pick-false {A = ℤ}, lt-ltb i m p, le-ltb t m q)

  share-across : (i t : ℕ) → m ≤ i → t < m → share m i t ≡ pos 0
  unfolding share
  share-across i t p q = simp (pick_true {A = ℤ}, pick-false {A = ℤ}, le-ltb i m p, lt-ltb t m q)

  -- the coefficient counted from the high end, the number from the first of that end
  share-high : (k o : ℕ) → k < m → share m (2 * m - 1 - k) (m + o) ≡ mirrored o (multiplier m k o)
  unfolding share
  share-high k o p =
      let again : 2 * m - 1 - (2 * m - 1 - k) ≡ k = omega arith in
      let first : m + o - m ≡ o = omega arith in
      simp (pick-false {A = ℤ}, le-ltb (2 * m - 1 - k) m (omega arith), le-ltb (m + o) m (omega arith), again, first)

-- coefficients by ends: the low ones of the low end, the high ones, counted from there, of the high end with its numbers mirrored
module _ (m c : ℕ) (m2 : 2 ≤ m) (m3 : m ≤ 3) (x : ℕ → ℤ) where
  pub forward-low : (i : ℕ) → i < m → forward m c x i ≡ sum m (λ o. multiplier m i o *ℤ x (m * c + o))
  unfolding forward
  forward-low i l =
      sum-ends m m2 m3 (λ t. share m i t *ℤ x (m * c + t))
      ∙ ap₂ ◌+ℤ◌
      (sum-ext m (λ o. share m i o *ℤ x (m * c + o)) (λ o. multiplier m i o *ℤ x (m * c + o))
      (λ o p. ap (λ z. z *ℤ x (m * c + o)) (share-low m i o l p)))
      (sum-zero m (λ o. share m i (m + o) *ℤ x (m * c + (m + o)))
      (λ o p. ap (λ z. z *ℤ x (m * c + (m + o))) (share-cross m i (m + o) l (omega arith)) ∙ zero-*ℤ (x (m * c + (m + o)))))
      ∙ +ℤ_idr (sum m (λ o. multiplier m i o *ℤ x (m * c + o)))

  pub forward-high : (k : ℕ) → k < m → forward m c x (2 * m - 1 - k) ≡ sum m (λ o. multiplier m k o *ℤ mirrored o (x (m * c + (m + o))))
  unfolding forward
  forward-high k l =
      sum-ends m m2 m3 (λ t. share m (2 * m - 1 - k) t *ℤ x (m * c + t))
      ∙ ap₂ ◌+ℤ◌
      (sum-zero m (λ o. share m (2 * m - 1 - k) o *ℤ x (m * c + o))
      (λ o p. ap (λ z. z *ℤ x (m * c + o)) (share-across m (2 * m - 1 - k) o (omega arith) p) ∙ zero-*ℤ (x (m * c + o))))
      (sum-ext m (λ o. share m (2 * m - 1 - k) (m + o) *ℤ x (m * c + (m + o))) (λ o. multiplier m k o *ℤ mirrored o (x (m * c + (m + o))))
      (λ o p. ap (λ z. z *ℤ x (m * c + (m + o))) (share-high m k o l) ∙ mirrored-mul o (multiplier m k o) (x (m * c + (m + o)))
      ∙ sym (mul-mirrored o (multiplier m k o) (x (m * c + (m + o))))))
      ∙ +ℤ_idl (sum m (λ o. multiplier m k o *ℤ mirrored o (x (m * c + (m + o)))))

-- ---- what a stage takes

-- of a number of order o at the end at a distance b, the other end being at the distance a
unfoldable pub end_basis : ℕ → ℕ → ℤ → ℤ → ℕ → ℤ
end_basis k m a b o = sum m (λ i. multiplier m i o *ℤ weight k a b (2 * m - 1) i)

-- numbers that are equal unless their factor is 0
by-factor : (n : ℕ) (x y : ℤ) → (0 < n → x ≡ y) → pos n *ℤ x ≡ pos n *ℤ y
by-factor zero x y h = zero-*ℤ x ∙ sym (zero-*ℤ y)
by-factor (suc n) x y h = ap (λ z. pos (suc n) *ℤ z) (h (omega arith))

-- counted from the high end, a derivative of odd order changes its sign
weight-mirrored : (k : ℕ) (a b : ℤ) (d i : ℕ) → i ≤ d → weight k a b d (d - i) ≡ mirrored k (weight k b a d i)
unfolding weight mirrored
weight-mirrored zero a b d i h =
    let again : d - (d - i) ≡ i = omega arith in
    ap (λ (j : ℕ). a ^ℤ j *ℤ b ^ℤ (d - i)) again ∙ *ℤ_comm (a ^ℤ i) (b ^ℤ (d - i))
weight-mirrored (suc k) a b d i h =
    let again : d - (d - i) ≡ i = omega arith in
    ap₂ ◌-ℤ◌
    (by-factor (d - i) _ _ (λ l. (let e : d - i - 1 ≡ d - 1 - i = omega arith in ap (weight k a b (d - 1)) e)
    ∙ weight-mirrored k a b (d - 1) i (omega arith)))
    (ap (λ (j : ℕ). pos j *ℤ weight k a b (d - 1) (d - i)) again
    ∙ by-factor i _ _ (λ l. (let e : d - i ≡ d - 1 - (i - 1) = omega arith in ap (weight k a b (d - 1)) e)
    ∙ weight-mirrored k a b (d - 1) (i - 1) (omega arith)))
    ∙ ap₂ ◌-ℤ◌ (mul-mirrored k (pos (d - i)) (weight k b a (d - 1) i)) (mul-mirrored k (pos i) (weight k b a (d - 1) (i - 1)))
    ∙ turn (pos i *ℤ weight k b a (d - 1) (i - 1)) (pos (d - i) *ℤ weight k b a (d - 1) i)
  where
    less : (k : ℕ) (x y : ℤ) → mirrored k y -ℤ mirrored k x ≡ neg_ℤ (mirrored k (x -ℤ y))
    less zero x y = ring! (x ∷ y ∷ []) (search quotes depth 40) tt
    less (suc zero) x y = ring! (x ∷ y ∷ []) (search quotes depth 40) tt
    less (suc (suc k)) x y = less k x y

    turn : (x y : ℤ) → mirrored k y -ℤ mirrored k x ≡ mirrored (suc k) (x -ℤ y)
    turn x y = less k x y ∙ sym (mirrored-suc k (x -ℤ y))

module _ (k m N u : ℕ) (m2 : 2 ≤ m) (m3 : m ≤ 3) where
  pub basis-low : (o : ℕ) → o < m → basis k m N u o ≡ end_basis k m (pos (N - u)) (pos u) o
  unfolding basis end_basis weight_at
  basis-low o l =
      sum-halves m m2 m3 (λ i. share m i o *ℤ w i)
      ∙ ap₂ ◌+ℤ◌ (sum-ext m (λ i. share m i o *ℤ w i) (λ i. multiplier m i o *ℤ w i) (λ i p. ap (λ z. z *ℤ w i) (share-low m i o p l)))
      (sum-zero m (λ i. share m (2 * m - 1 - i) o *ℤ w (2 * m - 1 - i))
      (λ i p. ap (λ z. z *ℤ w (2 * m - 1 - i)) (share-across m (2 * m - 1 - i) o (omega arith) l) ∙ zero-*ℤ (w (2 * m - 1 - i))))
      ∙ +ℤ_idr (sum m (λ i. multiplier m i o *ℤ w i))
    where
      w : ℕ → ℤ
      w i = weight k (pos (N - u)) (pos u) (2 * m - 1) i

  pub basis-high : (o : ℕ) → o < m → basis k m N u (m + o) ≡ mirrored (o + k) (end_basis k m (pos u) (pos (N - u)) o)
  unfolding basis end_basis weight_at
  basis-high o l =
      sum-halves m m2 m3 (λ i. share m i (m + o) *ℤ w i)
      ∙ ap₂ ◌+ℤ◌
      (sum-zero m (λ i. share m i (m + o) *ℤ w i) (λ i p. ap (λ z. z *ℤ w i) (share-cross m i (m + o) p (omega arith)) ∙ zero-*ℤ (w i)))
      (sum-ext m (λ i. share m (2 * m - 1 - i) (m + o) *ℤ w (2 * m - 1 - i)) (λ i. mirrored (o + k) (multiplier m i o *ℤ v i))
      (λ i p.
      ap₂ ◌*ℤ◌ (share-high m i o p) (weight-mirrored k (pos (N - u)) (pos u) (2 * m - 1) i (omega arith))
      ∙ mirrored-mul o (multiplier m i o) (mirrored k (v i)) ∙ ap (mirrored o) (mul-mirrored k (multiplier m i o) (v i))
      ∙ mirrored-twice o k (multiplier m i o *ℤ v i)))
      ∙ +ℤ_idl (sum m (λ i. mirrored (o + k) (multiplier m i o *ℤ v i)))
      ∙ sum-mirrored m (o + k) (λ i. multiplier m i o *ℤ v i)
    where
      w : ℕ → ℤ
      w i = weight k (pos (N - u)) (pos u) (2 * m - 1) i

      v : ℕ → ℤ
      v i = weight k (pos u) (pos (N - u)) (2 * m - 1) i
