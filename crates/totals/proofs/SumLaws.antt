-- Sums of the code: one product more of a factor and an entry; how large groups, records and rows are.
use mathlib.Core.Path.{◌≡◌, refl, sym, ap, ap₂, subst, ◌∙◌}
use mathlib.Core.List.{List}
use mathlib.Core.Logic.{⊎_elim}
use Prim.Native.Nat.{ℕ, zero, suc, ◌+◌, ◌*◌, ◌^◌, ◌≤◌, ◌<◌}
use native.Mathlib.Nat.{le_trans, le_of_eq, le-add_left, mul-le-mul, mul-le-mul_left, mul-le-mul_right, zero-add, add-zero, eq-or-lt_of_le}
use native.Mathlib.Omega.{arith}
use lib.Dec.{lit<, lit≤}
use lib.IntN.{ℤ, pos, nat_abs, ◌+ℤ◌, ◌*ℤ◌}
use lib.Signed.{mag}
use mir.Syntax.{w32, w64}
use mir.Val.{SFits, to_z, of_z}
use Rattle.arith.specs.Sum.{sum, total}
use Rattle.arith.proofs.Abs.{abs-add, abs-mul, abs-mul-le, sfits-abs}
use Rattle.arith.proofs.Machine.{element, widened, near, kept, kept_low}
use Rattle.arith.proofs.Choices.{by_2, by-3}
use Rattle.arith.proofs.Sums.{sum-ext, total-part, abs-weighted}
use Rattle.lattice.specs.Buffer.{at}
use Rattle.lattice.proofs.DigitsLaws.{group-room}
use Rattle.totals.specs.Parts.{group_sum, record_sum, EntriesWithin}

-- ---- sums

-- a term of a sum of natural numbers
pub term-low : (n : ℕ) (f : ℕ → ℕ) (i : ℕ) → i < n → f i ≤ total n f
unfolding total
term-low n f i l = le_trans (le-add_left (f i) (total i f)) (total-part (suc i) n f l)

-- n numbers within B
pub sum-within : (n : ℕ) (f : ℕ → ℤ) (B : ℕ) → ((i : ℕ) → i < n → nat_abs (f i) ≤ B) → nat_abs (sum n f) ≤ n * B
unfolding sum
sum-within zero f B h = omega arith
sum-within (suc n) f B h =
    let a = abs-add (sum n f) (f n) in let b = sum-within n f B (λ i l. h i (omega arith)) in let c = h n (omega arith) in omega arith

-- ---- one more, as the code adds it

-- a 64-bit number, as the code reads it
abbrev pub factor_read : ℤ → ℤ
factor_read f = to_z w64 (of_z w64 f)

-- a product more: the sizes of the factors sum to at most A, the numbers are within B
module _ (n : ℕ) (k f : ℕ → ℤ) (A B : ℕ) (small : total n (λ j. nat_abs (k j)) ≤ A) (within : (j : ℕ) → j < n → nat_abs (f j) ≤ B)
    (fits : A * B ≤ 2 ^ 61) (one : A < 2 ^ 63) (other : B < 2 ^ 63) where
  part-within : (i : ℕ) → i ≤ n → nat_abs (sum i (λ j. k j *ℤ f j)) ≤ 2 ^ 61
  part-within i l =
      le_trans (abs-weighted i k f B (λ j q. within j (omega arith)))
      (le_trans (mul-le-mul_right B (le_trans (total-part i n (λ j. nat_abs (k j)) l) small)) fits)

  module _ (i : ℕ) (l : i < n) (z v : ℤ) (so_far : z ≡ sum i (λ j. k j *ℤ f j)) (is : v ≡ f i) where
    factor-is : factor_read (k i) ≡ k i
    factor-is = kept (k i) A (le_trans (term-low n (λ j. nat_abs (k j)) i l) small) one

    number_is : factor_read v ≡ f i
    number_is = ap factor_read is ∙ kept (f i) B (within i l) other

    pub product-asks : nat_abs z + nat_abs (factor_read (k i)) * nat_abs (factor_read v) < 2 ^ 63
    product-asks =
        rw (factor-is, number_is)
        (let a = part-within i (omega arith) in
        let e = ap nat_abs so_far in
        let b = le_trans (mul-le-mul (le_trans (term-low n (λ j. nat_abs (k j)) i l) small) (within i l)) fits in
        omega arith)

    pub product-more : (w : ℤ) → w ≡ z +ℤ factor_read (k i) *ℤ factor_read v → factor_read w ≡ sum (i + 1) (λ j. k j *ℤ f j)
    unfolding sum
    product-more w e =
        let d : suc i ≡ i + 1 = omega arith in
        let s : w ≡ sum (i + 1) (λ j. k j *ℤ f j) =
        e ∙ ap₂ ◌+ℤ◌ so_far (ap₂ ◌*ℤ◌ factor-is number_is) ∙ ap (λ (x : ℕ). sum x (λ j. k j *ℤ f j)) d in
        kept w (2 ^ 61) (rw s (part-within (i + 1) (omega arith))) (lit< tt) ∙ s

-- a number more, of n within B
module _ (n : ℕ) (f : ℕ → ℤ) (B : ℕ) (within : (j : ℕ) → j < n → nat_abs (f j) ≤ B) (fits : n * B ≤ 2 ^ 61) (low : B < 2 ^ 63) (i : ℕ)
    (l : i < n) (z v : ℤ) (so_far : z ≡ sum i f) (is : v ≡ f i) where
  more-is : z +ℤ factor_read v ≡ sum (i + 1) f
  unfolding sum
  more-is =
      let d : suc i ≡ i + 1 = omega arith in
      ap₂ ◌+ℤ◌ so_far (ap factor_read is ∙ kept (f i) B (within i l) low) ∙ ap (λ (x : ℕ). sum x f) d

  more_within : nat_abs (sum (i + 1) f) ≤ 2 ^ 61
  more_within =
      le_trans (sum-within (i + 1) f B (λ j q. within j (omega arith)))
      (le_trans (mul-le-mul_right B (let h : i + 1 ≤ n = omega arith in h)) fits)

  pub more-fits : SFits w64 (z +ℤ factor_read v)
  more-fits = rw more-is (sfits-abs (sum (i + 1) f) (let h = more_within in omega arith))

  pub more-sum : factor_read (z +ℤ factor_read v) ≡ sum (i + 1) f
  more-sum = rw more-is (kept (sum (i + 1) f) (2 ^ 61) more_within (lit< tt))

-- one more number within B
pub more-within : (f : ℕ → ℤ) (B i : ℕ) → ((j : ℕ) → j < i → nat_abs (f j) ≤ B) → nat_abs (f i) ≤ B
    → (j : ℕ) → j < i + 1 → nat_abs (f j) ≤ B
more-within f B i h e j l =
    ⊎_elim (λ (q : j ≡ i). rw q e) (λ (q : j < i). h j q) (eq-or-lt_of_le (let k : j ≤ i = omega arith in k))

-- a sum of products with factors of at most A together, each of a number within B
pub weighted-low : (n : ℕ) (k f : ℕ → ℤ) (A B : ℕ) → total n (λ j. nat_abs (k j)) ≤ A → ((j : ℕ) → j < n → nat_abs (f j) ≤ B)
    → nat_abs (sum n (λ j. k j *ℤ f j)) ≤ A * B
weighted-low n k f A B small within = le_trans (abs-weighted n k f B within) (mul-le-mul_right B small)

-- a product of two factors
module _ (f k : ℤ) (hf : nat_abs f ≤ 128) (hk : nat_abs k ≤ 128) where
  factors_product : factor_read f *ℤ factor_read k ≡ f *ℤ k
  factors_product = ap₂ ◌*ℤ◌ (kept f 128 hf (lit< tt)) (kept k 128 hk (lit< tt))

  pub pair-fits : SFits w64 (factor_read f *ℤ factor_read k)
  pair-fits = rw factors_product (sfits-abs (f *ℤ k) (let h = abs-mul-le f k hf hk in omega arith))

  pub pair_is : factor_read (factor_read f *ℤ factor_read k) ≡ f *ℤ k
  pair_is = rw factors_product (kept (f *ℤ k) (128 * 128) (abs-mul-le f k hf hk) (lit< tt))

-- at most nine groups
pub nine : (m g : ℕ) → m ≤ 3 → g < m * m → g < 9
nine m g h l = let k = mul-le-mul h h in omega arith

-- ---- a factor and an entry, as the code reads them

abbrev pub entry_read : ℤ → ℤ
entry_read r = to_z w64 (of_z w64 (to_z w32 (of_z w32 r)))

module _ (f r : ℤ) (hf : nat_abs f ≤ 128) (hr : mag r < 2 ^ 31) where
  pub product-low : nat_abs (factor_read f) * nat_abs (entry_read r) ≤ 2 ^ 38
  product-low = rw (kept f 128 hf (lit< tt), widened r hr) (mul-le-mul hf (near r hr))

  pub product_is : factor_read f *ℤ entry_read r ≡ f *ℤ r
  product_is = rw (kept f 128 hf (lit< tt), widened r hr) refl

  -- one more
  pub more-low : (y z : ℤ) (B : ℕ) → nat_abs y ≤ B → z ≡ y +ℤ factor_read f *ℤ entry_read r → nat_abs z ≤ B + 2 ^ 38
  more-low y z B h e =
      let a = abs-add y (factor_read f *ℤ entry_read r) in
      let b = abs-mul (factor_read f) (entry_read r) in
      let d = product-low in
      let k = ap nat_abs e in
      omega arith

-- ---- groups, in a straight line

group-two : (x rs : List ℤ) (p : ℕ) → (pos 0 +ℤ at x 0 *ℤ at rs p) +ℤ at x 1 *ℤ at rs (p + 1) ≡ group_sum 2 (at x) rs p
unfolding group_sum sum
group-two x rs p = ap (λ (k : ℕ). (pos 0 +ℤ at x 0 *ℤ at rs k) +ℤ at x 1 *ℤ at rs (p + 1)) (sym (add-zero p))

-- the sums on the way
pub record Two (x rs : List ℤ) (p : ℕ) (y z : ℤ) : Type 0 where
  pub one-low : nat_abs y ≤ 2 ^ 40
  pub two-low : nat_abs z ≤ 2 ^ 40
  pub two_is : z ≡ group_sum 2 (at x) rs p

module _ (x rs : List ℤ) (p : ℕ) (light : total 2 (λ o. nat_abs (at x o)) ≤ 128) (a : mag (at rs p) < 2 ^ 31) where
  first-low : nat_abs (at x 0) ≤ 128
  first-low = le_trans (term-low 2 (λ o. nat_abs (at x o)) 0 (lit< tt)) light

  second-low : nat_abs (at x 1) ≤ 128
  second-low = le_trans (term-low 2 (λ o. nat_abs (at x o)) 1 (lit< tt)) light

  pub one-within : (y : ℤ) → y ≡ pos 0 +ℤ factor_read (at x 0) *ℤ entry_read (at rs p) → nat_abs y ≤ 2 ^ 38
  one-within y e = more-low (at x 0) (at rs p) first-low a (pos 0) y 0 (omega arith) e

  pub one-asks : 0 + nat_abs (factor_read (at x 0)) * nat_abs (entry_read (at rs p)) < 2 ^ 63
  one-asks = let h = product-low (at x 0) (at rs p) first-low a in omega arith

  module _ (b : mag (at rs (p + 1)) < 2 ^ 31) (y : ℤ) (e : y ≡ pos 0 +ℤ factor_read (at x 0) *ℤ entry_read (at rs p)) where
    pub two-asks : nat_abs (factor_read y) + nat_abs (factor_read (at x 1)) * nat_abs (entry_read (at rs (p + 1))) < 2 ^ 63
    two-asks =
        let h = product-low (at x 1) (at rs (p + 1)) second-low b in
        let k = kept_low y (2 ^ 38) (one-within y e) (lit< tt) in
        omega arith

    pub two : (z : ℤ) → z ≡ factor_read y +ℤ factor_read (at x 1) *ℤ entry_read (at rs (p + 1)) → Two x rs p y z
    two z f = record {
      one-low = le_trans (one-within y e) (lit≤ tt);
      two-low = le_trans (more-low (at x 1) (at rs (p + 1)) second-low b (factor_read y) z (2 ^ 38)
          (kept_low y (2 ^ 38) (one-within y e) (lit< tt)) f) (lit≤ tt);
      two_is = f
          ∙ ap₂ ◌+ℤ◌ (kept y (2 ^ 38) (one-within y e) (lit< tt) ∙ e
          ∙ ap (λ w. pos 0 +ℤ w) (product_is (at x 0) (at rs p) first-low a))
          (product_is (at x 1) (at rs (p + 1)) second-low b)
          ∙ group-two x rs p;
    }

module _ (x rs : List ℤ) (p : ℕ) (low : nat_abs (at x 2) ≤ 128) (b : mag (at rs (p + 2)) < 2 ^ 31) (y z : ℤ) (t : Two x rs p y z) where
  pub three-asks : nat_abs (factor_read z) + nat_abs (factor_read (at x 2)) * nat_abs (entry_read (at rs (p + 2))) < 2 ^ 63
  three-asks =
      let h = product-low (at x 2) (at rs (p + 2)) low b in
      let k = kept_low z (2 ^ 40) t.two-low (lit< tt) in
      omega arith

  pub three-is : (w : ℤ) → w ≡ factor_read z +ℤ factor_read (at x 2) *ℤ entry_read (at rs (p + 2)) → factor_read w ≡ group_sum 3 (at x) rs p
  unfolding group_sum sum
  three-is w f =
      kept w (2 ^ 41)
      (le_trans (more-low (at x 2) (at rs (p + 2)) low b (factor_read z) w (2 ^ 40) (kept_low z (2 ^ 40) t.two-low (lit< tt)) f)
      (lit≤ tt))
      (lit< tt)
      ∙ f ∙ ap₂ ◌+ℤ◌ (kept z (2 ^ 40) t.two-low (lit< tt) ∙ t.two_is) (product_is (at x 2) (at rs (p + 2)) low b)

-- entries that were read
module _ (rs : List ℤ) (p : ℕ) (a : mag (at rs p) < 2 ^ 31) (b : mag (at rs (p + 1)) < 2 ^ 31) where
  first-near : nat_abs (at rs (p + 0)) ≤ 2 ^ 31
  first-near = subst (λ (k : ℕ). nat_abs (at rs k) ≤ 2 ^ 31) (sym (add-zero p)) (near (at rs p) a)

  pub two-near : EntriesWithin (2 ^ 31) rs p 2
  two-near = by_2 (λ o. nat_abs (at rs (p + o)) ≤ 2 ^ 31) first-near (near (at rs (p + 1)) b)

  pub three-near : mag (at rs (p + 2)) < 2 ^ 31 → EntriesWithin (2 ^ 31) rs p 3
  three-near c = by-3 (λ o. nat_abs (at rs (p + o)) ≤ 2 ^ 31) first-near (near (at rs (p + 1)) b) (near (at rs (p + 2)) c)

pub group-low : (m : ℕ) (x rs : List ℤ) (p : ℕ) → total m (λ o. nat_abs (at x o)) ≤ 128 → EntriesWithin (2 ^ 31) rs p m
    → nat_abs (group_sum m (at x) rs p) ≤ 2 ^ 38
unfolding group_sum
group-low m x rs p = weighted-low m (at x) (λ o. at rs (p + o)) 128 (2 ^ 31)

-- ---- an order more of a group, as the code reads its factor and its entry

module _ (x rs : List ℤ) (n i : ℕ) (light : total n (λ o. nat_abs (at x o)) ≤ 128) (l : i < n)
    (low : (j : ℕ) → j < i → nat_abs (at rs (0 + j)) ≤ 2 ^ 31) (f r z : ℤ) (factor : f ≡ at x i) (entry : r ≡ at rs i)
    (given : mag r < 2 ^ 31) (so_far : z ≡ group_sum i (at x) rs 0) where
  at-it : r ≡ at rs (0 + i)
  at-it = entry ∙ ap (at rs) (sym (zero-add i))

  pub entries-low : (j : ℕ) → j < i + 1 → nat_abs (at rs (0 + j)) ≤ 2 ^ 31
  entries-low = more-within (λ j. at rs (0 + j)) (2 ^ 31) i low (subst (λ v. nat_abs v ≤ 2 ^ 31) at-it (near r given))

  factors-few : total (i + 1) (λ o. nat_abs (at x o)) ≤ 128
  factors-few = le_trans (total-part (i + 1) n (λ o. nat_abs (at x o)) (omega arith)) light

  pub order-asks : nat_abs z + nat_abs (factor_read f) * nat_abs (entry_read r) < 2 ^ 63
  unfolding group_sum
  order-asks = subst (λ v. nat_abs z + nat_abs (factor_read v) * nat_abs (entry_read r) < 2 ^ 63) (sym factor)
      (product-asks (i + 1) (at x) (λ j. at rs (0 + j)) 128 (2 ^ 31) factors-few entries-low (lit≤ tt) (lit< tt) (lit< tt) i (omega arith)
      z (to_z w32 (of_z w32 r)) so_far (element r given ∙ at-it))

  pub order-more : (w : ℤ) → w ≡ z +ℤ factor_read f *ℤ entry_read r → factor_read w ≡ group_sum (i + 1) (at x) rs 0
  unfolding group_sum
  order-more w e =
      product-more (i + 1) (at x) (λ j. at rs (0 + j)) 128 (2 ^ 31) factors-few entries-low (lit≤ tt) (lit< tt) (lit< tt) i (omega arith)
      z (to_z w32 (of_z w32 r)) so_far (element r given ∙ at-it) w
      (e ∙ ap (λ v. z +ℤ factor_read v *ℤ entry_read r) factor)

-- ---- numbers that stand elsewhere

pub group-moved : (m : ℕ) (x : ℕ → ℤ) (group rs : List ℤ) (p : ℕ) → ((i : ℕ) → i < m → at group i ≡ at rs (p + i))
    → group_sum m x group 0 ≡ group_sum m x rs p
unfolding group_sum
group-moved m x group rs p h = sum-ext m (λ o. x o *ℤ at group (0 + o)) (λ o. x o *ℤ at rs (p + o))
    (λ o l. ap (λ z. x o *ℤ z) (ap (at group) (zero-add o) ∙ h o l))

pub record-moved : (m k : ℕ) (x y : ℕ → ℤ) (entries : List ℤ) (q : ℕ) (rs : List ℤ) (p : ℕ)
    → ((i : ℕ) → i < m * k → at entries (q + i) ≡ at rs (p + i)) → record_sum m k x y entries q ≡ record_sum m k x y rs p
unfolding record_sum group_sum
record-moved m k x y entries q rs p h = sum-ext k (λ g. y g *ℤ sum m (λ o. x o *ℤ at entries (q + m * g + o)))
    (λ g. y g *ℤ sum m (λ o. x o *ℤ at rs (p + m * g + o)))
    (λ g l. ap (λ z. y g *ℤ z) (sum-ext m (λ o. x o *ℤ at entries (q + m * g + o)) (λ o. x o *ℤ at rs (p + m * g + o))
    (λ o r. ap (λ z. x o *ℤ z)
    (let e : q + m * g + o ≡ q + (m * g + o) = omega arith in
    let f : p + (m * g + o) ≡ p + m * g + o = omega arith in
    ap (at entries) e ∙ h (m * g + o) (let w = group-room m g k l in omega arith) ∙ ap (at rs) f))))

-- ---- how large

module _ (m : ℕ) (x : ℕ → ℤ) (rs : List ℤ) (B : ℕ) (light : total m (λ o. nat_abs (x o)) ≤ 128) where
  pub group-within : (p : ℕ) → EntriesWithin B rs p m → nat_abs (group_sum m x rs p) ≤ 128 * B
  unfolding group_sum
  group-within p h = le_trans (abs-weighted m x (λ o. at rs (p + o)) B h) (mul-le-mul_right B light)

  module _ (k : ℕ) (y : ℕ → ℤ) where
    pub groups-within : (p : ℕ) → EntriesWithin B rs p (m * k) → (g : ℕ) → g < k → nat_abs (group_sum m x rs (p + m * g)) ≤ 128 * B
    groups-within p h g l = group-within (p + m * g)
        (λ i q. subst (λ (j : ℕ). nat_abs (at rs j) ≤ B) (moved p (m * g) i) (h (m * g + i) (inside q)))
      where
        moved : (p a i : ℕ) → p + (a + i) ≡ p + a + i
        moved p a i = omega arith

        inside : {i : ℕ} → i < m → m * g + i < m * k
        inside {i} q = let w = mul-le-mul_left m l in omega arith

    pub record-within : (p : ℕ) → total k (λ g. nat_abs (y g)) ≤ 2 ^ 14 → EntriesWithin B rs p (m * k)
        → nat_abs (record_sum m k x y rs p) ≤ 2 ^ 21 * B
    unfolding record_sum
    record-within p small h =
        le_trans (abs-weighted k y (λ g. group_sum m x rs (p + m * g)) (128 * B) (groups-within p h))
        (le_trans (mul-le-mul_right (128 * B) small) (le_of_eq (regroup B)))
      where
        regroup : (B : ℕ) → 2 ^ 14 * (128 * B) ≡ 2 ^ 21 * B
        regroup B = omega arith

-- sums with equal factors
pub record_same : (m k : ℕ) (x x' y y' : ℕ → ℤ) (rs : List ℤ) (p : ℕ) → ((o : ℕ) → o < m → x o ≡ x' o) → ((g : ℕ) → g < k → y g ≡ y' g)
    → record_sum m k x y rs p ≡ record_sum m k x' y' rs p
unfolding record_sum group_sum
record_same m k x x' y y' rs p h l =
    sum-ext k (λ g. y g *ℤ sum m (λ o. x o *ℤ at rs (p + m * g + o))) (λ g. y' g *ℤ sum m (λ o. x' o *ℤ at rs (p + m * g + o)))
    (λ g q. ap₂ ◌*ℤ◌ (l g q)
    (sum-ext m (λ o. x o *ℤ at rs (p + m * g + o)) (λ o. x' o *ℤ at rs (p + m * g + o))
    (λ o r. ap (λ z. z *ℤ at rs (p + m * g + o)) (h o r))))
