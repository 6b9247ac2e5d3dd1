-- What a choice is, by its test; and facts by cases: of both degrees, of the axes, of the orders, of the numbers of two ends.
use mathlib.Core.Path.{◌≡◌, refl, sym, ap, ap₂, subst, ◌∙◌}
use mathlib.Core.Bool.{Bool, true, false, ◌&&◌}
use Prim.Native.Nat.{ℕ, zero, suc, ◌+◌, ◌*◌, ◌-◌, ◌≤◌, ◌<◌}
use native.Mathlib.Nat.{not-suc-le-zero}
use native.Mathlib.Decide.{ℕ_discrete, dec_lt}
use native.Mathlib.Omega.{arith}
use lib.Dec.{T}
use Rattle.arith.specs.Choice.{pick, all}

pub pick_true : {A : Type 0} (c : Bool) (x y : A) → c ≡ true → pick c x y ≡ x
unfolding pick
pick_true c x y e = rw e

pub pick-false : {A : Type 0} (c : Bool) (x y : A) → c ≡ false → pick c x y ≡ y
unfolding pick
pick-false c x y e = rw e

-- what holds of both holds of the choice
pub on-pick : {A : Type 0} (P : A → Type 0) (c : Bool) (x y : A) → (c ≡ true → P x) → (c ≡ false → P y) → P (pick c x y)
unfolding pick
on-pick P true x y f g = f refl
on-pick P false x y f g = g refl

-- `cc` finds 0 ≡ 1 where two constructors are equal: anything follows
pub clash : {A : Type 0} → ◌≡◌ {A = ℕ} 0 1 → A
clash e = absurd (omega arith)

-- by a test
pub split : {P : Type 0} (b : Bool) → (b ≡ true → P) → (b ≡ false → P) → P
split true f g = f refl
split false f g = g refl

pub and-true : (a b : Bool) → (a && b) ≡ true → (a ≡ true) × (b ≡ true)
and-true true b h = (refl, h)
and-true false b h = clash (cc)

pub and_T : (x y : Bool) → T (x && y) → T x × T y
and_T true y t = (tt, t)
and_T false y t = absurd t

pub true-and : (a b : Bool) → a ≡ true → b ≡ true → (a && b) ≡ true
true-and a b e f = rw e f

pub all-at : (n : ℕ) (p : ℕ → Bool) → T (all n p) → (i : ℕ) → i < n → T (p i)
unfolding all
all-at zero p t i l = absurd (not-suc-le-zero l)
all-at (suc n) p t i l = go (λ h. all-at n p (and_T (p n) (all n p) t).1 i h) (ℕ_discrete i n)
  where
    go : (i < n → T (p i)) → Dec (i ≡ n) → T (p i)
    go r (yes e) = subst (λ (k : ℕ). T (p k)) (sym e) (and_T (p n) (all n p) t).0
    go r (no k) = r (omega arith)

pub all-each : (n : ℕ) (p : ℕ → Bool) → all n p ≡ true → (i : ℕ) → i < n → p i ≡ true
unfolding all
all-each zero p h i l = absurd (not-suc-le-zero l)
all-each (suc n) p h i l = go (λ k. all-each n p (and-true (p n) (all n p) h).1 i k) (ℕ_discrete i n)
  where
    go : (i < n → p i ≡ true) → Dec (i ≡ n) → p i ≡ true
    go r (yes e) = ap p e ∙ (and-true (p n) (all n p) h).0
    go r (no k) = r (omega arith)

-- equal tests, and those of two halves
pub all-ext : (n : ℕ) (p q : ℕ → Bool) → ((i : ℕ) → i < n → p i ≡ q i) → all n p ≡ all n q
unfolding all
all-ext zero p q h = refl
all-ext (suc n) p q h = ap₂ ◌&&◌ (h n (omega arith)) (all-ext n p q (λ i l. h i (omega arith)))

pub all-twice : (m : ℕ) (p : ℕ → Bool) → all (2 * m) p ≡ (all m (λ o. p (m + o)) && all m p)
unfolding all
all-twice m p = ap (λ (n : ℕ). all n p) {x = 2 * m} {y = m + m} (omega arith) ∙ joined m
  where
    assoc : (a b c : Bool) → (a && (b && c)) ≡ ((a && b) && c)
    assoc true b c = refl
    assoc false b c = refl

    joined : (n : ℕ) → all (m + n) p ≡ (all n (λ o. p (m + o)) && all m p)
    joined zero = ap (λ (k : ℕ). all k p) {x = m + 0} {y = m} (omega arith)
    joined (suc n) = ap (λ (k : ℕ). all k p) {x = m + suc n} {y = suc (m + n)} (omega arith) ∙ ap (λ b. p (m + n) && b) (joined n)
        ∙ assoc (p (m + n)) (all n (λ o. p (m + o))) (all m p)

pub all_true : (n : ℕ) → all n (λ i. true) ≡ true
unfolding all
all_true zero = refl
all_true (suc n) = all_true n

-- m is 2 for degree 3 and 3 for degree 5
pub by-m : (P : ℕ → Type 0) → P 2 → P 3 → (m : ℕ) → 2 ≤ m → m ≤ 3 → P m
by-m P p q zero a b = absurd (not-suc-le-zero a)
by-m P p q (suc zero) a b = absurd (omega arith)
by-m P p q (suc (suc zero)) a b = p
by-m P p q (suc (suc (suc zero))) a b = q
by-m P p q (suc (suc (suc (suc m)))) a b = absurd (omega arith)

-- 1, 2 or 3 axes
pub by_n : (P : ℕ → Type 0) → P 1 → P 2 → P 3 → (n : ℕ) → 1 ≤ n → n ≤ 3 → P n
by_n P p q r zero a b = absurd (not-suc-le-zero a)
by_n P p q r (suc zero) a b = p
by_n P p q r (suc (suc n)) a b = by-m P q r (suc (suc n)) (omega arith) b

-- a fact of 0 and 1
pub by_2 : (P : ℕ → Type 0) → P 0 → P 1 → (k : ℕ) → k < 2 → P k
by_2 P p q zero l = p
by_2 P p q (suc zero) l = q
by_2 P p q (suc (suc k)) l = absurd (omega arith)

-- of 0, 1 and 2
pub by-3 : (P : ℕ → Type 0) → P 0 → P 1 → P 2 → (k : ℕ) → k < 3 → P k
by-3 P p q r zero l = p
by-3 P p q r (suc zero) l = q
by-3 P p q r (suc (suc zero)) l = r
by-3 P p q r (suc (suc (suc k))) l = absurd (omega arith)

-- of 0, 1 and 2, and of all others
pub from-3 : (P : ℕ → Type 0) → P 0 → P 1 → P 2 → ((k : ℕ) → 3 ≤ k → P k) → (k : ℕ) → P k
from-3 P p q r others zero = p
from-3 P p q r others (suc zero) = q
from-3 P p q r others (suc (suc zero)) = r
from-3 P p q r others (suc (suc (suc k))) = others (suc (suc (suc k))) (omega arith)

-- of the orders below m
pub by_order : (P : ℕ → ℕ → Type 0) → P 2 0 → P 2 1 → P 3 0 → P 3 1 → P 3 2 → (m : ℕ) → 2 ≤ m → m ≤ 3 → (o : ℕ) → o < m → P m o
by_order P p q r s t = by-m (λ m. (o : ℕ) → o < m → P m o) (by_2 (P 2) p q) (by-3 (P 3) r s t)

-- of the numbers of both ends, and of the coefficients, the high ones counted from their end
module _ (m : ℕ) where
  pub by_place : (P : ℕ → Type 0) → ((o : ℕ) → o < m → P o) → ((o : ℕ) → o < m → P (m + o)) → (t : ℕ) → t < 2 * m → P t
  by_place P f g t l = go (dec_lt t m)
    where
      go : Dec (t < m) → P t
      go (yes h) = f t h
      go (no h) = subst P (omega arith) (g (t - m) (omega arith))

  pub by_count : (P : ℕ → Type 0) → ((k : ℕ) → k < m → P k) → ((k : ℕ) → k < m → P (2 * m - 1 - k)) → (i : ℕ) → i < 2 * m → P i
  by_count P f g i l = go (dec_lt i m)
    where
      go : Dec (i < m) → P i
      go (yes h) = f i h
      go (no h) = subst P (omega arith) (g (2 * m - 1 - i) (omega arith))
