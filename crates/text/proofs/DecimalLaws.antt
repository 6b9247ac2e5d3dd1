-- The digits of a number one at a time from the right, how many there are, and what the code finds of the sign.
use mathlib.Core.Path.{◌≡◌, refl, sym, ap, ◌∙◌}
use mathlib.Core.Bool.{true, false}
use mathlib.Core.List.{List, [], ◌∷◌, ◌++◌}
use Prim.Native.Nat.{ℕ, zero, suc, ◌+◌, ◌/◌, ◌%◌, ◌^◌, ◌<◌, ◌≤◌}
use native.Mathlib.Nat.{pow-suc, not-suc-le-zero}
use native.Mathlib.Omega.{arith}
use borrow.Author.Tests.{ltb-true, ltb-false, le-ltb, lt-ltb}
use lib.Dec.{ltb}
use lib.IntN.{ℤ, pos, negsuc, nat_abs}
use lib.ListN.{length, length-append}
use lib.Signed.{lt_z}
use Rattle.arith.proofs.Choices.{pick_true, pick-false, split}
use Rattle.text.specs.Decimal.{digits, decimal, signed_decimal}

-- room for more digits changes nothing
more_room : (k j n : ℕ) → n < k → n < j → digits k n ≡ digits j n
unfolding digits
more_room zero j n h g = absurd (not-suc-le-zero h)
more_room (suc k) zero n h g = absurd (not-suc-le-zero g)
more_room (suc k) (suc j) n h g =
    split (ltb n 10)
    (λ t. pick_true (ltb n 10) _ _ t ∙ sym (pick_true (ltb n 10) _ _ t))
    (λ t.
    let l = ltb-false n 10 t in
    pick-false (ltb n 10) _ _ t
    ∙ ap (λ (ds : List ℕ). ds ++ ((48 + n % 10) ∷ [])) (more_room k j (n / 10) (omega arith) (omega arith))
    ∙ sym (pick-false (ltb n 10) _ _ t))

pub one-digit : (n : ℕ) → n < 10 → decimal n ≡ (48 + n) ∷ []
unfolding decimal digits
one-digit n h = pick_true (ltb n 10) _ _ (lt-ltb n 10 h)

pub more-digits : (n : ℕ) → 10 ≤ n → decimal n ≡ decimal (n / 10) ++ ((48 + n % 10) ∷ [])
unfolding decimal digits
more-digits n h =
    pick-false (ltb n 10) _ _ (le-ltb n 10 h)
    ∙ ap (λ (ds : List ℕ). ds ++ ((48 + n % 10) ∷ [])) (more_room n (suc (n / 10)) (n / 10) (omega arith) (omega arith))

-- ---- lengths

pub one-length : (n : ℕ) → n < 10 → length (decimal n) ≡ 1
one-length n h = ap length (one-digit n h)

pub more-length : (n : ℕ) → 10 ≤ n → length (decimal n) ≡ length (decimal (n / 10)) + 1
more-length n h = ap length (more-digits n h) ∙ length-append (decimal (n / 10)) ((48 + n % 10) ∷ [])

-- a number below 10 ^ (k + 1) has at most k + 1 digits
pub decimal-short : (k n : ℕ) → n < 10 ^ suc k → length (decimal n) ≤ suc k
decimal-short zero n h = omega (arith, one-length n h)
decimal-short (suc k) n h =
    split (ltb n 10)
    (λ t. omega (arith, one-length n (ltb-true n 10 t)))
    (λ t. omega (arith, more-length n (ltb-false n 10 t), decimal-short k (n / 10) (let l = rw (pow-suc 10 (suc k)) at h in omega arith)))

pub signed-short : (k : ℕ) (x : ℤ) → nat_abs x < 10 ^ suc k → length (signed_decimal x) ≤ suc (suc k)
unfolding signed_decimal
signed-short k (pos n) h = omega (arith, decimal-short k n h)
signed-short k (negsuc n) h = omega (arith, decimal-short k (suc n) h)

-- ---- by the sign

pub below-zero : (x : ℤ) → lt_z x (pos 0) ≡ true → signed_decimal x ≡ 45 ∷ decimal (nat_abs x)
unfolding signed_decimal
below-zero (pos n) e = absurd (not-suc-le-zero (ltb-true n 0 e))
below-zero (negsuc n) e = refl

pub not-below : (x : ℤ) → lt_z x (pos 0) ≡ false → signed_decimal x ≡ decimal (nat_abs x)
unfolding signed_decimal
not-below (pos n) e = refl
not-below (negsuc n) e = cc
