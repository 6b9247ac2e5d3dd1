-- What the definitions of steps promise: a step is the nearest whole number, halves up; held in 32 bits it passes the same tests of a
-- position.
use mathlib.Core.Path.{◌≡◌, refl, sym, ap, subst, ◌∙◌}
use mathlib.Core.Bool.{Bool, true, false, ◌&&◌, false≢true}
use mathlib.Core.List.{[], ◌∷◌}
use Prim.Native.Nat.{ℕ, ◌*◌, ◌^◌, min, ◌≤◌, ◌<◌}
use native.Mathlib.Nat.{one-mul}
use native.Mathlib.Decide.{ℕ_discrete}
use native.Mathlib.Omega.{arith}
use lib.Dec.{T, leb, eqb, leb→le, le→leb}
use lib.IntN.{ℤ, pos, negsuc, neg_ℤ, nat_abs, ◌*ℤ◌}
use lib.Signed.{◌≤ℤ◌, mag, non_neg}
use lib.Ieee.{Float, nan, inf, fin, up, down}
use lib.Ieee.Fits.{down_pos}
use lib.Ieee.Exact.{HasValue}
use lib.Ieee.Positive.{den, den_pos}
use borrow.Author.Tests.{leb-true, eq-eqb, ne_eqb}
use Rattle.arith.specs.Int.{round_half_up}
use Rattle.arith.proofs.Abs.{abs_neg}
use Rattle.arith.proofs.Quote.{quotes, ring! }
use Rattle.arith.proofs.Linear.{ℕ→le}
use Rattle.arith.proofs.Round.{Nearest, round-near, round-unique, round_exact, round_mono, round_same}
use Rattle.floats.specs.Step.{signed, numerator, step, clamped}
use Rattle.floats.specs.Bits.{nearest_held}

-- ---- the step: −1/2 < step − N x ≤ 1/2, all times 2 · den x, and no other number is so near
pub step-nearest : (N : ℕ) (x : Float) → Nearest (pos N *ℤ numerator x) (den x) (step N x)
unfolding step
step-nearest N x = round-near (pos N *ℤ numerator x) (den x) (den_pos x)

pub step-unique : (N : ℕ) (x : Float) (q : ℤ) → Nearest (pos N *ℤ numerator x) (den x) q → q ≡ step N x
unfolding step
step-unique N x q h = round-unique (pos N *ℤ numerator x) (den x) q (den_pos x) h

-- ---- 32 signed bits
pub clamped-fits : (z : ℤ) → mag z < 2 ^ 31 → clamped z ≡ z
unfolding clamped
clamped-fits (pos n) h = ap pos (omega arith)
clamped-fits (negsuc n) h = ap negsuc (omega arith)

clamped_high : (z : ℤ) → pos 2147483647 ≤ℤ z → clamped z ≡ pos 2147483647
unfolding clamped
clamped_high (pos n) h = ap pos (omega (arith, leb→le 2147483647 n h.le))
clamped_high (negsuc n) h = absurd h.le

clamped_low : (z : ℤ) → z ≤ℤ negsuc 2147483647 → clamped z ≡ negsuc 2147483647
unfolding clamped
clamped_low (pos n) h = absurd h.le
clamped_low (negsuc n) h = ap negsuc (omega (arith, leb→le 2147483647 n h.le))

agree : (a b : Bool) → (T a → T b) → (T b → T a) → a ≡ b
agree true true f g = refl
agree true false f g = absurd (f tt)
agree false true f g = absurd (g tt)
agree false false f g = refl

-- the tests of a position come out the same: from 0 to a limit
abbrev pub within : ℤ → ℕ → Bool
within z limit = non_neg z && leb (nat_abs z) limit

pub clamped-within : (z : ℤ) (limit : ℕ) → limit < 2147483647 → within (clamped z) limit ≡ within z limit
unfolding clamped
clamped-within (pos n) limit h =
    agree (leb (min n 2147483647) limit) (leb n limit)
    (λ t. le→leb n limit (omega (arith, leb→le (min n 2147483647) limit t)))
    (λ t. le→leb (min n 2147483647) limit (omega (arith, leb→le n limit t)))
clamped-within (negsuc n) limit h = refl

-- and 0
pub clamped-zero : (z : ℤ) → eqb (nat_abs (clamped z)) 0 ≡ eqb (nat_abs z) 0
unfolding clamped
clamped-zero (pos n) = go (ℕ_discrete n 0)
  where
    go : Dec (n ≡ 0) → eqb (min n 2147483647) 0 ≡ eqb n 0
    go (yes e) = eq-eqb (min n 2147483647) 0 (omega arith) ∙ sym (eq-eqb n 0 e)
    go (no k) = ne_eqb (min n 2147483647) 0 (λ e. k (omega arith)) ∙ sym (ne_eqb n 0 k)
clamped-zero (negsuc n) =
    ne_eqb (nat_abs (negsuc (min n 2147483647))) 0 (λ e. absurd (omega arith))
    ∙ sym (ne_eqb (nat_abs (negsuc n)) 0 (λ e. absurd (omega arith)))

-- and a step that passes is held as it is
pub clamped-same : (z : ℤ) (limit : ℕ) → limit < 2147483647 → within z limit ≡ true → clamped z ≡ z
clamped-same (pos n) limit h e = clamped-fits (pos n) (omega (arith, leb-true n limit e))
clamped-same (negsuc n) limit h e = absurd (false≢true e)

-- ---- numbers by sign and size
pub signed_mul : (s : Bool) (a c : ℕ) → signed s a *ℤ pos c ≡ signed s (a * c)
signed_mul false a c = refl
signed_mul true a c = ring! (pos a ∷ pos c ∷ []) {x = neg_ℤ (pos a) *ℤ pos c} {y = neg_ℤ (pos a *ℤ pos c)} (search quotes depth 40) tt

pub mul-signed : (c : ℕ) (s : Bool) (a : ℕ) → pos c *ℤ signed s a ≡ signed s (c * a)
mul-signed c false a = refl
mul-signed c true a = ring! (pos a ∷ pos c ∷ []) {x = pos c *ℤ neg_ℤ (pos a)} {y = neg_ℤ (pos c *ℤ pos a)} (search quotes depth 40) tt

pub abs-signed : (s : Bool) (a : ℕ) → nat_abs (signed s a) ≡ a
abs-signed false a = refl
abs-signed true a = abs_neg (pos a)

-- 2 ^ 31 and more in size is held as an infinity is
pub clamped-far : (s : Bool) (n y : ℕ) → 0 < y → 2 ^ 31 * y ≤ n → clamped (round_half_up (signed s n) y) ≡ nearest_held (inf s)
unfolding nearest_held
clamped-far false n y h l =
    let ρ = pos n ∷ pos y ∷ [] in
    let m : (pos 2147483647 *ℤ pos y) ≤ℤ pos n = ℕ→le ρ (search quotes depth 40) (omega arith) in
    clamped_high (round_half_up (pos n) y)
    (subst (λ z. z ≤ℤ round_half_up (pos n) y) (round_exact (pos 2147483647) y h) (round_mono (pos 2147483647 *ℤ pos y) (pos n) y h m))
clamped-far true n y h l =
    let ρ = pos n ∷ pos y ∷ [] in
    let m : neg_ℤ (pos n) ≤ℤ (negsuc 2147483647 *ℤ pos y) = ℕ→le ρ (search quotes depth 40) (omega arith) in
    clamped_low (round_half_up (neg_ℤ (pos n)) y)
    (subst (λ z. round_half_up (neg_ℤ (pos n)) y ≤ℤ z) (round_exact (negsuc 2147483647) y h)
    (round_mono (neg_ℤ (pos n)) (negsuc 2147483647 *ℤ pos y) y h m))

-- a float that is ±n / d is held as the number nearest to ±n / d
pub held-value : (v : Float) (s : Bool) (n d : ℕ) → 0 < d → HasValue v s n d → nearest_held v ≡ clamped (round_half_up (signed s n) d)
unfolding nearest_held step
held-value nan s n d D h = absurd h
held-value (inf t) s n d D h = absurd h
held-value (fin t m e) s n d D h =
    ap clamped
    (round_same (pos 1 *ℤ signed t (m * up e)) (signed s n) (down e) d (down_pos e) D
    (rw (h.0, mul-signed, one-mul, signed_mul s (m * up e) d, h.1, signed_mul)))
