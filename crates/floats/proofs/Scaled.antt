-- 2^p times a finite float, as the machine multiplies: exact, or an infinity where the product is 2^128 or more. So the product has the
-- step of the float (`scaled`).
use mathlib.Core.Path.{◌≡◌, refl, sym, ap, ap₂, ◌∙◌, subst}
use mathlib.Core.Logic.{◌⊎◌, inl, inr}
use Prim.Native.Nat.{ℕ, zero, suc, ◌+◌, ◌-◌, ◌*◌, ◌%◌, ◌^◌, ◌≤◌, ◌<◌}
use native.Mathlib.Nat.{le_trans, le_of_eq, lt_of_lt_of_le, lt_of_le_of_lt, not-le_of_lt, le_of_suc-le-suc, lt_of_not-le, zero-lt-suc, mul-one, one-mul, mul_comm, mul_assoc, mul_right_comm, mul-lt-mul_of_pos_right, mul-le-mul_right, lt_of_mul-lt-mul_right}
use native.Mathlib.Omega.{arith}
use mathlib.Core.Bool.{Bool, true, false, not, cond, ◌&&◌}
use lib.IntN.{ℤ, pos, negsuc}
use lib.Dec.{T, leb, ltb, eqb, ltb→lt, nltb→le, leb→le, eqb→eq, lit<, lit≤}
use lib.Pow.{pow-add, pow_pos, pow-lt}
use lib.Ieee.{Float, nan, inf, fin, binary32, up, down, odd, units, round, mul, fits, is_nan, le}
use lib.Ieee.Fits.{down_pos, and_l, and_r, round_is}
use lib.Ieee.Exact.{HasValue, odd_sign, round_exact}
use lib.Ieee.Order.{drop, kept, round_mono}
use Rattle.arith.specs.Int.{round_half_up}
use Rattle.floats.specs.Step.{signed, step, clamped}
use Rattle.floats.specs.Bits.{nearest_held}
use Rattle.floats.proofs.StepLaws.{mul-signed, clamped-far, held-value}

-- 2^p as a float
abbrev pub scale : ℕ → Float
scale p = fin false 1 (pos p)

-- ---- the product as a rounded fraction
product_is : (s : Bool) (m : ℕ) (e : ℤ) (p : ℕ) → mul binary32 (fin s m e) (scale p) ≡ round binary32 s (m * up e * 2 ^ p) (down e)
unfolding mul
product_is true m e p = ap₂ (round binary32 true) (ap (λ (k : ℕ). m * up e * k) (one-mul (2 ^ p))) (mul-one (down e))
product_is false m e p = ap₂ (round binary32 false) (ap (λ (k : ℕ). m * up e * k) (one-mul (2 ^ p))) (mul-one (down e))

-- ---- what a finite float has: 24 digits, and no bit below 2^-149
zero-down : (e : ℤ) → up e * down e ≡ 1 → down e ≤ 2 ^ 149
zero-down (pos k) h = lit≤ tt
zero-down (negsuc k) h = at_most (2 ^ suc k) (omega arith)
  where
    at_most : (d : ℕ) → d ≡ 1 → d ≤ 2 ^ 149
    at_most d h = le_trans (le_of_eq h) (lit≤ tt)

fits-says : (s : Bool) (m : ℕ) (e : ℤ) → T (fits binary32 (fin s m e)) → (m < 2 ^ 24) × (down e ≤ 2 ^ 149)
unfolding fits
fits-says s zero e t = (lit< tt, zero-down e (eqb→eq (up e * down e) 1 t))
fits-says s (suc m) e t =
    let a = eqb (suc m % 2) 1 in
    let b = ltb (suc m) (2 ^ 24) in
    let c = leb (down e) (2 ^ 149) in
    let abc = and_l (a && b && c) (ltb (suc m * up e) (2 ^ 128 * down e)) t in
    (ltb→lt (suc m) (2 ^ 24) (and_r a b (and_l (a && b) c abc)), leb→le (down e) (2 ^ 149) (and_r (a && b) c abc))

-- ---- exact below 2^128
exact-at : (s : Bool) (n d q j : ℕ) → 0 < d → q < 2 ^ 24 → n < 2 ^ 128 * d → n * 2 ^ 149 ≡ q * 2 ^ j * d
    → HasValue (round binary32 s n d) s n d
exact-at s n d q j D Q N e =
    round_exact binary32 s n d q j D Q
    (lt_of_mul-lt-mul_right d
    (lt_of_le_of_lt (le_of_eq (sym e))
    (lt_of_lt_of_le (mul-lt-mul_of_pos_right N (pow_pos 149)) (le_of_eq (mul_right_comm (2 ^ 128) d (2 ^ 149)))))) e

pow-back : (a b : ℕ) → 2 ^ a ≤ 2 ^ b → a ≤ b
pow-back a b h = le_of_suc-le-suc (lt_of_not-le (λ (g : suc b ≤ a). not-le_of_lt (pow-lt g) h))

exact : (s : Bool) (m : ℕ) (e : ℤ) (p : ℕ) → m < 2 ^ 24 → down e ≤ 2 ^ 149 → m * up e * 2 ^ p < 2 ^ 128 * down e
    → HasValue (round binary32 s (m * up e * 2 ^ p) (down e)) s (m * up e * 2 ^ p) (down e)
exact s m (pos k) p M L N =
    exact-at s (m * 2 ^ k * 2 ^ p) 1 m (k + (p + 149)) (zero-lt-suc 0) M N
    (mul_assoc (m * 2 ^ k) (2 ^ p) (2 ^ 149) ∙ ap (λ (x : ℕ). m * 2 ^ k * x) (sym (pow-add 2 p 149)) ∙ mul_assoc m (2 ^ k) (2 ^ (p + 149))
    ∙ ap (λ (x : ℕ). m * x) (sym (pow-add 2 k (p + 149)))
    ∙ sym (mul-one (m * 2 ^ (k + (p + 149)))))
exact s m (negsuc k) p M L N =
    let j = p + 149 - suc k in
    exact-at s (m * 1 * 2 ^ p) (2 ^ suc k) m j (pow_pos (suc k)) M N
    (ap (λ (x : ℕ). x * 2 ^ p * 2 ^ 149) (mul-one m)
    ∙ mul_assoc m (2 ^ p) (2 ^ 149)
    ∙ ap (λ (x : ℕ). m * x)
    (sym (pow-add 2 p 149) ∙ ap (λ (x : ℕ). 2 ^ x) (sym (join k p (pow-back (suc k) 149 L))) ∙ pow-add 2 j (suc k))
    ∙ sym (mul_assoc m (2 ^ j) (2 ^ suc k)))
  where
    join : (k p : ℕ) → suc k ≤ 149 → p + 149 - suc k + suc k ≡ p + 149
    join k p h = omega arith

-- ---- an infinity from 2^128 on
top-is : round binary32 false (2 ^ 128) 1 ≡ inf false
unfolding round
top-is = refl

inf-le : (v : Float) → T (le (inf false) v) → v ≡ inf false
unfolding le
inf-le nan t = absurd t
inf-le (inf true) t = absurd t
inf-le (inf false) t = refl
inf-le (fin s m e) t = absurd t

units-inf : (s : Bool) (q k : ℕ) → units binary32 false q k ≡ inf false → units binary32 s q k ≡ inf s
unfolding units
units-inf s q k = go (ltb (q * 2 ^ k) (2 ^ 277))
  where
    go : (b : Bool) → cond b (odd 25 false q k 149) (inf false) ≡ inf false → cond b (odd 25 s q k 149) (inf s) ≡ inf s
    go true h = absurd (subst (λ (v : Float). HasValue v false (q * 2 ^ k) (2 ^ 149)) h (odd_sign 25 false q k 149))
    go false h = refl

over : (s : Bool) (n d : ℕ) → 0 < d → 2 ^ 128 * d ≤ n → round binary32 s n d ≡ inf s
over s n d D N =
    let above = round_mono binary32 (2 ^ 128) 1 n d (zero-lt-suc 0) D (le_trans N (le_of_eq (sym (mul-one n)))) in
    let z = inf-le (round binary32 false n d) (subst (λ (v : Float). T (le v (round binary32 false n d))) top-is above) in
    round_is binary32 s n d ∙ units-inf s (kept 24 (n * 2 ^ 149) d) (drop 24 (n * 2 ^ 149) d) (sym (round_is binary32 false n d) ∙ z)

-- ---- the two together
abbrev Product : Float → Bool → ℕ → ℕ → Type 0
Product v s n d = HasValue v s n d ⊎ ((v ≡ inf s) × (2 ^ 31 * d ≤ n))

product : (s : Bool) (m : ℕ) (e : ℤ) (p : ℕ) → T (fits binary32 (fin s m e))
    → Product (mul binary32 (fin s m e) (scale p)) s (m * up e * 2 ^ p) (down e)
product s m e p t =
    let n = m * up e * 2 ^ p in
    let d = down e in
    let f = fits-says s m e t in
    subst (λ (v : Float). Product v s n d) (sym (product_is s m e p))
    (go f.0 f.1 (ltb n (2 ^ 128 * d)) (ltb→lt n (2 ^ 128 * d)) (nltb→le n (2 ^ 128 * d)))
  where
    go : m < 2 ^ 24 → down e ≤ 2 ^ 149 → (b : Bool) → (T b → m * up e * 2 ^ p < 2 ^ 128 * down e)
        → (T (not b) → 2 ^ 128 * down e ≤ m * up e * 2 ^ p)
        → Product (round binary32 s (m * up e * 2 ^ p) (down e)) s (m * up e * 2 ^ p) (down e)
    go M L true h k = inl (exact s m e p M L (h tt))
    go M L false h k = inr (over s (m * up e * 2 ^ p) (down e) (down_pos e) (k tt), le_trans (mul-le-mul_right (down e) (lit≤ tt)) (k tt))

-- ---- the step of a float is the nearest whole number to its product
of-product : (v : Float) (s : Bool) (n d : ℕ) → 0 < d → Product v s n d → nearest_held v ≡ clamped (round_half_up (signed s n) d)
of-product v s n d D (inl h) = held-value v s n d D h
of-product v s n d D (inr h) = ap nearest_held h.0 ∙ sym (clamped-far s n d D h.1)

pub scaled : (s : Bool) (m : ℕ) (e : ℤ) (p : ℕ) → T (fits binary32 (fin s m e))
    → nearest_held (mul binary32 (fin s m e) (scale p)) ≡ clamped (step (2 ^ p) (fin s m e))
unfolding step
scaled s m e p t =
    of-product (mul binary32 (fin s m e) (scale p)) s (m * up e * 2 ^ p) (down e) (down_pos e) (product s m e p t)
    ∙ ap (λ z. clamped (round_half_up z (down e))) (ap (signed s) (mul_comm (m * up e) (2 ^ p)) ∙ sym (mul-signed (2 ^ p) s (m * up e)))

not-nan : (v : Float) (s : Bool) (n d : ℕ) → Product v s n d → T (not (is_nan v))
unfolding is_nan
not-nan nan s n d (inl h) = absurd h
not-nan nan s n d (inr h) = absurd (subst (λ (v : Float). T (is_nan v)) h.0 tt)
not-nan (inf t) s n d h = tt
not-nan (fin t m e) s n d h = tt

pub scaled-not-nan : (s : Bool) (m : ℕ) (e : ℤ) (p : ℕ) → T (fits binary32 (fin s m e))
    → T (not (is_nan (mul binary32 (fin s m e) (scale p))))
scaled-not-nan s m e p t = not-nan (mul binary32 (fin s m e) (scale p)) s (m * up e * 2 ^ p) (down e) (product s m e p t)
