-- Rests that are 0, and a quotient that no rounding changes.
use mathlib.Core.Path.{◌≡◌, refl, sym, ap, ◌∙◌}
use mathlib.Core.List.{[], ◌∷◌}
use mathlib.Core.Bool.{true}
use Prim.Native.Nat.{ℕ, zero, suc, ◌+◌, ◌*◌, ◌/◌, ◌%◌, ◌≤◌, ◌<◌}
use native.Mathlib.Nat.{div-add-mod, add-mul-mod_self_left, mod-eq_of_lt, mod-lt, mul-le-mul_left}
use native.Mathlib.Omega.{arith}
use borrow.Author.Tests.{eqb-true, eq-eqb}
use lib.Dec.{eqb}
use lib.IntN.{ℤ, pos, negsuc, nat_abs, ◌+ℤ◌, ◌-ℤ◌, ◌*ℤ◌, +ℤ_idr}
use Rattle.arith.specs.Int.{Rounding, floor_div, divides}
use Rattle.arith.proofs.Abs.{abs-mul}
use Rattle.arith.proofs.Bits.{same_test}
use Rattle.arith.proofs.Quote.{quotes, ring! }
use Rattle.arith.proofs.Round.{Sound, floor-multiple, whole_is}

pub same_none : (a b : ℕ) → (a ≡ 0 → b ≡ 0) → (b ≡ 0 → a ≡ 0) → eqb a 0 ≡ eqb b 0
same_none a b f g =
    same_test (eqb a 0) (eqb b 0) (λ e. eq-eqb b 0 (f (eqb-true a 0 e))) (λ e. eq-eqb a 0 (g (eqb-true b 0 e)))

-- a common factor goes out
scaled-rest : (k a y : ℕ) → 0 < k → 0 < y → k * a % (k * y) ≡ k * (a % y)
scaled-rest k a y some z =
    ap (λ (n : ℕ). k * n % (k * y)) (sym (div-add-mod a y)) ∙ ap (λ (n : ℕ). n % (k * y)) (multiplied (a / y) (a % y))
    ∙ add-mul-mod_self_left (k * (a % y)) (k * y) (a / y)
    ∙ mod-eq_of_lt (below (a % y) (mod-lt a z))
  where
    multiplied : (q r : ℕ) → k * (y * q + r) ≡ k * r + k * y * q
    multiplied q r = omega arith

    below : (r : ℕ) → r < y → k * r < k * y
    below r l = let h = mul-le-mul_left k l in omega arith

pub common-divides : (k : ℕ) (x : ℤ) (y : ℕ) → 0 < k → 0 < y → divides (k * y) (pos k *ℤ x) ≡ divides y x
unfolding divides
common-divides k x y some z =
    ap (λ (n : ℕ). eqb (n % (k * y)) 0) (abs-mul (pos k) x) ∙ ap (λ (n : ℕ). eqb n 0) (scaled-rest k (nat_abs x) y some z)
    ∙ same_none (k * (nat_abs x % y)) (nat_abs x % y) (λ e. left (nat_abs x % y) e) (λ e. ap (λ (n : ℕ). k * n) e ∙ omega arith)
  where
    left : (n : ℕ) → k * n ≡ 0 → n ≡ 0
    left zero e = refl
    left (suc n) e = absurd (omega arith)

-- ---- where nothing is dropped, rounding gives the quotient

size_none : (z : ℤ) → nat_abs z ≡ 0 → z ≡ pos 0
size_none (pos n) e = ap pos e
size_none (negsuc n) e = absurd (omega arith)

small-none : (y n : ℕ) → 0 < y → 2 * (y * n) ≤ y → n ≡ 0
small-none y zero some h = refl
small-none y (suc n) some h = absurd (omega arith)

factor : (r q y : ℤ) → r *ℤ y -ℤ y *ℤ q ≡ y *ℤ (r -ℤ q)
factor r q y = ring! (r ∷ q ∷ y ∷ []) (search quotes depth 40) tt

again : (r q : ℤ) → r ≡ q +ℤ (r -ℤ q)
again r q = ring! (r ∷ q ∷ []) (search quotes depth 40) tt

module _ (x : ℤ) (y : ℕ) (some : 0 < y) (none : divides y x ≡ true) where
  multiple : x ≡ pos y *ℤ floor_div x y
  unfolding divides
  multiple = whole_is y some x (eqb-true (nat_abs x % y) 0 none)

  pub kept : {round : Rounding} → Sound round → round x y ≡ floor_div x y
  kept {round} sound =
      let r = round x y in
      let q = floor_div x y in
      let size = ap (λ z. nat_abs (r *ℤ pos y -ℤ z)) multiple ∙ ap nat_abs (factor r q (pos y)) ∙ abs-mul (pos y) (r -ℤ q) in
      let near = sound.nearly x y some in
      let same = size_none (r -ℤ q) (small-none y (nat_abs (r -ℤ q)) some (omega arith)) in
      again r q ∙ ap (λ z. q +ℤ z) same ∙ +ℤ_idr q

  pub drops-none : {round : Rounding} → Sound round → pos y *ℤ round x y ≡ x
  drops-none sound = ap (λ z. pos y *ℤ z) (kept sound) ∙ sym multiple

-- equal multiples have equal quotients
pub same-quotient : (d : ℕ) → 0 < d → (x y : ℤ) → pos d *ℤ x ≡ pos d *ℤ y → x ≡ y
same-quotient d some x y e = sym (floor-multiple d some x) ∙ ap (λ z. floor_div z d) e ∙ floor-multiple d some y
