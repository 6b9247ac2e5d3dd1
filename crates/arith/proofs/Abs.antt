-- The size of an integer, in ℕ, where `omega` reads it: of a sum, a product, a negation; from bounds on both sides; and that a number fits
-- its width.
use mathlib.Core.Path.{◌≡◌, refl, sym, subst}
use mathlib.Core.Bool.{Bool, true, false, cond}
use Prim.Native.Nat.{ℕ, zero, suc, ◌+◌, ◌*◌, ◌-◌, ◌^◌, ◌≤◌, ◌<◌}
use native.Mathlib.Nat.{lt_of_le_of_lt, le_refl, mul-le-mul_left, mul-le-mul_right, le_trans}
use native.Mathlib.Omega.{arith}
use lib.Dec.{T, ltb, leb→le, ltb→lt}
use lib.IntN.{ℤ, pos, negsuc, neg_ℤ, sub_ℕ, nat_abs, ◌+ℤ◌, ◌-ℤ◌, ◌*ℤ◌}
use lib.Signed.{◌≤ℤ◌, le_z, mag, shr_z, mag_shr}
use mir.Syntax.{Width}
use mir.Val.{SFits, hbits}

-- −B ≤ x ≤ B
pub record Within (B : ℕ) (x : ℤ) : Type 0 where
  pub lo : neg_ℤ (pos B) ≤ℤ x
  pub hi : x ≤ℤ pos B

pub abs_neg : (x : ℤ) → nat_abs (neg_ℤ x) ≡ nat_abs x
abs_neg (pos zero) = refl
abs_neg (pos (suc n)) = refl
abs_neg (negsuc n) = refl

abs-cond : (c : Bool) (a b : ℕ) → (T c → a < b) → nat_abs (cond c (negsuc (b - suc a)) (pos (a - b))) ≤ a + b
abs-cond true a b f = omega (arith, f tt)
abs-cond false a b f = omega arith

abs-sub : (a b : ℕ) → nat_abs (sub_ℕ a b) ≤ a + b
abs-sub a b = abs-cond (ltb a b) a b (ltb→lt a b)

pub abs-add : (x y : ℤ) → nat_abs (x +ℤ y) ≤ nat_abs x + nat_abs y
abs-add (pos a) (pos b) = le_refl (a + b)
abs-add (pos a) (negsuc b) = abs-sub a (suc b)
abs-add (negsuc a) (pos b) = omega (arith, abs-sub b (suc a))
abs-add (negsuc a) (negsuc b) = omega arith

pub abs-minus : (x y : ℤ) → nat_abs (x -ℤ y) ≤ nat_abs x + nat_abs y
abs-minus x y = omega (arith, abs-add x (neg_ℤ y), abs_neg y)

pub abs-mul : (x y : ℤ) → nat_abs (x *ℤ y) ≡ nat_abs x * nat_abs y
abs-mul (pos a) (pos b) = refl
abs-mul (pos a) (negsuc b) = abs_neg (pos (a * suc b))
abs-mul (negsuc a) (pos b) = abs_neg (pos (suc a * b))
abs-mul (negsuc a) (negsuc b) = refl

-- a product of two bounded numbers
pub abs-mul-le : (x y : ℤ) {A B : ℕ} → nat_abs x ≤ A → nat_abs y ≤ B → nat_abs (x *ℤ y) ≤ A * B
abs-mul-le x y {A} {B} h k =
    subst (λ (n : ℕ). n ≤ A * B) (sym (abs-mul x y)) (le_trans (mul-le-mul_right (nat_abs y) h) (mul-le-mul_left A k))

-- ---- bounds on both sides
abs-lo : (B n : ℕ) → T (le_z (neg_ℤ (pos B)) (negsuc n)) → suc n ≤ B
abs-lo zero n t = absurd t
abs-lo (suc B) n t = omega (arith, leb→le n B t)

pub abs≤ : {B : ℕ} {x : ℤ} → Within B x → nat_abs x ≤ B
abs≤ {B} {x = pos n} h = leb→le n B h.hi.le
abs≤ {B} {x = negsuc n} h = abs-lo B n h.lo.le

-- ---- fits
pub mag≤abs : (x : ℤ) → mag x ≤ nat_abs x
mag≤abs (pos n) = le_refl n
mag≤abs (negsuc n) = omega arith

pub sfits-abs : {w : Width} (x : ℤ) → nat_abs x < 2 ^ hbits w → SFits w x
sfits-abs x h = record { sfits = omega (arith, mag≤abs x) }

-- so does a quotient rounded down
pub sfits_shr : {w : Width} (z : ℤ) (m : ℕ) → SFits w z → SFits w (shr_z z m)
sfits_shr z m h = record { sfits = lt_of_le_of_lt (mag_shr z m) h.sfits }

-- and it is no larger
pub abs-shr : (z : ℤ) (m : ℕ) → nat_abs (shr_z z m) ≤ nat_abs z
abs-shr (pos n) m = mag_shr (pos n) m
abs-shr (negsuc n) m = omega (arith, mag_shr (negsuc n) m)
