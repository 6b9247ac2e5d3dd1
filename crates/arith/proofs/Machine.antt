-- What the machine's signed arithmetic leaves to an author. A signed local holds bits, so a need speaks of `to_z w (of_z w ..)` around each
-- number.
-- `Size u` finds the plain number v that u stands for, a bound on its size, and what is left to show: one order of natural numbers for each
-- step, for `omega`.
--     fits? (search (sizes, sized ..)) (omega arith)       that a sum, a difference or a product fits
--     value? (search (sizes, sized ..)) (omega arith)      that u is v
use mathlib.Core.Path.{◌≡◌, refl, sym, ◌∙◌, ap, ap₂, subst}
use Prim.Native.Nat.{ℕ, ◌+◌, ◌*◌, ◌%◌, ◌^◌, ◌≤◌, ◌<◌}
use native.Mathlib.Nat.{le_refl, le_trans, lt_of_le_of_lt, add-le-add, mod-eq_of_lt, one-mul, two-pow-succ}
use native.Mathlib.Numerals.{add-one}
use native.Mathlib.Omega.{arith}
use lib.Dec.{T, leb, lit<}
use lib.IntN.{ℤ, pos, negsuc, nat_abs, ◌+ℤ◌, ◌-ℤ◌, ◌*ℤ◌}
use lib.Pow.{pow_mono}
use lib.Signed.{mag}
use mir.Syntax.{Width, w32, w64}
use mir.Val.{SFits, hbits, to_z, of_z}
use mir.Facts.{to_z-of_z, to_z_pos, sfits_widen}
use Rattle.arith.proofs.Abs.{abs-add, abs-minus, abs-mul-le, sfits-abs}

pub record Size (u : ℤ) : Type 1 where
  pub v : ℤ
  pub B : ℕ
  pub Ob : Type 0
  pub is : Ob → u ≡ v
  pub ok : Ob → nat_abs v ≤ B

-- ---- the proofs, shut

pub is-add : (a b : ℤ) (x : Size a) (y : Size b) → x.Ob × y.Ob → a +ℤ b ≡ x.v +ℤ y.v
is-add a b x y t = ap₂ ◌+ℤ◌ (x.is t.0) (y.is t.1)

pub ok_add : (a b : ℤ) (x : Size a) (y : Size b) → x.Ob × y.Ob → nat_abs (x.v +ℤ y.v) ≤ x.B + y.B
ok_add a b x y t = le_trans (abs-add x.v y.v) (add-le-add (x.ok t.0) (y.ok t.1))

pub is-sub : (a b : ℤ) (x : Size a) (y : Size b) → x.Ob × y.Ob → a -ℤ b ≡ x.v -ℤ y.v
is-sub a b x y t = ap₂ ◌-ℤ◌ (x.is t.0) (y.is t.1)

pub ok_sub : (a b : ℤ) (x : Size a) (y : Size b) → x.Ob × y.Ob → nat_abs (x.v -ℤ y.v) ≤ x.B + y.B
ok_sub a b x y t = le_trans (abs-minus x.v y.v) (add-le-add (x.ok t.0) (y.ok t.1))

pub is_mul : (a b : ℤ) (x : Size a) (y : Size b) → x.Ob × y.Ob → a *ℤ b ≡ x.v *ℤ y.v
is_mul a b x y t = ap₂ ◌*ℤ◌ (x.is t.0) (y.is t.1)

pub ok_mul : (a b : ℤ) (x : Size a) (y : Size b) → x.Ob × y.Ob → nat_abs (x.v *ℤ y.v) ≤ x.B * y.B
ok_mul a b x y t = abs-mul-le x.v y.v (x.ok t.0) (y.ok t.1)

pub is-bits : (w : Width) (a : ℤ) (x : Size a) → x.Ob × (x.B < 2 ^ hbits w) → to_z w (of_z w a) ≡ x.v
is-bits w a x t = ap (λ z. to_z w (of_z w z)) (x.is t.0)
    ∙ to_z-of_z {w = w} (sfits-abs {w = w} x.v (lt_of_le_of_lt (x.ok t.0) t.1))

pub ok-bits : (w : Width) (a : ℤ) (x : Size a) → x.Ob × (x.B < 2 ^ hbits w) → nat_abs x.v ≤ x.B
ok-bits w a x t = x.ok t.0

-- ---- the rules

abbrev pub s-add : (a b : ℤ) → Size a → Size b → Size (a +ℤ b)
s-add a b x y = record { v = x.v +ℤ y.v; B = x.B + y.B; Ob = x.Ob × y.Ob; is = is-add a b x y; ok = ok_add a b x y }

abbrev pub s-sub : (a b : ℤ) → Size a → Size b → Size (a -ℤ b)
s-sub a b x y = record { v = x.v -ℤ y.v; B = x.B + y.B; Ob = x.Ob × y.Ob; is = is-sub a b x y; ok = ok_sub a b x y }

abbrev pub s-mul : (a b : ℤ) → Size a → Size b → Size (a *ℤ b)
s-mul a b x y = record { v = x.v *ℤ y.v; B = x.B * y.B; Ob = x.Ob × y.Ob; is = is_mul a b x y; ok = ok_mul a b x y }

abbrev pub s-bits : (w : Width) (a : ℤ) → Size a → Size (to_z w (of_z w a))
s-bits w a x = record { v = x.v; B = x.B; Ob = x.Ob × (x.B < 2 ^ hbits w); is = is-bits w a x; ok = ok-bits w a x }

abbrev pub s-pos : (n : ℕ) → T (leb 0 n) → Size (pos n)
s-pos n t = record { v = pos n; B = n; Ob = Unit {0}; is = λ t. refl; ok = λ t. le_refl n }

pub ruleset sizes = (tt, s-pos, s-bits, s-mul, s-sub, s-add)

-- ---- what is known of a number

-- a bound
abbrev pub sized : (x : ℤ) (B : ℕ) → nat_abs x ≤ B → Size x
sized x B h = record { v = x; B = B; Ob = Unit {0}; is = λ t. refl; ok = λ t. h }

-- a number of the machine's, read back from its bits
pub is_held : (w : Width) (x : ℤ) → SFits w x → Unit {0} → to_z w (of_z w x) ≡ x
is_held w x h t = to_z-of_z {w = w} h

abbrev pub held : (w : Width) (x : ℤ) (B : ℕ) → SFits w x → nat_abs x ≤ B → Size (to_z w (of_z w x))
held w x B h l = record { v = x; B = B; Ob = Unit {0}; is = is_held w x h; ok = λ t. l }

-- a natural number, read as signed bits
pub is-nat : (w : Width) (n B : ℕ) → n ≤ B → B < 2 ^ hbits w → to_z w n ≡ pos n
is-nat w n B h t = to_z-of_z {w = w} {z = pos n} (record { sfits = lt_of_le_of_lt h t })

-- a 32-bit element, read, and read as 64 bits
pub element : (x : ℤ) → mag x < 2 ^ 31 → to_z w32 (of_z w32 x) ≡ x
element x h = to_z-of_z {w = w32} (record { sfits = h })

pub widen-fits : (x : ℤ) → mag x < 2 ^ 31 → SFits w64 (to_z w32 (of_z w32 x))
widen-fits x h = rw (element x h) (sfits_widen {w = w32} tt (record { sfits = h }))

pub widened : (x : ℤ) → mag x < 2 ^ 31 → to_z w64 (of_z w64 (to_z w32 (of_z w32 x))) ≡ x
widened x h = to_z-of_z {w = w64} (widen-fits x h) ∙ element x h

pub near : (x : ℤ) → mag x < 2 ^ 31 → nat_abs x ≤ 2 ^ 31
near (pos n) h = omega arith
near (negsuc n) h = omega arith

-- a 64-bit number, read
pub read : (z : ℤ) → mag z < 2 ^ 63 → to_z w64 (of_z w64 z) ≡ z
read z h = to_z-of_z {w = w64} (record { sfits = h })

-- a small number, as the machine holds it
pub kept : (x : ℤ) (B : ℕ) → nat_abs x ≤ B → B < 2 ^ 63 → to_z w64 (of_z w64 x) ≡ x
kept x B h l = to_z-of_z (sfits-abs {w = w64} x (omega arith))

pub kept_low : (x : ℤ) (B : ℕ) → nat_abs x ≤ B → B < 2 ^ 63 → nat_abs (to_z w64 (of_z w64 x)) ≤ B
kept_low x B h l = rw (kept x B h l) h

-- 1 shifted by the number of axes
pub shifted : (n : ℕ) → n ≤ 3 → 1 * 2 ^ n % 18446744073709551616 ≡ 2 ^ n
shifted n h = rw (one-mul (2 ^ n)) (mod-eq_of_lt (lt_of_le_of_lt (pow_mono h) (lit< tt)))

-- 1 shifted to a power that fits, as a signed number
pub power-held : (k : ℕ) → k ≤ 61 → to_z w64 (1 * 2 ^ k % 18446744073709551616) ≡ pos (2 ^ k)
power-held k h =
    let l : 2 ^ k ≤ 2 ^ 61 = pow_mono h in
    rw (one-mul (2 ^ k), mod-eq_of_lt (lt_of_le_of_lt l (lit< tt)), to_z_pos w64 {n = 2 ^ k} (lt_of_le_of_lt l (lit< tt)))

pub power-double : (k : ℕ) → 2 ^ (k + 1) ≡ 2 * 2 ^ k
power-double k = ap (λ (i : ℕ). 2 ^ i) (add-one k) ∙ two-pow-succ k ∙ twice (2 ^ k)
  where
    twice : (h : ℕ) → h + h ≡ 2 * h
    twice h = omega arith

-- ---- the answers

pub fits? : {w : Width} {u : ℤ} (x : Size u) → x.Ob × (x.B < 2 ^ hbits w) → SFits w u
fits? {w} {u} x t = sfits-abs {w = w} u (lt_of_le_of_lt (subst (λ z. nat_abs z ≤ x.B) (sym (x.is t.0)) (x.ok t.0)) t.1)

pub value? : {u : ℤ} (x : Size u) → x.Ob → u ≡ x.v
value? x t = x.is t
