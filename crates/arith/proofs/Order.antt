-- The order of ℤ: a ≤ b is b = a + n for a natural n, a < b the same for n above 0, and of two numbers one is at most the other.
use mathlib.Core.Path.{◌≡◌, refl, sym, ◌∙◌, ap, subst}
use mathlib.Core.Bool.{Bool, true, false, not, cond}
use Prim.Native.Nat.{ℕ, zero, suc, ◌+◌, ◌-◌, ◌≤◌, ◌<◌}
use native.Mathlib.Omega.{arith}
use lib.Dec.{T, ltb, leb→le, le→leb, ltb→lt, lt→ltb}
use lib.Arith.{le→nltb}
use lib.IntN.{ℤ, pos, negsuc, sub_ℕ, nat_abs, ◌+ℤ◌, ◌-ℤ◌, +ℤ_idr, +ℤ_comm, -ℤ-+ℤ_cancel}
use mathlib.Core.Logic.{◌⊎◌, inl, inr}
use lib.Signed.{◌≤ℤ◌, ◌<ℤ◌, le_z, lt_z, le_z_yes, lt_z_yes, lt_z_no, <ℤ_irrefl}

-- ---- a − b of two naturals

cond_no : (c : Bool) (x y : ℤ) → T (not c) → cond c x y ≡ y
cond_no true x y t = absurd t
cond_no false x y t = refl

pub subℕ-pos : (a b : ℕ) → b ≤ a → sub_ℕ a b ≡ pos (a - b)
subℕ-pos a b h = cond_no (ltb a b) (negsuc (b - suc a)) (pos (a - b)) (le→nltb a b h)

-- ---- a ≤ b as b − a = n
gap' : (a b : ℤ) → T (le_z a b) → (n : ℕ) × (b -ℤ a ≡ pos n)
gap' (pos zero) (pos b) t = (b, +ℤ_idr (pos b))
gap' (pos (suc a)) (pos b) t = (b - suc a, subℕ-pos b (suc a) (leb→le (suc a) b t))
gap' (pos a) (negsuc b) t = absurd t
gap' (negsuc a) (pos b) t = (b + suc a, refl)
gap' (negsuc a) (negsuc b) t = (suc a - suc b, subℕ-pos (suc a) (suc b) (omega (arith, leb→le b a t)))

pub gap : {a b : ℤ} → a ≤ℤ b → (n : ℕ) × (b -ℤ a ≡ pos n)
gap {a} {b} h = gap' a b h.le

-- a ≤ b as b = a + n
pub le-elim : {a b : ℤ} → a ≤ℤ b → (n : ℕ) × (b ≡ a +ℤ pos n)
le-elim {a} {b} h = let g = gap h in (g.0, sym (-ℤ-+ℤ_cancel b a) ∙ +ℤ_comm (b -ℤ a) a ∙ ap (λ t. a +ℤ t) g.1)

sub-le' : (c : Bool) (a n : ℕ) → (T c → n < suc a) → T (le_z (negsuc a) (cond c (negsuc (suc a - suc n)) (pos (n - suc a))))
sub-le' true a n f = le→leb (suc a - suc n) a (omega arith)
sub-le' false a n f = tt

plus-le : (a : ℤ) (n : ℕ) → T (le_z a (a +ℤ pos n))
plus-le (pos a) n = le→leb a (a + n) (omega arith)
plus-le (negsuc a) n = sub-le' (ltb n (suc a)) a n (ltb→lt n (suc a))

pub le_intro : {a b : ℤ} (n : ℕ) → b ≡ a +ℤ pos n → a ≤ℤ b
le_intro {a} n e = subst (λ t. a ≤ℤ t) (sym e) (le_z_yes (plus-le a n))

-- a natural number is not negative
pub nn-pos : (n : ℕ) → pos 0 ≤ℤ pos n
nn-pos n = le_z_yes (le→leb 0 n (omega arith))

pub pos_inj : {m n : ℕ} → pos m ≡ pos n → m ≡ n
pos_inj e = ap nat_abs e

-- ---- the strict order, and the order is total
lt_le' : (a b : ℤ) → T (lt_z a b) → T (le_z a b)
lt_le' (pos a) (pos b) t = le→leb a b (omega (arith, ltb→lt a b t))
lt_le' (pos a) (negsuc b) t = absurd t
lt_le' (negsuc a) (pos b) t = tt
lt_le' (negsuc a) (negsuc b) t = le→leb b a (omega (arith, ltb→lt b a t))

pub <ℤ→≤ℤ : {a b : ℤ} → a <ℤ b → a ≤ℤ b
<ℤ→≤ℤ {a} {b} h = le_z_yes (lt_le' a b h.lt)

pub lt-elim : {a b : ℤ} → a <ℤ b → (n : ℕ) × (b ≡ a +ℤ pos (suc n))
lt-elim {a} {b} h = let g = le-elim (<ℤ→≤ℤ h) in go g.0 g.1
  where
    go : (n : ℕ) → b ≡ a +ℤ pos n → (m : ℕ) × (b ≡ a +ℤ pos (suc m))
    go zero e = absurd (<ℤ_irrefl (subst (λ t. a <ℤ t) (e ∙ +ℤ_idr a) h))
    go (suc n) e = (n, e)

sub-lt' : (c : Bool) (a n : ℕ) → (T c → suc n < suc a) → T (lt_z (negsuc a) (cond c (negsuc (suc a - suc (suc n))) (pos (suc n - suc a))))
sub-lt' true a n f = lt→ltb (suc a - suc (suc n)) a (omega (arith, f tt))
sub-lt' false a n f = tt

plus-lt : (a : ℤ) (n : ℕ) → T (lt_z a (a +ℤ pos (suc n)))
plus-lt (pos a) n = lt→ltb a (a + suc n) (omega arith)
plus-lt (negsuc a) n = sub-lt' (ltb (suc n) (suc a)) a n (ltb→lt (suc n) (suc a))

pub lt-intro : {a b : ℤ} (n : ℕ) → b ≡ a +ℤ pos (suc n) → a <ℤ b
lt-intro {a} n e = subst (λ t. a <ℤ t) (sym e) (lt_z_yes (plus-lt a n))

pub ≤ℤ-total : (a b : ℤ) → (a ≤ℤ b) ⊎ (b ≤ℤ a)
≤ℤ-total a b = go (lt_z a b) (λ t. inl (<ℤ→≤ℤ (lt_z_yes t))) (λ t. inr (lt_z_no t))
  where
    go : (c : Bool) {X : Type 0} → (T c → X) → (T (not c) → X) → X
    go true f g = f tt
    go false f g = g tt
