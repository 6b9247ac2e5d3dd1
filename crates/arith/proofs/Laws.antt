-- The commutative-ring laws of ℤ that lib.IntN lacks.
use mathlib.Core.Path.{◌≡◌, sym, ◌∙◌, ap, ap₂}
use Prim.Native.Nat.{zero, suc}
use lib.IntN.{ℤ, pos, negsuc, neg_ℤ, suc_ℤ, pred_ℤ, one, ◌+ℤ◌, ◌-ℤ◌, ◌*ℤ◌, +ℤ_assoc, +ℤ_comm, +ℤ_idl, +ℤ_invl, *ℤ_comm, zero-*ℤ, *ℤ-one, neg_ℤ-neg_ℤ, suc_ℤ-*ℤ, pred_ℤ-*ℤ, suc_ℤ-+ℤ, pred_ℤ-+ℤ, +ℤ-neg_ℤ_cancel}

-- swap of the middle two of four
pub +ℤ-swap4 : (p q r s : ℤ) → (p +ℤ q) +ℤ (r +ℤ s) ≡ (p +ℤ r) +ℤ (q +ℤ s)
+ℤ-swap4 p q r s =
    +ℤ_assoc p q (r +ℤ s) ∙ ap (λ t. p +ℤ t) (sym (+ℤ_assoc q r s) ∙ ap (λ t. t +ℤ s) (+ℤ_comm q r) ∙ +ℤ_assoc r q s)
    ∙ sym (+ℤ_assoc p r (q +ℤ s))

-- swap of the last two of three
pub +ℤ-swap3 : (p q r : ℤ) → (p +ℤ q) +ℤ r ≡ (p +ℤ r) +ℤ q
+ℤ-swap3 p q r = +ℤ_assoc p q r ∙ ap (λ t. p +ℤ t) (+ℤ_comm q r) ∙ sym (+ℤ_assoc p r q)

-- induction by successor and predecessor, in the form that the laws below use
ind : (P : ℤ → Type 0) → P (pos zero) → ((k : ℤ) → P k → P (suc_ℤ k)) → ((k : ℤ) → P k → P (pred_ℤ k)) → (k : ℤ) → P k
ind P z s p (pos zero) = z
ind P z s p (pos (suc n)) = s (pos n) (ind P z s p (pos n))
ind P z s p (negsuc zero) = p (pos zero) z
ind P z s p (negsuc (suc n)) = p (negsuc n) (ind P z s p (negsuc n))

-- the right distributive law
pub +ℤ-*ℤ : (k l m : ℤ) → (k +ℤ l) *ℤ m ≡ k *ℤ m +ℤ l *ℤ m
+ℤ-*ℤ k l m = ind (λ k. (k +ℤ l) *ℤ m ≡ k *ℤ m +ℤ l *ℤ m)
    (ap (λ t. t *ℤ m) (+ℤ_idl l) ∙ sym (ap (λ t. t +ℤ l *ℤ m) (zero-*ℤ m) ∙ +ℤ_idl (l *ℤ m)))
    (λ k h. ap (λ t. t *ℤ m) (suc_ℤ-+ℤ k l) ∙ suc_ℤ-*ℤ (k +ℤ l) m ∙ ap (λ t. t +ℤ m) h ∙ +ℤ-swap3 (k *ℤ m) (l *ℤ m) m
    ∙ ap (λ t. t +ℤ l *ℤ m) (sym (suc_ℤ-*ℤ k m)))
    (λ k h. ap (λ t. t *ℤ m) (pred_ℤ-+ℤ k l) ∙ pred_ℤ-*ℤ (k +ℤ l) m ∙ ap (λ t. t -ℤ m) h ∙ +ℤ-swap3 (k *ℤ m) (l *ℤ m) (neg_ℤ m)
    ∙ ap (λ t. t +ℤ l *ℤ m) (sym (pred_ℤ-*ℤ k m)))
    k

-- the left distributive law
pub *ℤ-+ℤ : (k l m : ℤ) → k *ℤ (l +ℤ m) ≡ k *ℤ l +ℤ k *ℤ m
*ℤ-+ℤ k l m = *ℤ_comm k (l +ℤ m) ∙ +ℤ-*ℤ l m k ∙ ap₂ ◌+ℤ◌ (*ℤ_comm l k) (*ℤ_comm m k)

-- an inverse is unique
pub negℤ-unique : (a b : ℤ) → a +ℤ b ≡ pos zero → a ≡ neg_ℤ b
negℤ-unique a b h = sym (+ℤ-neg_ℤ_cancel a b) ∙ ap (λ t. t +ℤ neg_ℤ b) h ∙ +ℤ_idl (neg_ℤ b)

pub negℤ-*ℤ : (k m : ℤ) → neg_ℤ k *ℤ m ≡ neg_ℤ (k *ℤ m)
negℤ-*ℤ k m = negℤ-unique (neg_ℤ k *ℤ m) (k *ℤ m) (sym (+ℤ-*ℤ (neg_ℤ k) k m) ∙ ap (λ t. t *ℤ m) (+ℤ_invl k) ∙ zero-*ℤ m)

pub *ℤ-negℤ : (k m : ℤ) → k *ℤ neg_ℤ m ≡ neg_ℤ (k *ℤ m)
*ℤ-negℤ k m = *ℤ_comm k (neg_ℤ m) ∙ negℤ-*ℤ m k ∙ ap neg_ℤ (*ℤ_comm m k)

pub *ℤ-assoc : (k l m : ℤ) → (k *ℤ l) *ℤ m ≡ k *ℤ (l *ℤ m)
*ℤ-assoc k l m = ind (λ k. (k *ℤ l) *ℤ m ≡ k *ℤ (l *ℤ m))
    (ap (λ t. t *ℤ m) (zero-*ℤ l) ∙ zero-*ℤ m ∙ sym (zero-*ℤ (l *ℤ m)))
    (λ k h. ap (λ t. t *ℤ m) (suc_ℤ-*ℤ k l) ∙ +ℤ-*ℤ (k *ℤ l) l m ∙ ap (λ t. t +ℤ l *ℤ m) h ∙ sym (suc_ℤ-*ℤ k (l *ℤ m)))
    (λ k h. ap (λ t. t *ℤ m) (pred_ℤ-*ℤ k l) ∙ +ℤ-*ℤ (k *ℤ l) (neg_ℤ l) m ∙ ap₂ ◌+ℤ◌ h (negℤ-*ℤ l m) ∙ sym (pred_ℤ-*ℤ k (l *ℤ m)))
    k

-- a product's middle factors change places
pub *ℤ-left-comm : (k l m : ℤ) → k *ℤ (l *ℤ m) ≡ l *ℤ (k *ℤ m)
*ℤ-left-comm k l m = sym (*ℤ-assoc k l m) ∙ ap (λ t. t *ℤ m) (*ℤ_comm k l) ∙ *ℤ-assoc l k m

pub *ℤ-pos-one : (m : ℤ) → m *ℤ pos 1 ≡ m
unfolding one
*ℤ-pos-one m = *ℤ-one m

pub pos-one-*ℤ : (m : ℤ) → pos 1 *ℤ m ≡ m
pos-one-*ℤ m = *ℤ_comm (pos 1) m ∙ *ℤ-pos-one m

-- two numbers whose difference is zero
pub eq-of-sub : (a b : ℤ) → a +ℤ neg_ℤ b ≡ pos zero → a ≡ b
eq-of-sub a b h = negℤ-unique a (neg_ℤ b) h ∙ neg_ℤ-neg_ℤ b
