-- `ring` by reflection: an expression over ℤ, its normal form, and that an equation whose difference has the normal form 0 holds.
-- The normal form is a recursive Horner form: `p ▹ q` is p + x · q, where x is the first variable, which p does not have.
--
use mathlib.Core.Path.{◌≡◌, refl, sym, ◌∙◌, ap, ap₂}
use mathlib.Core.List.{List, [], ◌∷◌}
use mathlib.Core.Bool.{Bool, true, false}
use Prim.Native.Nat.{ℕ, zero, suc}
use lib.Dec.{T}
use lib.IntN.{ℤ, pos, negsuc, neg_ℤ, ◌+ℤ◌, ◌*ℤ◌, +ℤ_assoc, +ℤ_comm, +ℤ_idl, +ℤ_idr, *ℤ-zero}
use Rattle.arith.specs.Int.{◌^ℤ◌}
use Rattle.arith.proofs.Laws.{+ℤ-swap4, +ℤ-*ℤ, *ℤ-+ℤ, *ℤ-assoc, *ℤ-left-comm, *ℤ-pos-one, pos-one-*ℤ, negℤ-*ℤ, eq-of-sub}

-- ---- expressions and what they denote

pub data E : Type 0 where
  var : ℕ → E
  con : ℤ → E
  ◌⊞◌ : E → E → E
  ◌⊠◌ : E → E → E
  ⊟◌ : E → E
  ◌↑◌ : E → ℕ → E

infixl 6 ◌⊞◌
infixl 7 ◌⊠◌
infix 9 ◌↑◌
infix 8 ⊟◌
abbrev pub nth : List ℤ → ℕ → ℤ
nth [] i = pos 0
nth (x ∷ ρ) zero = x
nth (x ∷ ρ) (suc i) = nth ρ i

abbrev pub den : E → List ℤ → ℤ
den (var i) ρ = nth ρ i
den (con z) ρ = z
den (a ⊞ b) ρ = den a ρ +ℤ den b ρ
den (a ⊠ b) ρ = den a ρ *ℤ den b ρ
den (⊟ a) ρ = neg_ℤ (den a ρ)
den (a ↑ n) ρ = den a ρ ^ℤ n

-- ---- normal forms

pub data P : Type 0 where
  lit : ℤ → P
  ◌▹◌ : P → P → P

infixr 5 ◌▹◌
abbrev pub ev : P → List ℤ → ℤ
ev (lit z) ρ = z
ev (p ▹ q) [] = ev p []
ev (p ▹ q) (x ∷ ρ) = ev p ρ +ℤ x *ℤ ev q (x ∷ ρ)

-- p ▹ q, but a constant stays a constant
abbrev pub mk : P → P → P
mk (lit a) (lit (pos zero)) = lit a
mk (lit a) (lit (pos (suc n))) = lit a ▹ lit (pos (suc n))
mk (lit a) (lit (negsuc n)) = lit a ▹ lit (negsuc n)
mk (lit a) (q ▹ r) = lit a ▹ (q ▹ r)
mk (p ▹ q) r = (p ▹ q) ▹ r

abbrev pub add_l : ℤ → P → P
add_l a (lit b) = lit (a +ℤ b)
add_l a (p ▹ q) = add_l a p ▹ q

infixl 6 ◌⊕◌
abbrev pub ◌⊕◌ : P → P → P
lit a ⊕ q = add_l a q
(p ▹ q) ⊕ lit b = add_l b (p ▹ q)
(p ▹ q) ⊕ (r ▹ s) = mk (p ⊕ r) (q ⊕ s)

abbrev pub scale : ℤ → P → P
scale k (lit a) = lit (k *ℤ a)
scale k (p ▹ q) = mk (scale k p) (scale k q)

abbrev pub under : (P → P) → P → P
under f (lit b) = mk (f (lit b)) (lit (pos zero))
under f (q ▹ r) = mk (f q) (under f r)

infixl 7 ◌⊗◌
abbrev pub ◌⊗◌ : P → P → P
lit a ⊗ q = scale a q
(p ▹ p') ⊗ q = under (λ r. p ⊗ r) q ⊕ mk (lit (pos zero)) (p' ⊗ q)

abbrev pub power : P → ℕ → P
power p zero = lit (pos 1)
power p (suc n) = p ⊗ power p n

abbrev pub vr : ℕ → P
vr zero = lit (pos 0) ▹ lit (pos 1)
vr (suc i) = vr i ▹ lit (pos 0)

abbrev pub norm : E → P
norm (var i) = vr i
norm (con z) = lit z
norm (a ⊞ b) = norm a ⊕ norm b
norm (a ⊠ b) = norm a ⊗ norm b
norm (⊟ a) = scale (negsuc 0) (norm a)
norm (a ↑ n) = power (norm a) n

abbrev pub isz : P → Bool
isz (lit (pos zero)) = true
isz (lit (pos (suc n))) = false
isz (lit (negsuc n)) = false
isz (p ▹ q) = false

-- ---- soundness

ev-mk : (p q : P) (ρ : List ℤ) → ev (mk p q) ρ ≡ ev (p ▹ q) ρ
ev-mk (lit a) (lit (pos zero)) [] = refl
ev-mk (lit a) (lit (pos zero)) (x ∷ ρ) = sym (ap (λ t. a +ℤ t) (*ℤ-zero x) ∙ +ℤ_idr a)
ev-mk (lit a) (lit (pos (suc n))) ρ = refl
ev-mk (lit a) (lit (negsuc n)) ρ = refl
ev-mk (lit a) (q ▹ r) ρ = refl
ev-mk (p ▹ q) r ρ = refl

ev-add_l : (a : ℤ) (p : P) (ρ : List ℤ) → ev (add_l a p) ρ ≡ a +ℤ ev p ρ
ev-add_l a (lit b) ρ = refl
ev-add_l a (p ▹ q) [] = ev-add_l a p []
ev-add_l a (p ▹ q) (x ∷ ρ) = ap (λ t. t +ℤ x *ℤ ev q (x ∷ ρ)) (ev-add_l a p ρ) ∙ +ℤ_assoc a (ev p ρ) (x *ℤ ev q (x ∷ ρ))

ev-⊕ : (p q : P) (ρ : List ℤ) → ev (p ⊕ q) ρ ≡ ev p ρ +ℤ ev q ρ
ev-⊕ (lit a) q ρ = ev-add_l a q ρ
ev-⊕ (p ▹ q) (lit b) ρ = ev-add_l b (p ▹ q) ρ ∙ +ℤ_comm b (ev (p ▹ q) ρ)
ev-⊕ (p ▹ q) (r ▹ s) [] = ev-mk (p ⊕ r) (q ⊕ s) [] ∙ ev-⊕ p r []
ev-⊕ (p ▹ q) (r ▹ s) (x ∷ ρ) =
    ev-mk (p ⊕ r) (q ⊕ s) (x ∷ ρ)
    ∙ ap₂ ◌+ℤ◌ (ev-⊕ p r ρ) (ap (λ t. x *ℤ t) (ev-⊕ q s (x ∷ ρ)) ∙ *ℤ-+ℤ x (ev q (x ∷ ρ)) (ev s (x ∷ ρ)))
    ∙ +ℤ-swap4 (ev p ρ) (ev r ρ) (x *ℤ ev q (x ∷ ρ)) (x *ℤ ev s (x ∷ ρ))

ev-scale : (k : ℤ) (p : P) (ρ : List ℤ) → ev (scale k p) ρ ≡ k *ℤ ev p ρ
ev-scale k (lit a) ρ = refl
ev-scale k (p ▹ q) [] = ev-mk (scale k p) (scale k q) [] ∙ ev-scale k p []
ev-scale k (p ▹ q) (x ∷ ρ) =
    ev-mk (scale k p) (scale k q) (x ∷ ρ)
    ∙ ap₂ ◌+ℤ◌ (ev-scale k p ρ) (ap (λ t. x *ℤ t) (ev-scale k q (x ∷ ρ)) ∙ *ℤ-left-comm x k (ev q (x ∷ ρ)))
    ∙ sym (*ℤ-+ℤ k (ev p ρ) (x *ℤ ev q (x ∷ ρ)))

ev-under₀ : (f : P → P) (c : ℤ) → ((r : P) → ev (f r) [] ≡ c *ℤ ev r []) → (q : P) → ev (under f q) [] ≡ c *ℤ ev q []
ev-under₀ f c h (lit b) = ev-mk (f (lit b)) (lit (pos zero)) [] ∙ h (lit b)
ev-under₀ f c h (q ▹ r) = ev-mk (f q) (under f r) [] ∙ h q

ev-under : (f : P → P) (c x : ℤ) (ρ : List ℤ) → ((r : P) → ev (f r) ρ ≡ c *ℤ ev r ρ) → (q : P) → ev (under f q) (x ∷ ρ) ≡ c *ℤ ev q (x ∷ ρ)
ev-under f c x ρ h (lit b) = ev-mk (f (lit b)) (lit (pos zero)) (x ∷ ρ) ∙ ap₂ ◌+ℤ◌ (h (lit b)) (*ℤ-zero x) ∙ +ℤ_idr (c *ℤ b)
ev-under f c x ρ h (q ▹ r) =
    ev-mk (f q) (under f r) (x ∷ ρ)
    ∙ ap₂ ◌+ℤ◌ (h q) (ap (λ t. x *ℤ t) (ev-under f c x ρ h r) ∙ *ℤ-left-comm x c (ev r (x ∷ ρ)))
    ∙ sym (*ℤ-+ℤ c (ev q ρ) (x *ℤ ev r (x ∷ ρ)))

ev-⊗ : (p q : P) (ρ : List ℤ) → ev (p ⊗ q) ρ ≡ ev p ρ *ℤ ev q ρ
ev-⊗ (lit a) q ρ = ev-scale a q ρ
ev-⊗ (p ▹ p') q [] =
    ev-⊕ (under (λ r. p ⊗ r) q) (mk (lit (pos zero)) (p' ⊗ q)) []
    ∙ ap₂ ◌+ℤ◌ (ev-under₀ (λ r. p ⊗ r) (ev p []) (λ r. ev-⊗ p r []) q) (ev-mk (lit (pos zero)) (p' ⊗ q) [])
    ∙ +ℤ_idr (ev p [] *ℤ ev q [])
ev-⊗ (p ▹ p') q (x ∷ ρ) =
    ev-⊕ (under (λ r. p ⊗ r) q) (mk (lit (pos zero)) (p' ⊗ q)) (x ∷ ρ)
    ∙ ap₂ ◌+ℤ◌ (ev-under (λ r. p ⊗ r) (ev p ρ) x ρ (λ r. ev-⊗ p r ρ) q)
    (ev-mk (lit (pos zero)) (p' ⊗ q) (x ∷ ρ) ∙ +ℤ_idl (x *ℤ ev (p' ⊗ q) (x ∷ ρ)) ∙ ap (λ t. x *ℤ t) (ev-⊗ p' q (x ∷ ρ))
    ∙ sym (*ℤ-assoc x (ev p' (x ∷ ρ)) (ev q (x ∷ ρ))))
    ∙ sym (+ℤ-*ℤ (ev p ρ) (x *ℤ ev p' (x ∷ ρ)) (ev q (x ∷ ρ)))

ev-power : (p : P) (n : ℕ) (ρ : List ℤ) → ev (power p n) ρ ≡ ev p ρ ^ℤ n
ev-power p zero ρ = refl
ev-power p (suc n) ρ = ev-⊗ p (power p n) ρ ∙ ap (λ t. ev p ρ *ℤ t) (ev-power p n ρ)

ev-vr : (i : ℕ) (ρ : List ℤ) → ev (vr i) ρ ≡ nth ρ i
ev-vr zero [] = refl
ev-vr zero (x ∷ ρ) = +ℤ_idl (x *ℤ pos 1) ∙ *ℤ-pos-one x
ev-vr (suc i) [] = ev-vr i []
ev-vr (suc i) (x ∷ ρ) = ap₂ ◌+ℤ◌ (ev-vr i ρ) (*ℤ-zero x) ∙ +ℤ_idr (nth ρ i)

minus-one-*ℤ : (m : ℤ) → negsuc 0 *ℤ m ≡ neg_ℤ m
minus-one-*ℤ m = negℤ-*ℤ (pos 1) m ∙ ap neg_ℤ (pos-one-*ℤ m)

pub sound : (e : E) (ρ : List ℤ) → ev (norm e) ρ ≡ den e ρ
sound (var i) ρ = ev-vr i ρ
sound (con z) ρ = refl
sound (a ⊞ b) ρ = ev-⊕ (norm a) (norm b) ρ ∙ ap₂ ◌+ℤ◌ (sound a ρ) (sound b ρ)
sound (a ⊠ b) ρ = ev-⊗ (norm a) (norm b) ρ ∙ ap₂ ◌*ℤ◌ (sound a ρ) (sound b ρ)
sound (⊟ a) ρ = ev-scale (negsuc 0) (norm a) ρ ∙ minus-one-*ℤ (ev (norm a) ρ) ∙ ap neg_ℤ (sound a ρ)
sound (a ↑ n) ρ = ev-power (norm a) n ρ ∙ ap (λ t. t ^ℤ n) (sound a ρ)

isz-ev : (p : P) (ρ : List ℤ) → T (isz p) → ev p ρ ≡ pos 0
isz-ev (lit (pos zero)) ρ t = refl
isz-ev (lit (pos (suc n))) ρ t = absurd t
isz-ev (lit (negsuc n)) ρ t = absurd t
isz-ev (p ▹ q) ρ t = absurd t

-- the two sides of an equation
abbrev pub Same : E → E → Type 0
Same a b = T (isz (norm (a ⊞ ⊟ b)))

pub ring : (a b : E) (ρ : List ℤ) → Same a b → den a ρ ≡ den b ρ
ring a b ρ t = eq-of-sub (den a ρ) (den b ρ) (sym (sound (a ⊞ ⊟ b) ρ) ∙ isz-ev (norm (a ⊞ ⊟ b)) ρ t)
