-- Two sweeps whose rules carry one relation of places into another are equal where the fields are. Locality of `sweep`: where each axis's
-- rule, for the places S that are asked for, depends on the places T only, a sweep depends on the field at T only.
use mathlib.Core.Path.{◌≡◌, refl, sym, ap, subst, ◌∙◌, fun_ext}
use mathlib.Core.List.{List, [], ◌∷◌}
use Prim.Native.Nat.{ℕ, zero, suc, ◌≤◌, ◌<◌}
use native.Mathlib.Omega.{arith}
use native.Mathlib.Decide.{ℕ_discrete}
use lib.IntN.{ℤ}
use Rattle.lattice.proofs.Along.{put-at, put-off, Linear, reads_only, Each, Fresh, Distinct}
use Rattle.lattice.specs.Axes.{Place, Field, Rule, put, sweep, axes, OnUsed}
use native.Mathlib.Nat.{not-suc-le-zero}

-- where the inputs agree at related places, so do the results
abbrev pub Carries : Rule → Rule → (ℕ → ℕ → Type 0) → (ℕ → ℕ → Type 0) → Type 0
Carries R Q S T = (x y : ℕ → ℤ) (j k : ℕ) → S j k → ((s t : ℕ) → T s t → x s ≡ y t) → R x j ≡ Q y k

module _ (S T : ℕ → ℕ → ℕ → Type 0) where
  -- on each axis of the list related by S, on each other axis by T
  pub record Paired (ls : List ℕ) (p q : Place) : Type 0 where
    pub done : (b : ℕ) → (Fresh b ls → ⊥) → S b (p b) (q b)
    pub left : (b : ℕ) → Fresh b ls → T b (p b) (q b)

  step : (a : ℕ) (ls : List ℕ) (s t : ℕ) (p q : Place) → Fresh a ls → T a s t → Paired (a ∷ ls) p q → Paired ls (put a s p) (put a t q)
  step a ls s t p q f h x = record { done = λ b n. one b n (ℕ_discrete b a); left = λ b k. two b k (ℕ_discrete b a) }
    where
      one : (b : ℕ) → (Fresh b ls → ⊥) → Dec (b ≡ a) → S b (put a s p b) (put a t q b)
      one b n (yes e) = absurd (n (subst (λ (i : ℕ). Fresh i ls) (sym e) f))
      one b n (no k) = rw (put-off a s b p k, put-off a t b q k) (x.done b (λ z. n z.1))

      two : (b : ℕ) → Fresh b ls → Dec (b ≡ a) → T b (put a s p b) (put a t q b)
      two b k (yes e) = subst (λ (i : ℕ). T i (put a s p i) (put a t q i)) (sym e) (rw (put-at a s p, put-at a t q) h)
      two b k (no n) = rw (put-off a s b p n, put-off a t b q n) (x.left b (n, k))

  pub sweep-carries : (r r' : ℕ → Rule) (ls : List ℕ) → Distinct ls → Each (λ a. Carries (r a) (r' a) (S a) (T a)) ls → (g h : Field)
      → ((p q : Place) → ((b : ℕ) → T b (p b) (q b)) → g p ≡ h q) → (p q : Place) → Paired ls p q → sweep ls r g p ≡ sweep ls r' h q
  unfolding sweep
  sweep-carries r r' [] d dep g h eq p q x = eq p q (λ b. x.left b tt)
  sweep-carries r r' (a ∷ ls) d dep g h eq p q x =
      dep.0 (λ s. sweep ls r g (put a s p)) (λ t. sweep ls r' h (put a t q)) (p a) (q a) (x.done a (λ f. f.0 refl))
      (λ s t k. sweep-carries r r' ls d.1 dep.1 g h eq (put a s p) (put a t q) (step a ls s t p q d.0 k x))

-- ---- one sweep, of two fields

-- the result at S depends on the numbers at T
abbrev pub Depends : Rule → (ℕ → Type 0) → (ℕ → Type 0) → Type 0
Depends R S T = (x y : ℕ → ℤ) (j : ℕ) → S j → ((t : ℕ) → T t → x t ≡ y t) → R x j ≡ R y j

-- a linear rule does on what it reads
pub linear-depends : {R : Rule} {S T : ℕ → Type 0} (L : Linear R) → ((j t : ℕ) → S j → t < L.width → T (L.place j t)) → Depends R S T
linear-depends L h x y j s k = reads_only L x y j (λ t l. k (L.place j t) (h j t s l))

-- equal numbers in U
abbrev Same : (ℕ → ℕ → Type 0) → ℕ → ℕ → ℕ → Type 0
Same U a j k = (j ≡ k) × U a k

module _ (S T : ℕ → ℕ → Type 0) where
  -- on each axis of the list in S, on each other axis in T
  pub record Mixed (ls : List ℕ) (p : Place) : Type 0 where
    pub done : (b : ℕ) → (Fresh b ls → ⊥) → S b (p b)
    pub left : (b : ℕ) → Fresh b ls → T b (p b)

  carried : (r : ℕ → Rule) (ls : List ℕ) → Each (λ a. Depends (r a) (S a) (T a)) ls
      → Each (λ a. Carries (r a) (r a) (Same S a) (Same T a)) ls
  carried r [] dep = tt
  carried r (a ∷ ls) dep =
      (λ x y j k s e. ap (λ (i : ℕ). r a x i) s.0 ∙ dep.0 x y k s.1 (λ t h. e t t (refl, h)), carried r ls dep.1)

  pub sweep-local : (r : ℕ → Rule) (ls : List ℕ) → Distinct ls → Each (λ a. Depends (r a) (S a) (T a)) ls → (g h : Field)
      → ((p : Place) → ((b : ℕ) → T b (p b)) → g p ≡ h p) → (p : Place) → Mixed ls p → sweep ls r g p ≡ sweep ls r h p
  sweep-local r ls d dep g h eq p x =
      sweep-carries (Same S) (Same T) r r ls d (carried r ls dep) g h (λ p q k. ap g (fun_ext (λ b. (k b).0)) ∙ eq q (λ b. (k b).1)) p p
      (record { done = λ b n. (refl, x.done b n); left = λ b k. (refl, x.left b k) })

-- an axis below n stands in the list, any other does not
pub used : (n b : ℕ) → b < n → Fresh b (axes n) → ⊥
unfolding axes
used zero b h f = not-suc-le-zero h
used (suc n) b h f = used n b (below n b h f.0) f.1
  where
    below : (n b : ℕ) → b < suc n → (b ≡ n → ⊥) → b < n
    below n b h k = omega arith

-- places on the used axes in X, place 0 on an unused one
abbrev pub OnAxis : ℕ → (ℕ → ℕ → Type 0) → ℕ → ℕ → Type 0
OnAxis n X a i = (a < n → X a i) × (n ≤ a → i ≡ 0)

pub on-used : {n : ℕ} {X : ℕ → ℕ → Type 0} {p : Place} → ((a : ℕ) → OnAxis n X a (p a)) → OnUsed n X p
on-used h = record { used = λ a. (h a).0; unused = λ a. (h a).1 }
