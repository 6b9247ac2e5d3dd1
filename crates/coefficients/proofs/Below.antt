-- Fields that agree where the digits are below w: so do their sweeps, by rules that there depend on what is below w only.
use mathlib.Core.Path.{◌≡◌, refl, ap, ◌∙◌, fun_ext}
use Prim.Native.Nat.{ℕ, ◌≤◌, ◌<◌}
use native.Mathlib.Omega.{arith}
use Rattle.lattice.specs.Axes.{Place, Field, Rule, sweep, axes}
use Rattle.lattice.proofs.Along.{Each, distinct-axes}
use Rattle.lattice.proofs.Local.{Carries, Depends, Paired, sweep-carries}
use Rattle.lattice.proofs.DigitsLaws.{Digits}

-- one place below w, 0 on an unused axis
pub record Same (n w a s t : ℕ) : Type 0 where
  pub is : s ≡ t
  pub low : a < n → s < w
  pub none : n ≤ a → s ≡ 0

module _ (n w : ℕ) where
  pub same-places : (p q : Place) → ((a : ℕ) → Same n w a (p a) (q a)) → (p ≡ q) × Digits n w p
  same-places p q h = (fun_ext (λ a. (h a).is), record { used = λ a. (h a).low; unused = λ a. (h a).none })

  pub same-pair : (p : Place) → Digits n w p → Paired (Same n w) (Same n w) (axes n) p p
  same-pair p d = record { done = λ a f. one a; left = λ a f. one a }
    where
      one : (a : ℕ) → Same n w a (p a) (p a)
      one a = record { is = refl; low = d.used a; none = d.unused a }

  -- a rule that depends on what is below w
  pub depends-carries : {R : Rule} → Depends R (λ j. j < w) (λ t. t < w) → (a : ℕ) → a < n → Carries R R (Same n w a) (Same n w a)
  depends-carries {R} dep a l x y j k s eq =
      dep x y j (s.low l) (λ t h. eq t t (record { is = refl; low = λ _. h; none = λ b. absurd (apart b) })) ∙ ap (R y) s.is
    where
      apart : n ≤ a → ⊥
      apart b = omega arith

  -- so the sweeps agree there
  pub agree : (r : ℕ → Rule) → Each (λ a. Carries (r a) (r a) (Same n w a) (Same n w a)) (axes n) → (g h : Field)
      → ((p : Place) → Digits n w p → g p ≡ h p) → (p : Place) → Digits n w p → sweep (axes n) r g p ≡ sweep (axes n) r h p
  agree r e g h eq p d =
      sweep-carries (Same n w) (Same n w) r r (axes n) (distinct-axes n) e g h
      (λ p q s. let z = same-places p q s in eq p z.1 ∙ ap h z.0) p p (same-pair p d)
