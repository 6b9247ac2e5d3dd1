-- `coefficients::row_at` meets its contract: two or three numbers of a record, each by its sign.
use mathlib.Core.Path.{◌≡◌, sym, ap, ◌∙◌}
use Prim.Native.Nat.{ℕ, ◌≤◌, ◌<◌, ◌+◌, ◌^◌}
use native.Mathlib.Nat.{add-zero, le_of_eq, le_trans}
use native.Mathlib.Omega.{arith}
use lib.Dec.{eqb, lit<, lit≤}
use lib.IntN.{ℤ, ◌*ℤ◌, nat_abs}
use Rattle.arith.specs.Choice.{pick}
use Rattle.arith.proofs.Abs.{abs-mul}
use Rattle.arith.proofs.Choices.{by-3}
use Rattle.arith.proofs.Machine.{kept, widened, near}
use Rattle.lattice.specs.Buffer.{at}
use Rattle.hermite.proofs.DotLaws.{held}
use Rattle.coefficients.specs.Blocks.{AllWithin}
use Rattle.coefficients.proofs.SignLaws.{sign_kept}
use Rattle.coefficients.proofs.row_at.Goals as goal
use Rattle.coefficients.proofs.row_at.Goals.{After-by_sign-d, After-by_sign-f, Start}

module _ (s : Start) where
  abbrev number : ℕ → ℤ
  number o = at s.args.numbers.now (s.args.i + o)

  abbrev signed : ℕ → ℤ
  signed o = pick (eqb o 1) s.args.t s.args.s *ℤ number o

  -- a number by a sign, as it is held
  gives : (z x r y : ℤ) → nat_abs z ≡ 1 → nat_abs x ≤ 2 ^ 31 → y ≡ x → r ≡ held z *ℤ y → held r ≡ z *ℤ x
  gives z x r y hz hx e h =
      let l : nat_abs x ≤ 2 ^ 50 = le_trans hx (lit≤ tt) in
      ap held (h ∙ ap (λ w. held z *ℤ w) (e ∙ sym (kept x (2 ^ 50) l (lit< tt)))) ∙ sign_kept z x (le_of_eq hz) l

  -- its size
  size : (z x : ℤ) → nat_abs z ≡ 1 → nat_abs x ≤ 2 ^ 31 → nat_abs (z *ℤ x) ≤ 2 ^ 31
  size z x hz hx = rw (abs-mul z x, hz) (omega (arith, hx))

-- the first number, and the second
module _ (c : After-by_sign-f) where
  abbrev s₁ : Start
  s₁ = c.before.before

  abbrev x₁ : ℤ
  x₁ = at s₁.args.numbers.now s₁.args.i

  first-is : held c.by_sign-f.result ≡ signed s₁ 0
  unfolding pick
  first-is =
      gives s₁ s₁.args.s x₁ c.by_sign-f.result _ s₁.requires.0 (near x₁ c.by_sign-arg-1.given)
      (widened x₁ c.by_sign-arg-1.given) c.by_sign-f.ensures
      ∙ ap (λ (k : ℕ). s₁.args.s *ℤ at s₁.args.numbers.now k) (sym (add-zero s₁.args.i))

  first-low : nat_abs (signed s₁ 0) ≤ 2 ^ 31
  unfolding pick
  first-low =
      size s₁ s₁.args.s (number s₁ 0) s₁.requires.0
      (rw (add-zero s₁.args.i) (near x₁ c.by_sign-arg-1.given))

module _ (c : After-by_sign-d) where
  abbrev s₂ : Start
  s₂ = c.before.before.before.before

  second_is : held c.by_sign-d.result ≡ signed s₂ 1
  unfolding pick
  second_is =
      gives s₂ s₂.args.t (number s₂ 1) c.by_sign-d.result _ s₂.requires.1 (near (number s₂ 1) c.by_sign-arg-2-1.given)
      (widened (number s₂ 1) c.by_sign-arg-2-1.given) c.by_sign-d.ensures

  second-low : nat_abs (signed s₂ 1) ≤ 2 ^ 31
  unfolding pick
  second-low = size s₂ s₂.args.t (number s₂ 1) s₂.requires.1 (near (number s₂ 1) c.by_sign-arg-2-1.given)

  row : (z : ℕ → ℤ) → z 0 ≡ signed s₂ 0 → z 1 ≡ signed s₂ 1 → (2 < s₂.args.m.count → z 2 ≡ signed s₂ 2) → nat_abs (z 2) ≤ 2 ^ 31
      → ((o : ℕ) → o < s₂.args.m.count → z o ≡ signed s₂ o) × AllWithin (2 ^ 31) 3 z
  row z a b d low =
      let m3 = s₂.args.m.bounds.1 in (
        λ o l. by-3 (λ o. o < s₂.args.m.count → z o ≡ signed s₂ o) (λ q. a) (λ q. b) d o (omega arith) l,
        by-3 (λ o. nat_abs (z o) ≤ 2 ^ 31) (rw a (first-low c.before.before)) (rw b second-low) low,
      )

pub returns-then-m-eq2 : goal.returns-then-m-eq2
returns-then-m-eq2 c =
    let d = c.before.before in
    let m2 = (s₂ d).args.m.bounds.0 in
    let e = c.if-m-eq2.true in
    row d _ (first-is d.before.before) (second_is d) (λ h. absurd (omega arith)) (lit≤ tt)

pub returns : goal.returns
unfolding pick
returns c =
    let d = c.before.before.before.before in
    let s = s₂ d in
    let h = c.by_sign-arg-3-1.given in
    let e = gives s s.args.s (number s 2) c.by_sign.result _ s.requires.0 (near (number s 2) h) (widened (number s 2) h)
    c.by_sign.ensures in
    row d _ (first-is d.before.before) (second_is d) (λ l. e)
    (rw e (size s s.args.s (number s 2) s.requires.0 (near (number s 2) h)))
