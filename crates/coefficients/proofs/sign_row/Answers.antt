-- `coefficients::sign_row` meets its contract: two or three numbers are written, each by its sign.
use mathlib.Core.Path.{◌≡◌, refl, sym, ap, subst, ◌∙◌}
use mathlib.Core.List.{List}
use Prim.Native.Nat.{ℕ, ◌≤◌, ◌<◌, ◌+◌, ◌^◌}
use native.Mathlib.Nat.{add-zero, le_of_eq}
use native.Mathlib.Omega.{arith}
use lib.Dec.{eqb}
use lib.IntN.{ℤ, ◌*ℤ◌, nat_abs}
use lib.ListN.{set}
use Rattle.arith.specs.Choice.{pick}
use Rattle.lattice.specs.Buffer.{at}
use Rattle.hermite.proofs.DotLaws.{held}
use Rattle.coefficients.specs.Blocks.{scatter}
use Rattle.coefficients.proofs.SignLaws.{sign_kept}
use Rattle.coefficients.proofs.SpotLaws.{scatter-more}
use Rattle.coefficients.proofs.sign_row.Goals as goal
use Rattle.coefficients.proofs.sign_row.Goals.{Start}

module _ (s : Start) where
  abbrev xs : ℕ → ℤ
  xs o = at s.args.xs.now (s.args.i + o)

  abbrev signed : ℕ → ℤ
  signed o = pick (eqb o 1) s.args.t s.args.s *ℤ xs o

  first-low : nat_abs (at s.args.xs.now s.args.i) ≤ 2 ^ 50
  first-low =
      let m2 = s.args.m.bounds.0 in
      subst (λ (k : ℕ). nat_abs (at s.args.xs.now k) ≤ 2 ^ 50) (add-zero s.args.i) (s.requires.m_bound.1 0 (omega arith))

  second-low : nat_abs (xs 1) ≤ 2 ^ 50
  second-low = let m2 = s.args.m.bounds.0 in s.requires.m_bound.1 1 (omega arith)

  third-low : 2 < s.args.m.count → nat_abs (xs 2) ≤ 2 ^ 50
  third-low l = s.requires.m_bound.1 2 l

  -- so many numbers written
  abbrev written : ℕ → List ℤ
  written k = scatter k (λ o. s.args.i + o) signed s.args.zs.now

  -- what a call gives
  gives : (z x r : ℤ) → nat_abs z ≡ 1 → nat_abs x ≤ 2 ^ 50 → r ≡ held z *ℤ held x → held r ≡ z *ℤ x
  gives z x r hz hx e = ap held e ∙ sign_kept z x (le_of_eq hz) hx

  one : (r : ℤ) → r ≡ held s.args.s *ℤ held (at s.args.xs.now s.args.i)
      → set s.args.zs.now s.args.i (held r) ≡ written 1
  unfolding scatter pick
  one r e =
      scatter-more (λ o. s.args.i + o) signed s.args.zs.now s.args.zs.now 0 s.args.i _ refl (sym (add-zero s.args.i))
      (gives s.args.s (at s.args.xs.now s.args.i) r s.requires.le_m.0 first-low e
      ∙ ap (λ (k : ℕ). s.args.s *ℤ at s.args.xs.now k) (sym (add-zero s.args.i)))

  two : (r : ℤ) → r ≡ held s.args.t *ℤ held (xs 1) → (zs : List ℤ) → zs ≡ written 1 → set zs (s.args.i + 1) (held r) ≡ written 2
  unfolding pick
  two r h zs e =
      scatter-more (λ o. s.args.i + o) signed s.args.zs.now zs 1 (s.args.i + 1) _ e refl
      (gives s.args.t (xs 1) r s.requires.le_m.1 second-low h)

  three : 2 < s.args.m.count → (r : ℤ) → r ≡ held s.args.s *ℤ held (xs 2) → (zs : List ℤ) → zs ≡ written 2
      → set zs (s.args.i + 2) (held r) ≡ written 3
  unfolding pick
  three l r h zs e =
      scatter-more (λ o. s.args.i + o) signed s.args.zs.now zs 2 (s.args.i + 2) _ e refl
      (gives s.args.s (xs 2) r s.requires.le_m.0 (third-low l) h)

more : (s : Start) → (s.args.m.count ≡ 2 → ⊥) → 2 < s.args.m.count
more s left = let m2 = s.args.m.bounds.0 in omega (arith, left)

pub returns-then-m-eq2 : goal.returns-then-m-eq2
returns-then-m-eq2 c =
    let b = c in
    let a = b in
    let s = a.before.before.before.before.before.before in
    two s _ b.by_sign-2.ensures _ (one s _ a.by_sign.ensures) ∙ ap (written s) (sym c.if-m-eq2.true)

pub returns : goal.returns
returns c =
    let b = c in
    let a = b in
    let s = a.before.before.before.before.before.before.before.before in
    let l = more s c.if-m-eq2.false in
    let m3 = s.args.m.bounds.1 in
    let e : 3 ≡ s.args.m.count = omega arith in
    three s l _ c.by_sign-3.ensures _ (two s _ b.by_sign-2.ensures _ (one s _ a.by_sign.ensures)) ∙ ap (written s) e
