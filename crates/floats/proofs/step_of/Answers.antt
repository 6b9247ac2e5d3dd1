-- `floats::step_of` meets its contract: the step of a finite x is nearest to the product; what is not finite has 0 as its step.
use mathlib.Core.Path.{◌≡◌, refl, sym, ap, subst, ◌∙◌}
use Prim.Native.Nat.{ℕ, ◌^◌}
use mathlib.Core.Bool.{Bool, true, not, false≢true}
use native.Mathlib.Nat.{mul-zero}
use lib.Dec.{T}
use lib.IntN.{ℤ, pos, ◌*ℤ◌}
use lib.Ieee.{Float, nan, inf, fin, binary32, fits, is_nan, mul}
use lib.Ieee.Scale.{finite}
use mir.Syntax.{w32}
use mir.Facts.{to_z-of_z}
use borrow.Author.Rules.{sfits_of}
use Rattle.std.specs.Prelude.{Option, Some, None, is_some, unwrap_or}
use Rattle.std.specs.Float.{float_is_finite}
use Rattle.arith.specs.Choice.{pick}
use Rattle.arith.specs.Int.{round_half_up}
use Rattle.arith.proofs.Choices.{pick_true, pick-false}
use Rattle.floats.specs.Step.{step, power_of, clamped}
use Rattle.floats.specs.Bits.{nearest_held}
use Rattle.floats.proofs.Scaled.{scale, scaled, scaled-not-nan}
use Rattle.floats.proofs.step_of.Goals as goal
use Rattle.floats.proofs.step_of.Goals.{Then-is_finite}

-- the library's test is that of the definitions
same_test : (x : Float) → float_is_finite x ≡ finite x
unfolding float_is_finite
same_test nan = refl
same_test (inf s) = refl
same_test (fin s m e) = refl

-- 0 steps
none : (N : ℕ) → pos 0 ≡ clamped (round_half_up (pos N *ℤ pos 0) 1)
unfolding clamped round_half_up
none N = ap (λ (k : ℕ). clamped (round_half_up (pos k) 1)) (sym (mul-zero N))

-- whether there is a step, and the step of every x
told : (N : ℕ) (x : Float) (r : Option ℤ) → r ≡ pick (finite x) (Some (clamped (step N x))) None
    → (is_some r ≡ finite x) × (unwrap_or r (pos 0) ≡ clamped (step N x))
unfolding pick step
told N nan r h = rw h (refl, none N)
told N (inf s) r h = rw h (refl, none N)
told N (fin s m e) r h = rw h (refl, refl)

pub returns-else-is_finite : goal.returns-else-is_finite
returns-else-is_finite c =
    let h = sym (pick-false _ _ _ (sym (same_test c.args.x) ∙ sym c.if-is_finite.ensures.value)) in
    let t = told (2 ^ power_of c.args.steps) c.args.x _ h in
    record { result_value = h; finite_value = t.0; step_value = t.1 }

-- what the test tells
passed : (P : Float → Type 0) → ((s : Bool) (m : ℕ) (e : ℤ) → T (fits binary32 (fin s m e)) → P (fin s m e)) → (x : Float)
    → T (fits binary32 x) → finite x ≡ true → P x
passed P k nan f h = absurd (false≢true h)
passed P k (inf s) f h = absurd (false≢true h)
passed P k (fin s m e) f h = k s m e f

is_finite : (c : Then-is_finite) → finite c.args.x ≡ true
is_finite c = sym (same_test c.args.x) ∙ sym c.if-is_finite.ensures.value

finite-at : (P : Float → Type 0) → ((s : Bool) (m : ℕ) (e : ℤ) → T (fits binary32 (fin s m e)) → P (fin s m e)) → (c : Then-is_finite)
    → P c.args.x
finite-at P k c = passed P k c.args.x (subst T (sym c.well_formed.1.0.1) tt) (is_finite c)

pub returns-then-is_finite : goal.returns-then-is_finite
returns-then-is_finite c =
    let d = c.before.before in
    let p = power_of c.args.steps in
    let h = ap Some
    (to_z-of_z {w = w32} (sfits_of c.nearest.type_inv) ∙ c.nearest.ensures
    ∙ ap (λ (v : Float). nearest_held (mul binary32 c.args.x v)) c.scale_of.ensures
    ∙ finite-at (λ x. nearest_held (mul binary32 x (scale p)) ≡ clamped (step (2 ^ p) x)) (λ s m e t. scaled s m e p t) d)
    ∙ sym (pick_true _ _ _ (is_finite d)) in
    let t = told (2 ^ p) c.args.x _ h in
    record { result_value = h; finite_value = t.0; step_value = t.1 }

-- the product is a number
pub nearest-requires : goal.nearest-requires
nearest-requires c =
    let p = power_of c.args.steps in
    subst (λ (v : Float). T (not (is_nan (mul binary32 c.args.x v)))) (sym c.scale_of.ensures)
    (finite-at (λ x. T (not (is_nan (mul binary32 x (scale p))))) (λ s m e t. scaled-not-nan s m e p t) c.before)
