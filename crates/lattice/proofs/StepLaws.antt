-- What callers may use of step numbers that are not refused, and of those of a table read from a file.
use mathlib.Core.Path.{◌≡◌, refl, sym, ap, subst, ◌∙◌}
use mathlib.Core.Bool.{Bool, true, false, ◌||◌}
use Prim.Native.Nat.{ℕ, ◌*◌, ◌/◌, ◌≤◌, ◌<◌}
use native.Mathlib.Decide.{dec_lt}
use native.Mathlib.Omega.{arith}
use lib.Dec.{eqb, ltb, lit≤}
use borrow.Author.Tests.{eqb-true, eq-eqb, lt-ltb, le-ltb}
use Rattle.arith.specs.Choice.{pick}
use Rattle.arith.proofs.Choices.{pick_true, pick-false, split, clash}
use Rattle.lattice.specs.declared.Shape.{Shape}
use Rattle.lattice.specs.declared.FullShape.{FullShape}
use Rattle.lattice.specs.Outcome.{Check, done, refuse_unless, first, first_of}
use Rattle.lattice.specs.Shape.{full_shape, steps_on, step_number, steps_allowed, step_numbers_outcome, shape_outcome, full_outcome, finest_on, finest_steps}
use Rattle.lattice.proofs.OutcomeLaws.{first_done, refuse-done, first_of-each, last-first}

-- what holds of the five numbers
pub by-step-number : (P : ℕ → Type 0) → P 16 → P 32 → P 64 → P 128 → P 256 → (k : ℕ) → step_number k ≡ true → P k
unfolding step_number
by-step-number P p16 p32 p64 p128 p256 k h =
    split (eqb k 16) (λ e. at 16 p16 e) (λ f16.
    split (eqb k 32) (λ e. at 32 p32 e) (λ f32.
    split (eqb k 64) (λ e. at 64 p64 e) (λ f64.
    split (eqb k 128) (λ e. at 128 p128 e) (λ f128.
    split (eqb k 256) (λ e. at 256 p256 e) (λ f256.
    none (eqb k 16) (eqb k 32) (eqb k 64) (eqb k 128) (eqb k 256) h f16 f32 f64 f128 f256)))))
  where
    at : (i : ℕ) → P i → eqb k i ≡ true → P k
    at i p e = subst P (sym (eqb-true k i e)) p

    none : (a b c d e : Bool) → ((((a || b) || c) || d) || e) ≡ true → a ≡ false → b ≡ false → c ≡ false → d ≡ false → e ≡ false → P k
    none a b c d e h f16 f32 f64 f128 f256 = clash (cc)

-- it divides 256
pub step-factor : (k : ℕ) → step_number k ≡ true → k * (256 / k) ≡ 256
step-factor k h = by-step-number (λ k. k * (256 / k) ≡ 256) refl refl refl refl refl k h

pub factor-range : (k : ℕ) → step_number k ≡ true → (1 ≤ 256 / k) × (256 / k ≤ 16)
factor-range k h =
    by-step-number (λ k. (1 ≤ 256 / k) × (256 / k ≤ 16)) (lit≤ tt, lit≤ tt) (lit≤ tt, lit≤ tt) (lit≤ tt, lit≤ tt)
    (lit≤ tt, lit≤ tt) (lit≤ tt, lit≤ tt) k h

pub step_range : (k : ℕ) → step_number k ≡ true → (16 ≤ k) × (k ≤ 256)
step_range k h =
    by-step-number (λ k. (16 ≤ k) × (k ≤ 256)) (lit≤ tt, lit≤ tt) (lit≤ tt, lit≤ tt) (lit≤ tt, lit≤ tt) (lit≤ tt, lit≤ tt)
    (lit≤ tt, lit≤ tt) k h

-- what is allowed
module _ (n k a : ℕ) where
  pub steps-used-is : a < n → steps_allowed n k a ≡ step_number k
  unfolding steps_allowed
  steps-used-is l = pick_true (ltb a n) (step_number k) (eqb k 1) (lt-ltb a n l)

  pub steps-unused-is : n ≤ a → steps_allowed n k a ≡ eqb k 1
  unfolding steps_allowed
  steps-unused-is l = pick-false (ltb a n) (step_number k) (eqb k 1) (le-ltb a n l)

pub steps-each : (n : ℕ) (steps : ℕ → ℕ) → step_numbers_outcome n steps ≡ done tt → (a : ℕ) → a < 3 → steps_allowed n (steps a) a ≡ true
unfolding step_numbers_outcome
steps-each n steps h a l =
    refuse-done (steps_allowed n (steps a) a) 26 a (first_of-each 3 (λ a. refuse_unless (steps_allowed n (steps a) a) 26 a) h a l)

-- the facts of step numbers that are not refused
pub record Stepped (n : ℕ) (steps : ℕ → ℕ) : Type 0 where
  pub used : (a : ℕ) → a < 3 → a < n → step_number (steps a) ≡ true
  pub unused : (a : ℕ) → a < 3 → n ≤ a → steps a ≡ 1

pub stepped : (n : ℕ) (steps : ℕ → ℕ) → step_numbers_outcome n steps ≡ done tt → Stepped n steps
stepped n steps h = record {
  used = λ a l k. sym (steps-used-is n (steps a) a k) ∙ steps-each n steps h a l;
  unused = λ a l k. eqb-true (steps a) 1 (sym (steps-unused-is n (steps a) a k) ∙ steps-each n steps h a l);
}

module _ (t : FullShape) (h : full_outcome t ≡ done tt) where
  pub full-done : (shape_outcome t.shape ≡ done tt) × (step_numbers_outcome t.shape.axes (steps_on t) ≡ done tt)
  unfolding full_outcome
  full-done = first_done (shape_outcome t.shape) (step_numbers_outcome t.shape.axes (steps_on t)) tt h

  pub full-shape : shape_outcome t.shape ≡ done tt
  full-shape = full-done.0

  pub full-stepped : Stepped t.shape.axes (steps_on t)
  full-stepped = stepped t.shape.axes (steps_on t) full-done.1

-- ---- a table read from a file

pub finest-allowed : (n a : ℕ) → steps_allowed n (finest_on n a) a ≡ true
unfolding finest_on step_number
finest-allowed n a = go (dec_lt a n)
  where
    go : Dec (a < n) → steps_allowed n (pick (ltb a n) 256 1) a ≡ true
    go (yes l) = steps-used-is n (pick (ltb a n) 256 1) a l ∙ ap step_number (pick_true (ltb a n) 256 1 (lt-ltb a n l))
    go (no l) =
        let u : n ≤ a = omega (arith, l) in
        steps-unused-is n (pick (ltb a n) 256 1) a u ∙ eq-eqb (pick (ltb a n) 256 1) 1 (pick-false (ltb a n) 256 1 (le-ltb a n u))

pub finest-done : (s : Shape) (e : Bool) → step_numbers_outcome s.axes (steps_on (full_shape s (finest_steps s.axes) e)) ≡ done tt
unfolding step_numbers_outcome steps_on first_of
finest-done s e = rw (finest-allowed s.axes 0, finest-allowed s.axes 1, finest-allowed s.axes 2) refl

-- 26 does not refuse it
pub finest-outcome : (s : Shape) (e : Bool) → full_outcome (full_shape s (finest_steps s.axes) e) ≡ shape_outcome s
unfolding full_outcome
finest-outcome s e =
    ap (λ (c : Check). first (shape_outcome s) c) (finest-done s e) ∙ last-first (shape_outcome s)
