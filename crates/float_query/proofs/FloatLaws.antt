-- A query by float as the query by position at the held steps, with 10 put for 22 and 23.
use mathlib.Core.Path.{◌≡◌, refl, sym, ap, subst, ◌∙◌, fun_ext}
use mathlib.Core.Bool.{Bool, true, false, not, ◌&&◌, ◌||◌}
use mathlib.Core.List.{List, [], ◌∷◌}
use Prim.Native.Nat.{ℕ, ◌*◌, ◌-◌, ◌^◌, ◌≤◌, ◌<◌}
use native.Mathlib.Nat.{mul-le-mul}
use native.Mathlib.Omega.{arith}
use lib.Dec.{leb, ltb, eqb, lit<}
use native.Mathlib.Decide.{dec_lt}
use lib.Ieee.{Float}
use lib.Ieee.Scale.{finite}
use lib.IntN.{ℤ, pos, negsuc, nat_abs}
use lib.Signed.{mag, non_neg}
use mir.Syntax.{w32}
use mir.Val.{to_z, of_z}
use borrow.Author.Tests.{lt-ltb, le-ltb, le-leb}
use Rattle.arith.proofs.Choices.{clash, pick_true, pick-false, on-pick, split, true-and, by-3}
use Rattle.arith.proofs.Machine.{element}
use Rattle.arith.specs.Choice.{pick}
use Rattle.lattice.specs.declared.Shape.{Shape}
use Rattle.lattice.specs.declared.FullShape.{FullShape}
use Rattle.lattice.specs.Outcome.{Outcome, Check, done, refused, refuse_unless, first, first_of}
use Rattle.lattice.specs.Buffer.{at}
use Rattle.lattice.specs.Shape.{count, steps_on, full_outcome}
use Rattle.lattice.proofs.ShapeLaws.{shaped}
use Rattle.lattice.proofs.StepLaws.{by-step-number, step_range, full-shape, full-stepped}
use Rattle.lattice.proofs.OutcomeLaws.{first_done, first-passed, first-after, refused-first, refuse-done, passes, first_of-each}
use Rattle.std.specs.Prelude.{Option, Some, None}
use Rattle.std.specs.Option.{is_some}
use Rattle.floats.specs.Step.{step, power_of, clamped}
use Rattle.floats.proofs.StepLaws.{within, clamped-within, clamped-zero, clamped-same}
use Rattle.evaluate.specs.Evaluate.{Want}
use Rattle.query.specs.Parts.{renumbered}
use Rattle.query.specs.Queries.{Position, asked_outcome, reading, position_test, position_at, position_outcome, position_cell, position_step, by_position}
use Rattle.query.proofs.QueryLaws.{asked-facts, used-test, unused-test, test_known}
use Rattle.query.proofs.Renumbered.{of_position, renumbered-each, renumbered-query, kept_test, kept-first}
use Rattle.float_query.specs.Floats.{float_steps, steps_of, float_outcome, by_float, held_step, finite_on, ten_number}

-- ---- 10 for 22 and 23

module _ (fin : ℕ → Bool) where
  pub ten-told : (n p : ℕ) → (eqb n 22 || eqb n 23) ≡ true → fin p ≡ false → 10 ≡ ten_number fin n p
  unfolding ten_number
  ten-told n p e f = sym (pick_true ((eqb n 22 || eqb n 23) && not (fin p)) 10 n (rw (e, f) refl))

  pub ten-kept : (n p : ℕ) → ((eqb n 22 || eqb n 23) ≡ true → fin p ≡ true) → ten_number fin n p ≡ n
  unfolding ten_number
  ten-kept n p h = pick-false ((eqb n 22 || eqb n 23) && not (fin p)) 10 n
      (split (eqb n 22 || eqb n 23) (λ e. rw (e, h e) refl) (λ e. rw e refl))

  ten-keeps : (n p : ℕ) → of_position n ≡ false → ten_number fin n p ≡ n
  ten-keeps n p e = ten-kept n p (λ f. split (eqb n 11) (λ g. clash (cc)) (λ g. clash (cc)))

-- ---- the tests of 10, 23, 22 and 11

pub steps-at : (t : FullShape) (x : ℕ → Float) (a : ℕ) → a < 3 → steps_of t x a ≡ step (float_steps t a) (x a)
unfolding steps_of
steps-at t x a l = pick_true (ltb a 3) (step (float_steps t a) (x a)) (pos 0) (lt-ltb a 3 l)

-- where no number is told by another, nothing changes
kept-place : (told : ℕ → ℕ → ℕ) (a : ℕ) → ((n : ℕ) → told n a ≡ n) → (last : ℕ) (s : Shape) (z : ℤ)
    → renumbered told (position_test s last z a) ≡ position_test s last z a
unfolding position_test
kept-place told a h last s z =
    kept-first told _ _ (kept_test told (ltb a s.axes || eqb (nat_abs z) 0) 23 a (h 23))
    (kept-first told _ _ (kept_test told (non_neg z) 22 a (h 22)) (kept_test told (leb (nat_abs z) last) 11 a (h 11)))

-- a step held in 32 bits passes the same tests
clamped-tested : (s : Shape) (last : ℕ) (z : ℤ) (a : ℕ) → last < 2147483647 → position_test s last (clamped z) a ≡ position_test s last z a
unfolding clamped
clamped-tested s last z a h = split (ltb a s.axes)
    (λ e. used-test s last (clamped z) a e ∙ go z ∙ sym (used-test s last z a e))
    (λ e. unused-test s last (clamped z) a e ∙ ap (λ (t : Bool). refuse_unless t 23 a) (clamped-zero z) ∙ sym (unused-test s last z a e))
  where
    go : (z : ℤ) → first (refuse_unless (non_neg (clamped z)) 22 a) (refuse_unless (leb (nat_abs (clamped z)) last) 11 a)
        ≡ first (refuse_unless (non_neg z) 22 a) (refuse_unless (leb (nat_abs z) last) 11 a)
    go (pos n) = ap (λ (t : Bool). refuse_unless t 11 a) (clamped-within (pos n) last h)
    go (negsuc n) = refl

-- what the tests say of a step that passes
within-known : (s : Shape) (last : ℕ) (z : ℤ) (a : ℕ) → position_test s last z a ≡ done tt → within z last ≡ true
within-known s last z a h =
    let f = test_known s last z a h in true-and (non_neg z) (leb (nat_abs z) last) f.0 (le-leb (nat_abs z) last f.1)

-- a step below 0 is refused 10 where the float is not finite
below-ten : (fin : ℕ → Bool) (s : Shape) (last a : ℕ) → fin a ≡ false
    → renumbered (ten_number fin) (position_test s last (negsuc 0) a) ≡ refused 10 a
below-ten fin s last a e = split (ltb a s.axes)
    (λ f. ap (renumbered (ten_number fin)) (used-test s last (negsuc 0) a f) ∙ ten 22 refl)
    (λ f. ap (renumbered (ten_number fin)) (unused-test s last (negsuc 0) a f) ∙ ten 23 refl)
  where
    ten : (n : ℕ) → (eqb n 22 || eqb n 23) ≡ true → ◌≡◌ {A = Check} (refused (ten_number fin n a) a) (refused 10 a)
    ten n h = ap (λ (k : ℕ). refused k a) (sym (ten-told fin n a h e))

-- three floats as the code holds them: which are finite, and a position in 32 bits
pub record HeldSteps (t : FullShape) (x : ℕ → Float) (fin : ℕ → Bool) (p : Position) : Type 0 where
  pub finite-is : (a : ℕ) → a < 3 → fin a ≡ finite (x a)
  pub step_is : full_outcome t ≡ done tt → (a : ℕ) → a < 3
      → p a ≡ pick (finite (x a)) (clamped (step (float_steps t a) (x a))) (negsuc 0)
  pub none : (a : ℕ) → 3 ≤ a → p a ≡ pos 0

module _ (t : FullShape) (full : full_outcome t ≡ done tt) (x : ℕ → Float) (fin : ℕ → Bool) (p : Position) (h : HeldSteps t x fin p) where
  abbrev s : Shape
  s = t.shape

  abbrev last : ℕ → ℕ
  last a = steps_on t a * (count s a - 1)

  abbrev own : ℕ → ℤ
  own a = step (float_steps t a) (x a)

  last-low : (a : ℕ) → a < 3 → last a < 2147483647
  last-low a l =
      let h = (shaped s (full-shape t full)).high a l in
      let p = mul-le-mul (few (dec_lt a s.axes)) (less h) in
      omega arith
    where
      few : Dec (a < s.axes) → steps_on t a ≤ 256
      few (yes k) = (step_range (steps_on t a) ((full-stepped t full).used a l k)).1
      few (no k) = let e = (full-stepped t full).unused a l (omega (arith, k)) in omega arith

      less : count s a ≤ 64 → count s a - 1 ≤ 63
      less h = omega arith

  -- the tests of the held step, with 10, are those of the float
  one : (a : ℕ) → a < 3 → renumbered (ten_number fin) (position_outcome t p a) ≡ float_outcome t x a
  unfolding float_outcome position_outcome
  one a l = split (finite (x a)) held-finite not_finite
    where
      held-finite : finite (x a) ≡ true → renumbered (ten_number fin) (position_outcome t p a) ≡ float_outcome t x a
      held-finite e =
          kept-place (ten_number fin) a (λ n. ten-kept fin n a (λ f. h.finite-is a l ∙ e)) (last a) s (p a)
          ∙ ap (λ (z : ℤ). position_test s (last a) z a)
          (h.step_is full a l ∙ pick_true (finite (x a)) (clamped (own a)) (negsuc 0) e)
          ∙ clamped-tested s (last a) (own a) a (last-low a l)
          ∙ ap (λ (z : ℤ). position_test s (last a) z a) (sym (steps-at t x a l))
          ∙ sym (first-passed (refuse_unless (finite (x a)) 10 a) (position_outcome t (steps_of t x) a) (passes (finite (x a)) 10 a e))

      not_finite : finite (x a) ≡ false → renumbered (ten_number fin) (position_outcome t p a) ≡ float_outcome t x a
      not_finite e =
          ap (λ (z : ℤ). renumbered (ten_number fin) (position_test s (last a) z a))
          (h.step_is full a l ∙ pick-false (finite (x a)) (clamped (own a)) (negsuc 0) e)
          ∙ below-ten fin s (last a) a (h.finite-is a l ∙ e)
          ∙ sym (refused-first (position_outcome t (steps_of t x) a) (ap (λ (b : Bool). refuse_unless b 10 a) e))

  tests : renumbered (ten_number fin) (first_of 3 (position_outcome t p)) ≡ first_of 3 (float_outcome t x)
  tests = renumbered-each (ten_number fin) 3 (position_outcome t p) (float_outcome t x) one

  -- floats that pass stand for their steps
  held-is : first_of 3 (float_outcome t x) ≡ done tt → p ≡ steps_of t x
  unfolding float_outcome position_outcome steps_of
  held-is e = fun_ext (λ a. go a (dec_lt a 3))
    where
      go : (a : ℕ) → Dec (a < 3) → p a ≡ steps_of t x a
      go a (yes l) =
          let f = first_done (refuse_unless (finite (x a)) 10 a) (position_outcome t (steps_of t x) a) tt
          (first_of-each 3 (float_outcome t x) e a l) in
          h.step_is full a l ∙ pick_true (finite (x a)) (clamped (own a)) (negsuc 0) (refuse-done (finite (x a)) 10 a f.0)
          ∙ clamped-same (own a) (last a) (last-low a l)
          (within-known s (last a) (own a) a
          (subst (λ (z : ℤ). position_test s (last a) z a ≡ done tt) (steps-at t x a l) f.1))
          ∙ sym (steps-at t x a l)
      go a (no k) = h.none a (omega arith) ∙ sym (pick-false (ltb a 3) (own a) (pos 0) (le-ltb a 3 (omega arith)))

-- ---- a whole query

pub by-float : (t : FullShape) (rs : List ℤ) (want : Want) (x : ℕ → Float) (fin : ℕ → Bool) (p : Position) → HeldSteps t x fin p
    → renumbered (ten_number fin) (by_position t rs want p) ≡ by_float t rs want x
unfolding by_float by_position
by-float t rs want x fin p h =
    renumbered-query (ten_number fin) (ten-keeps fin) t rs want tested (position_cell t p) (position_step t p)
    ∙ first-after (asked_outcome t rs want) (first (renumbered (ten_number fin) tested) (read p))
    (first (first_of 3 (float_outcome t x)) (read (steps_of t x)))
    (λ a. let full = (asked-facts t rs want a).full in
    ap (λ (c : Check). first c (read p)) (tests t full x fin p h)
    ∙ first-after (first_of 3 (float_outcome t x)) (read p) (read (steps_of t x)) (λ e. ap read (held-is t full x fin p h e)))
  where
    tested : Check
    tested = first_of 3 (position_outcome t p)

    read : Position → Outcome ℤ
    read p = reading t rs want (position_cell t p) (position_step t p)

-- ---- floats in the code

-- 2^powerOf is the number of steps that a float's cell is
power-is : (t : FullShape) → full_outcome t ≡ done tt → (a : ℕ) → a < 3 → 2 ^ power_of (steps_on t a) ≡ float_steps t a
unfolding float_steps power_of pick
power-is t full a l = go (dec_lt a t.shape.axes)
  where
    go : Dec (a < t.shape.axes) → 2 ^ power_of (steps_on t a) ≡ pick (ltb a t.shape.axes) (steps_on t a) 256
    go (yes k) =
        by-step-number (λ N. 2 ^ power_of N ≡ N) refl refl refl refl refl (steps_on t a) ((full-stepped t full).used a l k)
        ∙ sym (pick_true (ltb a t.shape.axes) (steps_on t a) 256 (lt-ltb a t.shape.axes k))
    go (no k) =
        let u : t.shape.axes ≤ a = omega (arith, k) in
        ap (λ (N : ℕ). 2 ^ power_of N) ((full-stepped t full).unused a l u)
        ∙ sym (pick-false (ltb a t.shape.axes) (steps_on t a) 256 (le-ltb a t.shape.axes u))

-- a float as the code holds it: its step in 32 bits of an axis of N steps, none where it is not finite
abbrev pub Holds : ℕ → Option ℤ → Float → Type 0
Holds N f x = f ≡ pick (finite x) (Some (clamped (step (2 ^ power_of N) x))) None

some-where : (b : Bool) (z : ℤ) → is_some (pick b (Some z) None) ≡ b
unfolding pick
some-where true z = refl
some-where false z = refl

held-where : (b : Bool) (z : ℤ) → held_step (pick b (Some z) None) ≡ pick b z (negsuc 0)
unfolding pick held_step
held-where true z = refl
held-where false z = refl

clamped-mag : (z : ℤ) → mag (clamped z) < 2 ^ 31
unfolding clamped
clamped-mag (pos n) = omega arith
clamped-mag (negsuc n) = omega arith

held-step : (N : ℕ) (f : Option ℤ) (x : Float) → Holds N f x → (p : ℤ) → p ≡ held_step f
    → to_z w32 (of_z w32 p) ≡ pick (finite x) (clamped (step (2 ^ power_of N) x)) (negsuc 0)
held-step N f x h p e =
    let z = clamped (step (2 ^ power_of N) x) in
    let is = e ∙ ap held_step h ∙ held-where (finite x) z in
    element p (subst (λ (z : ℤ). mag z < 2 ^ 31) (sym is)
    (on-pick (λ (z : ℤ). mag z < 2 ^ 31) (finite x) z (negsuc 0)
    (λ b. clamped-mag (step (2 ^ power_of N) x)) (λ b. lit< tt))) ∙ is

-- three steps as the code holds them
abbrev pub held : ℤ → ℤ → ℤ → List ℤ
held p q r = to_z w32 (of_z w32 p) ∷ to_z w32 (of_z w32 q) ∷ to_z w32 (of_z w32 r) ∷ []

pub three-held : (t : FullShape) (x : ℕ → Float) (f g h : Option ℤ) → Holds (steps_on t 0) f (x 0) → Holds (steps_on t 1) g (x 1)
    → Holds (steps_on t 2) h (x 2) → (p q r : ℤ) → p ≡ held_step f → q ≡ held_step g → r ≡ held_step h
    → HeldSteps t x (finite_on f g h) (position_at (held p q r))
unfolding position_at finite_on pick
three-held t x f g h i j k p q r u v w =
    record {
      finite-is = by-3 (λ (a : ℕ). finite_on f g h a ≡ finite (x a)) (ap is_some i ∙ some-where _ _)
          (ap is_some j ∙ some-where _ _) (ap is_some k ∙ some-where _ _);
      step_is = λ full. by-3 (λ (a : ℕ). position_at (held p q r) a ≡ pick (finite (x a)) (clamped (step (float_steps t a) (x a)))
          (negsuc 0))
          (held-step (steps_on t 0) f (x 0) i p u ∙ by-own full 0 (omega arith))
          (held-step (steps_on t 1) g (x 1) j q v ∙ by-own full 1 (omega arith))
          (held-step (steps_on t 2) h (x 2) k r w ∙ by-own full 2 (omega arith));
      none = λ a l. pick-false (ltb a 3) (at (held p q r) a) (pos 0) (le-ltb a 3 l);
    }
  where
    by-own : full_outcome t ≡ done tt → (a : ℕ) → a < 3
        → pick (finite (x a)) (clamped (step (2 ^ power_of (steps_on t a)) (x a))) (negsuc 0)
        ≡ pick (finite (x a)) (clamped (step (float_steps t a) (x a))) (negsuc 0)
    by-own full a l = ap (λ (N : ℕ). pick (finite (x a)) (clamped (step N (x a))) (negsuc 0)) (power-is t full a l)
