-- What follows from a call that is not refused, and when it is not.
use mathlib.Core.Path.{◌≡◌, refl, sym, ap, subst, ◌∙◌}
use mathlib.Core.Bool.{Bool, true, false, ◌&&◌}
use mathlib.Core.Logic.{⊎_elim}
use Prim.Native.Nat.{ℕ, zero, suc, ◌+◌, ◌*◌, ◌<◌}
use native.Mathlib.Numerals.{add-one}
use native.Mathlib.Nat.{add-zero, add-suc, mul-zero, mul-suc, eq-or-lt_of_le, not-suc-le-zero, le_of_suc-le-suc}
use native.Mathlib.Omega.{arith}
use Rattle.arith.proofs.Choices.{clash}
use Rattle.std.specs.Prelude.{Result, Ok, Err, IsErr}
use Rattle.std.specs.Result.{IsErrAnd}
use Rattle.lattice.specs.declared.refusal.Refusal.{Refusal}
use Rattle.lattice.specs.Answers.{number_of, outcome_of}
use Rattle.lattice.specs.Outcome.{Outcome, Check, done, refused, refuse_unless, first, first_of, on_axes, when_done, passed}

module _ {A : Type 0} where
  pub first_done : (a : Check) (b : Outcome A) (v : A) → first a b ≡ done v → (a ≡ done tt) × (b ≡ done v)
  first_done (done tt) b v h = (refl, h)
  first_done (refused n p) b v h = clash (cc)

  pub first_passes : (a : Check) (b : Outcome A) → passed (first a b) ≡ true → (a ≡ done tt) × (passed b ≡ true)
  first_passes (done tt) b h = (refl, h)
  first_passes (refused n p) b h = clash (cc)

  pub first-passed : (a : Check) (b : Outcome A) → a ≡ done tt → first a b ≡ b
  first-passed a b e = ap (λ (x : Check). first x b) e

  -- what comes after matters only where the test is passed
  pub first-after : (a : Check) (b c : Outcome A) → (a ≡ done tt → b ≡ c) → first a b ≡ first a c
  first-after (done tt) b c h = h refl
  first-after (refused n p) b c h = refl

  -- a call that stops at a refusal
  pub refused-first : {a : Check} {n p : ℕ} (b : Outcome A) → a ≡ refused n p → first a b ≡ refused n p
  refused-first b e = ap (λ (x : Check). first x b) e

  -- tests one after the other, grouped in either way
  pub first-assoc : (a b : Check) (o : Outcome A) → first (first a b) o ≡ first a (first b o)
  first-assoc (done tt) b o = refl
  first-assoc (refused n p) b o = refl

  -- what a slice holds where the call was done, and where it was refused
  pub when-done : {B : Type 0} {a : Outcome A} {v : A} (new old : B) → a ≡ done v → new ≡ when_done a new old
  when-done new old e = sym (ap (λ (x : Outcome A). when_done x new old) e)

  pub when-refused : {B : Type 0} {a : Outcome A} {n p : ℕ} (new old : B) → a ≡ refused n p → old ≡ when_done a new old
  when-refused new old e = sym (ap (λ (x : Outcome A). when_done x new old) e)

  pub done-same : (v w : A) → done v ≡ done w → v ≡ w
  done-same v w e = cc

-- a check is not both passed and refused
pub done_refused : (a : Check) (n p : ℕ) → a ≡ done tt → a ≡ refused n p → ⊥
done_refused a n p e f = clash (cc)

pub last-first : (a : Check) → first a (done tt) ≡ a
last-first (done tt) = refl
last-first (refused n p) = refl

pub refuse-done : (t : Bool) (n p : ℕ) → refuse_unless t n p ≡ done tt → t ≡ true
refuse-done true n p h = refl
refuse-done false n p h = cc

pub passes : (t : Bool) (n p : ℕ) → t ≡ true → refuse_unless t n p ≡ done tt
passes t n p e = ap (λ (b : Bool). refuse_unless b n p) e

-- ---- whether a test is passed

pub passed-done : (a : Check) → passed a ≡ true → a ≡ done tt
passed-done (done tt) e = refl
passed-done (refused n p) e = cc

pub passed-not : (a : Check) → passed a ≡ false → a ≡ done tt → ⊥
passed-not a e d = let f = ap passed d in clash (cc)

pub passed-test : (t : Bool) (n p : ℕ) → passed (refuse_unless t n p) ≡ t
passed-test true n p = refl
passed-test false n p = refl

pub passed_first : (a b : Check) → passed (first a b) ≡ (passed a && passed b)
passed_first (done tt) b = refl
passed_first (refused n p) b = refl

-- tests that are passed alike
pub passed-same : (n : ℕ) (f g : ℕ → Check) → ((i : ℕ) → i < n → passed (f i) ≡ passed (g i))
    → passed (first_of n f) ≡ passed (first_of n g)
unfolding first_of
passed-same zero f g h = refl
passed-same (suc n) f g h =
    passed_first (first_of n f) (f n) ∙ ap (λ (b : Bool). b && passed (f n)) (passed-same n f g (λ i l. h i (omega arith)))
    ∙ ap (λ (b : Bool). passed (first_of n g) && b) (h n (omega arith)) ∙ sym (passed_first (first_of n g) (g n))

pub first_of-each : (n : ℕ) (test : ℕ → Check) → first_of n test ≡ done tt → (a : ℕ) → a < n → test a ≡ done tt
unfolding first_of
first_of-each zero test h a l = absurd (not-suc-le-zero l)
first_of-each (suc n) test h a l =
    let f = first_done (first_of n test) (test n) tt h in
    ⊎_elim (λ (e : a ≡ n). rw e f.1) (λ (k : a < n). first_of-each n test f.0 a k) (eq-or-lt_of_le (le_of_suc-le-suc l))

pub first_of-passes : (n : ℕ) (test : ℕ → Check) → ((a : ℕ) → a < n → test a ≡ done tt) → first_of n test ≡ done tt
unfolding first_of
first_of-passes zero test h = refl
first_of-passes (suc n) test h = first-passed (first_of n test) (test n) (first_of-passes n test (λ a l. h a (omega arith)))
    ∙ h n (omega arith)

-- a scan that stops at its first refusal
pub first_of-stops : (n i : ℕ) (test : ℕ → Check) (k p : ℕ) → i < n → first_of i test ≡ done tt → test i ≡ refused k p
    → first_of n test ≡ refused k p
unfolding first_of
first_of-stops zero i test k p l h e = absurd (not-suc-le-zero l)
first_of-stops (suc n) i test k p l h e =
    ⊎_elim
    (λ (j : i ≡ n). first-passed (first_of n test) (test n) (subst (λ (m : ℕ). first_of m test ≡ done tt) j h)
    ∙ subst (λ (m : ℕ). test m ≡ refused k p) j e)
    (λ (j : i < n). refused-first (test n) (first_of-stops n i test k p j h e)) (eq-or-lt_of_le (le_of_suc-le-suc l))

-- a test of each axis, one after the other
pub scanned : (number : ℕ) (test : ℕ → Bool) {tx ty tz : Bool} {x y z : Check} → tx ≡ test 0 → ty ≡ test 1 → tz ≡ test 2
    → x ≡ refuse_unless tx number 0 → y ≡ first x (refuse_unless ty number 1) → z ≡ first y (refuse_unless tz number 2)
    → z ≡ on_axes number test
unfolding first_of
scanned number test ex ey ez hx hy hz = rw (hz, hy, hx, ex, ey, ez) refl

-- one test more
pub first_of-more : (i : ℕ) (test : ℕ → Check) → first_of i test ≡ done tt → test i ≡ done tt → first_of (i + 1) test ≡ done tt
unfolding first_of
first_of-more i test h e = rw (add-one i) (first-passed (first_of i test) (test i) h ∙ e)

pub passed-next : (i : ℕ) (test : ℕ → Check) → passed (first_of (i + 1) test) ≡ (passed (first_of i test) && passed (test i))
unfolding first_of
passed-next i test = rw (add-one i) (passed_first (first_of i test) (test i))

-- a test that is not passed
pub first_of-fails : (n : ℕ) (test : ℕ → Check) (i : ℕ) → i < n → passed (test i) ≡ false → passed (first_of n test) ≡ false
first_of-fails n test i l e = go (passed (first_of n test)) refl
  where
    go : (b : Bool) → passed (first_of n test) ≡ b → b ≡ false
    go true h = absurd (passed-not (test i) e (first_of-each n test (passed-done (first_of n test) h) i l))
    go false h = refl

-- tests in two runs
pub first_of-add : (a b : ℕ) (test : ℕ → Check) → first_of (a + b) test ≡ first (first_of a test) (first_of b (λ i. test (a + i)))
unfolding first_of
first_of-add a zero test = ap (λ (k : ℕ). first_of k test) (add-zero a) ∙ sym (last-first (first_of a test))
first_of-add a (suc b) test =
    ap (λ (k : ℕ). first_of k test) (add-suc a b) ∙ ap (λ (x : Check). first x (test (a + b))) (first_of-add a b test)
    ∙ first-assoc (first_of a test) (first_of b (λ i. test (a + i))) (test (a + b))

pub first_of-same : (n : ℕ) (f g : ℕ → Check) → ((i : ℕ) → i < n → f i ≡ g i) → first_of n f ≡ first_of n g
unfolding first_of
first_of-same zero f g h = refl
first_of-same (suc n) f g h = ap (λ (x : Check). first x (f n)) (first_of-same n f g (λ i l. h i (omega arith)))
    ∙ ap (λ (x : Check). first (first_of n g) x) (h n (omega arith))

-- tests in k runs of n
pub first_of-rows : (n k : ℕ) (test : ℕ → Check) → first_of (n * k) test ≡ first_of k (λ c. first_of n (λ e. test (n * c + e)))
unfolding first_of
first_of-rows n zero test = ap (λ (i : ℕ). first_of i test) (mul-zero n)
first_of-rows n (suc k) test =
    ap (λ (i : ℕ). first_of i test) (mul-suc n k) ∙ first_of-add (n * k) n test
    ∙ ap (λ (x : Check). first x (first_of n (λ e. test (n * k + e)))) (first_of-rows n k test)

-- tests in k pairs
pub first_of-pairs : (k : ℕ) (test : ℕ → Check) → first_of (2 * k) test ≡ first_of k (λ c. first (test (2 * c)) (test (2 * c + 1)))
unfolding first_of
first_of-pairs k test =
    first_of-rows 2 k test
    ∙ first_of-same k _ _ (λ c l. ap (λ (i : ℕ). first (test i) (test (2 * c + 1))) (add-zero (2 * c)))

-- ---- results of the code, and what `?` makes of them

-- what is handed on of a refusal
pub handed_on : {A : Type 0} (r : Result A Refusal) (e : Refusal) → IsErr r × IsErrAnd r (λ x. x ≡ e) → outcome_of r ≡ refused
    (number_of e.reason) e.place
handed_on (Ok a) e h = let f = h.0 in cc
handed_on (Err x) e h = ap (λ (y : Refusal). refused (number_of y.reason) y.place) h.1

-- a call that stops at a refusal
pub stopped : {A : Type 0} (r : Result A Refusal) (e : Refusal) (a : Check) (o : Outcome A) → IsErr r × IsErrAnd r (λ x. x ≡ e)
    → refused (number_of e.reason) e.place ≡ a → outcome_of r ≡ first a o
stopped r e a o h is = handed_on r e h ∙ sym (refused-first o (sym is))

-- a call that goes on after a test
pub went-on : {A : Type 0} (a : Check) (o p : Outcome A) → done tt ≡ a → p ≡ o → p ≡ first a o
went-on a o p is h = h ∙ sym (first-passed a o (sym is))

-- where the refusal of the only test stands
pub at_once : {A : Type 0} (r : Result A Refusal) (e : Refusal) (a : Outcome A) → IsErr r × IsErrAnd r (λ x. x ≡ e)
    → refused (number_of e.reason) e.place ≡ a → outcome_of r ≡ a
at_once r e a h is = handed_on r e h ∙ is

-- tests of three axes up to the first refusal
module _ (number : ℕ) (test : ℕ → Bool) where
  pub on-first : {n p : ℕ} → refused n p ≡ refuse_unless (test 0) number 0 → on_axes number test ≡ refused n p
  unfolding first_of
  on-first e = rw (sym e) refl

  pub on-second : {n p : ℕ} → done tt ≡ refuse_unless (test 0) number 0 → refused n p ≡ refuse_unless (test 1) number 1
      → on_axes number test ≡ refused n p
  unfolding first_of
  on-second d e = rw (sym d, sym e) refl

  pub on-third : done tt ≡ refuse_unless (test 0) number 0 → done tt ≡ refuse_unless (test 1) number 1 → on_axes number test
      ≡ refuse_unless (test 2) number 2
  unfolding first_of
  on-third d e = rw (sym d, sym e) refl

-- tests of three axes that come out alike
pub axis-by-axis : (number : ℕ) (test other : ℕ → Bool) → test 0 ≡ other 0 → test 1 ≡ other 1 → test 2 ≡ other 2 → on_axes number test
    ≡ on_axes number other
unfolding first_of
axis-by-axis number test other x y z = rw (x, y, z) refl
