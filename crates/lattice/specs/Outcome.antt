-- What a call gives: a result, or the earliest refusal with its number and place.
use Rattle.std.specs.Prelude.{ℕ, zero, suc, Bool, true, false}

pub data Outcome (A : Type 0) : Type 0 where
  done : A → Outcome A
  refused : ℕ → ℕ → Outcome A

-- a test with nothing to give
abbrev pub Check : Type 0
Check = Outcome (Unit {0})

-- passed where the test holds, else refusal `number` at `place`
abbrev pub refuse_unless : Bool → ℕ → ℕ → Check
refuse_unless true number place = done tt
refuse_unless false number place = refused number place

module _ {A : Type 0} where
  -- the earlier refusal, else what comes after
  abbrev pub first : Check → Outcome A → Outcome A
  first (done u) b = b
  first (refused n p) b = refused n p

  -- whether nothing was refused
  abbrev pub passed : Outcome A → Bool
  passed (done u) = true
  passed (refused n p) = false

  -- what a lent slice holds after a call: `new` where the call is not refused, else what it held
  abbrev pub when_done : {B : Type 0} → Outcome A → B → B → B
  when_done (done u) new old = new
  when_done (refused n p) new old = old

-- the earliest refusal of tests 0 to n - 1
unfoldable pub first_of : ℕ → (ℕ → Check) → Check
first_of zero test = done tt
first_of (suc n) test = first (first_of n test) (test n)

-- refusal `number` on the first axis that is not allowed; place is the axis
abbrev pub on_axes : ℕ → (ℕ → Bool) → Check
on_axes number allowed = first_of 3 (λ a. refuse_unless (allowed a) number a)
