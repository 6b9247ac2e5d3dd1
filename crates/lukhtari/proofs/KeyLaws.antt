-- The test of a key, as the proofs of the calls use it.
use mathlib.Core.Path.{◌≡◌, refl, ap, ◌∙◌}
use mathlib.Core.Bool.{Bool, true, false}
use Prim.Native.Nat.{ℕ}
use Rattle.arith.proofs.Choices.{clash}
use Rattle.lattice.specs.Outcome.{Outcome, Check, done, refused, refuse_unless}
use Rattle.lukhtari.specs.declared.keys.Right.{Right}
use Rattle.lukhtari.specs.Rights.{holds}

passed : (b : Bool) → done tt ≡ refuse_unless b 30 0 → b ≡ true
passed true h = refl
passed false h = clash (cc)

failed : (b : Bool) {n p : ℕ} → refused n p ≡ refuse_unless b 30 0 → b ≡ false
failed true h = clash (cc)
failed false h = refl

-- the same refusal of a call that gives something else
again : {A : Type 0} → Check → Outcome A
again (done u) = refused 0 0
again (refused n p) = refused n p

module _ (key : ℕ) (right : Right) where
  -- a key that passed the test holds the right
  pub allowed : done tt ≡ refuse_unless (holds key right) 30 0 → holds key right ≡ true
  allowed h = passed (holds key right) h

  pub forbidden : {n p : ℕ} → refused n p ≡ refuse_unless (holds key right) 30 0 → holds key right ≡ false
  forbidden h = failed (holds key right) h

  -- what a key that lacks the right is told
  pub told : {A : Type 0} {n p : ℕ} → refused n p ≡ refuse_unless (holds key right) 30 0 → ◌≡◌ {A = Outcome A} (refused n p) (refused 30 0)
  unfolding again
  told h = ap again (h ∙ ap (λ (b : Bool). refuse_unless b 30 0) (forbidden h))
