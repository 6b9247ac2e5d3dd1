-- `lattice::step_number` meets its contract: the five tests.
use mathlib.Core.Path.{◌≡◌}
use mathlib.Core.Bool.{◌||◌}
use lib.Dec.{eqb}
use borrow.Author.Tests.{eq-eqb, ne_eqb}
use Rattle.lattice.specs.Shape.{step_number}
use Rattle.lattice.proofs.step_number.Goals as goal
use Rattle.lattice.proofs.step_number.Goals.{Joined-steps-eq16, Joined-steps-eq32, Joined-steps-eq64, else-steps-eq16, else-steps-eq32, else-steps-eq64, then-steps-eq16, then-steps-eq32, then-steps-eq64}

two : (c : Joined-steps-eq16) → c.if-steps-eq16.t-5 ≡ (eqb c.args.steps 16 || eqb c.args.steps 32)
two c = elim c.if-steps-eq16.branch [
  | then-steps-eq16 w ↦ simp (w.t-5-is, eq-eqb _ _ w.if-steps-eq16.true)
  | else-steps-eq16 w ↦ simp
      (w.t-5-is, ne_eqb _ _ w.if-steps-eq16.false)
]

three : (c : Joined-steps-eq32) → c.if-steps-eq32.t-4 ≡ (c.if-steps-eq16.t-5 || eqb c.args.steps 64)
three c = elim c.if-steps-eq32.branch [
  | then-steps-eq32 w ↦ simp (w.t-4-is, w.if-steps-eq32.true-raw)
  | else-steps-eq32 w ↦ simp
      (w.t-4-is, w.if-steps-eq32.false-raw)
]

four : (c : Joined-steps-eq64) → c.if-steps-eq64.t-3 ≡ (c.if-steps-eq32.t-4 || eqb c.args.steps 128)
four c = elim c.if-steps-eq64.branch [
  | then-steps-eq64 w ↦ simp (w.t-3-is, w.if-steps-eq64.true-raw)
  | else-steps-eq64 w ↦ simp
      (w.t-3-is, w.if-steps-eq64.false-raw)
]

-- all but the last
most : (c : Joined-steps-eq64)
    → c.if-steps-eq64.t-3
    ≡ (((eqb c.args.steps 16 || eqb c.args.steps 32)
    || eqb c.args.steps 64) || eqb c.args.steps 128)
most c = simp (four c, three c.before, two c.before.before)

pub returns-then-steps-eq128 : goal.returns-then-steps-eq128
unfolding step_number
returns-then-steps-eq128 c = simp (← most c.before, c.if-steps-eq128.true-raw)

pub returns-else-steps-eq128 : goal.returns-else-steps-eq128
unfolding step_number
returns-else-steps-eq128 c = simp (← most c.before, c.if-steps-eq128.false-raw)
