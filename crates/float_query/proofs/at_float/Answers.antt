-- `float_query::at_float` meets its contract: the query by position at the held steps, with 10 for 22 and 23, is the query by float.
use mathlib.Core.Path.{◌≡◌, sym, ap, ap₂, ◌∙◌}
use mathlib.Core.Bool.{Bool}
use mathlib.Core.List.{List}
use Prim.Native.Nat.{ℕ, ◌<◌, ◌^◌}
use lib.IntN.{ℤ, nat_abs}
use lib.Dec.{lit≤}
use mir.Syntax.{w32}
use mir.Val.{to_z, of_z}
use mir.Facts.{to_z-of_z}
use native.Mathlib.Nat.{lt_of_lt_of_le}
use Rattle.arith.proofs.Abs.{sfits-abs}
use Rattle.std.specs.Prelude.{Ok, Err}
use Rattle.lattice.specs.declared.refusal.Refusal.{Refusal}
use Rattle.evaluate.specs.declared.Value.{Value}
use Rattle.lattice.specs.Answers.{number_of}
use Rattle.lattice.specs.Outcome.{Outcome, done, refused}
use Rattle.lattice.specs.Shape.{steps_on}
use Rattle.evaluate.specs.Evaluate.{Want}
use Rattle.evaluate.specs.Wants.{wanted}
use Rattle.query.specs.Answers.{outcome_of_reading}
use Rattle.query.specs.Parts.{renumbered}
use Rattle.query.specs.Queries.{position_at, by_position}
use Rattle.float_query.specs.Floats.{floats_at, by_float, finite_on, ten_number}
use Rattle.float_query.specs.Answers.{float_value, in_float}
use Rattle.query.proofs.CoarseCalls.{by-position-small}
use Rattle.float_query.proofs.FloatLaws.{HeldSteps, held, three-held, by-float}
use Rattle.float_query.proofs.at_float.Goals as goal
use Rattle.float_query.proofs.at_float.Goals.{After-at_position}

module _ (c : After-at_position) where
  abbrev want : Want
  want = wanted c.args.derivative

  abbrev fin : ℕ → Bool
  fin = finite_on c.step_of-x.result c.step_of-y.result c.step_of-z.result

  -- the steps as the query by position has them
  abbrev steps : List ℤ
  steps = held c.held_step.result c.held_step-2.result c.held_step-3.result

  abbrev position : Outcome ℤ
  position = by_position c.args.t c.args.records.now want (position_at steps)

  asked : outcome_of_reading c.at_position.result ≡ position
  asked = c.at_position.ensures.result_value

  stands : HeldSteps c.args.t (floats_at c.args.p) fin (position_at steps)
  unfolding floats_at steps_on
  stands = three-held c.args.t (floats_at c.args.p) c.step_of-x.result c.step_of-y.result c.step_of-z.result
      c.step_of-x.ensures.result_value c.step_of-y.ensures.result_value c.step_of-z.ensures.result_value _ _ _
      c.held_step.ensures c.held_step-2.ensures c.held_step-3.ensures

  told : renumbered (ten_number fin) position ≡ by_float c.args.t c.args.records.now want (floats_at c.args.p)
  told = by-float c.args.t c.args.records.now want (floats_at c.args.p) fin (position_at steps) stands

  -- the answer, and the refusal, that the query by position gives
  given : (v : Value) → c.at_position.result ≡ Ok v → done v.number ≡ position
  given v is = sym (ap outcome_of_reading is) ∙ asked

  given-small : (v : Value) → c.at_position.result ≡ Ok v → nat_abs v.number < 2 ^ 24
  given-small v is = by-position-small c.args.t c.args.records.now want steps v.number (sym (given v is))

  -- the number as the machine holds it
  given-held : (v : Value) → c.at_position.result ≡ Ok v → to_z w32 (of_z w32 v.number) ≡ v.number
  given-held v is = to_z-of_z {w = w32} (sfits-abs v.number (lt_of_lt_of_le (given-small v is) (lit≤ tt)))

  stopped : (r : Refusal) → c.at_position.result ≡ Err r → refused (number_of r.reason) r.place ≡ position
  stopped r is = sym (ap outcome_of_reading is) ∙ asked

pub in_float-requires : goal.in_float-requires
in_float-requires c = let p = c.before.before.before in rw (given-held p c.in-Ok.v c.in-Ok.is) (given-small p c.in-Ok.v c.in-Ok.is)

pub returns-in-Ok : goal.returns-in-Ok
returns-in-Ok c =
    let p = c.before.before.before in
    let want = wanted c.args.derivative in
    c.in_float.ensures c.args.derivative.axis ∙ ap (λ v. done (float_value want v)) (given-held p c.in-Ok.v c.in-Ok.is)
    ∙ ap (in_float want) (ap (renumbered (ten_number (fin p))) (given p c.in-Ok.v c.in-Ok.is) ∙ told p)

pub returns-in-Err : goal.returns-in-Err
returns-in-Err c =
    let p = c.before.before in
    ap (in_float (wanted c.args.derivative)) (ap₂ refused c.with_ten.ensures.0 c.with_ten.ensures.1
    ∙ ap (renumbered (ten_number (fin p))) (stopped p c.in-Err.r c.in-Err.is) ∙ told p)
