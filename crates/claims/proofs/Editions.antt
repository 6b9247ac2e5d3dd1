-- Where no stage meets a half, both editions give the same: off a half the roundings agree, so each stage gives the same number.
use mathlib.Core.Path.{◌≡◌, refl, sym, ap, ap₂, ◌∙◌}
use mathlib.Core.Bool.{Bool, true, false}
use mathlib.Core.List.{List, [], ◌∷◌}
use Prim.Native.Nat.{ℕ, ◌+◌, ◌*◌, ◌<◌}
use native.Mathlib.Omega.{arith}
use lib.IntN.{ℤ}
use lib.ListN.{length}
use Rattle.arith.specs.Int.{round_half_up, rounding_of}
use Rattle.arith.proofs.Editions.{off-half}
use Rattle.lattice.specs.declared.Shape.{Shape}
use Rattle.lattice.specs.declared.FullShape.{FullShape}
use Rattle.lattice.specs.Outcome.{Check, done, first}
use Rattle.lattice.specs.Shape.{full_shape, steps_on, full_outcome}
use Rattle.lattice.specs.Axes.{Place, Field, origin, put, along, sweep}
use Rattle.lattice.proofs.Along.{Each}
use Rattle.lattice.proofs.OutcomeLaws.{first-after}
use Rattle.estimate.specs.Estimate.{table_records, records_of, estimate_outcome}
use Rattle.query.specs.Queries.{asked_outcome, steps_outcome, position_outcome, position_cell, position_step}
use Rattle.float_query.specs.Floats.{float_steps, steps_of, float_outcome}
use Rattle.evaluate.specs.Evaluate.{Want, Ask, last_axis, divisor_on, stage_on, to_eighth, to_unit, in_eighths, before, answer_by}
use Rattle.evaluate.proofs.AnswerLaws.{each-before}
use Rattle.claims.specs.Third.{Query, at_position, in_cell, at_floats, asked, cell_read, step_read, AcceptedTable, Askable, both_calls}
use Rattle.claims.proofs.General.{same_sum, divisors}
use Rattle.claims.proofs.Gates.{gate}
use Rattle.claims.proofs.Demand.{asked-known, used-last, read_here, full, known, both_is, read_is, query, both-asked}
use Rattle.claims.specs.Editions.{OffHalves, NoHalf, EditionsAgree}

module _ (second : Bool) (q : Ask) (some : (a : ℕ) → a < q.n → 0 < divisor_on q a) where
  stages-off : (ls : List ℕ) → Each (λ a. a < q.n) ls → (g : Field) (p : Place) → OffHalves q ls g p
      → sweep ls (to_eighth (rounding_of second) q) g p ≡ sweep ls (to_eighth round_half_up q) g p
  unfolding sweep OffHalves to_eighth
  stages-off [] e g p h = refl
  stages-off (a ∷ ls) e g p h =
      ap (λ z. rounding_of second z (divisor_on q a))
      (same_sum q a (λ t. sweep ls (to_eighth (rounding_of second) q) g (put a t p))
      (λ t. sweep ls (to_eighth round_half_up q) g (put a t p))
      (λ t l. stages-off ls e.1 g (put a (q.m * q.cell a + t) p) (h.0 t l)) (p a))
      ∙ off-half (along a (stage_on q a) (sweep ls (to_eighth round_half_up q) g) p) (divisor_on q a) (some a e.0) h.1 second

  pub answer-off : last_axis q.n q.want < q.n → (g : Field) → NoHalf q g → answer_by (rounding_of second) q g ≡ answer_by round_half_up q g
  unfolding answer_by NoHalf to_unit
  answer-off last g h =
      ap (λ z. rounding_of second z (8 * divisor_on q l))
      (same_sum q l (λ t. sweep (before q) (to_eighth (rounding_of second) q) (in_eighths g) (put l t origin))
      (λ t. sweep (before q) (to_eighth round_half_up q) (in_eighths g) (put l t origin))
      (λ t k. stages-off (before q) (each-before q (λ a. a < q.n) (λ a i n. i)) (in_eighths g) (put l (q.m * q.cell l + t) origin)
      (h.0 t k)) 0)
      ∙ off-half (along l (stage_on q l) (sweep (before q) (to_eighth round_half_up q) (in_eighths g)) origin) (8 * divisor_on q l)
      (let k = some l last in omega arith) h.1 second
    where
      l : ℕ
      l = last_axis q.n q.want

-- ---- the two calls

module _ (s : Shape) (numbers : List ℕ) where
  abbrev one : FullShape
  one = full_shape s numbers false

  abbrev second : FullShape
  second = full_shape s numbers true

  -- no test looks at the edition
  estimate-same : (xs : List ℤ) (room : ℕ) → estimate_outcome second xs room ≡ estimate_outcome one xs room
  unfolding estimate_outcome full_outcome steps_on
  estimate-same xs room = refl

  asked-same : (rs : List ℤ) (want : Want) → asked_outcome second rs want ≡ asked_outcome one rs want
  unfolding asked_outcome full_outcome steps_on
  asked-same rs want = refl

  gate_same : (q : Query) → gate second q ≡ gate one q
  unfolding gate position_outcome steps_outcome float_outcome steps_of float_steps steps_on
  gate_same (at_position p) = refl
  gate_same (in_cell cell u) = refl
  gate_same (at_floats x) = refl

  ask-same : (want : Want) (q : Query) → asked second want q ≡ asked one want q
  unfolding cell_read step_read position_cell position_step steps_of float_steps steps_on
  ask-same want (at_position p) = refl
  ask-same want (in_cell cell u) = refl
  ask-same want (at_floats x) = refl

  module _ (xs old : List ℤ) (want : Want) (q : Query) (h : NoHalf (asked one want q) (table_records s xs)) (e : AcceptedTable one xs old)
      (a : Askable s want) where
    answers : (edition : Bool)
        → answer_by (rounding_of edition) (asked one want q) (table_records s xs) ≡ answer_by round_half_up (asked one want q)
        (table_records s xs)
    answers edition =
        answer-off edition (asked one want q) (divisors one (full one xs old e) want (cell_read one q) (step_read one q))
        (used-last s want (known one xs old e).shape.axes-low a) (table_records s xs) h

    read_same : gate one q ≡ done tt → read_here second xs want q ≡ read_here one xs want q
    read_same g =
        read_is second xs old (estimate-same xs (length old) ∙ e) want q a (gate_same q ∙ g)
        ∙ ap (λ (k : Ask). done (answer_by (rounding_of true) k (table_records s xs))) (ask-same want q)
        ∙ ap done (answers true ∙ sym (answers false)) ∙ sym (read_is one xs old e want q a g)

pub editions-agree : EditionsAgree
unfolding both_calls
editions-agree s numbers xs old want q h =
    ap (λ (c : Check). first c (query (second s numbers) xs old want q)) (estimate-same s numbers xs (length old))
    ∙ first-after (estimate_outcome (one s numbers) xs (length old)) (query (second s numbers) xs old want q)
    (query (one s numbers) xs old want q)
    (λ e.
    let rs = records_of s xs in
    let k = estimate-same s numbers xs (length old) ∙ e in
    both-asked (second s numbers) xs old want q k ∙ both_is (second s numbers) xs old k want q
    ∙ ap₂ (λ (c d : Check). first c (first d (read_here (second s numbers) xs want q))) (asked-same s numbers rs want)
    (gate_same s numbers q)
    ∙ first-after (asked_outcome (one s numbers) rs want) (first (gate (one s numbers) q) (read_here (second s numbers) xs want q))
    (first (gate (one s numbers) q) (read_here (one s numbers) xs want q))
    (λ f. first-after (gate (one s numbers) q) (read_here (second s numbers) xs want q) (read_here (one s numbers) xs want q)
    (λ g. read_same s numbers xs old want q h e (asked-known (one s numbers) rs want f) g))
    ∙ sym (both-asked (one s numbers) xs old want q e ∙ both_is (one s numbers) xs old e want q))
