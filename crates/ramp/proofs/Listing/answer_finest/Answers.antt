-- `ramp::Listing::answer_finest` meets its contract. The invariant: what is left of the positions, and what is known before query i.
use mathlib.Core.Path.{◌≡◌, sym, ap, subst, ◌∙◌}
use Rattle.std.specs.Prelude.{Some}
use Prim.Native.Nat.{ℕ, ◌+◌}
use native.Mathlib.Omega.{arith}
use lib.ListN.{take, set}
use mir.Syntax.{w32}
use mir.Val.{to_z, of_z, bool_byte}
use Rattle.arith.specs.Int.{rounding_of}
use Rattle.arith.proofs.Machine.{element}
use Rattle.lattice.specs.Outcome.{Outcome, refused}
use Rattle.lattice.specs.Answers.{number_of}
use Rattle.lattice.specs.Axes.{origin}
use Rattle.lattice.specs.Records.{records_field}
use Rattle.lattice.proofs.OutcomeLaws.{passed-done, refuse-done}
use Rattle.lattice.proofs.ShapeLaws.{shaped}
use Rattle.cell.specs.Cell.{place_at}
use Rattle.evaluate.specs.Evaluate.{dose, ask_at, answer_by}
use Rattle.query.specs.Parts.{finest}
use Rattle.ramp.specs.Ramp.{queries, queries_outcome}
use Rattle.ramp.specs.Parts.{one, Readable}
use Rattle.ramp.proofs.ChunkLaws.{chunk-left, chunks-end}
use Rattle.ramp.proofs.QueryLaws.{own-stops, own-five, readable, own-answers}
use Rattle.ramp.proofs.LoopLaws.{Before, before-none, few, stops, known, more, ends}
use Rattle.ramp.proofs.TurnLaws.{turn, refused-test, byte-low, byte-is}
use Rattle.ramp.proofs.Listing.answer_finest.Goals as goal

pub corner_entries-entries-requires : goal.corner_entries-entries-requires
corner_entries-entries-requires c = shaped c.args.self.now.table.shape c.args.self.now.listed.shape

pub loop-i-init : goal.loop-i-init
loop-i-init c =
    let a = c.args.self.now in
    let e : c.into_iter-i-iterator.result.count ≡ 0 = cc in
    rw e (record {
      left = cc;
      size = cc;
      few = omega arith;
      before = before-none a.table.shape a.table.second_edition a.records.now a.positions.now _ _ c.told-found;
    })

pub locate-spot-requires : goal.locate-spot-requires
locate-spot-requires c =
    (shaped c.args.self.now.table.shape c.args.self.now.listed.shape, c.in-Some.ensures.steps.0.1.1 ∙ c.loop-i.invariant.size)

pub returns-in-Err-clause-result_value : goal.returns-in-Err-clause-result_value
returns-in-Err-clause-result_value c =
    let a = c.args.self.now in
    let s = a.table.shape in
    let even = a.table.second_edition in
    let rs = a.records.now in
    let ps = a.positions.now in
    let w = c.loop-i in
    let i = w.i-iterator.count in
    let t = turn s even rs ps _ _ c.in-Some.position.now i c.locate-spot.result a.listed w.invariant.left c.in-Some.ensures.steps.0.1.0
    (c.in-Some.ensures.steps.0.1.1 ∙ w.invariant.size) (c.locate-spot.ensures even) in
    subst (λ (k : ℕ). ◌≡◌ {A = Outcome ℕ} (refused (number_of c.in-Err.r.reason) k) (queries_outcome (finest s even) rs ps))
    (sym c.in-Some.ensures.steps.1)
    (stops s even rs ps i w.found w.held w.cell w.fetches w.invariant.before t.inside
    (own-stops s even rs ps a.listed i (sym (c.in-Err.ensures even ∙ t.stands.tests))))

pub hold-within-requires : goal.hold-within-requires
hold-within-requires c =
    let a = c.args.self.now in
    let s = a.table.shape in
    let even = a.table.second_edition in
    let rs = a.records.now in
    let ps = a.positions.now in
    let w = c.loop-i in
    let i = w.i-iterator.count in
    let spot = c.locate-spot.result in
    let t = turn s even rs ps _ _ c.in-Some.position.now i spot a.listed w.invariant.left c.in-Some.ensures.steps.0.1.0
    (c.in-Some.ensures.steps.0.1.1 ∙ w.invariant.size) (c.locate-spot.ensures even) in
    record {
      shaped = (shaped s a.listed.shape, a.listed.long, t.stands.here);
      held = known s even rs ps i w.found w.held w.cell w.fetches w.invariant.before spot.cell c.is_new-new.result c.is_new-new.ensures;
    }

pub returns-in_err-refuse_unless-clause-result_value : goal.returns-in_err-refuse_unless-clause-result_value
returns-in_err-refuse_unless-clause-result_value c =
    let a = c.args.self.now in
    let s = a.table.shape in
    let even = a.table.second_edition in
    let rs = a.records.now in
    let ps = a.positions.now in
    let w = c.loop-i in
    let i = w.i-iterator.count in
    let spot = c.locate-spot.result in
    let t = turn s even rs ps _ _ c.in-Some.position.now i spot a.listed w.invariant.left c.in-Some.ensures.steps.0.1.0
    (c.in-Some.ensures.steps.0.1.1 ∙ w.invariant.size) (c.locate-spot.ensures even) in
    let passes = sym (c.in_default.ensures even ∙ t.stands.tests) in
    refused-test c.hold-within.result 5 c.in-Some.i _ _ _ c.from_residual.ensures c.in_err-refuse_unless.ensures (λ out.
    let five = own-five s even rs ps a.listed i passes (place_at spot.cell) (t.stands.cell-is passes)
    (sym c.hold-within.ensures.value ∙ out) in
    subst (λ (k : ℕ). ◌≡◌ {A = Outcome ℕ} (refused 5 k) (queries_outcome (finest s even) rs ps)) (sym c.in-Some.ensures.steps.1)
    (stops s even rs ps i w.found w.held w.cell w.fetches w.invariant.before t.inside five.is))

pub overflow_add-fetches : goal.overflow_add-fetches
overflow_add-fetches c =
    let a = c.args.self.now in
    let s = a.table.shape in
    let even = a.table.second_edition in
    let rs = a.records.now in
    let ps = a.positions.now in
    let w = c.loop-i in
    let i = w.i-iterator.count in
    let spot = c.locate-spot.result in
    let t = turn s even rs ps _ _ c.in-Some.position.now i spot a.listed w.invariant.left c.in-Some.ensures.steps.0.1.0
    (c.in-Some.ensures.steps.0.1.1 ∙ w.invariant.size) (c.locate-spot.ensures even) in
    let f = few s even rs ps i w.found w.held w.cell w.fetches w.invariant.before in
    let b = byte-low c.is_new-new.result in
    let l = t.small in
    record { fits = omega arith }

pub dose_in-requires : goal.dose_in-requires
dose_in-requires c =
    let a = c.args.self.now in
    let s = a.table.shape in
    let even = a.table.second_edition in
    let rs = a.records.now in
    let ps = a.positions.now in
    let w = c.loop-i in
    let i = w.i-iterator.count in
    let spot = c.locate-spot.result in
    let t = turn s even rs ps _ _ c.in-Some.position.now i spot a.listed w.invariant.left c.in-Some.ensures.steps.0.1.0
    (c.in-Some.ensures.steps.0.1.1 ∙ w.invariant.size) (c.locate-spot.ensures even) in
    let passes = sym (c.in_default.ensures even ∙ t.stands.tests) in
    let within = passed-done _ (sym c.hold-within.ensures.value ∙ refuse-done c.hold-within.result 5 c.in-Some.i
    (sym c.in_ok-refuse_unless.ensures)) in
    subst (λ (k : ℕ). Readable s (take k c.hold-within.new.held) (place_at spot.step)) (sym c.corner_entries-entries.ensures.0)
    (readable s even rs ps a.listed i passes spot t.stands c.hold-within.new.held c.hold-within.ensures.held_2 within)

pub loop-i-preserved : goal.loop-i-preserved
loop-i-preserved c =
    let a = c.args.self.now in
    let s = a.table.shape in
    let even = a.table.second_edition in
    let rs = a.records.now in
    let ps = a.positions.now in
    let w = c.loop-i in
    let i = w.i-iterator.count in
    let spot = c.locate-spot.result in
    let t = turn s even rs ps _ _ c.in-Some.position.now i spot a.listed w.invariant.left c.in-Some.ensures.steps.0.1.0
    (c.in-Some.ensures.steps.0.1.1 ∙ w.invariant.size) (c.locate-spot.ensures even) in
    let passes = sym (c.in_default.ensures even ∙ t.stands.tests) in
    let within = passed-done _ (sym c.hold-within.ensures.value ∙ refuse-done c.hold-within.result 5 c.in-Some.i
    (sym c.in_ok-refuse_unless.ensures)) in
    let held = c.hold-within.new.held in
    let is_held = c.hold-within.ensures.held_2 in
    let r = c.dose_in in
    let v = to_z w32 (of_z w32 r.result) in
    let answered = own-answers s even rs ps a.listed i passes spot t.stands held is_held within v
    (element r.result r.type_inv ∙ r.ensures
    ∙ ap (λ (k : ℕ). answer_by (rounding_of even) (ask_at (one s) dose origin (place_at spot.step))
    (records_field (one s) (take k held))) c.corner_entries-entries.ensures.0) in
    let e : c.next.new.self.count ≡ i + 1 = c.in-Some.ensures.steps.2 in
    rw e (record {
      left = chunk-left ps _ _ c.in-Some.position.now 3 i w.invariant.left c.in-Some.ensures.steps.0.1.0
          (c.in-Some.ensures.steps.0.1.1 ∙ w.invariant.size);
      size = c.in-Some.ensures.steps.0.0 ∙ w.invariant.size;
      few = let l = t.inside in omega arith;
      before = subst (λ (k : ℕ). Before s even rs ps (i + 1) (set w.found k v) held (Some spot.cell)
          (w.fetches + bool_byte c.is_new-new.result))
          (sym c.in-Some.ensures.steps.1)
          (subst (λ (k : ℕ). Before s even rs ps (i + 1) (set w.found i v) held (Some spot.cell) (w.fetches + k))
          (byte-is c.is_new-new.result)
          (more s even rs ps i w.found w.held w.cell w.fetches w.invariant.before spot.cell c.is_new-new.result c.is_new-new.ensures
          (t.stands.cell-is passes) held is_held within v t.small answered));
    })

pub returns : goal.returns
returns c =
    let a = c.args.self.now in
    let ps = a.positions.now in
    let w = c.loop-i in
    let e = chunks-end ps _ 3 w.i-iterator.count (queries ps) w.invariant.left (rw w.invariant.size at c.in-None.ensures.steps.0.1.0)
    a.listed.whole w.invariant.few in
    let both = ends a.table.shape a.table.second_edition a.records.now ps w.i-iterator.count w.found w.held w.cell w.fetches
    w.invariant.before e in
    record { result_value = both.0; by_index = both.1 }
