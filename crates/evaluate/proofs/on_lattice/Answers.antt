-- `evaluate::on_lattice` meets its contract: the strides are those of the axes in the sequence of work.
use mathlib.Core.Path.{◌≡◌, refl, sym, ap, subst, ◌∙◌}
use mathlib.Core.List.{List, [], ◌∷◌}
use Prim.Native.Nat.{ℕ, ◌^◌, ◌≤◌, ◌<◌}
use native.Mathlib.Omega.{arith}
use lib.Dec.{eqb, lit<}
use lib.ListN.{length}
use mir.Syntax.{w32, w64}
use mir.Val.{SFits, to_z, of_z}
use lib.IntN.{ℤ}
use borrow.Author.Rules.{rules}
use Rattle.arith.specs.Int.{rounding_of}
use Rattle.arith.proofs.Editions.{edition-sound}
use Rattle.arith.proofs.Choices.{by-3}
use Rattle.lattice.specs.Axes.{Field, axes, without}
use Rattle.lattice.specs.Buffer.{at}
use Rattle.lattice.specs.Records.{records_field}
use Rattle.lattice.proofs.ShapeLaws.{orders-range}
use Rattle.hermite.specs.declared.Rounded.{Rounded}
use Rattle.cell.specs.Cell.{place_at}
use Rattle.cell.proofs.CellLaws.{base-in, laid-small}
use Rattle.evaluate.specs.declared.Strides.{Strides}
use Rattle.evaluate.specs.Evaluate.{Ask, last_axis, ask_at, answer_by, exact_by}
use Rattle.evaluate.specs.Stages.{also, of_axis, beside, Workable, WorkedOff, Reports}
use Rattle.evaluate.specs.Wants.{wanted}
use Rattle.evaluate.proofs.AnswerLaws.{order-last}
use Rattle.evaluate.proofs.Answering.{IsAxis, AreAxes, are-axes, workable-in, reported-in, found, fits, cast}
use Rattle.evaluate.proofs.EndLaws.{part}
use Rattle.evaluate.proofs.Parts.{workable-part, worked-off-part}
use Rattle.evaluate.proofs.StageOrder.{axes-before, beside-low}
use lib.Signed.{mag}
use Rattle.evaluate.proofs.on_lattice.Goals as goal
use Rattle.evaluate.proofs.on_lattice.Goals.{After-in_sequence-sequence, After-last_axis-last, Start}

module _ (c : After-in_sequence-sequence) where
  abbrev f : After-last_axis-last
  f = c.before.before.before.before.before

  abbrev b : Start
  b = f.before

  abbrev n : ℕ
  n = b.args.s.axes

  abbrev last : ℕ
  last = last_axis n (wanted b.args.derivative)

  last-low : (last < n) × (last < 3)
  last-low = let h = b.requires.ready.shape.axes-high in let k = b.requires.ready.last in (k, omega arith)

  abbrev Is : ℕ → Strides → Type 0
  Is = IsAxis b.args.s (place_at b.args.step)

  -- each axis by its number
  axis : (i : ℕ) → i < 3 → Is i
      (of_axis c.strides_of-x.result c.strides_of-y.result c.strides_of-z.result i)
  unfolding of_axis
  axis =
      let a = b.args in
      let is = found (edition-sound a.even) a.s a.records.now (place_at a.cell) a.step a.derivative.order a.derivative.axis a.l
      b.requires.ready in
      let x = c.strides_of-x in
      let y = c.strides_of-y in
      let z = c.strides_of-z in
      by-3 (λ i. Is i (of_axis x.result y.result z.result i)) (is 0 (lit< tt) x.result x.ensures)
      (is 1 (lit< tt) y.result y.ensures) (is 2 (lit< tt) z.result z.ensures)

  -- the axis that the sequence names
  named : (i j : ℕ) → i ≡ j → j < 3 → (v : Strides)
      → v ≡ of_axis c.strides_of-x.result c.strides_of-y.result
      c.strides_of-z.result i → Is j v
  named i j e h v k = subst (Is j) (sym (k ∙ ap (of_axis _ _ _) e)) (axis j h)

  is-first : Is (beside 0 last) c.in_sequence-sequence.result.first
  is-first = named (beside 0 f.last_axis-last.result) (beside 0 last) (ap (beside 0) f.last_axis-last.ensures) (beside-low 0 last (lit< tt))
      c.in_sequence-sequence.result.first c.in_sequence-sequence.ensures.0

  is-middle : Is (beside 2 last) c.in_sequence-sequence.result.middle
  is-middle = named (beside 2 f.last_axis-last.result) (beside 2 last) (ap (beside 2) f.last_axis-last.ensures)
      (beside-low 2 last (lit< tt))
      c.in_sequence-sequence.result.middle c.in_sequence-sequence.ensures.1

  is_last : Is last c.in_sequence-sequence.result.last
  is_last = named f.last_axis-last.result last f.last_axis-last.ensures last-low.1 c.in_sequence-sequence.result.last
      c.in_sequence-sequence.ensures.2

  abbrev others : List Strides
  others = also (eqb n 3) c.in_sequence-sequence.result.middle (c.in_sequence-sequence.result.first ∷ [])

  are : AreAxes b.args.s (place_at b.args.step) (without last (axes n)) others
  are =
      subst (λ (ls : List ℕ). AreAxes b.args.s (place_at b.args.step) ls others)
      (sym (axes-before n last b.requires.le_axes b.requires.ready.shape.axes-high last-low.0))
      (are-axes b.args.s (place_at b.args.step) (eqb n 3) (beside 0 last) (beside 2 last) c.in_sequence-sequence.result.first
      c.in_sequence-sequence.result.middle is-first is-middle)

  whole : Workable (rounding_of b.args.even) b.args.l.orders b.args.derivative.order c.in_sequence-sequence.result.last others
      (length b.args.records.now) (at b.args.records.now) b.args.l.base
  whole =
      let a = b.args in
      workable-in (edition-sound a.even) a.s a.records.now (place_at a.cell) (place_at a.step) (wanted a.derivative)
      a.l
      b.requires.ready n last refl refl a.derivative.order (order-last a.derivative.order a.derivative.axis)
      c.in_sequence-sequence.result.last others is_last are

  -- the records from the cell on
  abbrev here : List ℤ
  here = part b.args.records.now b.args.l.base

  base-low : b.args.l.base ≤ length b.args.records.now
  base-low =
      let h = b.requires.ready in
      let k = base-in b.args.s (place_at b.args.cell) h.shape h.here in
      let e = h.laid.base-is in
      let f = h.long in
      omega arith

  base-small : b.args.l.base ≤ 2 ^ 32
  base-small = let h = b.requires.ready in
      (laid-small b.args.s (place_at b.args.cell) b.args.l h.shape h.here h.laid).base-low

  asks : Workable (rounding_of b.args.even) b.args.l.orders b.args.derivative.order c.in_sequence-sequence.result.last others
      (length here)
      (at here) 0
  asks = workable-part b.args.records.now b.args.l.base base-low whole

  abbrev asked : Ask
  asked = ask_at b.args.s (wanted b.args.derivative) (place_at b.args.cell) (place_at b.args.step)

  abbrev field : Field
  field = records_field b.args.s b.args.records.now

  gives : (r : Rounded) → WorkedOff b.args.l.orders b.args.derivative.order c.in_sequence-sequence.result.last others
      (Reports (rounding_of b.args.even) b.args.l.orders (at here) 0 r)
      → (r.number ≡ answer_by (rounding_of b.args.even) asked field)
      × (eqb r.rest 0 ≡ exact_by (rounding_of b.args.even) asked field)
  gives r h =
      let a = b.args in
      reported-in (edition-sound a.even) a.s a.records.now (place_at a.cell) (place_at a.step) (wanted a.derivative)
      a.l
      b.requires.ready n last refl refl a.derivative.order (order-last a.derivative.order a.derivative.axis)
      c.in_sequence-sequence.result.last others is_last are r
      (worked-off-part a.records.now a.l.base r h)

module _ (w : After-in_sequence-sequence) (r : Rounded) (ok : mag r.number < 2 ^ 63)
    (e : WorkedOff (b w).args.l.orders (b w).args.derivative.order w.in_sequence-sequence.result.last (others w)
    (Reports (rounding_of (b w).args.even) (b w).args.l.orders (at (here w)) 0 r)) where
  fits_in : SFits w32 (to_z w64 (of_z w64 r.number))
  fits_in =
      let s = b w in
      let a = s.args in
      fits (edition-sound a.even) a.s a.records.now (place_at a.cell) a.step a.derivative.order a.derivative.axis a.l s.requires.ready
      r.number ok (gives w r e).0

  answers : to_z w32 (of_z w32 (to_z w64 (of_z w64 r.number))) ≡ answer_by (rounding_of (b w).args.even) (asked w) (field w)
  answers =
      let s = b w in
      let a = s.args in
      cast (edition-sound a.even) a.s a.records.now (place_at a.cell) a.step a.derivative.order a.derivative.axis a.l s.requires.ready
      r.number ok (gives w r e).0

-- the orders of the layout are those of a degree
pub invariant_of-m : goal.invariant_of-m
invariant_of-m c =
    let r = orders-range c.args.s.degree in
    let e = c.requires.ready.laid.orders-are in
    record { bounds = (omega arith, omega arith) }

pub returns : goal.returns
returns c =
    let w = c.before.before.before.before.before.before.before.before in
    let r = c.more_axes-r in
    record { number_value = answers w r.result c.struct_told-1.given.0.1 r.ensures; exact_value = (gives w r.result r.ensures).1 }

pub offset_bounds-records-base : goal.offset_bounds-records-base
offset_bounds-records-base c = let h = base-small c.before.before.before in search rules

pub slice_bounds-more_axes-count : goal.slice_bounds-more_axes-count
slice_bounds-more_axes-count c = let h = base-low c.before.before.before in search rules

pub slice_bounds-more_axes-start : goal.slice_bounds-more_axes-start
slice_bounds-more_axes-start c = let h = base-low c.before.before.before in search rules

pub slice_bounds-more_axes-end : goal.slice_bounds-more_axes-end
slice_bounds-more_axes-end c = let h = base-low c.before.before.before in search rules

pub more_axes-r-requires : goal.more_axes-r-requires
more_axes-r-requires c = asks c.before.before.before.before

pub overflow_cast-result : goal.overflow_cast-result
overflow_cast-result c = fits_in c.before.before.before.before.before.before.before.before c.more_axes-r.result c.type_inv.r.0.1
    c.more_axes-r.ensures
