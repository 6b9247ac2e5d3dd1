-- `evaluate::on_line` meets its contract: one axis, which is the last.
use mathlib.Core.Path.{◌≡◌}
use mathlib.Core.List.{[]}
use native.Mathlib.Omega.{arith}
use lib.Dec.{eqb, lit<}
use lib.ListN.{length}
use mir.Syntax.{w32, w64}
use mir.Val.{SFits, to_z, of_z}
use Rattle.arith.specs.Choice.{pick}
use Rattle.arith.specs.Int.{rounding_of}
use Rattle.arith.proofs.Editions.{edition-sound}
use Rattle.lattice.specs.Axes.{Field, axes, without}
use Rattle.lattice.specs.Buffer.{at}
use Rattle.lattice.specs.Records.{records_field}
use Rattle.lattice.proofs.ShapeLaws.{orders-range}
use Rattle.hermite.specs.declared.Rounded.{Rounded}
use Rattle.cell.specs.Cell.{place_at}
use Rattle.evaluate.specs.Evaluate.{Ask, last_axis, ask_at, answer_by, exact_by}
use Rattle.evaluate.specs.Stages.{Workable, WorkedOff, Reports}
use Rattle.evaluate.specs.Wants.{wanted}
use Rattle.evaluate.proofs.AnswerLaws.{order-last}
use Rattle.evaluate.proofs.Answering.{IsAxis, workable-in, reported-in, found, fits, cast}
use lib.Signed.{mag}
use Prim.Native.Nat.{◌<◌, ◌^◌}
use Rattle.evaluate.proofs.on_line.Goals as goal
use Rattle.evaluate.proofs.on_line.Goals.{After-strides_of-x, Start}

module _ (c : After-strides_of-x) where
  abbrev b : Start
  b = c.before.before

  only : last_axis b.args.s.axes (wanted b.args.derivative) ≡ 0
  only = let h = b.requires.ready.last in omega (arith, b.requires.axes_value)

  is : IsAxis b.args.s (place_at b.args.step) 0 c.strides_of-x.result
  is = let a = b.args in found (edition-sound a.even) a.s a.records.now (place_at a.cell) a.step a.derivative.order a.derivative.axis
      a.l
      b.requires.ready 0 (lit< tt) c.strides_of-x.result c.strides_of-x.ensures

  asks : Workable (rounding_of b.args.even) b.args.l.orders b.args.derivative.order c.strides_of-x.result []
      (length b.args.records.now)
      (at b.args.records.now) b.args.l.base
  unfolding axes without pick
  asks =
      let a = b.args in
      workable-in (edition-sound a.even) a.s a.records.now (place_at a.cell) (place_at a.step) (wanted a.derivative)
      a.l
      b.requires.ready 1 0 b.requires.axes_value only a.derivative.order (order-last a.derivative.order a.derivative.axis)
      c.strides_of-x.result [] is tt

  abbrev asked : Ask
  asked = ask_at b.args.s (wanted b.args.derivative) (place_at b.args.cell) (place_at b.args.step)

  abbrev field : Field
  field = records_field b.args.s b.args.records.now

  gives : (r : Rounded) → WorkedOff b.args.l.orders b.args.derivative.order c.strides_of-x.result []
      (Reports (rounding_of b.args.even) b.args.l.orders (at b.args.records.now) b.args.l.base r)
      → (r.number ≡ answer_by (rounding_of b.args.even) asked field)
      × (eqb r.rest 0 ≡ exact_by (rounding_of b.args.even) asked field)
  unfolding axes without pick
  gives =
      let a = b.args in
      reported-in (edition-sound a.even) a.s a.records.now (place_at a.cell) (place_at a.step) (wanted a.derivative)
      a.l
      b.requires.ready 1 0 b.requires.axes_value only a.derivative.order (order-last a.derivative.order a.derivative.axis)
      c.strides_of-x.result [] is tt

module _ (w : After-strides_of-x) (r : Rounded) (ok : mag r.number < 2 ^ 63)
    (e : WorkedOff (b w).args.l.orders (b w).args.derivative.order w.strides_of-x.result []
    (Reports (rounding_of (b w).args.even) (b w).args.l.orders (at (b w).args.records.now) (b w).args.l.base r)) where
  fits_in : SFits w32 (to_z w64 (of_z w64 r.number))
  fits_in =
      let s = b w in
      let a = s.args in
      fits (edition-sound a.even) a.s a.records.now (place_at a.cell) a.step a.derivative.order a.derivative.axis a.l s.requires.ready
      r.number ok (gives w r e).0

  answers : to_z w32 (of_z w32 (to_z w64 (of_z w64 r.number))) ≡ answer_by (rounding_of (b w).args.even) (asked w) (field w)
  answers =
      let s = b w in
      let a = s.args in
      cast (edition-sound a.even) a.s a.records.now (place_at a.cell) a.step a.derivative.order a.derivative.axis a.l s.requires.ready
      r.number ok (gives w r e).0

-- the orders of the layout are those of a degree
pub invariant_of-m : goal.invariant_of-m
invariant_of-m c =
    let r = orders-range c.args.s.degree in
    let e = c.requires.ready.laid.orders-are in
    record { bounds = (omega arith, omega arith) }

pub returns : goal.returns
returns c =
    let w = c.before.before.before.before in
    let r = c.one_axis_by_kind-r in
    record { number_value = answers w r.result c.struct_told-1.given.0.1 r.ensures; exact_value = (gives w r.result r.ensures).1 }

pub one_axis_by_kind-r-requires : goal.one_axis_by_kind-r-requires
one_axis_by_kind-r-requires c = asks c

pub overflow_cast-result : goal.overflow_cast-result
overflow_cast-result c = fits_in c.before.before.before.before c.one_axis_by_kind-r.result c.type_inv.r.0.1 c.one_axis_by_kind-r.ensures
