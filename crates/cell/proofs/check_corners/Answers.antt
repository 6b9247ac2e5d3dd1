-- `cell::check_corners` meets its contract: no corner before the one at hand has an entry beyond its limit.
use Rattle.arith.proofs.Machine.{shifted}
use Rattle.cell.proofs.CellLaws.{laid-small}
use Rattle.lattice.specs.declared.Shape.{Shape}
use Rattle.lattice.specs.Outcome.{Check, done, first_of}
use Rattle.lattice.specs.Shape.{Shaped}
use Rattle.lattice.proofs.ShapeLaws.{orders-range, entries-high}
use Rattle.lattice.proofs.OutcomeLaws.{first_of-stops, first_of-more, handed_on}
use Rattle.cell.specs.Cell.{place_at, limit_in, record_outcome, corners_outcome}
use Rattle.cell.proofs.LayoutLaws.{corner_test, few, record-in, all-is}
use mathlib.Core.Path.{◌≡◌, refl, sym, ap, subst, ◌∙◌}
use Prim.Native.Nat.{ℕ, ◌<◌, ◌^◌, ◌*◌, ◌%◌}
use native.Mathlib.Omega.{arith}
use Rattle.cell.proofs.check_corners.Goals as goal
use Rattle.cell.proofs.check_corners.Goals.{At-loop-c, After-corner_start-start}

inside : (s : Shape) → Shaped s → (c : ℕ) → c < 1 * 2 ^ s.axes % 18446744073709551616 → c < 2 ^ s.axes
inside s ok c h = rw (shifted s.axes ok.axes-high) at h

-- the tests of the corners, in order
module _ (c : At-loop-c) where
  abbrev test : ℕ → Check
  test = corner_test c.entry_limits-limits.result.limits c.args.l.entries c.args.records.now c.args.l

  whole : first_of (2 ^ c.args.s.axes) test ≡ corners_outcome c.args.s c.args.records.now (place_at c.args.cell)
  whole = all-is c.args.s c.args.cell c.args.l c.args.records.now c.entry_limits-limits.result.limits
      c.requires.shaped.0 c.requires.shaped.1 c.requires.accepted.0 c.requires.accepted.1 c.entry_limits-limits.ensures

-- what the test of the corner at hand says
tested : (c : After-corner_start-start)
    → record_outcome (limit_in c.entry_limits-limits.result.limits) c.args.l.entries c.args.records.now c.corner_start-start.result
    ≡ test c.before.before c.loop-c.c
tested c = ap (λ (k : ℕ). record_outcome (limit_in c.entry_limits-limits.result.limits) c.args.l.entries c.args.records.now k)
    c.corner_start-start.ensures

pub invariant_of-entry_limits : goal.invariant_of-entry_limits
invariant_of-entry_limits c =
    let r = orders-range c.args.s.degree in
    let e = c.requires.accepted.1.orders-are in
    record { bounds = (omega arith, omega arith) }

pub loop-c-init : goal.loop-c-init
unfolding first_of
loop-c-init c = refl

pub corner_start-start-requires : goal.corner_start-start-requires
corner_start-start-requires c = (
  few c.args.s c.args.cell c.args.l c.args.records.now c.entry_limits-limits.result.limits
      c.requires.shaped.0 c.requires.shaped.1 c.requires.accepted.0 c.requires.accepted.1 c.entry_limits-limits.ensures c.loop-c.c
      (inside c.args.s c.requires.shaped.0 c.loop-c.c c.loop-c-test.true),
  laid-small c.args.s (place_at c.args.cell) c.args.l c.requires.shaped.0 c.requires.accepted.0 c.requires.accepted.1,
)

pub check_record-requires : goal.check_record-requires
check_record-requires c =
    let h = c.requires.accepted.1.entries-are in
    let k = entries-high c.args.s c.requires.shaped.0 in
    let r = record-in c.args.s c.args.cell c.args.l c.args.records.now c.entry_limits-limits.result.limits
    c.requires.shaped.0 c.requires.shaped.1 c.requires.accepted.0 c.requires.accepted.1 c.entry_limits-limits.ensures c.loop-c.c
    (inside c.args.s c.requires.shaped.0 c.loop-c.c c.loop-c-test.true) in
    let e = c.corner_start-start.ensures in (
      omega arith,
      omega arith,
      λ j l. c.entry_limits-limits.result.not_negative j (omega
          (arith, h, k, l)),
    )

pub returns-in_err-check_record : goal.returns-in_err-check_record
returns-in_err-check_record c =
    let at_corner = c.before.before.before.before.before in
    let l = at_corner.before.before in
    handed_on _ _ c.from_residual.ensures
    ∙ sym (first_of-stops (2 ^ c.args.s.axes) c.loop-c.c (test l) _ _
    (inside c.args.s c.requires.shaped.0 c.loop-c.c c.loop-c-test.true) c.loop-c.invariant
    (sym (tested at_corner) ∙ sym c.in_err-check_record.ensures)) ∙ whole l

pub loop-c-preserved : goal.loop-c-preserved
loop-c-preserved c =
    let at_corner = c.before.before.before.before in
    first_of-more c.loop-c.c (test at_corner.before.before) c.loop-c.invariant
    (sym (tested at_corner) ∙ sym c.in_ok-check_record.ensures)

pub returns : goal.returns
returns c =
    let l = c.before in
    let h = shifted c.args.s.axes c.requires.shaped.0.axes-high in
    let n : c.loop-c.c ≡ 2 ^ c.args.s.axes = omega arith in
    sym (subst (λ (k : ℕ). first_of k (test l) ≡ done tt) n c.loop-c.invariant) ∙ whole l
