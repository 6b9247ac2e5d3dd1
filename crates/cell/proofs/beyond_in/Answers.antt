-- `cell::beyond_in` meets its contract: the bits joined so far are 0 where no entry so far of both records is beyond its limit.
use mathlib.Core.Path.{◌≡◌, refl, sym, ap, ◌∙◌}
use mathlib.Core.Bool.{◌&&◌}
use Prim.Native.Nat.{ℕ, ◌+◌}
use native.Mathlib.Omega.{arith}
use Rattle.lattice.specs.Outcome.{first_of, passed}
use Rattle.lattice.proofs.OutcomeLaws.{passed_first}
use Rattle.cell.specs.Cell.{record_outcome}
use Rattle.cell.proofs.LimitLaws.{test, limit-told, test_bit, bits-more}
use Rattle.cell.proofs.beyond_in.Goals as goal

pub loop-e-init : goal.loop-e-init
unfolding first_of
loop-e-init c = refl

pub loop-e-preserved : goal.loop-e-preserved
loop-e-preserved c =
    let a = c.args in
    let e = c.loop-e.e in
    let limits = a.limits.now in
    let low = test limits a.records.now a.start in
    let high = test limits a.records.now (a.start + a.n) in
    let low_told = limit-told limits a.records.now a.start e _ c.beyond-arg-1.given c.beyond-arg-in-loop-e-1.given
    c.beyond-low.ensures in
    let high-told = limit-told limits a.records.now (a.start + a.n) e _ c.beyond-arg-in-loop-e-2-1.given
    c.beyond-arg-in-loop-e-3-1.given c.beyond-high.ensures in
    bits-more c.loop-e.over e c.beyond-low.result c.beyond-high.result low high c.loop-e.invariant
    (test_bit limits a.records.now a.start e _ low_told)
    (test_bit limits a.records.now (a.start + a.n) e _ high-told)

pub returns : goal.returns
unfolding record_outcome
returns c =
    let a = c.args in
    let low = test a.limits.now a.records.now a.start in
    let high = test a.limits.now a.records.now (a.start + a.n) in
    let e : c.loop-e.e ≡ a.n = omega arith in
    c.loop-e.invariant ∙ ap (λ (k : ℕ). passed (first_of k low) && passed (first_of k high)) e
    ∙ sym (passed_first (first_of a.n low) (first_of a.n high))
