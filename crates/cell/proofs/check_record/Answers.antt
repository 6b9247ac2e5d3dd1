-- `cell::check_record` meets its contract: no entry before the one at hand is beyond its limit.
use mathlib.Core.Path.{◌≡◌, refl, sym, subst, ◌∙◌}
use Prim.Native.Nat.{ℕ, ◌+◌}
use native.Mathlib.Omega.{arith}
use Rattle.lattice.specs.Outcome.{done, first_of}
use Rattle.lattice.proofs.OutcomeLaws.{first_of-stops, first_of-more}
use Rattle.cell.specs.Cell.{record_outcome}
use Rattle.cell.proofs.LimitLaws.{test, test-stopped, test-passed, limit-told}
use Rattle.cell.proofs.check_record.Goals as goal

pub loop-e-init : goal.loop-e-init
unfolding first_of
loop-e-init c = refl

pub returns-then-beyond : goal.returns-then-beyond
unfolding record_outcome
returns-then-beyond c =
    let a = c.args in
    let e = c.loop-e.e in
    let limits = a.limits.now in
    sym (first_of-stops a.n e (test limits a.records.now a.start) 5 (a.start + e) c.loop-e-test.true c.loop-e.invariant
    (test-stopped limits a.records.now a.start e
    (sym (limit-told limits a.records.now a.start e _ c.beyond-arg-1.given c.beyond-arg-in-loop-e-1.given c.beyond.ensures)
    ∙ c.if-beyond.true)))

pub loop-e-preserved : goal.loop-e-preserved
loop-e-preserved c =
    let a = c.args in
    let e = c.loop-e.e in
    let limits = a.limits.now in
    first_of-more e (test limits a.records.now a.start) c.loop-e.invariant
    (test-passed limits a.records.now a.start e
    (sym (limit-told limits a.records.now a.start e _ c.beyond-arg-1.given c.beyond-arg-in-loop-e-1.given c.beyond.ensures)
    ∙ c.if-beyond.false))

pub returns : goal.returns
unfolding record_outcome
returns c =
    let a = c.args in
    let e : c.loop-e.e ≡ a.n = omega arith in
    sym (subst (λ (k : ℕ). first_of k (test a.limits.now a.records.now a.start) ≡ done tt) e c.loop-e.invariant)
