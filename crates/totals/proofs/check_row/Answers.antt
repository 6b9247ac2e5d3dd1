-- `totals::check_row` meets its contract: no record before the one at hand has an entry beyond its limit.
use mathlib.Core.Path.{◌≡◌, refl, sym, subst, ◌∙◌}
use Prim.Native.Nat.{ℕ, ◌≤◌, ◌+◌, ◌*◌}
use native.Mathlib.Omega.{arith}
use Rattle.lattice.specs.Outcome.{done, first_of}
use Rattle.lattice.proofs.DigitsLaws.{group-room}
use Rattle.lattice.proofs.OutcomeLaws.{first_of-stops, first_of-more, handed_on}
use Rattle.cell.specs.Cell.{limit_in, record_outcome}
use Rattle.totals.proofs.check_row.Goals as goal
use Rattle.totals.proofs.check_row.Goals.{In-loop-i}

pub loop-i-init : goal.loop-i-init
unfolding first_of
loop-i-init c = refl

room : (c : In-loop-i) → c.args.n * c.loop-i.i + c.args.n ≤ c.args.n * c.args.nodes
room c = group-room c.args.n c.loop-i.i c.args.nodes c.loop-i-test.true

pub overflow_mul-n : goal.overflow_mul-n
overflow_mul-n c = let k = room c in omega arith

pub overflow_add-start : goal.overflow_add-start
overflow_add-start c = let k = room c in omega arith

pub check_record-requires : goal.check_record-requires
check_record-requires c = let k = room c in (omega arith, omega arith, λ e l. c.args.limits.now.not_negative e (omega arith))

pub returns-in_err-check_record : goal.returns-in_err-check_record
returns-in_err-check_record c =
    handed_on _ _ c.from_residual.ensures
    ∙ sym (first_of-stops c.args.nodes c.loop-i.i _ _ _ c.loop-i-test.true c.loop-i.invariant (sym c.in_err-check_record.ensures))

pub loop-i-preserved : goal.loop-i-preserved
loop-i-preserved c = first_of-more c.loop-i.i _ c.loop-i.invariant (sym c.in_ok-check_record.ensures)

pub returns : goal.returns
returns c =
    let e : c.loop-i.i ≡ c.args.nodes = omega arith in
    sym (subst (λ (k : ℕ). first_of k (λ j. record_outcome (limit_in c.args.limits.now.limits) c.args.n c.args.records.now
    (c.args.start + c.args.n * j)) ≡ done tt) e c.loop-i.invariant)
