-- `SectionOne::check_counts` meets its contract. The invariant: no axis below this one is refused.
use mathlib.Core.Path.{◌≡◌, refl, sym, ap, ◌∙◌}
use Prim.Native.Nat.{ℕ}
use native.Mathlib.Omega.{arith}
use Rattle.lattice.specs.Outcome.{first_of}
use Rattle.lattice.proofs.OutcomeLaws.{at_once, first_of-stops, first_of-more}
use Rattle.table_file.specs.File.{count_outcome}
use Rattle.table_file.proofs.section_one.SectionOne.check_counts.Goals as goal

pub loop-axis-init : goal.loop-axis-init
unfolding first_of
loop-axis-init c = refl

pub returns-in_err-check_count : goal.returns-in_err-check_count
returns-in_err-check_count c = at_once _ _ _ c.from_residual.ensures
    (sym (first_of-stops _ c.loop-axis.axis (count_outcome c.args.self.bytes.now) _ _ c.loop-axis-test.true c.loop-axis.invariant
    (sym c.in_err-check_count.ensures)))

pub loop-axis-preserved : goal.loop-axis-preserved
loop-axis-preserved c = first_of-more c.loop-axis.axis (count_outcome c.args.self.bytes.now) c.loop-axis.invariant
    (sym c.in_ok-check_count.ensures)

pub returns : goal.returns
returns c =
    let e : c.loop-axis.axis ≡ c.args.self.axes = omega arith in
    sym (ap (λ (k : ℕ). first_of k (count_outcome c.args.self.bytes.now)) (sym e) ∙ c.loop-axis.invariant)
