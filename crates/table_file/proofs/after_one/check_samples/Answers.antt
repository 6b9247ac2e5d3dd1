-- `check_samples` meets its contract. The invariant: no sample before the one at hand is beyond its limit.
use mathlib.Core.Path.{◌≡◌, refl, sym, ap, ◌∙◌}
use Prim.Native.Nat.{ℕ}
use native.Mathlib.Omega.{arith}
use lib.Dec.{leb}
use lib.IntN.{nat_abs}
use lib.ListN.{length}
use Rattle.arith.proofs.Machine.{element}
use Rattle.lattice.specs.Outcome.{refuse_unless, first_of}
use Rattle.lattice.specs.Records.{sample_limit, limit_outcome}
use Rattle.lattice.proofs.OutcomeLaws.{at_once, first_of-more, first_of-stops}
use Rattle.lattice.proofs.RecordsLaws.{limit_test, limit-ends}
use Rattle.table_file.specs.Parser.{samples_of}
use Rattle.table_file.proofs.ReadLaws.{length-of, sample-of}
use Rattle.table_file.proofs.after_one.check_samples.Goals as goal
use Rattle.table_file.proofs.after_one.check_samples.Goals.{After-refuse_unless}

-- the test of the sample at hand
tested : (c : After-refuse_unless) → refuse_unless (leb c.unsigned_abs-size.result sample_limit) 5 c.loop-i.i
    ≡ limit_test 5 sample_limit (samples_of c.args.numbers.now) c.loop-i.i
tested c = ap (λ (k : ℕ). refuse_unless (leb k sample_limit) 5 c.loop-i.i)
    (c.unsigned_abs-size.ensures.value ∙ ap nat_abs (element _ c.sample_of.type_inv ∙ c.sample_of.ensures
    ∙ sym (sample-of c.args.numbers.now c.loop-i.i _ c.loop-i-test.true)))

pub returns-in_err-refuse_unless : goal.returns-in_err-refuse_unless
unfolding limit_outcome
returns-in_err-refuse_unless c =
    let xs = samples_of c.args.numbers.now in
    at_once _ _ _ c.from_residual.ensures
    (sym (first_of-stops (length xs) c.loop-i.i (limit_test 5 sample_limit xs) _ _ (omega (arith, length-of c.args.numbers.now))
    c.loop-i.invariant (sym (c.in_err-refuse_unless.ensures ∙ tested c.before.before.before))))

pub loop-i-preserved : goal.loop-i-preserved
loop-i-preserved c = first_of-more c.loop-i.i (limit_test 5 sample_limit (samples_of c.args.numbers.now)) c.loop-i.invariant
    (sym (c.in_ok-refuse_unless.ensures ∙ tested c.before.before))

pub returns : goal.returns
returns c = sym (limit-ends 5 sample_limit (samples_of c.args.numbers.now) c.loop-i.i (omega (arith, length-of c.args.numbers.now))
    c.loop-i.invariant)

pub loop-i-init : goal.loop-i-init
unfolding first_of
loop-i-init c = refl
