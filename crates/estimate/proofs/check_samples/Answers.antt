-- `check_samples` meets its contract: where the greatest is within the limit, no sample is refused.
use mathlib.Core.Path.{sym}
use native.Mathlib.Nat.{le_trans}
use lib.Dec.{leb}
use lib.IntN.{nat_abs}
use lib.ListN.{length}
use borrow.Author.Tests.{le-leb}
use Rattle.lattice.specs.Buffer.{at}
use Rattle.lattice.specs.Records.{limit_outcome}
use Rattle.lattice.proofs.OutcomeLaws.{passes, first_of-passes}
use Rattle.lattice.proofs.RecordsLaws.{limit_test}
use Rattle.estimate.proofs.check_samples.Goals as goal

pub returns-then-largest-limit : goal.returns-then-largest-limit
unfolding limit_outcome
returns-then-largest-limit c =
    let xs = c.args.xs.now in
    let limit = c.args.limit in
    sym (first_of-passes (length xs) (limit_test 19 limit xs)
    (λ i l. passes (leb (nat_abs (at xs i)) limit) 19 i (le-leb (nat_abs (at xs i)) limit (le_trans
    (c.largest.ensures i l) c.if-largest-limit.true))))
