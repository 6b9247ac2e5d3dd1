-- `check_estimate` meets its contract: 1, 2, 3 and 26 from the shape, then 4, 9 and 19; each stops at a refusal.
use mathlib.Core.Path.{◌≡◌, sym, ap, ◌∙◌}
use Prim.Native.Nat.{ℕ}
use lib.Dec.{leb, eqb}
use lib.ListN.{length}
use Rattle.lattice.specs.Outcome.{refuse_unless}
use Rattle.lattice.specs.Records.{limit_outcome}
use Rattle.lattice.proofs.OutcomeLaws.{stopped, went-on}
use Rattle.lattice.proofs.ShapeLaws.{shaped}
use Rattle.lattice.proofs.StepLaws.{full-shape}
use Rattle.estimate.specs.Estimate.{estimate_outcome}
use Rattle.estimate.proofs.check_estimate.Goals as goal

-- the tests, with the numbers of nodes and entries as the code finds them
many : (given : ℕ) {n k : ℕ} → n ≡ k → refuse_unless (eqb given n) 4 0 ≡ refuse_unless (eqb given k) 4 0
many given e = ap (λ (n : ℕ). refuse_unless (eqb given n) 4 0) e

roomy : (room : ℕ) {n k : ℕ} → n ≡ k → refuse_unless (leb n room) 9 0 ≡ refuse_unless (leb k room) 9 0
roomy room e = ap (λ (n : ℕ). refuse_unless (leb n room) 9 0) e

pub returns-in_err-check_full : goal.returns-in_err-check_full
unfolding estimate_outcome
returns-in_err-check_full c = stopped _ _ _ _ c.from_residual.ensures c.in_err-check_full.ensures

pub node_count-nodes-requires : goal.node_count-nodes-requires
node_count-nodes-requires c = shaped _ (full-shape _ (sym c.in_ok-check_full.ensures))

pub table_entries-entries-requires : goal.table_entries-entries-requires
table_entries-entries-requires c = shaped _ (full-shape _ (sym c.in_ok-check_full.ensures))

pub returns-in_err-refuse_unless : goal.returns-in_err-refuse_unless
unfolding estimate_outcome
returns-in_err-refuse_unless c =
    went-on _ _ _ c.in_ok-check_full.ensures
    (stopped _ _ _ _ c.from_residual-in_err-refuse_unless.ensures
    (c.in_err-refuse_unless.ensures ∙ many (length c.args.samples.now) c.node_count-nodes.ensures))

pub returns-in_err-refuse_unless-2 : goal.returns-in_err-refuse_unless-2
unfolding estimate_outcome
returns-in_err-refuse_unless-2 c =
    went-on _ _ _ c.in_ok-check_full.ensures
    (went-on _ _ _ (c.in_ok-refuse_unless.ensures ∙ many (length c.args.samples.now) c.node_count-nodes.ensures)
    (stopped _ _ _ _ c.from_residual-in_err-refuse_unless-2.ensures
    (c.in_err-refuse_unless-2.ensures ∙ roomy c.args.room c.table_entries-entries.ensures)))

pub estimate_limit-requires : goal.estimate_limit-requires
estimate_limit-requires c = (shaped _ (full-shape _ (sym c.in_ok-check_full.ensures))).axes-high

pub returns : goal.returns
unfolding estimate_outcome
returns c =
    went-on _ _ _ c.in_ok-check_full.ensures
    (went-on _ _ _ (c.in_ok-refuse_unless.ensures ∙ many (length c.args.samples.now) c.node_count-nodes.ensures)
    (went-on _ _ _ (c.in_ok-refuse_unless-2.ensures ∙ roomy c.args.room c.table_entries-entries.ensures)
    (c.check_samples.ensures ∙ ap (λ (k : ℕ). limit_outcome 19 k c.args.samples.now) c.estimate_limit.ensures)))
