-- `cell::all_within` meets its contract: no record of a row before the one at hand has an entry beyond its limit.
use mathlib.Core.Path.{◌≡◌, refl, sym, ap, ap₂, subst, ◌∙◌}
use Prim.Native.Nat.{ℕ, ◌+◌, ◌*◌}
use native.Mathlib.Omega.{arith}
use borrow.Author.Tests.{eq-eqb, ne_eqb}
use lib.Dec.{eqb}
use Rattle.lattice.specs.Outcome.{Check, done, first, first_of, passed}
use Rattle.lattice.proofs.OutcomeLaws.{passed-done, first_of-fails, first_of-more, first_of-pairs}
use Rattle.cell.specs.Cell.{start_of, limit_in, record_outcome}
use Rattle.cell.proofs.LayoutLaws.{corner_test, neighbour}
use Rattle.cell.proofs.all_within.Invariants.{row_test}
use Rattle.cell.proofs.all_within.Goals as goal
use Rattle.cell.proofs.all_within.Goals.{After-beyond_in}

pub loop-row-init : goal.loop-row-init
unfolding first_of
loop-row-init c = refl

-- what the test of one row says
module _ (c : After-beyond_in) where
  abbrev tests : ℕ → Check
  tests = row_test c.args.limits.now c.args.n c.args.records.now c.args.l

  told : eqb c.beyond_in.result 0 ≡ passed (tests c.loop-row.row)
  told = c.beyond_in.ensures
      ∙ ap₂ (λ (i j : ℕ). passed (first (record-at i) (record-at j))) from (ap (λ (k : ℕ). k + c.args.n) from ∙ behind)
    where
      record-at : ℕ → Check
      record-at = record_outcome (limit_in c.args.limits.now) c.args.n c.args.records.now

      from : c.corner_start-start.result ≡ start_of c.args.l (2 * c.loop-row.row)
      from = c.corner_start-start.ensures

      behind : start_of c.args.l (2 * c.loop-row.row) + c.args.n ≡ start_of c.args.l (2 * c.loop-row.row + 1)
      behind = sym (neighbour c.args.l c.loop-row.row ∙ ap (λ (k : ℕ). start_of c.args.l (2 * c.loop-row.row) + k) c.requires.0.next)

pub returns-then-beyond_in-ne0 : goal.returns-then-beyond_in-ne0
returns-then-beyond_in-ne0 c =
    let a = c.args in
    sym (ap passed (first_of-pairs a.rows (corner_test a.limits.now a.n a.records.now a.l))
    ∙ first_of-fails a.rows (tests c.before) c.loop-row.row c.loop-row-test.true
    (sym (told c.before) ∙ ne_eqb c.beyond_in.result 0 c.if-beyond_in-ne0.true))

pub loop-row-preserved : goal.loop-row-preserved
loop-row-preserved c = first_of-more c.loop-row.row (tests c.before) c.loop-row.invariant
    (passed-done (tests c.before c.loop-row.row) (sym (told c.before) ∙ eq-eqb c.beyond_in.result 0 c.if-beyond_in-ne0.false))

pub returns : goal.returns
returns c =
    let a = c.args in
    let test = corner_test a.limits.now a.n a.records.now a.l in
    let e : c.loop-row.row ≡ a.rows = omega arith in
    sym (ap passed (first_of-pairs a.rows test
    ∙ subst (λ (k : ℕ). first_of k (row_test a.limits.now a.n a.records.now a.l) ≡ done tt) e c.loop-row.invariant))
