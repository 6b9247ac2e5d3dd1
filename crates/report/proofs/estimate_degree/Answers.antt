-- `estimate_degree` meets its contract: the records stand at the front, or estimation refuses.
use mathlib.Core.Path.{◌≡◌, sym, ap, ◌∙◌}
use Prim.Native.Nat.{ℕ}
use native.Mathlib.Omega.{arith}
use lib.ListN.{length, take}
use Rattle.lattice.specs.declared.FullShape.{FullShape}
use Rattle.lattice.specs.Outcome.{done}
use Rattle.lattice.specs.Shape.{size}
use Rattle.estimate.specs.Estimate.{Estimable, estimate_writes, estimate_outcome}
use Rattle.estimate.proofs.CallLaws.{estimated}
use Rattle.estimated.proofs.Estimated.{lent}
use Rattle.table_file.specs.Answers.{read_header}
use Rattle.report.specs.Report.{table_with}
use Rattle.report.specs.Parts.{Estimates}
use Rattle.report.proofs.InputLaws.{on-err}
use Rattle.report.proofs.estimate_degree.Goals as goal
use Rattle.report.proofs.estimate_degree.Goals.{In_ok-estimate}

-- estimation takes the table
takes : (c : In_ok-estimate)
    → let a = c.args in
    estimate_outcome (table_with (read_header a.header) a.degree) a.samples.now (length a.records.now) ≡ done tt
takes c =
    let a = c.args in
    ap (λ (t : FullShape). estimate_outcome t a.samples.now (length a.records.now)) (sym c.table_with-table.ensures)
    ∙ sym c.in_ok-estimate.ensures.answer

pub returns-in_err-estimate : goal.returns-in_err-estimate
returns-in_err-estimate c =
    let a = c.args in
    on-err (Estimates (table_with (read_header a.header) a.degree) a.samples.now a.records.now c.estimate.new.records) _ _
    c.from_residual.ensures
    (ap (λ (t : FullShape). estimate_outcome t a.samples.now (length a.records.now)) (sym c.table_with-table.ensures)
    ∙ sym c.in_err-estimate.ensures.answer)

pub returns : goal.returns
returns c =
    let a = c.args in
    let t : FullShape = table_with (read_header a.header) a.degree in
    let n = length a.records.now in
    let ok = takes c.before.before in
    let known : Estimable t.shape a.samples.now n = estimated t a.samples.now n ok in
    let p = c.estimate in
    let is = c.table_with-table.ensures in
    let e = c.table_entries.ensures ∙ ap (λ (t : FullShape). size t.shape) is in (
      ok,
      omega (arith, known.fits),
      ap (λ (k : ℕ). take k p.new.records) e
          ∙ ap (take (size t.shape)) (p.ensures.written ∙ ap (λ (t : FullShape). estimate_writes t a.samples.now a.records.now) is)
          ∙ lent t a.samples.now a.records.now ok,
    )

pub table_entries-requires : goal.table_entries-requires
table_entries-requires c =
    let a = c.args in
    let t : FullShape = table_with (read_header a.header) a.degree in
    rw c.table_with-table.ensures (estimated t a.samples.now (length a.records.now) (takes c.before)).shape
