-- `put_input` meets its contract: what the input is refused for, or what its table gives.
use mathlib.Core.Path.{◌≡◌, refl, sym, ap, subst, ◌∙◌}
use mathlib.Core.List.{List}
use Prim.Native.Nat.{ℕ, ◌≤◌}
use native.Mathlib.Omega.{arith}
use lib.IntN.{ℤ}
use lib.ListN.{take}
use lib.Seq.{length-take-le}
use Rattle.lattice.specs.declared.Shape.{Shape}
use Rattle.lattice.specs.Outcome.{done, when_done}
use Rattle.lattice.specs.Buffer.{overwrite}
use Rattle.lattice.specs.Shape.{nodes}
use Rattle.table_file.specs.Answers.{read_header}
use Rattle.table_file.specs.File.{Header, samples_in, read_outcome}
use Rattle.report.specs.Report.{held_nodes, with_degree, text_of, report_text}
use Rattle.report.specs.Parts.{Gives}
use Rattle.report.proofs.InputLaws.{on-err, too_long, read-refused, read_done, held, shape, front, few-nodes}
use Rattle.report.proofs.put_input.Goals as goal

-- what reading gave
module _ (input : List ℕ) (h : Header) (was_read : read_outcome input held_nodes ≡ done h) (s : Shape) (n : ℕ) (is : n ≡ nodes s)
    (same : s ≡ with_degree h 3) where
  nodes-are : n ≡ nodes (with_degree h 3)
  nodes-are = is ∙ ap nodes same

  samples-are : (old new : List ℤ) → new ≡ when_done (read_outcome input held_nodes) (overwrite (samples_in input) old) old
      → take n new ≡ samples_in input
  samples-are old new e = ap (take n) e ∙ front input h was_read n old nodes-are

  few : n ≤ held_nodes
  few = few-nodes input h was_read n nodes-are

pub returns-in_err-refuse_unless : goal.returns-in_err-refuse_unless
returns-in_err-refuse_unless c =
    let a = c.args in
    on-err (Gives a.out.now (report_text a.input.now) a.out.now) _ _ c.from_residual.ensures
    (too_long a.input.now c.in_err-refuse_unless.ensures, refl)

pub returns-in_err-header : goal.returns-in_err-header
returns-in_err-header c =
    let a = c.args in
    on-err (Gives a.out.now (report_text a.input.now) a.out.now) _ _ c.from_residual-in_err-header.ensures
    (read-refused a.input.now c.in_ok-refuse_unless.ensures (sym c.in_err-header.ensures.result_value), refl)

pub node_count-nodes-requires : goal.node_count-nodes-requires
node_count-nodes-requires c =
    rw c.shape.ensures (shape c.args.input.now (read_header c.in_ok-header.header) (sym c.in_ok-header.ensures.result_value))

pub slice_bounds-samples-end : goal.slice_bounds-samples-end
slice_bounds-samples-end c =
    omega (arith, few c.args.input.now _ (sym c.in_ok-header.ensures.result_value) _ _ c.node_count-nodes.ensures c.shape.ensures)

pub slice_bounds-put_table-end : goal.slice_bounds-put_table-end
slice_bounds-put_table-end c =
    sym (length-take-le c.node_count-nodes.result c.read.new.samples
    (omega (arith, few c.args.input.now _ (sym c.in_ok-header.ensures.result_value) _ _ c.node_count-nodes.ensures c.shape.ensures)))

pub put_table-requires : goal.put_table-requires
put_table-requires c =
    let input = c.args.input.now in
    let h : Header = read_header c.in_ok-header.header in
    let was_read = sym c.in_ok-header.ensures.result_value in (
      rw (samples-are input h was_read _ _ c.node_count-nodes.ensures c.shape.ensures _ _ c.read.ensures.samples_after)
          (held input h was_read),
      c.requires,
    )

pub returns : goal.returns
returns c =
    let a = c.args in
    let input = a.input.now in
    let h : Header = read_header c.in_ok-header.header in
    let was_read : read_outcome input held_nodes ≡ done h = sym c.in_ok-header.ensures.result_value in
    subst (λ (text : List ℕ). Gives a.out.now text c.put_table.new.out c.put_table.result)
    (ap (text_of (done h))
    (samples-are input h was_read _ _ c.node_count-nodes.ensures c.shape.ensures _ _ c.read.ensures.samples_after)
    ∙ sym (read_done input c.in_ok-refuse_unless.ensures h was_read)) c.put_table.ensures
