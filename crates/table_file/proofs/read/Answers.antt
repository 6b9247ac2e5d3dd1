-- `read` meets its contract: section one, then what comes after it; the slice is filled only where nothing is refused.
use mathlib.Core.List.{List}
use mathlib.Core.Path.{sym, ap, ◌∙◌}
use native.Mathlib.Omega.{arith}
use lib.IntN.{ℤ}
use lib.ListN.{length}
use Rattle.lattice.specs.Buffer.{overwrite}
use Rattle.lattice.specs.Outcome.{done}
use Rattle.lattice.proofs.OutcomeLaws.{first-passed, refused-first}
use Rattle.table_file.proofs.ReadLaws.{shaped_in, header_is, after_one, two_facts, rest-facts, length-of, samples-length}
use Rattle.table_file.proofs.TakenLaws.{read_is}
use Rattle.table_file.proofs.WriteLaws.{answered-refused, answered-done, read-stopped}
use Rattle.table_file.proofs.read.Goals as goal

pub returns-in_err-check_one : goal.returns-in_err-check_one
returns-in_err-check_one c =
    let e = read_is _ _ ∙ refused-first _ (sym c.in_err-check_one.ensures) in
    let answered = answered-refused _ _ _ _ _ e in
    record { result_value = read-stopped _ _ c.from_residual.ensures ∙ answered.0; samples_after = answered.1 }

pub returns-in_err-check : goal.returns-in_err-check
returns-in_err-check c =
    let e = read_is _ _ ∙ first-passed _ _ (sym c.in_ok-check_one.ensures) ∙ refused-first _ (sym c.in_err-check.ensures) in
    let answered = answered-refused _ _ _ _ _ e in
    record { result_value = read-stopped _ _ c.from_residual-in_err-check.ensures ∙ answered.0; samples_after = answered.1 }

pub returns : goal.returns
returns c =
    let old = c.args.samples.now in
    let e = read_is _ _ ∙ first-passed _ _ (sym c.in_ok-check_one.ensures) ∙ first-passed _ _ (sym c.in_ok-check.ensures)
    ∙ ap done (header_is _ _ _ c.shape_in-shape.ensures c.second_in.ensures)
    in
    let answered = answered-done _ _ old _ _ e
    (c.fill.ensures ∙ ap (λ (xs : List ℤ). overwrite xs old) c.samples.ensures)
    in
    record { result_value = answered.0; samples_after = answered.1 }

pub shape_in-shape-requires : goal.shape_in-shape-requires
shape_in-shape-requires c = sym c.in_ok-check_one.ensures

pub node_count-requires : goal.node_count-requires
node_count-requires c = rw c.shape_in-shape.ensures (shaped_in _ (sym c.in_ok-check_one.ensures))

pub invariant_of-rest : goal.invariant_of-rest
invariant_of-rest c = record {
  known = after_one _ (sym c.in_ok-check_one.ensures) _ c.shape_in-shape.ensures _ c.node_count.ensures;
}

pub samples-requires : goal.samples-requires
samples-requires c = (two_facts _ (rest-facts _ _ (sym c.in_ok-check.ensures)).two).1

pub fill-requires : goal.fill-requires
fill-requires c =
    let f = rest-facts _ _ (sym c.in_ok-check.ensures) in
    omega (arith, f.roomy, length-of c.samples.result.now, ap length c.samples.ensures, samples-length c.args.bytes.now)
