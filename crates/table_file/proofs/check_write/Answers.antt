-- `check_write` meets its contract: 1, 3 and 26 from the shape, then 4, 9 and 5 with the number of nodes; each stops at a refusal.
use mathlib.Core.Path.{◌≡◌, sym, ap, ◌∙◌}
use native.Mathlib.Omega.{arith}
use Rattle.lattice.specs.Outcome.{done}
use Rattle.lattice.specs.declared.Shape.{Shape}
use Rattle.lattice.specs.Shape.{full_shape, full_outcome, nodes}
use Rattle.lattice.proofs.OutcomeLaws.{stopped, went-on}
use Rattle.lattice.proofs.ShapeLaws.{shaped}
use Rattle.lattice.proofs.StepLaws.{full-shape}
use Rattle.table_file.specs.Answers.{with_steps}
use Rattle.table_file.proofs.WriteLaws.{write-is, AfterShape, after-shape, full}
use Rattle.table_file.proofs.check_write.Goals as goal
use Rattle.table_file.proofs.check_write.Goals.{After-three_numbers-three, In_ok-check_full}

shape-passes : (c : In_ok-check_full) → full_outcome (full (with_steps c.args.header c.args.steps)) ≡ done tt
shape-passes c =
    let a = c.args in
    ap (λ (s : Shape). full_outcome (full_shape s a.steps a.header.second_edition)) (sym c.shape-shape.ensures)
    ∙ sym c.in_ok-check_full.ensures

facts : (c : After-three_numbers-three)
    → let a = c.args in
    AfterShape (with_steps a.header a.steps) a.samples.now a.room c.node_count-nodes.result c.three_numbers-three.result
facts c = after-shape _ _ _ _ _ (omega arith) (shape-passes c.before.before)
    (c.node_count-nodes.ensures ∙ ap nodes c.shape-shape.ensures) c.three_numbers-three.ensures.0

pub returns-in_err-check_full : goal.returns-in_err-check_full
returns-in_err-check_full c =
    let a = c.args in
    stopped _ _ _ _ c.from_residual.ensures
    (c.in_err-check_full.ensures ∙ ap (λ (s : Shape). full_outcome (full_shape s a.steps a.header.second_edition)) c.shape-shape.ensures)
    ∙ sym (write-is (with_steps a.header a.steps) a.samples.now a.room)

pub returns-in_err-refuse_unless : goal.returns-in_err-refuse_unless
returns-in_err-refuse_unless c = stopped _ _ _ _ c.from_residual-in_err-refuse_unless.ensures c.in_err-refuse_unless.ensures
    ∙ (facts c.before.before.before.before.before).rest

pub returns-in_err-refuse_unless-2 : goal.returns-in_err-refuse_unless-2
returns-in_err-refuse_unless-2 c =
    went-on _ _ _ c.in_ok-refuse_unless.ensures
    (stopped _ _ _ _ c.from_residual-in_err-refuse_unless-2.ensures c.in_err-refuse_unless-2.ensures)
    ∙ (facts c.before.before.before.before.before.before.before.before).rest

pub returns : goal.returns
returns c =
    went-on _ _ _ c.in_ok-refuse_unless.ensures (went-on _ _ _ c.in_ok-refuse_unless-2.ensures c.check_within.ensures)
    ∙ (facts c.before.before.before.before.before.before.before.before).rest

pub node_count-nodes-requires : goal.node_count-nodes-requires
node_count-nodes-requires c = rw c.shape-shape.ensures (shaped _ (full-shape _ (shape-passes c)))

pub overflow_add-needed-2 : goal.overflow_add-needed-2
overflow_add-needed-2 c = omega (arith, facts c.before)

pub overflow_add-needed-3 : goal.overflow_add-needed-3
overflow_add-needed-3 c = omega (arith, facts c.before, c.three_numbers-three.ensures.1)

pub overflow_mul-needed : goal.overflow_mul-needed
overflow_mul-needed c = omega (arith, facts c.before, c.three_numbers-three.ensures.1)
