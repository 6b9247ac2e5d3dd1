-- `check_shapes` meets its contract: under each number the first shape before the second.
use Rattle.std.proofs.Common.{rules}
use Rattle.lattice.specs.Shape.{count, steps_on, axes_outcome, degree_outcome, counts_outcome, step_numbers_outcome}
use Rattle.pool.specs.Pool.{shapes_outcome}
use Rattle.lattice.proofs.OutcomeLaws.{stopped, went-on}
use Rattle.pool.proofs.check_shapes.Goals as goal

pub returns-in_err-in_turn : goal.returns-in_err-in_turn
unfolding shapes_outcome
returns-in_err-in_turn c =
    let a = c.args.a in
    let b = c.args.b in
    stopped _ _ _ _ c.from_residual.ensures
    (c.in_err-in_turn.ensures (axes_outcome a.shape.axes) (axes_outcome b.shape.axes) (λ r h. search rules) (λ r h. search rules))

pub returns-in_err-in_turn-2 : goal.returns-in_err-in_turn-2
unfolding shapes_outcome
returns-in_err-in_turn-2 c =
    let a = c.args.a in
    let b = c.args.b in
    went-on _ _ _ (c.in_ok-in_turn.ensures (axes_outcome a.shape.axes) (axes_outcome b.shape.axes) (λ r h. search rules)
    (λ r h. search rules))
    (stopped _ _ _ _ c.from_residual-in_err-in_turn-2.ensures
    (c.in_err-in_turn-2.ensures (degree_outcome a.shape.degree) (degree_outcome b.shape.degree) (λ r h. search rules)
    (λ r h. search rules)))

pub returns-in_err-in_turn-3 : goal.returns-in_err-in_turn-3
unfolding shapes_outcome count
returns-in_err-in_turn-3 c =
    let a = c.args.a in
    let b = c.args.b in
    went-on _ _ _ (c.in_ok-in_turn.ensures (axes_outcome a.shape.axes) (axes_outcome b.shape.axes) (λ r h. search rules)
    (λ r h. search rules))
    (went-on _ _ _ (c.in_ok-in_turn-2.ensures (degree_outcome a.shape.degree) (degree_outcome b.shape.degree) (λ r h. search rules)
    (λ r h. search rules))
    (stopped _ _ _ _ c.from_residual-in_err-in_turn-3.ensures
    (c.in_err-in_turn-3.ensures (counts_outcome a.shape.axes (count a.shape)) (counts_outcome b.shape.axes (count b.shape))
    (λ r h. search rules) (λ r h. search rules))))

pub returns : goal.returns
unfolding shapes_outcome count steps_on
returns c =
    let a = c.args.a in
    let b = c.args.b in
    went-on _ _ _ (c.in_ok-in_turn.ensures (axes_outcome a.shape.axes) (axes_outcome b.shape.axes) (λ r h. search rules)
    (λ r h. search rules))
    (went-on _ _ _ (c.in_ok-in_turn-2.ensures (degree_outcome a.shape.degree) (degree_outcome b.shape.degree) (λ r h. search rules)
    (λ r h. search rules))
    (went-on _ _ _ (c.in_ok-in_turn-3.ensures (counts_outcome a.shape.axes (count a.shape)) (counts_outcome b.shape.axes (count b.shape))
    (λ r h. search rules) (λ r h. search rules))
    (c.in_turn-4.ensures (step_numbers_outcome a.shape.axes (steps_on a)) (step_numbers_outcome b.shape.axes (steps_on b))
    (λ r h. search rules) (λ r h. search rules))))
