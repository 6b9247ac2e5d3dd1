-- `check_pool` meets its contract: the refusals in their order.
use Rattle.std.proofs.Common.{rules}
use Rattle.lattice.specs.Records.{sample_limit, limit_outcome}
use Rattle.lattice.proofs.OutcomeLaws.{stopped, went-on}
use Rattle.pool.specs.Pool.{measurement_of, length_outcome, pool_outcome}
use Rattle.pool.proofs.GateLaws.{shapes-pass}
use Rattle.pool.proofs.check_pool.Goals as goal
use mathlib.Core.Path.{◌≡◌, ap, sym, ◌∙◌}
use mathlib.Core.Bool.{Bool}
use Prim.Native.Nat.{ℕ}
use lib.Dec.{leb}
use Rattle.lattice.specs.Outcome.{refuse_unless}

-- what is tested, for the test's answer
same : {p q : Bool} → p ≡ q → refuse_unless p 27 0 ≡ refuse_unless q 27 0
same e = ap (λ (t : Bool). refuse_unless t 27 0) e

weighed : {p q : Bool} → p ≡ q → refuse_unless p 28 0 ≡ refuse_unless q 28 0
weighed e = ap (λ (t : Bool). refuse_unless t 28 0) e

roomy : (room : ℕ) {n k : ℕ} → n ≡ k → refuse_unless (leb n room) 9 0 ≡ refuse_unless (leb k room) 9 0
roomy room e = ap (λ (n : ℕ). refuse_unless (leb n room) 9 0) e

pub returns-in_err-check_shapes : goal.returns-in_err-check_shapes
unfolding pool_outcome
returns-in_err-check_shapes c = stopped _ _ _ _ c.from_residual.ensures c.in_err-check_shapes.ensures

pub returns-in_err-refuse_unless : goal.returns-in_err-refuse_unless
unfolding pool_outcome
returns-in_err-refuse_unless c =
    went-on _ _ _ c.in_ok-check_shapes.ensures
    (stopped _ _ _ _ c.from_residual-in_err-refuse_unless.ensures (c.in_err-refuse_unless.ensures ∙ same c.same_shape.ensures))

pub returns-in_err-refuse_unless-2 : goal.returns-in_err-refuse_unless-2
unfolding pool_outcome
returns-in_err-refuse_unless-2 c =
    went-on _ _ _ c.in_ok-check_shapes.ensures
    (went-on _ _ _ (c.in_ok-refuse_unless.ensures ∙ same c.same_shape.ensures)
    (stopped _ _ _ _ c.from_residual-in_err-refuse_unless-2.ensures (c.in_err-refuse_unless-2.ensures ∙ weighed c.weights_allowed.ensures)))

pub in_turn-requires : goal.in_turn-requires
in_turn-requires c = let s = shapes-pass c.args.a.shape c.args.b.shape (sym c.in_ok-check_shapes.ensures) in search rules

pub node_count-nodes-requires : goal.node_count-nodes-requires
node_count-nodes-requires c = (shapes-pass c.args.a.shape c.args.b.shape (sym c.in_ok-check_shapes.ensures)).0

pub returns-in_err-in_turn : goal.returns-in_err-in_turn
unfolding pool_outcome
returns-in_err-in_turn c =
    let a = measurement_of c.args.a in
    let b = measurement_of c.args.b in
    went-on _ _ _ c.in_ok-check_shapes.ensures
    (went-on _ _ _ (c.in_ok-refuse_unless.ensures ∙ same c.same_shape.ensures)
    (went-on _ _ _ (c.in_ok-refuse_unless-2.ensures ∙ weighed c.weights_allowed.ensures)
    (stopped _ _ _ _ c.from_residual-in_err-in_turn.ensures
    (c.in_err-in_turn.ensures (length_outcome a) (length_outcome b) (λ r h. search rules) (λ r h. search rules)))))

pub returns-in_err-refuse_unless-3 : goal.returns-in_err-refuse_unless-3
unfolding pool_outcome
returns-in_err-refuse_unless-3 c =
    let a = measurement_of c.args.a in
    let b = measurement_of c.args.b in
    went-on _ _ _ c.in_ok-check_shapes.ensures
    (went-on _ _ _ (c.in_ok-refuse_unless.ensures ∙ same c.same_shape.ensures)
    (went-on _ _ _ (c.in_ok-refuse_unless-2.ensures ∙ weighed c.weights_allowed.ensures)
    (went-on _ _ _ (c.in_ok-in_turn.ensures (length_outcome a) (length_outcome b) (λ r h. search rules) (λ r h. search rules))
    (stopped _ _ _ _ c.from_residual-in_err-refuse_unless-3.ensures (c.in_err-refuse_unless-3.ensures
    ∙ roomy c.args.room c.node_count-nodes.ensures)))))

pub returns : goal.returns
unfolding pool_outcome
returns c =
    let a = measurement_of c.args.a in
    let b = measurement_of c.args.b in
    went-on _ _ _ c.in_ok-check_shapes.ensures
    (went-on _ _ _ (c.in_ok-refuse_unless.ensures ∙ same c.same_shape.ensures)
    (went-on _ _ _ (c.in_ok-refuse_unless-2.ensures ∙ weighed c.weights_allowed.ensures)
    (went-on _ _ _ (c.in_ok-in_turn.ensures (length_outcome a) (length_outcome b) (λ r h. search rules) (λ r h. search rules))
    (went-on _ _ _ (c.in_ok-refuse_unless-3.ensures ∙ roomy c.args.room c.node_count-nodes.ensures)
    (c.in_turn-2.ensures (limit_outcome 5 sample_limit a.samples) (limit_outcome 5 sample_limit b.samples) (λ r h. search rules)
    (λ r h. search rules))))))
