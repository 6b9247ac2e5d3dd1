-- `check_import` meets its contract: the refusals in their order.
use mathlib.Core.Path.{sym, ap, ap₂, ◌∙◌}
use Prim.Native.Nat.{ℕ}
use lib.Dec.{leb, eqb}
use Rattle.lattice.specs.Outcome.{refuse_unless}
use Rattle.lattice.specs.Shape.{full_outcome}
use Rattle.lattice.proofs.OutcomeLaws.{stopped, went-on}
use Rattle.lattice.proofs.ShapeLaws.{shaped}
use Rattle.lattice.proofs.StepLaws.{full-shape}
use Rattle.import.proofs.ImportLaws.{import-is, counted, roomy}
use Rattle.import.proofs.check_import.Goals as goal

pub returns-in_err-check_full : goal.returns-in_err-check_full
returns-in_err-check_full c =
    stopped _ _ (full_outcome c.args.t) _ c.from_residual.ensures c.in_err-check_full.ensures
    ∙ sym (import-is c.args.t c.args.text.now c.args.room)

pub node_count-nodes-requires : goal.node_count-nodes-requires
node_count-nodes-requires c = shaped _ (full-shape c.args.t (sym c.in_ok-check_full.ensures))

pub returns-in_err-refuse_unless : goal.returns-in_err-refuse_unless
returns-in_err-refuse_unless c =
    let a = c.args in
    let four = ap₂ (λ (x y : ℕ). refuse_unless (eqb x y) 4 0) c.count_tokens.ensures c.node_count-nodes.ensures in
    went-on (full_outcome a.t) _ _ c.in_ok-check_full.ensures
    (stopped _ _ (counted a.t.shape a.text.now) _ c.from_residual-in_err-refuse_unless.ensures (c.in_err-refuse_unless.ensures ∙ four))
    ∙ sym (import-is a.t a.text.now a.room)

pub returns-in_err-refuse_unless-2 : goal.returns-in_err-refuse_unless-2
returns-in_err-refuse_unless-2 c =
    let a = c.args in
    let four = ap₂ (λ (x y : ℕ). refuse_unless (eqb x y) 4 0) c.count_tokens.ensures c.node_count-nodes.ensures in
    let nine = ap (λ (x : ℕ). refuse_unless (leb x a.room) 9 0) c.node_count-nodes.ensures in
    went-on (full_outcome a.t) _ _ c.in_ok-check_full.ensures
    (went-on (counted a.t.shape a.text.now) _ _ (c.in_ok-refuse_unless.ensures ∙ four)
    (stopped _ _ (roomy a.t.shape a.room) _ c.from_residual-in_err-refuse_unless-2.ensures (c.in_err-refuse_unless-2.ensures ∙ nine)))
    ∙ sym (import-is a.t a.text.now a.room)

pub returns : goal.returns
returns c =
    let a = c.args in
    let four = ap₂ (λ (x y : ℕ). refuse_unless (eqb x y) 4 0) c.count_tokens.ensures c.node_count-nodes.ensures in
    let nine = ap (λ (x : ℕ). refuse_unless (leb x a.room) 9 0) c.node_count-nodes.ensures in
    went-on (full_outcome a.t) _ _ c.in_ok-check_full.ensures
    (went-on (counted a.t.shape a.text.now) _ _ (c.in_ok-refuse_unless.ensures ∙ four)
    (went-on (roomy a.t.shape a.room) _ _ (c.in_ok-refuse_unless-2.ensures ∙ nine) c.check_tokens.ensures))
    ∙ sym (import-is a.t a.text.now a.room)
