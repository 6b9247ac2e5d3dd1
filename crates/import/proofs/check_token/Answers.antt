-- `check_token` meets its contract: 16, then 17, then 18 and 5 of the units that are measured.
use mathlib.Core.Path.{ap, ◌∙◌}
use mathlib.Core.Bool.{Bool}
use Rattle.lattice.specs.Outcome.{refuse_unless}
use Rattle.lattice.proofs.OutcomeLaws.{stopped, went-on}
use Rattle.import.proofs.ImportLaws.{short, fitting, token-is, measured-is}
use Rattle.import.proofs.check_token.Goals as goal

pub returns-in_err-refuse_unless : goal.returns-in_err-refuse_unless
returns-in_err-refuse_unless c =
    let t = c.args.token in
    stopped _ _ (short t.bytes.now t.start c.args.k) _ c.from_residual.ensures c.in_err-refuse_unless.ensures
    ∙ token-is t.bytes.now t.start c.args.k

pub returns-in_err-refuse_unless-2 : goal.returns-in_err-refuse_unless-2
returns-in_err-refuse_unless-2 c =
    let t = c.args.token in
    -- the test of 17
    let fits = ap (λ (b : Bool). refuse_unless b 17 t.start) c.fits_grammar.ensures in
    went-on (short t.bytes.now t.start c.args.k) _ _ c.in_ok-refuse_unless.ensures
    (stopped _ _ (fitting t.bytes.now t.start c.args.k) _ c.from_residual-in_err-refuse_unless-2.ensures
    (c.in_err-refuse_unless-2.ensures ∙ fits))
    ∙ token-is t.bytes.now t.start c.args.k

pub returns-in_err-refuse_unless-3 : goal.returns-in_err-refuse_unless-3
returns-in_err-refuse_unless-3 c =
    let t = c.args.token in
    let fits = ap (λ (b : Bool). refuse_unless b 17 t.start) c.fits_grammar.ensures in
    went-on (short t.bytes.now t.start c.args.k) _ _ c.in_ok-refuse_unless.ensures
    (went-on (fitting t.bytes.now t.start c.args.k) _ _ (c.in_ok-refuse_unless-2.ensures ∙ fits)
    (stopped _ _ _ _ c.from_residual-in_err-refuse_unless-3.ensures c.in_err-refuse_unless-3.ensures))
    ∙ measured-is t.bytes.now t.start c.args.k c.measure-units.result c.measure-units.ensures

pub returns : goal.returns
returns c =
    let t = c.args.token in
    let fits = ap (λ (b : Bool). refuse_unless b 17 t.start) c.fits_grammar.ensures in
    went-on (short t.bytes.now t.start c.args.k) _ _ c.in_ok-refuse_unless.ensures
    (went-on (fitting t.bytes.now t.start c.args.k) _ _ (c.in_ok-refuse_unless-2.ensures ∙ fits)
    (went-on _ _ _ c.in_ok-refuse_unless-3.ensures c.refuse_unless-4.ensures))
    ∙ measured-is t.bytes.now t.start c.args.k c.measure-units.result c.measure-units.ensures
