-- `count_tokens` meets its contract: there are no more tokens than bytes.
use mathlib.Core.Path.{ap, ap₂, ◌∙◌}
use mathlib.Core.Logic.{inl}
use native.Mathlib.Omega.{arith}
use lib.ListN.{length}
use Rattle.std.proofs.lemmas.Iterator.Consumers.{YieldsList-from_first, count_from_yields_List}
use Rattle.import.specs.Tokens.{tokens_from}
use Rattle.import.proofs.ScanLaws.{count-bytes, count-all}
use Rattle.import.proofs.count_tokens.Goals as goal

pub count-requires-clause-fits : goal.count-requires-clause-fits
count-requires-clause-fits c =
    let all = ap₂ tokens_from c.of.ensures.0 c.of.ensures.1 in
    inl (omega (arith, ap length all, count-bytes c.args.text.now))

pub returns : goal.returns
returns c =
    count_from_yields_List c.of.result _ c.count.ensures.ran
    (YieldsList-from_first (λ x. (x.start, x.bytes.now)) (λ s. tokens_from s.text.now s.at) (tokens_from c.args.text.now 0)
    (ap₂ tokens_from c.of.ensures.0 c.of.ensures.1))
    ∙ count-all c.args.text.now
