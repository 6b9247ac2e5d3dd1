-- `digits_kept` meets its contract: the exponent's digits are all taken.
use mathlib.Core.Path.{ap, ap₂, ◌∙◌}
use mathlib.Core.List.{List}
use Prim.Native.Nat.{ℕ}
use Rattle.import.specs.declared.Sum.{Sum}
use Rattle.import.specs.Bytes.{leads, skip}
use Rattle.import.specs.Grammar.{digits}
use Rattle.import.specs.Value.{decimal}
use Rattle.import.specs.Parts.{capped, add_digits, kept, kept_of}
use Rattle.import.proofs.SumLaws.{read_all}
use Rattle.import.proofs.digits_kept.Goals as goal

pub returns : goal.returns
unfolding kept_of
returns c =
    let ds = c.split_digits.ensures.0 ∙ ap digits (c.skipped.ensures ∙ ap (skip 43 45) c.skipped-signed.ensures) in
    let read = c.add_digits-exponent.ensures ∙ ap (λ (s : Sum). add_digits s c.split_digits.result.0.now) c.of.ensures in
    c.moved.ensures
    ∙ ap₂ (kept c.args.whole) (c.leads_with.ensures ∙ ap (leads 45 45) c.skipped-signed.ensures)
    (ap (λ (x : Sum). x.value) read ∙ read_all c.split_digits.result.0.now ∙ ap (λ (x : List ℕ). capped (decimal x)) ds)
