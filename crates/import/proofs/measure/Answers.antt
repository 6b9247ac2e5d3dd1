-- `measure` meets its contract: the parts of the number, one after the other.
use mathlib.Core.Path.{ap, ap₂, ◌∙◌}
use mathlib.Core.Bool.{true}
use mathlib.Core.List.{List}
use Prim.Native.Nat.{ℕ}
use native.Mathlib.Omega.{arith}
use lib.ListN.{length}
use Rattle.import.specs.declared.Sum.{Sum}
use Rattle.import.specs.Bytes.{skip}
use Rattle.import.specs.Grammar.{is_digit, digits, after_digits}
use Rattle.import.specs.Parts.{sum, add_digits, kept_of}
use Rattle.import.proofs.BytesLaws.{leading-front, skip-short}
use Rattle.import.proofs.MeasureLaws.{zeros, measured}
use Rattle.import.proofs.measure.Goals as goal

pub digits_kept-requires : goal.digits_kept-requires
digits_kept-requires c =
    let t = c.args.token.now in
    omega (
      arith,
      ap length (c.split_digits.ensures.0 ∙ ap digits c.skipped.ensures),
      (leading-front is_digit (skip 45 45 t)).0,
      skip-short 45 45 t,
    )

pub returns : goal.returns
returns c =
    let token = c.args.token.now in
    -- the digits of int
    let int = c.split_digits.ensures.0 ∙ ap digits c.skipped.ensures in
    let part = c.skipped-2.ensures ∙ ap (skip 46 46) (c.split_digits.ensures.1 ∙ ap after_digits c.skipped.ensures) in
    let fraction = c.split_digits-2.ensures.0 ∙ ap digits part in
    let rest = c.split_digits-2.ensures.1 ∙ ap after_digits part in
    let left = c.digits_kept.ensures ∙ ap₂ (λ (w x : List ℕ). kept_of (length w) x) int rest in
    measured token c.requires c.add_digits-3.result
    (c.add_digits-3.ensures
    ∙ ap (λ (x : Sum). add_digits x zeros)
    (c.add_digits-2.ensures
    ∙ ap₂ add_digits (c.add_digits.ensures ∙ ap₂ add_digits (c.of.ensures ∙ ap (λ (j : ℕ). sum 0 j true) left) int) fraction))
