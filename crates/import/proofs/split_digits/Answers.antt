-- `split_digits` meets its contract.
use mathlib.Core.Path.{ap, ◌∙◌}
use Prim.Native.Nat.{ℕ}
use native.Mathlib.Omega.{arith}
use lib.ListN.{take, drop}
use Rattle.import.specs.Bytes.{beyond}
use Rattle.import.specs.Grammar.{is_digit}
use Rattle.import.proofs.BytesLaws.{leading-front}
use Rattle.import.proofs.split_digits.Goals as goal

pub split_at-requires : goal.split_at-requires
split_at-requires c = omega (arith, c.digit_count.ensures, (leading-front is_digit c.args.bytes.now).0)

pub returns : goal.returns
unfolding beyond
returns c =
    let bytes = c.args.bytes.now in (
      c.split_at.ensures.front ∙ ap (λ (n : ℕ). take n bytes) c.digit_count.ensures ∙ (leading-front is_digit bytes).1,
      c.split_at.ensures.back ∙ ap (λ (n : ℕ). drop n bytes) c.digit_count.ensures,
    )
