-- `next` meets its contract: it passes over separators, and then over a token.
use mathlib.Core.Path.{◌≡◌, sym, ap, ap₂, ◌∙◌}
use mathlib.Core.List.{List, ◌∷◌}
use Prim.Native.Nat.{ℕ, ◌+◌, ◌-◌, ◌≤◌}
use native.Mathlib.Omega.{arith}
use borrow.Author.Rules.{part_to_end}
use lib.ListN.{length, take, drop}
use Rattle.std.proofs.Common.{rules}
use Rattle.std.specs.Prelude.{Some}
use Rattle.std.specs.List.{position}
use Rattle.import.specs.Bytes.{leading}
use Rattle.import.specs.Tokens.{other, token_at, tokens_from}
use Rattle.import.proofs.BytesLaws.{leading-front}
use Rattle.import.proofs.ScanLaws.{none-left, start-inside, next-token, token-inside, token-between}
use Rattle.import.proofs.scan.TokensIterator.next.Goals as goal
use Rattle.import.proofs.scan.TokensIterator.next.Goals.{After-token_length-length}

pub returns-in_err-start-clause-steps : goal.returns-in_err-start-clause-steps
returns-in_err-start-clause-steps c =
    let s = c.args.self.now in
    let none = none-left s.text.now s.at s.inside s.between
    (sym (ap (position other) (part_to_end s.text.now s.at)) ∙ sym c.in_err-start.ensures) in
    rw c.from_residual.ensures (none, none)

-- where the token starts, and its length
module _ (c : After-token_length-length) where
  found : position other (drop c.args.self.now.at c.args.self.now.text.now) ≡ Some c.in_ok-start.field-0
  found = let s = c.args.self.now in sym (ap (position other) (part_to_end s.text.now s.at)) ∙ sym c.in_ok-start.ensures

  abbrev start : ℕ
  start = c.args.self.now.at + c.in_ok-start.field-0

  run : c.token_length-length.result ≡ length (token_at c.args.self.now.text.now start)
  unfolding token_at
  run = c.token_length-length.ensures ∙ ap (λ (l : List ℕ). length (leading other l)) (part_to_end c.args.self.now.text.now start)

  inside : start + c.token_length-length.result ≤ length c.args.self.now.text.now
  inside =
      let s = c.args.self.now in
      omega (
        arith,
        run,
        token-inside s.text.now start,
        start-inside s.text.now s.at s.inside s.between c.in_ok-start.field-0 found,
      )

  bytes : take c.token_length-length.result (take (length c.args.self.now.text.now - start) (drop start c.args.self.now.text.now))
      ≡ token_at c.args.self.now.text.now start
  unfolding token_at
  bytes =
      let text = c.args.self.now.text.now in
      ap (take c.token_length-length.result) (part_to_end text start)
      ∙ ap (λ (n : ℕ). take n (drop start text))
      (c.token_length-length.ensures ∙ ap (λ (l : List ℕ). length (leading other l)) (part_to_end text start))
      ∙ (leading-front other (drop start text)).1

  step : tokens_from c.args.self.now.text.now c.args.self.now.at
      ≡ (start, take c.token_length-length.result (take (length c.args.self.now.text.now - start) (drop start c.args.self.now.text.now)))
      ∷ tokens_from c.args.self.now.text.now (start + c.token_length-length.result)
  step =
      let s = c.args.self.now in
      next-token s.text.now s.at s.inside s.between c.in_ok-start.field-0 found
      ∙ ap₂ (λ (b : List ℕ) (n : ℕ). (start, b) ∷ tokens_from s.text.now (start + n)) (sym bytes) (sym run)

pub overflow_add-self : goal.overflow_add-self
overflow_add-self c = omega (arith, inside c)

pub invariant_of-self : goal.invariant_of-self
invariant_of-self c = record { inside = inside c; between = token-between c.args.self.now.text.now (start c) _ (run c) }

pub returns-clause-steps : goal.returns-clause-steps
returns-clause-steps c = step (goal.at.returns-clause-steps c).After-token_length-length

pub returns-clause-goes : goal.returns-clause-goes
returns-clause-goes c =
    let fewer = ap length (step (goal.at.returns-clause-goes c).After-token_length-length) in
    record { on = λ _. (search rules, search rules, omega (arith, fewer)); keeps = search rules; rests = search rules }
