-- `add_digits` meets its contract.
use mathlib.Core.Path.{◌≡◌, refl, sym, ap, ◌∙◌}
use mathlib.Core.List.{List, [], ◌∷◌, ◌++◌}
use Prim.Native.Nat.{ℕ}
use Rattle.std.proofs.Common.{rules}
use Rattle.std.proofs.lemmas.Fn.{fold_over, fronts, slice_gives}
use Rattle.import.specs.declared.Sum.{Sum}
use Rattle.import.specs.Parts.{add_digit, add_digits}
use Rattle.import.proofs.SumLaws.{add-append}
use Rattle.import.proofs.Sum.add_digits.Goals as goal

-- one digit more
one_more : (s : Sum) (ys : List ℕ) (a b : Sum) (x : ℕ) → b ≡ add_digit a x → a ≡ add_digits s ys → b ≡ add_digits s (ys ++ (x ∷ []))
unfolding add_digits
one_more s ys a b x f e = f ∙ ap (λ (t : Sum). add_digit t x) e ∙ sym (add-append s ys (x ∷ []))

pub returns : goal.returns
unfolding add_digits
returns c =
    fold_over fronts (λ y. y.now) _ (λ ys a. a ≡ add_digits c.args.self ys) _
    (λ ys a x b f' e k. (one_more c.args.self ys a b x.now (search rules) e, search rules))
    c.iter.result c.iter.result.rest.now _ _ (slice_gives c.iter.result) refl c.fold.ensures.ran
    ∙ ap (add_digits c.args.self) c.iter.ensures.rest
