-- What the parser asks, test by test.
use mathlib.Core.Path.{◌≡◌, sym, ap, ap₂, ◌∙◌}
use mathlib.Core.Bool.{true, false, not, ◌&&◌, or-true}
use mathlib.Core.List.{List}
use Prim.Native.Nat.{ℕ, ◌-◌}
use borrow.Author.Rules.{part_to_end}
use lib.ListN.{length, take, drop}
use Rattle.arith.proofs.Choices.{pick_true, pick-false}
use Rattle.import.specs.Bytes.{leads, skip, none}
use Rattle.import.proofs.BytesLaws.{skip-one}
use Rattle.import.specs.Grammar.{digits, after_digits, exp_digits, frac_part, fits_exp, fits_frac, fits_int, fits}

module _ (part : List ℕ) where
  pub exp-absent : leads 101 69 part ≡ false → fits_exp part ≡ none part
  unfolding fits_exp
  exp-absent e = pick-false (leads 101 69 part) (not (none (digits (exp_digits part))) && none (after_digits (exp_digits part))) (none part)
      e

  pub exp-present : leads 101 69 part ≡ true → fits_exp part ≡ (not (none (digits (exp_digits part))) && none
      (after_digits (exp_digits part)))
  unfolding fits_exp
  exp-present e = pick_true (leads 101 69 part) (not (none (digits (exp_digits part))) && none (after_digits (exp_digits part))) (none part)
      e

  -- the digits after e and a sign, and what follows them
  pub exp-read : {number ds rest : List ℕ} → leads 101 69 part ≡ true → number ≡ skip 43 45 (take (length part - 1) (drop 1 part))
      → ds ≡ digits number → rest ≡ after_digits number → fits_exp part ≡ (not (none ds) && none rest)
  exp-read e f g h =
      let n = f ∙ ap (skip 43 45) (part_to_end part 1 ∙ sym (skip-one 101 69 part e)) in
      exp-present e ∙ sym (ap₂ (λ (x y : List ℕ). not (none x) && none y) (g ∙ ap digits n) (h ∙ ap after_digits n))

  pub frac-short : leads 46 46 part ≡ true → none (digits (skip 46 46 part)) ≡ true → fits_frac part ≡ false
  unfolding fits_frac
  frac-short e f = rw (e, f)

  pub frac-present : none (digits (skip 46 46 part)) ≡ false → fits_frac part ≡ fits_exp (after_digits (skip 46 46 part))
  unfolding fits_frac
  frac-present f = rw (f, or-true (not (leads 46 46 part)))

  pub frac-absent : leads 46 46 part ≡ false → fits_frac part ≡ fits_exp (after_digits (skip 46 46 part))
  unfolding fits_frac
  frac-absent e = rw e

  pub int-wrong : fits_int (digits (skip 45 45 part)) ≡ false → fits part ≡ false
  unfolding fits
  int-wrong e = rw e

  pub int-right : fits_int (digits (skip 45 45 part)) ≡ true → fits part ≡ fits_frac (frac_part part)
  unfolding fits
  int-right e = rw e
