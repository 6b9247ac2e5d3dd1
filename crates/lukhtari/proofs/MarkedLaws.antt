-- A marked result: the outcome of the reading and its mark, which counts only where the reading is not refused.
use mathlib.Core.Path.{◌≡◌, refl, ap, ◌∙◌}
use mathlib.Core.Bool.{Bool, true}
use lib.IntN.{ℤ}
use Rattle.lattice.specs.Outcome.{Outcome, done, refused, passed}
use Rattle.query.specs.Answers.{Reading, outcome_of_reading, is_exact, Marks}
use Rattle.lukhtari.specs.Host.{marked_from}

mark-counts : (o : Outcome ℤ) (a b : Bool) → (passed o ≡ true → a ≡ b) → marked_from o a ≡ marked_from o b
mark-counts (done v) a b e = ap (marked_from (done v)) (e refl)
mark-counts (refused n p) a b e = refl

pub marked-same : (r : Reading) {o : Outcome ℤ} {mark : Bool} → outcome_of_reading r ≡ o → Marks r mark
    → marked_from (outcome_of_reading r) (is_exact r) ≡ marked_from o mark
marked-same r {o} {mark} e m = mark-counts (outcome_of_reading r) (is_exact r) mark m ∙ ap (λ (p : Outcome ℤ). marked_from p mark) e
