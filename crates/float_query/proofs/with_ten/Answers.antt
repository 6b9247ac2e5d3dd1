-- `float_query::with_ten` meets its contract: 22 and 23 become 10 where the float on the place of the refusal is not finite.
use mathlib.Core.Path.{refl, sym, ◌∙◌}
use borrow.Author.Tests.{not-true}
use Rattle.arith.proofs.Choices.{clash}
use Rattle.lattice.specs.Answers.{number_of}
use Rattle.float_query.specs.Floats.{finite_on}
use Rattle.float_query.proofs.FloatLaws.{ten-told, ten-kept}
use Rattle.float_query.proofs.with_ten.Goals as goal
use Rattle.float_query.proofs.with_ten.Goals.{else-of_below-via-then-of_below+else-not-finite_on, else-of_below-via-else-of_below}

pub returns-then-not-finite_on : goal.returns-then-not-finite_on
returns-then-not-finite_on c =
    let a = c.args in (
      ten-told (finite_on a.x a.y a.z) (number_of a.r.reason) a.r.place (sym c.of_below.ensures ∙ c.if-of_below.true)
          (sym c.finite_on.ensures ∙ not-true _ c.if-not-finite_on.true-raw),
      refl,
    )

pub returns : goal.returns
returns c =
    let a = c.args in (
      sym (ten-kept (finite_on a.x a.y a.z) (number_of a.r.reason) a.r.place (λ e.
          elim c.else-of_below.branch [
            | else-of_below-via-then-of_below+else-not-finite_on w ↦ sym w.finite_on.ensures ∙ w.if-not-finite_on.false
            | else-of_below-via-else-of_below w ↦ let f = sym c.of_below.ensures ∙ w.if-of_below.false in clash (cc)
          ])),
      refl,
    )
