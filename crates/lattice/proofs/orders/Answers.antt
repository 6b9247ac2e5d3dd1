-- `lattice::orders` meets its contract: 2 for degree 3, else 3.
use borrow.Author.Tests.{eq-eqb, ne_eqb}
use Rattle.arith.proofs.Choices.{pick_true, pick-false}
use Rattle.lattice.specs.Shape.{orders_of}
use lib.Dec.{eqb}
use mathlib.Core.Path.{sym, ◌∙◌}
use Rattle.lattice.proofs.orders.Goals as goal

pub returns-then-degree-eq3 : goal.returns-then-degree-eq3
unfolding orders_of
returns-then-degree-eq3 c = c.cubic.ensures ∙ sym (pick_true (eqb c.args.degree 3) 2 3 (eq-eqb _ _ c.if-degree-eq3.true))

pub returns-else-degree-eq3 : goal.returns-else-degree-eq3
unfolding orders_of
returns-else-degree-eq3 c = c.quintic.ensures ∙ sym (pick-false (eqb c.args.degree 3) 2 3 (ne_eqb _ _ c.if-degree-eq3.false))
