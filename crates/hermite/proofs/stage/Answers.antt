-- `hermite::stage` meets its contract: the two sums fit, and together they are the numbers of the two ends by the basis; nothing is dropped
-- where their sum is a multiple and nothing was dropped of the ends.
use mathlib.Core.Path.{ap, ◌∙◌}
use mathlib.Core.Bool.{◌&&◌}
use Prim.Native.Nat.{◌+◌, ◌^◌}
use lib.Dec.{eqb}
use Rattle.arith.specs.Int.{rounding_of, divides}
use Rattle.arith.proofs.Machine.{read}
use Rattle.arith.proofs.Bits.{or-none}
use Rattle.lattice.specs.Buffer.{at}
use Rattle.hermite.proofs.StageLaws.{low_fits, high_fits, added-fits, rounding-asks, dropping-asks, sum_is}
use Rattle.hermite.proofs.stage.Goals as goal

pub dot-requires : goal.dot-requires
dot-requires c = (
  low_fits c.args.b (at c.args.ends.low) (at c.args.ends.high) c.requires.k_bound.1,
  λ e. (c.requires.low_value e).0,
)

pub dot-requires-2 : goal.dot-requires-2
dot-requires-2 c = (
  high_fits c.args.b (at c.args.ends.low) (at c.args.ends.high) c.requires.k_bound.1,
  λ e. (c.requires.low_value e).1,
)

pub overflow_add-sum : goal.overflow_add-sum
overflow_add-sum c =
    added-fits c.args.b (at c.args.ends.low) (at c.args.ends.high) c.requires.k_bound.1 c.dot.result c.dot-2.result
    c.dot.type_inv c.dot-2.type_inv c.dot.ensures c.dot-2.ensures

pub dropped-requires : goal.dropped-requires
dropped-requires c =
    dropping-asks c.args.b (at c.args.ends.low) (at c.args.ends.high) c.requires.k_bound.1 c.dot.result c.dot-2.result
    c.dot.type_inv c.dot-2.type_inv c.dot.ensures c.dot-2.ensures c.args.k c.requires.k_bound.0

pub rounded-number-requires : goal.rounded-number-requires
rounded-number-requires c =
    rounding-asks c.args.b (at c.args.ends.low) (at c.args.ends.high) c.requires.k_bound.1 c.dot.result c.dot-2.result
    c.dot.type_inv c.dot-2.type_inv c.dot.ensures c.dot-2.ensures c.args.k c.requires.k_bound.0

pub returns : goal.returns
returns c =
    let a = c.args in
    let sum = sum_is a.b (at a.ends.low) (at a.ends.high) c.requires.k_bound.1 c.dot.result c.dot-2.result
    c.dot.type_inv c.dot-2.type_inv c.dot.ensures c.dot-2.ensures in record {
      number_value = read c.rounded-number.result c.rounded-number.type_inv ∙ c.rounded-number.ensures
          ∙ ap (λ z. rounding_of a.even z (2 ^ (a.k + 1))) sum;
      rest_value = or-none c.dropped.result a.ends.rest
          ∙ ap (λ t. t && eqb a.ends.rest 0) (c.dropped.ensures ∙ ap (divides (2 ^ (a.k + 1))) sum);
    }
