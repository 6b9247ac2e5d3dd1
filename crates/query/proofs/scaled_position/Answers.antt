-- `query::scaled_position` meets its contract: a position below 0 stands in two's complement beyond every table, and stays.
use mathlib.Core.Path.{◌∙◌}
use Rattle.arith.proofs.Machine.{element}
use Rattle.query.proofs.Coarse.{product-fits, product_small, product_is, beyond-is}
use Rattle.query.proofs.Locate.{stands-for}
use Rattle.query.proofs.scaled_position.Goals as goal

pub overflow_mul-result : goal.overflow_mul-result
overflow_mul-result c = product-fits _ _ c.requires c.if-v-le16128.true

pub overflow_cast-result : goal.overflow_cast-result
overflow_cast-result c = product_small _ _ c.requires c.if-v-le16128.true

pub returns-then-v-le16128 : goal.returns-then-v-le16128
returns-then-v-le16128 c =
    let b = c in
    product_is b.args.factor b.args.p _ (stands-for b.args.p b.ranges.p.sfits c.unsigned-v.ensures) b.requires
    c.if-v-le16128.true

pub returns : goal.returns
returns c =
    let b = c in
    element b.args.p b.ranges.p.sfits
    ∙ beyond-is b.args.factor b.args.p _ (stands-for b.args.p b.ranges.p.sfits c.unsigned-v.ensures) c.if-v-le16128.false
