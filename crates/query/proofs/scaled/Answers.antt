-- `query::scaled` meets its contract: the product as far as any table reaches, the number itself beyond.
use mathlib.Core.Path.{sym}
use Rattle.query.proofs.Coarse.{scaled-low, scaled-high, product-fits}
use Rattle.query.proofs.scaled.Goals as goal

pub overflow_mul-result : goal.overflow_mul-result
overflow_mul-result c = product-fits _ _ c.requires c.if-v-le16128.true

pub returns-then-v-le16128 : goal.returns-then-v-le16128
returns-then-v-le16128 c = sym (scaled-low _ _ c.if-v-le16128.true)

pub returns-else-v-le16128 : goal.returns-else-v-le16128
returns-else-v-le16128 c = sym (scaled-high _ _ c.if-v-le16128.false)
