-- `hermite::by_rows` meets its contract: three products of small factors, none of which overflows.
use native.Mathlib.Omega.{arith}
use Rattle.lattice.specs.Buffer.{at}
use Rattle.hermite.proofs.EndLaws.{row-load}
use Rattle.hermite.proofs.by_rows.Goals as goal

pub dot-requires : goal.dot-requires
dot-requires c = (
  row-load (at c.args.a) (at c.args.x) (λ o l. (c.requires.by_index o l).0) c.requires.by_index_2,
  λ e. absurd (omega (arith, e)),
)

pub dot-requires-2 : goal.dot-requires-2
dot-requires-2 c = (
  row-load (at c.args.b) (at c.args.x) (λ o l. (c.requires.by_index o l).1) c.requires.by_index_2,
  λ e. absurd (omega (arith, e)),
)

pub dot-requires-3 : goal.dot-requires-3
dot-requires-3 c = (
  row-load (at c.args.c) (at c.args.x) (λ o l. (c.requires.by_index o l).2) c.requires.by_index_2,
  λ e. absurd (omega (arith, e)),
)
