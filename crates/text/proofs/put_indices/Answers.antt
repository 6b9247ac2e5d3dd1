-- `put_indices` meets its contract: three words.
use native.Mathlib.Omega.{arith}
use Rattle.text.specs.Lines.{indices}
use Rattle.text.proofs.LineLaws.{put_then, indices-length}
use Rattle.text.proofs.put_indices.Goals as goal

pub returns : goal.returns
unfolding indices
returns c = put_then c.put_natural-y.ensures (put_then c.put_natural-z.ensures c.put_natural.ensures)

pub put_natural-y-requires : goal.put_natural-y-requires
put_natural-y-requires c = omega (arith, indices-length c.args.cell)

pub put_natural-z-requires : goal.put_natural-z-requires
put_natural-z-requires c = omega (arith, indices-length c.args.cell)

pub put_natural-requires : goal.put_natural-requires
put_natural-requires c = omega (arith, indices-length c.args.cell)
