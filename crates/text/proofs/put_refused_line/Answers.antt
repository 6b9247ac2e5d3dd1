-- `put_refused_line` meets its contract: a word and a number.
use native.Mathlib.Omega.{arith}
use Rattle.text.proofs.LineLaws.{put_as, put_then, refused-is, refused-length}
use Rattle.text.proofs.put_refused_line.Goals as goal

pub put_bytes-at-requires : goal.put_bytes-at-requires
put_bytes-at-requires c = omega (arith, refused-length c.args.number)

pub put_natural-requires : goal.put_natural-requires
put_natural-requires c = omega (arith, refused-length c.args.number)

pub returns : goal.returns
returns c =
    let l = put_as (refused-is _) (put_then c.put_bytes-at.ensures c.put_natural.ensures) in
    record { value = omega (arith, l.ended); out_after = l.written }
