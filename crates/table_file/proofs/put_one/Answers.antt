-- `put_one` meets its contract. The invariant: the node counts before the one at hand stand after n.
use mathlib.Core.Path.{refl}
use Prim.Native.Nat.{◌+◌, ◌*◌}
use native.Mathlib.Omega.{arith}
use lib.ListN.{take}
use lib.Seq.{take_all}
use Rattle.table_file.specs.Numbers.{bytes_of_all}
use Rattle.table_file.specs.File.{section_one}
use Rattle.table_file.proofs.WriteLaws.{put_first, put_next}
use Rattle.table_file.proofs.put_one.Goals as goal

pub loop-a-init : goal.loop-a-init
unfolding bytes_of_all
loop-a-init c = refl

pub loop-a-preserved : goal.loop-a-preserved
loop-a-preserved c =
    let h = c.args.header in
    put_next (take h.axes h.counts) _ 4 c.loop-a.a (4 * (1 + c.loop-a.a)) _ c.loop-a-test.true (omega arith) refl c.loop-a.invariant
    c.put_number-in-loop-a.ensures

pub returns : goal.returns
unfolding section_one
returns c =
    let h = c.args.header in
    let vs = take h.axes h.counts in
    put_first h.axes vs c.args.bytes.now 0 4 refl c.put_number.ensures (rw
    (take_all c.loop-a.a vs c.loop-a-test.false) at c.loop-a.invariant)
