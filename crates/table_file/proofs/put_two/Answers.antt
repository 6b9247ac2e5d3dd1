-- `put_two` meets its contract. The invariant: the samples before the one at hand stand after their number.
use mathlib.Core.List.{map}
use mathlib.Core.Path.{refl, sym, ap, ◌∙◌}
use Prim.Native.Nat.{◌+◌, ◌*◌}
use native.Mathlib.Omega.{arith}
use lib.ListN.{length, length-map}
use lib.Seq.{take_all}
use Rattle.arith.specs.Int.{unsigned_of}
use Rattle.arith.proofs.Machine.{element}
use Rattle.arith.proofs.Twos.{unsigned_is}
use Rattle.lattice.specs.Buffer.{at}
use Rattle.table_file.specs.Numbers.{bytes_of_all}
use Rattle.table_file.specs.File.{section_two}
use Rattle.table_file.proofs.WriteLaws.{put_first, put_next, sample-number}
use Rattle.table_file.proofs.put_two.Goals as goal

pub loop-i-init : goal.loop-i-init
unfolding bytes_of_all
loop-i-init c = refl

pub loop-i-preserved : goal.loop-i-preserved
loop-i-preserved c =
    let a = c.args in
    let i = c.loop-i.i in
    put_next (map unsigned_of a.samples.now) _ (4 * (1 + a.start)) i (4 * (1 + a.start + i)) _
    (omega (arith, length-map a.samples.now unsigned_of)) (omega arith)
    (c.cast_unsigned.ensures ∙ unsigned_is _ ∙ ap unsigned_of (element (at a.samples.now i) c.x-1.given) ∙ sym
    (sample-number a.samples.now i))
    c.loop-i.invariant c.put_number-in-loop-i.ensures

pub returns : goal.returns
unfolding section_two
returns c =
    let a = c.args in
    let us = map unsigned_of a.samples.now in
    put_first (length a.samples.now) us a.bytes.now (4 * a.start) (4 * (1 + a.start)) (omega arith) c.put_number.ensures
    (rw (take_all c.loop-i.i us (omega (arith, length-map a.samples.now unsigned_of))) at c.loop-i.invariant)
