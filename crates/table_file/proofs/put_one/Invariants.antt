-- `put_one` meets its contract. The invariant: the node counts before the one at hand stand after n.
use mathlib.Core.Path.{◌≡◌}
use lib.ListN.{take}
use lib.Seq.{sets}
use Rattle.table_file.specs.Numbers.{bytes_of_all}
use Rattle.table_file.proofs.put_one.Given as goal

abbrev pub invariant-loop-a : goal.invariant-loop-a
invariant-loop-a l = l.bytes ≡ sets l.initial.bytes 4 (bytes_of_all (take l.a (take l.fn.header.axes l.fn.header.counts)))
