-- `put_two` meets its contract. The invariant: the samples before the one at hand stand after their number.
use mathlib.Core.List.{map}
use mathlib.Core.Path.{◌≡◌}
use Prim.Native.Nat.{◌+◌, ◌*◌}
use lib.ListN.{take}
use lib.Seq.{sets}
use Rattle.arith.specs.Int.{unsigned_of}
use Rattle.table_file.specs.Numbers.{bytes_of_all}
use Rattle.table_file.proofs.put_two.Given as goal

abbrev pub invariant-loop-i : goal.invariant-loop-i
invariant-loop-i l = l.bytes ≡ sets l.initial.bytes (4 * (1 + l.start)) (bytes_of_all (take l.i (map unsigned_of l.samples)))
