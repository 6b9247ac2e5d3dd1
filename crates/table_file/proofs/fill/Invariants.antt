-- `fill` meets its contract. The invariant: the front of the slice holds the samples before the one at hand.
use Rattle.lattice.specs.Buffer.{at}
use Rattle.lattice.proofs.BufferLaws.{Filled}
use Rattle.table_file.specs.Parser.{samples_of}
use Rattle.table_file.proofs.fill.Given as goal

abbrev pub invariant-loop-i : goal.invariant-loop-i
invariant-loop-i l = Filled (at (samples_of l.numbers)) l.initial.samples l.i l.samples
