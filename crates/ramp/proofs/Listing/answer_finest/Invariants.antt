-- `ramp::Listing::answer_finest` meets its contract. The invariant: what is left of the positions, and what is known before query i.
use mathlib.Core.Path.{◌≡◌}
use Prim.Native.Nat.{◌*◌, ◌≤◌}
use lib.ListN.{drop}
use Rattle.ramp.specs.Ramp.{queries}
use Rattle.ramp.proofs.LoopLaws.{Before}
use Rattle.ramp.proofs.Listing.answer_finest.Given as goal

abbrev pub invariant-loop-i : goal.invariant-loop-i
invariant-loop-i l = record {
  left : l.i-iterator.iter.rest.now ≡ drop (3 * l.i-iterator.count) l.self.positions.now;
  size : l.i-iterator.iter.size ≡ 3;
  few : l.i-iterator.count ≤ queries l.self.positions.now;
  before : Before l.self.table.shape l.self.table.second_edition l.self.records.now l.self.positions.now l.i-iterator.count l.found l.held
      l.cell l.fetches;
}
