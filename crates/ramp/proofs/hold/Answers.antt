-- `ramp::hold` meets its contract: the corner records of a cell that is not new are held already.
use mathlib.Core.Path.{sym, ap}
use Rattle.lattice.specs.Outcome.{passed}
use Rattle.ramp.proofs.hold.Goals as goal

pub returns-then-not-new : goal.returns-then-not-new
returns-then-not-new c = let f = c.requires.held c.if-not-new.true in record { held_2 = f.0; value = sym (ap passed f.1) }
