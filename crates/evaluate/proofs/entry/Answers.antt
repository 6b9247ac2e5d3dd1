-- `evaluate::entry` meets its contract: an entry fits 64 bits.
use Rattle.arith.proofs.Machine.{widen-fits, widened}
use lib.ListN.{get_or}
use lib.IntN.{pos}
use Rattle.evaluate.proofs.entry.Goals as goal

pub overflow_cast-result : goal.overflow_cast-result
overflow_cast-result c = let s = c.args in widen-fits (get_or s.records.now s.i (pos 0)) c.result-1.given

pub returns : goal.returns
returns c = let s = c.args in widened (get_or s.records.now s.i (pos 0)) c.result-1.given
