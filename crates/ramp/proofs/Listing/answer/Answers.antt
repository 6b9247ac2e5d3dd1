-- `ramp::Listing::answer` meets its contract: a table of 256 steps has the list itself.
use mathlib.Core.Path.{refl}
use Rattle.lattice.proofs.ShapeLaws.{shaped}
use Rattle.query.proofs.Coarse.{full-same}
use Rattle.ramp.proofs.CoarseLaws.{told_same, itself}
use Rattle.ramp.proofs.Listing.answer.Goals as goal

pub returns-then-is_finest : goal.returns-then-is_finest
returns-then-is_finest c =
    let a = c.args.self.now in
    let fine = c.is_finest.ensures c.if-is_finest.true (shaped a.table.shape a.listed.shape).axes-low in
    let both = told_same a.table (full-same a.table a.full) a.full a.records.now a.positions.now a.positions.now c.answer_finest.new.found
    refl (itself a.table fine a.positions.now) _ (c.answer_finest.ensures.result_value, c.answer_finest.ensures.by_index) in
    record { result_value = both.0; by_index = both.1 }
