-- `ramp::dose_in` meets its contract: the number that the stages give fits 32 bits.
use Rattle.arith.proofs.Editions.{edition-sound}
use Rattle.ramp.proofs.DoseLaws.{dose-fits, dose-cast}
use Rattle.ramp.proofs.dose_in.Goals as goal

pub overflow_cast-result : goal.overflow_cast-result
overflow_cast-result c =
    let r = c.stages_in in
    let s = c in
    let a = s.args in
    dose-fits (edition-sound a.even) a.s a.held.now a.step s.requires r.result r.type_inv
    r.ensures

pub returns : goal.returns
returns c =
    let r = c.stages_in in
    let s = c in
    let a = s.args in
    dose-cast (edition-sound a.even) a.s a.held.now a.step s.requires r.result r.type_inv
    r.ensures
