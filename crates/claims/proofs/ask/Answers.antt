-- `claims::ask` meets its contract: each case gives what its query gives.
use mathlib.Core.Path.{sym, ap, ◌∙◌}
use Rattle.evaluate.specs.Wants.{wanted}
use Rattle.float_query.specs.Answers.{in_float}
use Rattle.claims.specs.Third.{queried}
use Rattle.claims.specs.Calls.{query_of}
use Rattle.claims.proofs.ask.Goals as goal

pub returns-in-Position : goal.returns-in-Position
unfolding queried
returns-in-Position c =
    let a = c.args in
    let w = wanted a.derivative in
    ap (in_float w) (c.at_position.ensures.result_value
    ∙ sym (ap (λ z. queried a.t a.records.now w (query_of z)) c.in-Position.is))

pub returns-in-Cell : goal.returns-in-Cell
unfolding queried
returns-in-Cell c =
    let a = c.args in
    let w = wanted a.derivative in
    ap (in_float w) (c.in_cell.ensures.result_value ∙ sym (ap (λ z. queried a.t a.records.now w (query_of z)) c.in-Cell.is))

pub returns-in-Floats : goal.returns-in-Floats
unfolding queried
returns-in-Floats c =
    let a = c.args in
    let w = wanted a.derivative in
    c.at_float.ensures ∙ sym (ap (λ z. in_float w (queried a.t a.records.now w (query_of z))) c.in-Floats.is)
