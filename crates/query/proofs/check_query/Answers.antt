-- `query::check_query` meets its contract: the tests before, then 14, then 23 and 11.
use Rattle.lattice.proofs.OutcomeLaws.{stopped, went-on}
use Rattle.query.specs.Queries.{tested_outcome}
use Rattle.query.proofs.check_query.Goals as goal

pub returns-in_err-check_asked : goal.returns-in_err-check_asked
unfolding tested_outcome
returns-in_err-check_asked c = λ even rs e. stopped _ _ _ _ c.from_residual.ensures (c.in_err-check_asked.ensures even rs e)

pub returns-in_err-check_cell : goal.returns-in_err-check_cell
unfolding tested_outcome
returns-in_err-check_cell c = λ even rs e. went-on _ _ _ (c.in_ok-check_asked.ensures even rs e)
    (stopped _ _ _ _ c.from_residual-in_err-check_cell.ensures c.in_err-check_cell.ensures)

pub returns : goal.returns
unfolding tested_outcome
returns c = λ even rs e. went-on _ _ _ (c.in_ok-check_asked.ensures even rs e)
    (went-on _ _ _ c.in_ok-check_cell.ensures (c.check_steps.ensures even))
