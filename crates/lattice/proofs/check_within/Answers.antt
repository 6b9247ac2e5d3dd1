-- `lattice::check_within` meets its contract.
use Rattle.lattice.specs.Answers.{number_of}
use Rattle.lattice.proofs.check_within.Goals as goal

pub returns-in-Some : goal.returns-in-Some
returns-in-Some c = c.in-Some.ensures (number_of c.args.reason)

pub returns-in-None : goal.returns-in-None
returns-in-None c = c.in-None.ensures (number_of c.args.reason)
