-- `lattice::check_on_axes` meets its contract: a test of each axis, of which the first refusal stands.
use mathlib.Core.Bool.{false}
use lib.ListN.{get_or}
use Rattle.lattice.specs.Answers.{number_of}
use Rattle.lattice.proofs.OutcomeLaws.{on-first, on-second, on-third, handed_on}
use Rattle.lattice.proofs.check_on_axes.Goals as goal
use mathlib.Core.Path.{◌∙◌, sym}

pub returns-in_err-refuse_unless : goal.returns-in_err-refuse_unless
returns-in_err-refuse_unless c = handed_on _ _ c.from_residual.ensures
    ∙ sym (on-first (number_of c.args.reason) (λ a. get_or c.args.allowed a false) c.in_err-refuse_unless.ensures)

pub returns-in_err-refuse_unless-2 : goal.returns-in_err-refuse_unless-2
returns-in_err-refuse_unless-2 c = handed_on _ _ c.from_residual-in_err-refuse_unless-2.ensures
    ∙ sym (on-second (number_of c.args.reason) (λ a. get_or c.args.allowed a false) c.in_ok-refuse_unless.ensures
    c.in_err-refuse_unless-2.ensures)

pub returns : goal.returns
returns c = c.refuse_unless-3.ensures
    ∙ sym (on-third (number_of c.args.reason) (λ a. get_or c.args.allowed a false) c.in_ok-refuse_unless.ensures
    c.in_ok-refuse_unless-2.ensures)
