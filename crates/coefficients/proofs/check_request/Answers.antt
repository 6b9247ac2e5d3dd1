-- `coefficients::check_request` meets its contract: the shape first, then 4, 9 and 14.
use Rattle.lattice.proofs.OutcomeLaws.{stopped, went-on}
use Rattle.lattice.proofs.ShapeLaws.{shaped}
use Rattle.lattice.proofs.StepLaws.{full-shape}
use Rattle.coefficients.specs.Coefficients.{request_outcome}
use mathlib.Core.Path.{sym}
use Rattle.coefficients.proofs.check_request.Goals as goal

pub returns-in_err-check_full : goal.returns-in_err-check_full
unfolding request_outcome
returns-in_err-check_full c = stopped _ _ _ _ c.from_residual.ensures c.in_err-check_full.ensures

pub check_sizes-requires : goal.check_sizes-requires
check_sizes-requires c = shaped c.args.t.shape (full-shape _ (sym c.in_ok-check_full.ensures))

pub returns : goal.returns
unfolding request_outcome
returns c = went-on _ _ _ c.in_ok-check_full.ensures c.check_sizes.ensures
