-- `hermite::exponent` meets its contract, by the two degrees.
use native.Mathlib.Omega.{arith}
use Rattle.hermite.proofs.exponent.Goals as goal

pub returns : goal.returns
returns c = let s = c.before in omega (arith, s.requires, s.args.m.bounds.0, s.args.m.bounds.1, c.if-m-eq2.false)
