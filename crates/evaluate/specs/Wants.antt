-- What a query asks for, in the terms of document 01.
use Rattle.std.specs.Prelude.{ℕ, zero, suc}
use Rattle.evaluate.specs.Evaluate.{Want, dose, derivative_along}
use Rattle.evaluate.specs.declared.Derivative.{Derivative}

-- order 0 is a dose, any other that of a derivative along an axis
abbrev pub want_of : (order axis : ℕ) → Want
want_of zero a = dose
want_of (suc order) a = derivative_along (suc order) a

abbrev pub wanted : Derivative → Want
wanted a = want_of a.order a.axis
