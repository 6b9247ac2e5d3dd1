-- `evaluate::last_axis` meets its contract: a derivative has its own axis, a dose the last.
use mathlib.Core.Path.{sym, ap}
use Prim.Native.Nat.{ℕ}
use Rattle.evaluate.specs.Evaluate.{last_axis}
use Rattle.evaluate.specs.Wants.{want_of}
use Rattle.evaluate.proofs.AnswerLaws.{want-some}
use Rattle.evaluate.proofs.last_axis.Goals as goal

pub returns-then-derivative-eq0 : goal.returns-then-derivative-eq0
unfolding last_axis
returns-then-derivative-eq0 c =
    let a = c.args in sym (ap (λ (o : ℕ). last_axis a.n (want_of o a.derivative.axis)) c.if-derivative-eq0.true)

pub returns-else-derivative-eq0 : goal.returns-else-derivative-eq0
unfolding last_axis
returns-else-derivative-eq0 c =
    let a = c.args in sym (ap (last_axis a.n) (want-some a.derivative.order a.derivative.axis c.if-derivative-eq0.false))
