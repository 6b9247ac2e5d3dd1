-- `ramp::is_list` meets its contract: the second test counts where the first is passed.
use mathlib.Core.Path.{sym, ap, ◌∙◌}
use mathlib.Core.Bool.{Bool, ◌&&◌}
use Prim.Native.Nat.{◌%◌}
use lib.Dec.{eqb}
use borrow.Author.Tests.{le-leb, lt-leb}
use Rattle.ramp.proofs.is_list.Goals as goal

pub returns-then-asked-le768 : goal.returns-then-asked-le768
returns-then-asked-le768 c =
    let a = c.args in
    sym (ap (λ (b : Bool). b && eqb (a.asked % 3) 0) (le-leb a.asked 768 c.if-asked-le768.true))

pub returns-else-asked-le768 : goal.returns-else-asked-le768
returns-else-asked-le768 c =
    let a = c.args in
    let e = lt-leb a.asked 768 c.if-asked-le768.false in
    e ∙ sym (ap (λ (b : Bool). b && eqb (a.asked % 3) 0) e)
