-- `lattice::first_beyond` meets its contract: no number before the one at hand is beyond the limit.
use Rattle.lattice.specs.Buffer.{at}
use Rattle.lattice.specs.Outcome.{first_of}
use Rattle.lattice.proofs.RecordsLaws.{limit-stops, limit-more, limit-ends}
use Rattle.arith.proofs.Machine.{element}
use lib.IntN.{nat_abs}
use mathlib.Core.Path.{refl, sym, ap, ◌∙◌}
use native.Mathlib.Omega.{arith}
use Rattle.lattice.proofs.first_beyond.Goals as goal

pub loop-i-init : goal.loop-i-init
unfolding first_of
loop-i-init c number = refl

pub returns-then-limit-unsigned_abs : goal.returns-then-limit-unsigned_abs
returns-then-limit-unsigned_abs c number =
    sym (limit-stops number c.args.limit c.args.xs.now c.loop-i.i (omega arith) (c.loop-i.invariant number)
    (omega (
      arith,
      c.if-limit-unsigned_abs.true,
      c.unsigned_abs.ensures.value ∙ ap nat_abs (element
          (at c.args.xs.now c.loop-i.i) c.x-1.given),
    )))

pub loop-i-preserved : goal.loop-i-preserved
loop-i-preserved c number = limit-more number c.args.limit c.args.xs.now c.loop-i.i (c.loop-i.invariant number)
    (omega (
      arith,
      c.if-limit-unsigned_abs.false,
      c.unsigned_abs.ensures.value ∙ ap nat_abs (element
          (at c.args.xs.now c.loop-i.i) c.x-1.given),
    ))

pub returns : goal.returns
returns c number = sym (limit-ends number c.args.limit c.args.xs.now c.loop-i.i (omega arith) (c.loop-i.invariant number))
