-- `fill` meets its contract. The invariant: the front of the slice holds the samples before the one at hand.
use lib.ListN.{length}
use mathlib.Core.Path.{refl, sym, ap, subst, ◌≡◌, ◌∙◌}
use mathlib.Core.List.{List}
use Prim.Native.Nat.{ℕ}
use native.Mathlib.Omega.{arith}
use lib.IntN.{ℤ, pos}
use Rattle.arith.proofs.Machine.{element}
use Rattle.lattice.specs.Buffer.{at, overwrite}
use Rattle.lattice.proofs.BufferLaws.{Filled, filled_none, filled_more, filled-all, tabulate-get_or}
use Rattle.table_file.specs.Parser.{samples_of}
use Rattle.table_file.proofs.ReadLaws.{length-of, sample-of}
use Rattle.table_file.proofs.fill.Goals as goal

pub loop-i-init : goal.loop-i-init
loop-i-init c = filled_none _ _

pub loop-i-preserved : goal.loop-i-preserved
loop-i-preserved c = filled_more (at (samples_of c.args.numbers.now)) c.args.samples.now c.loop-i.i c.loop-i.samples _ (pos 0) (omega arith)
    c.loop-i.invariant
    (element _ c.sample_of.type_inv ∙ c.sample_of.ensures ∙ sym (sample-of c.args.numbers.now c.loop-i.i _ c.loop-i-test.true))

pub returns : goal.returns
returns c =
    let xs = samples_of c.args.numbers.now in
    let old = c.args.samples.now in
    let e : c.loop-i.i ≡ length xs = omega (arith, length-of c.args.numbers.now) in
    filled-all (at xs) old (length xs) c.loop-i.samples (subst (λ (k : ℕ). Filled (at xs) old k c.loop-i.samples) e c.loop-i.invariant)
    ∙ ap (λ (ys : List ℤ). overwrite ys old) (tabulate-get_or xs (length xs) (pos 0) refl)
