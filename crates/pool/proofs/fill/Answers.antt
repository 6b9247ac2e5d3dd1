-- `fill` meets its contract. The invariant: the front of the slice holds the first i pooled samples.
use mathlib.Core.Path.{ap₂, subst, ◌∙◌}
use Prim.Native.Nat.{ℕ}
use lib.ListN.{length}
use native.Mathlib.Omega.{arith}
use lib.IntN.{ℤ, pos}
use Rattle.arith.proofs.Machine.{element}
use Rattle.lattice.proofs.BufferLaws.{Filled, filled_none, filled_more, filled-all}
use Rattle.pool.specs.Pool.{pooled, pooled_at}
use Rattle.pool.proofs.fill.Goals as goal

pub loop-i-init : goal.loop-i-init
loop-i-init c = filled_none _ _

pub pool_two-requires : goal.pool_two-requires
pool_two-requires c =
    let p = c.requires in
    (rw (element _ c.x-1.given) (p.first c.loop-i.i), rw (element _ c.y-1.given) (p.second c.loop-i.i), p.weights)

pub loop-i-preserved : goal.loop-i-preserved
loop-i-preserved c =
    let a = c.args.a in
    let b = c.args.b in
    filled_more (pooled_at a.samples.now a.weight b.samples.now b.weight) c.args.out.now c.loop-i.i c.loop-i.out _ (pos 0)
    (omega (arith, c.requires.fits)) c.loop-i.invariant
    (element _ c.pool_two.type_inv ∙ c.pool_two.ensures
    ∙ ap₂ (λ (p q : ℤ). pooled p a.weight q b.weight) (element _ c.x-1.given) (element _ c.y-1.given))

pub returns : goal.returns
returns c =
    let a = c.args.a in
    let b = c.args.b in
    let f = pooled_at a.samples.now a.weight b.samples.now b.weight in
    filled-all f c.args.out.now (length a.samples.now) c.loop-i.out
    (subst (λ (k : ℕ). Filled f c.args.out.now k c.loop-i.out) (omega arith) c.loop-i.invariant)
