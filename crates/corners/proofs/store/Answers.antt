-- `corners::store` meets its contract: number after number passes its test and is written; the first that does not ends the loop.
use mathlib.Core.Path.{◌≡◌, refl, sym, ◌∙◌}
use mathlib.Core.List.{List}
use Prim.Native.Nat.{ℕ, ◌≤◌, ◌<◌, ◌+◌, ◌^◌, ◌*◌}
use native.Mathlib.Nat.{mul-le-mul}
use native.Mathlib.Omega.{arith}
use lib.Dec.{lit<}
use lib.IntN.{ℤ, nat_abs}
use lib.Signed.{mag}
use mir.Syntax.{w32, w64}
use mir.Val.{to_z, of_z}
use Rattle.std.proofs.Common.{rules}
use Rattle.arith.specs.Int.{floor_div}
use Rattle.arith.proofs.Choices.{clash}
use Rattle.arith.proofs.Machine.{kept, element}
use Rattle.lattice.specs.Outcome.{Outcome, Check, done, refused, refuse_unless, first, first_of}
use Rattle.lattice.specs.Buffer.{at}
use Rattle.lattice.proofs.OutcomeLaws.{first_of-stops, first_of-more, first_done, handed_on, done-same}
use Rattle.coefficients.specs.Blocks.{scatter}
use Rattle.coefficients.proofs.BlockLaws.{corner-low}
use Rattle.coefficients.proofs.SpotLaws.{scatter-more}
use Rattle.corners.specs.Corners.{whole_within}
use Rattle.corners.specs.Back.{block_test}
use Rattle.corners.proofs.store.Goals as goal

-- what a test says of number k, its limit and the number as they are held
module _ (n : ℕ) (limits zs : List ℤ) (k : ℕ) (limit-fits : mag (at limits k) < 2 ^ 31) (low : nat_abs (at zs k) ≤ 2 ^ 50) where
  abbrev told : Outcome ℤ
  told =
      first
      (refuse_unless (whole_within n (nat_abs (to_z w32 (of_z w32 (at limits k)))) (to_z w64 (of_z w64 (at zs k)))) 13 0)
      (done (floor_div (to_z w64 (of_z w64 (at zs k))) (2 ^ n)))

  told-is : told ≡ first (block_test n limits (at zs) k) (done (floor_div (at zs k) (2 ^ n)))
  told-is = rw (element (at limits k) limit-fits, kept (at zs k) (2 ^ 50) low (lit< tt)) refl

-- a refusal is that of the test
refused_by : (a : Check) (v : ℤ) (n p : ℕ) → refused n p ≡ first a (done v) → a ≡ refused n p
refused_by (done u) v n p h = clash (cc)
refused_by (refused k q) v n p h = cc

pub loop-k-init : goal.loop-k-init
unfolding first_of scatter
loop-k-init c = (refl, refl)

pub returns-in_err-out-clause-result_value : goal.returns-in_err-out-clause-result_value
returns-in_err-out-clause-result_value c =
    let a = c.args in
    let k = c.loop-k.k in
    let l : k < a.b.orders.count ^ a.b.axes = rw (sym c.size-size.ensures.0) c.loop-k-test.true in
    handed_on _ _ c.from_residual.ensures
    ∙ sym (first_of-stops (a.b.orders.count ^ a.b.axes) k (block_test a.b.axes a.limits.now.limits (at a.zs.now)) _ _ l c.loop-k.invariant.0
    (refused_by _ _ _ _
    (c.in_err-out.ensures ∙ told-is a.b.axes a.limits.now.limits a.zs.now k c.entry-arg-1.given (c.requires.1 k l))))

pub bounds-out-first : goal.bounds-out-first
bounds-out-first c =
    let e = c.size-size.ensures.1 in
    let h = corner-low c.args.b.sizes c.args.c c.requires.0 in
    let z = mul-le-mul {n₁ = c.size-size.result} {m₁ = c.args.c + 1} {n₂ = 27} {m₂ = 8} e (omega arith) in
    omega arith

pub loop-k-preserved : goal.loop-k-preserved
loop-k-preserved c =
    let a = c.args in
    let k = c.loop-k.k in
    let l : k < a.b.orders.count ^ a.b.axes = rw (sym c.size-size.ensures.0) c.loop-k-test.true in
    let h = first_done (block_test a.b.axes a.limits.now.limits (at a.zs.now) k) (done (floor_div (at a.zs.now k) (2 ^ a.b.axes)))
    c.in_ok-out.field-0
    (sym (c.in_ok-out.ensures ∙ told-is a.b.axes a.limits.now.limits a.zs.now k c.entry-arg-1.given (c.requires.1 k l))) in (
      first_of-more k (block_test a.b.axes a.limits.now.limits (at a.zs.now)) c.loop-k.invariant.0 h.0,
      scatter-more (λ j. c.size-size.result * a.c + j) (λ j. floor_div (at a.zs.now j) (2 ^ a.b.axes)) a.out.now c.loop-k.out k _ _
          c.loop-k.invariant.1 refl (element c.in_ok-out.field-0 (search rules) ∙ sym (done-same _ _ h.1)),
    )
