-- `coefficients::store` meets its contract: the numbers are scattered to their places.
use mathlib.Core.Path.{◌≡◌, refl, sym, ap, ◌∙◌}
use Prim.Native.Nat.{ℕ, ◌≤◌, ◌<◌, ◌^◌}
use native.Mathlib.Nat.{lt_of_lt_of_le}
use native.Mathlib.Omega.{arith}
use lib.Dec.{lit<}
use lib.IntN.{nat_abs}
use lib.ListN.{get_or, take}
use mir.Syntax.{w32}
use mir.Val.{to_z, of_z}
use mir.Facts.{to_z-of_z}
use Rattle.std.proofs.lemmas.List.{get_or-take, length-take}
use Rattle.arith.proofs.Abs.{sfits-abs}
use Rattle.arith.proofs.Machine.{kept}
use Rattle.lattice.specs.Buffer.{at}
use mathlib.Core.List.{List}
use Rattle.coefficients.specs.declared.block.Block.{Block}
use Rattle.coefficients.specs.Blocks.{coefficient_index, Placed, scatter}
use Rattle.coefficients.proofs.BlockLaws.{orders-some, count_low}
use Rattle.coefficients.proofs.SpotLaws.{spot_in, scatter-more}
use Rattle.coefficients.proofs.store.Goals as goal

-- where number k stands
module _ (b : Block) (d : ℕ) (hd : d < 2 ^ b.axes) (size : ℕ) (e : size ≡ b.orders.count ^ b.axes) (ps : List ℕ)
    (placed : Placed b.orders.count d (b.orders.count ^ b.axes) ps) (k : ℕ) (l : k < size) where
  low : k < b.orders.count ^ b.axes
  low = rw (sym e) l

  place_is : get_or (take size ps) k 0 ≡ coefficient_index b.orders.count d k
  place_is = get_or-take size ps k 0 l ∙ placed.is k low

  place-low : get_or (take size ps) k 0 < 216
  place-low =
      let ok = b.sizes in
      rw place_is
      (lt_of_lt_of_le (spot_in b.orders.count b.axes (orders-some ok) d k hd low ok.axes-low ok.axes-high) (count_low ok))

pub loop-k-init : goal.loop-k-init
unfolding scatter
loop-k-init c = refl

pub offset_bounds-out-p : goal.offset_bounds-out-p
offset_bounds-out-p c =
    let l : c.loop-k.k < c.size.result = omega (arith, length-take {A = ℕ}) in
    let h = place-low c.args.b c.args.c c.requires.0 c.size.result c.size.ensures.0 c.put_places.new.ps c.put_places.ensures c.loop-k.k l in
    omega arith

pub bounds-out-p : goal.bounds-out-p
bounds-out-p c =
    place-low c.args.b c.args.c c.requires.0 c.size.result c.size.ensures.0 c.put_places.new.ps c.put_places.ensures c.loop-k.k
    (omega (arith, length-take {A = ℕ}))

pub loop-k-preserved : goal.loop-k-preserved
loop-k-preserved c =
    let k = c.loop-k.k in
    let z = at c.args.zs.now k in
    let l : k < c.size.result = omega (arith, length-take {A = ℕ}) in
    let h : nat_abs z ≤ 2 ^ 30 = c.requires.1 k (rw (sym c.size.ensures.0) l) in
    scatter-more (coefficient_index c.args.b.orders.count c.args.c) (at c.args.zs.now) c.args.out.now c.loop-k.out k _ _ c.loop-k.invariant
    (place_is c.args.b c.args.c c.requires.0 c.size.result c.size.ensures.0 c.put_places.new.ps c.put_places.ensures k l)
    (ap (λ y. to_z w32 (of_z w32 y)) (kept z (2 ^ 30) h (lit< tt)) ∙ to_z-of_z (sfits-abs {w = w32} z (omega arith)))
