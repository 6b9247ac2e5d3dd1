-- `corners::gather` meets its contract: the coefficients are read at their places, one after the other.
use mathlib.Core.Path.{◌≡◌, sym, ap, ◌∙◌}
use mathlib.Core.List.{List}
use Prim.Native.Nat.{ℕ, ◌<◌, ◌^◌}
use native.Mathlib.Omega.{arith}
use lib.ListN.{get_or, take}
use Rattle.std.proofs.lemmas.List.{get_or-take, length-take}
use Rattle.arith.proofs.Machine.{widened, near}
use Rattle.lattice.specs.Buffer.{at}
use Rattle.cell.specs.Coefficients.{coefficient_count}
use Rattle.coefficients.specs.declared.block.Block.{Block}
use Rattle.coefficients.specs.Blocks.{coefficient_index, Placed}
use Rattle.coefficients.proofs.BlockLaws.{orders-some, count_low}
use Rattle.coefficients.proofs.SpotLaws.{spot_in}
use Rattle.corners.proofs.BackLaws.{gathers-more}
use Rattle.corners.proofs.gather.Goals as goal

-- where number k stands
module _ (b : Block) (d : ℕ) (hd : d < 2 ^ b.axes) (size : ℕ) (e : size ≡ b.orders.count ^ b.axes) (ps : List ℕ)
    (placed : Placed b.orders.count d (b.orders.count ^ b.axes) ps) (k : ℕ) (l : k < size) where
  low : k < b.orders.count ^ b.axes
  low = rw (sym e) l

  place_is : get_or (take size ps) k 0 ≡ coefficient_index b.orders.count d k
  place_is = get_or-take size ps k 0 l ∙ placed.is k low

  place-low : get_or (take size ps) k 0 < coefficient_count b.orders.count b.axes
  place-low =
      let ok = b.sizes in
      rw place_is (spot_in b.orders.count b.axes (orders-some ok) d k hd low ok.axes-low ok.axes-high)

pub offset_bounds-cs-p : goal.offset_bounds-cs-p
offset_bounds-cs-p c =
    let l : c.loop-k.k < c.size.result = omega (arith, length-take {A = ℕ}) in
    let h = place-low c.args.b c.args.c c.requires.0 c.size.result c.size.ensures.0 c.put_places.new.ps c.put_places.ensures c.loop-k.k l in
    let few = count_low c.args.b.sizes in
    omega arith

pub bounds-cs-p : goal.bounds-cs-p
bounds-cs-p c =
    rw c.requires.1
    (place-low c.args.b c.args.c c.requires.0 c.size.result c.size.ensures.0 c.put_places.new.ps c.put_places.ensures c.loop-k.k
    (omega (arith, length-take {A = ℕ})))

pub loop-k-preserved : goal.loop-k-preserved
loop-k-preserved c =
    let k = c.loop-k.k in
    let l : k < c.size.result = omega (arith, length-take {A = ℕ}) in
    let x = at c.args.cs.now (get_or (take c.size.result c.put_places.new.ps) k 0) in
    gathers-more c.args.b.orders.count c.args.c k c.args.cs.now c.loop-k.xs _ (let few = c.size.ensures.1 in omega arith) c.loop-k.invariant
    (widened x c.xs-1.given ∙ ap (at c.args.cs.now)
    (place_is c.args.b c.args.c c.requires.0 c.size.result c.size.ensures.0 c.put_places.new.ps c.put_places.ensures k l))
    (rw (widened x c.xs-1.given) (near x c.xs-1.given))
