-- `query::located` meets its contract: the cells of the used axes, and what is beyond their starts.
use mathlib.Core.Path.{◌≡◌, refl}
use mathlib.Core.List.{[], ◌∷◌}
use Prim.Native.Nat.{ℕ, ◌*◌, ◌-◌}
use lib.ListN.{get_or}
use Rattle.arith.proofs.Choices.{by-3}
use Rattle.lattice.specs.Shape.{count}
use Rattle.query.proofs.Locate.{cell_below, cell-on-below}
use Rattle.query.proofs.located.Goals as goal

pub rest_of-requires : goal.rest_of-requires
rest_of-requires c = cell_below _ _ _ c.cell_of-i.ensures

pub rest_of-requires-2 : goal.rest_of-requires-2
rest_of-requires-2 c = cell-on-below _ _ _ _ c.cell_on-j.ensures

pub rest_of-requires-3 : goal.rest_of-requires-3
rest_of-requires-3 c = cell-on-below _ _ _ _ c.cell_on-k.ensures

pub returns : goal.returns
unfolding count
returns c =
    let at = c.args.q.step in
    let cell = c.cell_of-i.result ∷ c.cell_on-j.result ∷ c.cell_on-k.result ∷ [] in
    let step = c.rest_of.result ∷ c.rest_of-2.result ∷ c.rest_of-3.result ∷ [] in
    record {
      same = refl;
      in_cells = record {
        on_x = c.cell_of-i.ensures;
        on_y = c.cell_on-j.ensures;
        on_z = c.cell_on-k.ensures;
        rest = by-3 (λ (a : ℕ). get_or step a 0 ≡ get_or at a 0 - 256 * get_or cell a 0) c.rest_of.ensures c.rest_of-2.ensures
            c.rest_of-3.ensures;
      };
    }
