-- `row_z` meets its contract: it is one pass over three rows of the samples.
use mathlib.Core.Bool.{Bool}
use mathlib.Core.List.{List}
use mathlib.Core.Path.{◌≡◌, ap, ◌∙◌}
use Prim.Native.Nat.{ℕ, ◌*◌}
use native.Mathlib.Omega.{arith}
use lib.IntN.{ℤ}
use Rattle.estimate.specs.declared.Grid.{Grid}
use Rattle.estimate.specs.Passes.{placed, since, before, behind, at_border, pass_of, orders_of_row, row_start, row_z, Grids}
use Rattle.estimate.proofs.PlacedLaws.{placed_same}
use Rattle.estimate.proofs.PassesLaws.{row_read, row_part, parts-lines, parts-pass, pass-is}
use Rattle.estimate.proofs.row_z.Goals as goal

-- the pass gives the row
made : (g : Grid) → Grids g → (xs old : List ℤ) (y z : ℕ) {next : List ℤ} {border : Bool} {u v : ℕ}
    → border ≡ at_border g.z.count z → u ≡ before z → v ≡ behind g.z.count z
    → next ≡ placed 0 (g.z.orders * g.x.count) (pass_of border g.z.orders (since xs (row_start g y u)) (since xs (row_start g y z))
    (since xs (row_start g y v))) old
    → next ≡ placed 0 (g.z.orders * g.x.count) (row_z g xs y z) old
unfolding row_z
made g ok xs old y z border lo hi e =
    let row : ℕ → ℕ → ℤ = λ v. since xs (row_start g y v) in
    (rw (border, lo, hi) at e)
    ∙ placed_same 0 (g.z.orders * g.x.count) (pass_of (at_border g.z.count z) g.z.orders (row (before z)) (row z) (row
    (behind g.z.count z)))
    (orders_of_row g.z.orders g.z.count row z) old (λ t l. pass-is g.z.orders g.z.count z ok.z-used row t)

pub pass-requires : goal.pass-requires
pass-requires c =
    let g = c.args.g in
    let xs = c.args.xs.now in
    let y = c.args.y in
    let ok = c.requires.samples in
    let h = c.requires.y_lt_cy in
    let low = h.0 in
    let here = row_part g xs y c.args.z ok h.0 h.1 c.samples_row-mid.ensures in
    record {
      order_count = (ok.grid.mz, ap (λ (n : ℕ). g.z.orders * n) here.long ∙ h.2);
      read = parts-lines (row_part g xs y _ ok h.0 (omega (arith, c.node_before.ensures.1, h.1)) c.samples_row-low.ensures) here
          (row_part g xs y _ ok h.0 c.node_behind.ensures.1 c.samples_row-high.ensures) (
            row_read g xs y _ ok h.0 (omega (arith, c.node_before.ensures.1, h.1)),
            row_read g xs y _ ok h.0 h.1,
            row_read g xs y _ ok h.0
                c.node_behind.ensures.1,
          );
    }

pub returns : goal.returns
returns c =
    let g = c.args.g in
    let xs = c.args.xs.now in
    let y = c.args.y in
    let z = c.args.z in
    let old = c.args.out.now in
    let ok = c.requires.samples in
    let h = c.requires.y_lt_cy in
    made g ok.grid xs old y z c.at_border.ensures c.node_before.ensures.0 c.node_behind.ensures.0
    (parts-pass (row_part g xs y _ ok h.0 (omega (arith, c.node_before.ensures.1, h.1)) c.samples_row-low.ensures)
    (row_part g xs y z ok h.0 h.1 c.samples_row-mid.ensures)
    (row_part g xs y _ ok h.0 c.node_behind.ensures.1 c.samples_row-high.ensures) c.at_border.result g.z.orders old ok.grid.mz.0
    c.pass.ensures)
