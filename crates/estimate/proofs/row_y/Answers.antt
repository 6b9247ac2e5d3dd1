-- `row_y` meets its contract: a pass along y over three rows of the samples.
use mathlib.Core.Path.{◌≡◌, ap, ap₂, sym, ◌∙◌}
use mathlib.Core.Bool.{Bool}
use lib.IntN.{ℤ}
use Rattle.estimate.specs.Passes.{placed, since, pass_of, row_start}
use Prim.Native.Nat.{ℕ, ◌*◌, ◌<◌}
use native.Mathlib.Nat.{one-mul}
use native.Mathlib.Omega.{arith}
use Rattle.estimate.specs.declared.Grid.{Grid}
use Rattle.estimate.proofs.PassesLaws.{row_read, row_part, parts-lines, parts-pass}
use Rattle.estimate.proofs.RingLaws.{plain-three, made}
use Rattle.estimate.proofs.row_y.Goals as goal

-- the numbers of a row
numbers : (g : Grid) → g.z.orders ≡ 1 → g.z.orders * g.x.count ≡ g.x.count
numbers g e = rw e (one-mul g.x.count)

only : {n : ℕ} → n ≡ 1 → 0 < n
only e = omega arith

pub samples_row-low-requires : goal.samples_row-low-requires
samples_row-low-requires c =
    let s = c.requires.samples in (s.0, omega (arith, c.node_before.ensures.1, s.1), only s.3)

pub samples_row-mid-requires : goal.samples_row-mid-requires
samples_row-mid-requires c = let s = c.requires.samples in (s.0, s.1, only s.3)

pub samples_row-high-requires : goal.samples_row-high-requires
samples_row-high-requires c = let s = c.requires.samples in (s.0, c.node_behind.ensures.1, only s.3)

pub pass-requires : goal.pass-requires
pass-requires c =
    let g = c.args.g in
    let xs = c.args.xs.now in
    let s = c.requires.samples in
    let low : c.node_before.result < g.y.count = omega (arith, c.node_before.ensures.1, s.1) in
    let here = row_part g xs c.args.y 0 s.0 s.1 (only s.3) c.samples_row-mid.ensures in
    record {
      order_count = (s.0.grid.my, ap (λ (n : ℕ). g.y.orders * n) here.long ∙ (rw (numbers g s.2) at c.requires.room));
      read = parts-lines (row_part g xs _ 0 s.0 low (only s.3) c.samples_row-low.ensures) here
          (row_part g xs _ 0 s.0 c.node_behind.ensures.1 (only s.3) c.samples_row-high.ensures) (
            row_read g xs _ 0 s.0 low (only s.3),
            row_read g xs _ 0 s.0 s.1 (only s.3),
            row_read g xs _ 0 s.0 c.node_behind.ensures.1
                (only s.3),
          );
    }

pub returns : goal.returns
returns c =
    let g = c.args.g in
    let xs = c.args.xs.now in
    let old = c.args.row.now in
    let s = c.requires.samples in
    let e = numbers g s.2 in
    let low : c.node_before.result < g.y.count = omega (arith, c.node_before.ensures.1, s.1) in
    let row : ℕ → ℕ → ℤ = λ v. since xs (row_start g v 0) in
    made s.0 _ c.args.y _ c.node_before.ensures.0 c.node_behind.ensures.0
    (plain-three s.0 _ c.args.y _ 0 low s.1 c.node_behind.ensures.1 (only s.3) s.2) old
    (omega (arith, c.requires.room))
    (parts-pass (row_part g xs _ 0 s.0 low (only s.3) c.samples_row-low.ensures)
    (row_part g xs c.args.y 0 s.0 s.1 (only s.3) c.samples_row-mid.ensures)
    (row_part g xs _ 0 s.0 c.node_behind.ensures.1 (only s.3) c.samples_row-high.ensures) c.at_border.result g.y.orders old s.0.grid.my.0
    c.pass.ensures
    ∙ ap₂ (λ (k : ℕ) (b : Bool). placed 0 (g.y.orders * k) (pass_of b g.y.orders (row c.node_before.result) (row c.args.y)
    (row c.node_behind.result)) old)
    (sym e) c.at_border.ensures)
