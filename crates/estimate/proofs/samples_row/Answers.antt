-- `samples_row` meets its contract: the row's start stays small, and the row lies in the samples.
use mathlib.Core.Path.{◌≡◌, ap}
use Prim.Native.Nat.{ℕ, ◌≤◌, ◌<◌, ◌+◌, ◌-◌, ◌*◌}
use native.Mathlib.Nat.{mul-le-mul}
use native.Mathlib.Omega.{arith}
use lib.ListN.{take, drop}
use Rattle.estimate.specs.declared.Grid.{Grid}
use Rattle.estimate.specs.Passes.{row_start, Grids}
use Rattle.estimate.proofs.samples_row.Goals as goal

module _ {g : Grid} (y z : ℕ) (ok : Grids g) (h : y < g.y.count) (k : z < g.z.count) where
  number : y + g.y.count * z ≤ 4160
  number = let l : z ≤ 64 = omega (arith, ok.z-high) in omega (arith, mul-le-mul ok.y-high l, ok.y-high)

  start : g.x.count * (y + g.y.count * z) ≤ 266240
  start = mul-le-mul ok.x-high number

pub returns : goal.returns
unfolding row_start
returns c =
    let g = c.args.g in
    let k : g.x.count * (c.args.y + g.y.count * c.args.z) + g.x.count - g.x.count * (c.args.y + g.y.count * c.args.z)
    ≡ g.x.count = omega arith in
    ap (λ (n : ℕ). take n (drop (g.x.count * (c.args.y + g.y.count * c.args.z)) c.args.xs.now)) k
