-- `filled_runs::numbers` is safe: what is not refused may be filled.
use mathlib.Core.Path.{◌≡◌, sym}
use mathlib.Core.List.{List, [], ◌∷◌}
use Prim.Native.Nat.{ℕ, ◌≤◌}
use native.Mathlib.Omega.{arith}
use lib.IntN.{ℤ}
use lib.ListN.{length}
use Rattle.arith.proofs.Machine.{shifted}
use Rattle.lattice.specs.declared.FullShape.{FullShape}
use Rattle.lattice.specs.Outcome.{done}
use Rattle.lattice.proofs.ShapeLaws.{orders-range}
use Rattle.cell.specs.Cell.{place_at}
use Rattle.coefficients.specs.Coefficients.{request_outcome}
use Rattle.coefficients.proofs.CallLaws.{Asked, asked}
use Rattle.filled_runs.proofs.numbers.Goals as goal

-- the cell at the origin
abbrev cell : List ℕ
cell = 0 ∷ 0 ∷ 0 ∷ []

facts : (t : FullShape) (rs : List ℤ) → done tt ≡ request_outcome t (length rs) (place_at cell) 216
    → Asked t.shape (length rs) (place_at cell) 216
facts t rs h = asked t (length rs) cell 216 (sym h)

pub corners_layout-requires : goal.corners_layout-requires
corners_layout-requires c = let f = facts c.args.t c.args.records.now c.in-Ok.ensures in (f.shape, f.many, f.here)

pub overflow_shl-n : goal.overflow_shl-n
overflow_shl-n c = let h = (facts c.args.t c.args.records.now c.in-Ok.ensures).shape.axes-high in omega arith

pub filled-requires : goal.filled-requires
filled-requires c =
    let f = (facts c.args.t c.args.records.now c.in-Ok.ensures).shape in
    let l = c.in-Ok-corners_layout.l in
    let laid = c.in-Ok-corners_layout.ensures.layout.0 in
    let m : (2 ≤ l.orders) × (l.orders ≤ 3) = rw laid.orders-are (orders-range c.args.t.shape.degree) in (
      m.0,
      m.1,
      f.axes-low,
      f.axes-high,
      rw (← shifted c.args.t.shape.axes f.axes-high) c.if-k-n.false,
      c.in-Ok-corners_layout.ensures.layout.1,
    )
