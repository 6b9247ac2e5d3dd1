-- `coefficients::corners_layout` meets its contract: corners that are not refused lie in the records, each entry within its limit.
use mathlib.Core.Path.{sym, subst}
use Prim.Native.Nat.{ℕ}
use Rattle.cell.specs.Cell.{place_at}
use Rattle.coefficients.specs.Blocks.{Gathered}
use Rattle.coefficients.proofs.TableCell.{corners-gathered}
use Rattle.coefficients.proofs.corners_layout.Goals as goal

pub returns-clause-layout : goal.returns-clause-layout
returns-clause-layout c =
    let a = c.args in
    let l = c.layout_of-l in (
      l.ensures,
      subst (λ (m : ℕ). Gathered m a.s.axes l.result a.records.now) (sym l.ensures.orders-are)
          (corners-gathered a.s c.requires.0 (place_at a.cell) c.requires.2 a.records.now c.requires.1 l.result l.ensures
          (sym c.in_ok-check_corners.ensures)),
    )
