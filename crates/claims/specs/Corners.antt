-- "A query reads the 2^n corner records of its cell and nothing else of the table": by position, by cell and by float, refusals included.
use Rattle.std.specs.Prelude.{◌≡◌, List, ℤ, length}
use Rattle.lattice.specs.declared.FullShape.{FullShape}
use Rattle.lattice.specs.Shape.{orders}
use Rattle.lattice.specs.Axes.{Place}
use Rattle.lattice.specs.Records.{records_field}
use Rattle.cell.specs.Cell.{InCorners}
use Rattle.evaluate.specs.Evaluate.{Want}
use Rattle.claims.specs.Third.{Query, queried, cell_read}

-- two slices of one length with the same corner records of the cell that the query reads
pub record SameCorners (t : FullShape) (q : Query) (rs ts : List ℤ) : Type 0 where
  pub long : length rs ≡ length ts
  pub same : (p : Place) → InCorners (orders t.shape) t.shape.axes (cell_read t q) p
      → records_field t.shape rs p ≡ records_field t.shape ts p

-- give the same number or the same refusal
abbrev pub CornersOnly : Type 0
CornersOnly =
    (t : FullShape) (want : Want) (q : Query) (rs ts : List ℤ) → SameCorners t q rs ts → queried t rs want q ≡ queried t ts want q
