-- The second demand: coefficients exactly as in the paper, from estimates or from measured slopes; back gives the corner records that have
-- given
-- coefficients, and refuses 13 if and only if no permitted ones have them.
use Rattle.std.specs.Prelude.{◌≡◌, List, ◌⊎◌, ◌↔◌, ℕ, ◌≤◌, ◌^◌, ◌<◌, ℤ, nat_abs, length, take}
use Rattle.lattice.specs.declared.Shape.{Shape}
use Rattle.lattice.specs.declared.FullShape.{FullShape}
use Rattle.lattice.specs.Outcome.{done, refused}
use Rattle.lattice.specs.Buffer.{at, overwrite}
use Rattle.lattice.specs.Shape.{orders, orders_of, size, axes_outcome, degree_outcome, full_outcome}
use Rattle.lattice.specs.Axes.{Place, Field}
use Rattle.lattice.specs.Records.{records_field, entry_limit}
use Rattle.cell.specs.Cell.{place_at, Accepted, InCorners}
use Rattle.cell.specs.Coefficients.{coefficient_count}
use Rattle.estimate.specs.Estimate.{table_records, estimate_writes}
use Rattle.coefficients.specs.Coefficients.{coefficient_list, coefficients_outcome, coefficients_writes}
use Rattle.corners.specs.Corners.{PermittedCorners, HasCoefficients, back_outcome, back_writes}
use Rattle.claims.specs.Third.{AcceptedTable}

-- ---- forward

-- the coefficients call, lent the records rs: it is not refused, and `out` then holds the coefficients of the numbers g, each within 2^30,
-- and its old tail
pub record Converts (t : FullShape) (rs : List ℤ) (g : Field) (cell : List ℕ) (out : List ℤ) : Type 0 where
  pub taken : coefficients_outcome t rs (place_at cell) (length out) ≡ done tt
  pub written : coefficients_writes t rs (place_at cell) out
      ≡ overwrite (coefficient_list (orders t.shape) t.shape.axes (place_at cell) g) out
  pub within : (K : ℕ) → K < coefficient_count (orders t.shape) t.shape.axes
      → nat_abs (at (coefficient_list (orders t.shape) t.shape.axes (place_at cell) g) K) ≤ 2 ^ 30

-- an accepted cell, and a slice long enough
pub record Asked (s : Shape) (cell : List ℕ) (out : List ℤ) : Type 0 where
  pub here : Accepted s (place_at cell)
  pub room : coefficient_count (orders s) s.axes ≤ length out

-- from estimates: the call is lent exactly the records that estimation wrote, and converts the records that the rules under Estimates give
abbrev pub FromEstimates : Type 0
FromEstimates =
    (t : FullShape) (xs old : List ℤ) (cell : List ℕ) (out : List ℤ) → AcceptedTable t xs old → Asked t.shape cell out
    → Converts t (take (size t.shape) (estimate_writes t xs old)) (table_records t.shape xs) cell out

-- records as many as the shape has, of which those of the cell's corners are within their limits
pub record Measured (t : FullShape) (rs : List ℤ) (cell : List ℕ) : Type 0 where
  pub full : full_outcome t ≡ done tt
  pub many : length rs ≡ size t.shape
  pub within : (p : Place) → InCorners (orders t.shape) t.shape.axes (place_at cell) p
      → nat_abs (records_field t.shape rs p) ≤ entry_limit (orders t.shape) t.shape.axes p

-- from measured slopes
abbrev pub FromRecords : Type 0
FromRecords = (t : FullShape) (rs : List ℤ) (cell : List ℕ) (out : List ℤ) → Measured t rs cell → Asked t.shape cell out
    → Converts t rs (records_field t.shape rs) cell out

-- ---- back

-- n and d are permitted, and there are as many coefficients as asked for and room for as many entries
pub record BackAsked (n degree : ℕ) (cs out : List ℤ) : Type 0 where
  pub axes-ok : axes_outcome n ≡ done tt
  pub degree-ok : degree_outcome degree ≡ done tt
  pub many : length cs ≡ coefficient_count (orders_of degree) n
  pub room : coefficient_count (orders_of degree) n ≤ length out

-- permitted corner records that have the coefficients cs
pub record CornersOf (n degree : ℕ) (cs r : List ℤ) : Type 0 where
  pub permitted : PermittedCorners (orders_of degree) n r
  pub has : HasCoefficients (orders_of degree) n r cs

pub record ConvertsBack (n degree : ℕ) (cs out : List ℤ) : Type 0 where
  -- the answer is done or 13, and nothing else
  pub answer : (back_outcome n degree cs (length out) ≡ done tt) ⊎ (back_outcome n degree cs (length out) ≡ refused 13 0)
  -- done if and only if there are such corner records
  pub possible : (back_outcome n degree cs (length out) ≡ done tt) ↔ ((r : List ℤ) × CornersOf n degree cs r)
  -- there is one such list, and the slice then holds it and its old tail
  pub unique : (r q : List ℤ) → CornersOf n degree cs r → CornersOf n degree cs q → r ≡ q
  pub written : (r : List ℤ) → CornersOf n degree cs r → back_writes n degree cs out ≡ overwrite r out

abbrev pub Back : Type 0
Back = (n degree : ℕ) (cs out : List ℤ) → BackAsked n degree cs out → ConvertsBack n degree cs out

-- ---- the whole

-- for all tables, cells and buffers
pub record SecondDemand : Type 0 where
  pub from-estimates : FromEstimates
  pub from-records : FromRecords
  pub back : Back
