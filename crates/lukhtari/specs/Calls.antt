-- The calls of the host: what each takes, replies and leaves in the slice that it is lent, by the key that it names.
use Rattle.std.specs.Prelude.{ℕ, false, List, ℤ, Float, length}
use Rattle.arith.specs.Choice.{pick}
use Rattle.lattice.specs.declared.FullShape.{FullShape}
use Rattle.lattice.specs.Outcome.{Outcome, refused, when_done}
use Rattle.lattice.specs.Buffer.{overwrite}
use Rattle.lattice.specs.Axes.{Place}
use Rattle.estimate.specs.Estimate.{estimate_outcome, estimate_writes}
use Rattle.coefficients.specs.Coefficients.{coefficients_outcome, coefficients_writes}
use Rattle.corners.specs.Corners.{back_outcome, back_writes}
use Rattle.evaluate.specs.Evaluate.{dose, slope_along, curvature_along}
use Rattle.query.specs.Queries.{Position, by_cell, by_position, cell_mark, position_mark}
use Rattle.float_query.specs.Floats.{by_float}
use Rattle.table_file.specs.File.{Header, read_outcome, samples_in, write_outcome, file_of}
use Rattle.import.specs.Import.{import_outcome, import_writes}
use Rattle.ramp.specs.Ramp.{ramp_outcome, ramp_writes}
use Rattle.powers.specs.Powers.{powers_outcome, powers_writes}
use Rattle.pool.specs.Pool.{Measurement, pool_outcome, pool_writes}
use Rattle.totals.specs.Totals.{cell_total, box_total}
use Rattle.lukhtari.specs.declared.keys.Right.{Right}
use Rattle.lukhtari.specs.declared.keys.Right.TheVariants.{
  Dose,
  DoseInCell,
  DoseFloat,
  Slope,
  SlopeInCell,
  SlopeFloat,
  Ramp,
  Read,
  Write,
  Import,
  Estimate,
  Pool,
  Coefficients,
  Corners,
  Powers,
  Curvature,
  CurvatureInCell,
  CellTotal,
  BoxTotal,
}
use Rattle.lukhtari.specs.Host.{done_of, whole_from, marked_from, real_from, table_from, ramped_from, total_from, written_from}
use Rattle.lukhtari.specs.Rights.{holds}

-- a call with its arguments, all but the key and the slice that it is lent
pub data Call : Right → Type 0 where
  dose_at : FullShape → (records : List ℤ) → Position → Call Dose
  dose_in_cell : FullShape → (records : List ℤ) → (cell u : Place) → Call DoseInCell
  dose_at_float : FullShape → (records : List ℤ) → (position : ℕ → Float) → Call DoseFloat
  slope_at : FullShape → (records : List ℤ) → Position → (axis : ℕ) → Call Slope
  slope_in_cell : FullShape → (records : List ℤ) → (cell u : Place) → (axis : ℕ) → Call SlopeInCell
  slope_at_float : FullShape → (records : List ℤ) → (position : ℕ → Float) → (axis : ℕ) → Call SlopeFloat
  ramp_of : FullShape → (records positions : List ℤ) → Call Ramp
  read_file : (bytes : List ℕ) → Call Read
  write_file : Header → (samples : List ℤ) → Call Write
  import_text : FullShape → (text : List ℕ) → Call Import
  estimate_from : FullShape → (samples : List ℤ) → Call Estimate
  pool_two : (a b : Measurement) → Call Pool
  coefficients_of : FullShape → (records : List ℤ) → (cell : Place) → Call Coefficients
  corners_of : (axes degree : ℕ) → (coefficients : List ℤ) → Call Corners
  powers_of : FullShape → (records : List ℤ) → (cell : Place) → Call Powers
  curvature_at : FullShape → (records : List ℤ) → Position → (axis : ℕ) → Call Curvature
  curvature_in_cell : FullShape → (records : List ℤ) → (cell u : Place) → (axis : ℕ) → Call CurvatureInCell
  total_of_cell : FullShape → (records : List ℤ) → (cell : Place) → Call CellTotal
  total_of_box : FullShape → (records : List ℤ) → (first last : Place) → Call BoxTotal

-- 30, at place 0
abbrev pub no_right : {A : Type 0} → Outcome A
no_right = refused 30 0

-- the struct that a call gives, what it says without the right, and the slice that the call is lent
pub record Form : Type 1 where
  pub Reply : Type 0
  pub refusal : Reply
  pub Lent : Type 0

module _ {R : Type 0} where
  -- no slice
  abbrev pub gives : R → Form
  gives r = record { Reply = R; refusal = r; Lent = Unit {0} }

  -- a slice of numbers of one kind
  abbrev pub fills : Type 0 → R → Form
  fills A r = record { Reply = R; refusal = r; Lent = List A }

abbrev pub form : Right → Form
form Dose = gives (marked_from no_right false)
form DoseInCell = gives (marked_from no_right false)
form DoseFloat = gives (real_from no_right)
form Slope = gives (whole_from no_right)
form SlopeInCell = gives (whole_from no_right)
form SlopeFloat = gives (real_from no_right)
form Ramp = fills ℤ (ramped_from no_right)
form Read = fills ℤ (table_from no_right)
form Write = fills ℕ (written_from no_right)
form Import = fills ℤ (done_of no_right)
form Estimate = fills ℤ (done_of no_right)
form Pool = fills ℤ (done_of no_right)
form Coefficients = fills ℤ (done_of no_right)
form Corners = fills ℤ (done_of no_right)
form Powers = fills ℤ (done_of no_right)
form Curvature = gives (whole_from no_right)
form CurvatureInCell = gives (whole_from no_right)
form CellTotal = gives (total_from no_right)
form BoxTotal = gives (total_from no_right)

-- where the key holds the right: the reply to a call, and what the lent slice holds afterwards
abbrev pub answer : {right : Right} → Call right → (form right).Lent → (form right).Reply × (form right).Lent
answer (dose_at t rs p) out = (marked_from (by_position t rs dose p) (position_mark t rs dose p), out)
answer (dose_in_cell t rs cell u) out = (marked_from (by_cell t rs dose cell u) (cell_mark t rs dose cell u), out)
answer (dose_at_float t rs p) out = (real_from (by_float t rs dose p), out)
answer (slope_at t rs p axis) out = (whole_from (by_position t rs (slope_along axis) p), out)
answer (slope_in_cell t rs cell u axis) out = (whole_from (by_cell t rs (slope_along axis) cell u), out)
answer (slope_at_float t rs p axis) out = (real_from (by_float t rs (slope_along axis) p), out)
answer (ramp_of t rs ps) out = (ramped_from (ramp_outcome t rs ps (length out)), ramp_writes t rs ps out)
answer (read_file bytes) out = let o = read_outcome bytes (length out) in (table_from o, when_done o (overwrite (samples_in bytes) out) out)
answer (write_file h samples) out = let o = write_outcome h samples (length out) in
    (written_from o, when_done o (overwrite (file_of h samples) out) out)
answer (import_text t text) out = (done_of (import_outcome t text (length out)), import_writes t text out)
answer (estimate_from t samples) out = (done_of (estimate_outcome t samples (length out)), estimate_writes t samples out)
answer (pool_two a b) out = (done_of (pool_outcome a b (length out)), pool_writes a b out)
answer (coefficients_of t rs cell) out = (done_of (coefficients_outcome t rs cell (length out)), coefficients_writes t rs cell out)
answer (corners_of axes degree cs) out = (done_of (back_outcome axes degree cs (length out)), back_writes axes degree cs out)
answer (powers_of t rs cell) out = (done_of (powers_outcome t rs cell (length out)), powers_writes t rs cell out)
answer (curvature_at t rs p axis) out = (whole_from (by_position t rs (curvature_along axis) p), out)
answer (curvature_in_cell t rs cell u axis) out = (whole_from (by_cell t rs (curvature_along axis) cell u), out)
answer (total_of_cell t rs cell) out = (total_from (cell_total t rs cell), out)
answer (total_of_box t rs first last) out = (total_from (box_total t rs first last), out)

module _ {right : Right} where
  -- the reply to a call that names this key
  abbrev pub reply : (key : ℕ) → Call right → (form right).Lent → (form right).Reply
  reply key call out = pick (holds key right) (answer call out).0 (form right).refusal

  -- what the lent slice holds after it
  abbrev pub left : (key : ℕ) → Call right → (form right).Lent → (form right).Lent
  left key call out = pick (holds key right) (answer call out).1 out
