-- The records that estimation wrote, as a query reads them at the corners of an accepted cell: they are those of the rules, within their
-- limits, and the query gives the stages' number.
use mathlib.Core.Path.{◌≡◌, sym, ap, ◌∙◌}
use mathlib.Core.List.{List}
use Prim.Native.Nat.{ℕ, ◌+◌, ◌/◌, ◌≤◌, ◌<◌}
use native.Mathlib.Nat.{le_trans, le_of_eq, zero-div}
use native.Mathlib.Omega.{arith}
use lib.ListN.{length, take, drop, length-append}
use lib.Seq.{take_at}
use lib.IntN.{ℤ, nat_abs}
use Rattle.arith.proofs.Choices.{by-m}
use Rattle.lattice.specs.declared.Shape.{Shape}
use Rattle.lattice.specs.declared.FullShape.{FullShape}
use Rattle.lattice.specs.Outcome.{done}
use Rattle.lattice.specs.Buffer.{overwrite}
use Rattle.lattice.specs.Shape.{rounding_in, count, orders, size}
use Rattle.lattice.specs.Axes.{Place, Field}
use Rattle.lattice.specs.Records.{records_field, entry_limit}
use Rattle.lattice.proofs.OutcomeLaws.{first-passed, when-done}
use Rattle.lattice.proofs.ShapeLaws.{orders-range}
use Rattle.lattice.proofs.RecordsLaws.{in_table}
use Rattle.cell.specs.Cell.{Accepted, AtEnds, InCorners, corners_outcome}
use Rattle.cell.proofs.CornerLaws.{corners-pass}
use Rattle.estimate.specs.Estimate.{Estimable, table_records, records_of, estimate_outcome, estimate_writes}
use Rattle.estimate.proofs.CallLaws.{records-length, read_back, entry-limit}
use Rattle.evaluate.specs.Evaluate.{Want, last_axis, answer_by}
use Rattle.evaluate.proofs.AnswerLaws.{answer-local}
use Rattle.query.specs.Queries.{reading, ask_in}

-- ---- the slice that the query is lent

module _ (t : FullShape) (xs old : List ℤ) (taken : estimate_outcome t xs (length old) ≡ done tt) where
  abbrev s : Shape
  s = t.shape

  written : estimate_writes t xs old ≡ overwrite (records_of s xs) old
  unfolding estimate_writes
  written = sym (when-done (overwrite (records_of s xs) old) old taken)

  pub lent : take (size s) (estimate_writes t xs old) ≡ records_of s xs
  lent = ap (take (size s)) written ∙ take_at (records_of s xs) (drop (length (records_of s xs)) old) (size s) (records-length s xs)

  pub lent-room : size s ≤ length (estimate_writes t xs old)
  lent-room = rw written (simp length-append (let e = records-length s xs in omega arith))

-- ---- the corners of an accepted cell

-- the node of a number of a cell's end
end-node : (m c j : ℕ) → 2 ≤ m → m ≤ 3 → AtEnds m c j → (c ≤ j / m) × (j / m ≤ c + 1)
end-node m c j =
    by-m (λ m. AtEnds m c j → (c ≤ j / m) × (j / m ≤ c + 1)) (λ e. let u = e.low in let v = e.high in (omega arith, omega arith))
    (λ e. let u = e.low in let v = e.high in (omega arith, omega arith)) m

module _ (s : Shape) (cell : Place) (here : Accepted s cell) where
  pub at-node : (p : Place) → InCorners (orders s) s.axes cell p → (a : ℕ) → a < s.axes → (cell a ≤ p a / orders s)
      × (p a / orders s ≤ cell a + 1)
  at-node p x a l = end-node (orders s) (cell a) (p a) (orders-range s.degree).0 (orders-range s.degree).1 (x.used a l)

  pub inside : (p : Place) → InCorners (orders s) s.axes cell p → (a : ℕ) → a < s.axes → p a / orders s < count s a
  inside p x a l = let h = here.used a l in let k = (at-node p x a l).1 in omega arith

module _ (s : Shape) (xs : List ℤ) (room : ℕ) (e : Estimable s xs room) (cell : Place) (here : Accepted s cell) where
  pub field-same : (p : Place) → InCorners (orders s) s.axes cell p → records_field s (records_of s xs) p ≡ table_records s xs p
  field-same p x =
      read_back s xs p e.shape.axes-high
      (in_table s (λ a. p a / orders s) e.shape (inside s cell here p x)
      (λ a l. ap (λ (k : ℕ). k / orders s) (x.unused a l) ∙ zero-div (orders s))) x.unused

  pub field-within : (p : Place) → InCorners (orders s) s.axes cell p
      → nat_abs (records_field s (records_of s xs) p) ≤ entry_limit (orders s) s.axes p
  field-within p x = le_trans (le_of_eq (ap nat_abs (field-same p x))) (entry-limit s xs room e p)

  pub corners-done : corners_outcome s (records_of s xs) cell ≡ done tt
  corners-done = corners-pass s (records_of s xs) cell field-within e.shape here

-- what a query reads there
module _ (t : FullShape) (xs : List ℤ) (room : ℕ) (e : Estimable t.shape xs room) (cell : Place) (here : Accepted t.shape cell) where
  abbrev records : Field
  records = records_field t.shape (records_of t.shape xs)

  pub answer-same : (want : Want) (step : Place) → last_axis t.shape.axes want < t.shape.axes
      → answer_by (rounding_in t) (ask_in t want cell step) records
      ≡ answer_by (rounding_in t) (ask_in t want cell step) (table_records t.shape xs)
  answer-same want step last =
      answer-local (rounding_in t) (ask_in t want cell step) last records (table_records t.shape xs)
      (field-same t.shape xs room e cell here)

  pub reading-is : (want : Want) (step : Place) → last_axis t.shape.axes want < t.shape.axes
      → reading t (records_of t.shape xs) want cell step
      ≡ done (answer_by (rounding_in t) (ask_in t want cell step) (table_records t.shape xs))
  unfolding reading
  reading-is want step last =
      first-passed (corners_outcome t.shape (records_of t.shape xs) cell)
      (done (answer_by (rounding_in t) (ask_in t want cell step) records)) (corners-done t.shape xs room e cell here)
      ∙ ap done (answer-same want step last)
