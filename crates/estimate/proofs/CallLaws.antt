-- What follows where estimation is not refused: the facts of the table, and every record within its limits and found again by its place.
use mathlib.Core.Path.{◌≡◌, ap, ◌∙◌}
use mathlib.Core.List.{List}
use Prim.Native.Nat.{ℕ, ◌*◌, ◌/◌, ◌^◌, ◌≤◌}
use native.Mathlib.Nat.{le_trans, mul-le-mul_right, div-mul-le_self, div-le_self}
use lib.Dec.{leb, eqb}
use lib.IntN.{ℤ, pos, nat_abs}
use lib.ListN.{length}
use borrow.Author.Tests.{leb-true, eqb-true}
use Rattle.lattice.specs.declared.Shape.{Shape}
use Rattle.lattice.specs.declared.FullShape.{FullShape}
use Rattle.lattice.specs.Outcome.{Check, done, refuse_unless, first}
use Rattle.lattice.specs.Shape.{count, orders, nodes, size, full_outcome}
use Rattle.lattice.specs.Axes.{Place}
use Rattle.lattice.specs.Records.{samples_field, records_field, entry_index, entry_place, total_order, sample_limit, entry_limit, limit_outcome}
use Rattle.lattice.proofs.OutcomeLaws.{first_done, refuse-done}
use Rattle.lattice.proofs.BufferLaws.{length-tabulate, get_d_tabulate}
use Rattle.lattice.proofs.ShapeLaws.{shaped, nodes-is}
use Rattle.lattice.proofs.StepLaws.{full-shape}
use Rattle.lattice.proofs.RecordsLaws.{InTable, index_below, place-back, limit-each}
use Rattle.estimate.specs.Estimate.{table_records, records_of, estimate_limit, estimate_outcome, Estimable}
use Rattle.estimate.specs.Passes.{grid_of, Samples}
use Rattle.estimate.proofs.EstimateLaws.{limits}
use Rattle.estimate.proofs.RowsLaws.{grids}

-- ---- a table that estimation takes

module _ (t : FullShape) (xs : List ℤ) (room : ℕ) (h : estimate_outcome t xs room ≡ done tt) where
  abbrev s : Shape
  s = t.shape

  abbrev many : Check
  many = refuse_unless (eqb (length xs) (nodes s)) 4 0

  abbrev roomy : Check
  roomy = refuse_unless (leb (size s) room) 9 0

  abbrev small : Check
  small = limit_outcome 19 (estimate_limit s.axes) xs

  pub estimated-full : full_outcome t ≡ done tt
  unfolding estimate_outcome
  estimated-full = (first_done (full_outcome t) (first many (first roomy small)) tt h).0

  pub estimated : Estimable t.shape xs room
  unfolding estimate_outcome
  estimated =
      let a = first_done (full_outcome t) (first many (first roomy small)) tt h in
      let b = first_done many (first roomy small) tt a.1 in
      let c = first_done roomy small tt b.1 in
      record {
        shape = shaped s (full-shape t a.0);
        whole = eqb-true (length xs) (nodes s) (refuse-done (eqb (length xs) (nodes s)) 4 0 b.0);
        small = limit-each 19 (estimate_limit s.axes) xs c.1;
        fits = leb-true (size s) room (refuse-done (leb (size s) room) 9 0 c.0);
      }

-- the limit, doubled once an axis, is within that of samples
limit-doubled : (n : ℕ) → estimate_limit n * 2 ^ n ≤ sample_limit
unfolding estimate_limit
limit-doubled n = div-mul-le_self sample_limit (2 ^ n)

limit-low : (n : ℕ) → estimate_limit n ≤ sample_limit
unfolding estimate_limit
limit-low n = div-le_self sample_limit (2 ^ n)

pub grid-samples : (s : Shape) (xs : List ℤ) (room : ℕ) → Estimable s xs room → Samples (grid_of s) xs
unfolding grid_of
grid-samples s xs room ok =
    record {
      grid = grids s ok.shape;
      whole = ok.whole ∙ nodes-is s;
      small = λ i. le_trans (ok.small i) (limit-low s.axes);
    }

-- ---- its records

pub records-length : (s : Shape) (xs : List ℤ) → length (records_of s xs) ≡ size s
unfolding records_of
records-length s xs = length-tabulate (size s) (λ i. table_records s xs (entry_place s i))

-- an entry is read back at its place
pub read_back : (s : Shape) (xs : List ℤ) (p : Place) → s.axes ≤ 3 → InTable s (λ a. p a / orders s) → ((a : ℕ) → s.axes ≤ a → p a ≡ 0)
    → records_field s (records_of s xs) p ≡ table_records s xs p
unfolding records_field records_of
read_back s xs p l here none =
    get_d_tabulate (size s) (λ i. table_records s xs (entry_place s i)) (entry_index s p) (pos 0) (index_below s p here none)
    ∙ ap (table_records s xs) (place-back s p here none l)

-- an entry of total order q lies within ±32768·2^q
pub entry-limit : (s : Shape) (xs : List ℤ) (room : ℕ) → Estimable s xs room → (p : Place)
    → nat_abs (table_records s xs p) ≤ entry_limit (orders s) s.axes p
unfolding entry_limit table_records samples_field
entry-limit s xs room ok p =
    le_trans (limits (estimate_limit s.axes) (orders s) s.axes (count s) (samples_field s xs) (λ q. ok.small _) p)
    (mul-le-mul_right (2 ^ total_order (orders s) s.axes p) (limit-doubled s.axes))
