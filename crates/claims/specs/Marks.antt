-- The mark of an answer: a marked one equals the exact interpolant, and both editions mark the same.
use Rattle.std.specs.Prelude.{◌≡◌, Bool, true, false, List, ℕ, ℤ, pos, ◌*ℤ◌}
use Rattle.lattice.specs.declared.Shape.{Shape}
use Rattle.lattice.specs.declared.FullShape.{FullShape}
use Rattle.lattice.specs.Outcome.{done}
use Rattle.lattice.specs.Shape.{full_shape}
use Rattle.lattice.specs.Records.{records_field}
use Rattle.cell.specs.Cell.{place_at}
use Rattle.evaluate.specs.Evaluate.{Want, exact_sum, exact_divisor}
use Rattle.query.specs.Queries.{position_at, cell_mark, position_mark}
use Rattle.claims.specs.Third.{Query, at_position, in_cell, at_floats, queried, asked}

-- by position and by cell; by float there is none
unfoldable pub mark_of : FullShape → List ℤ → Want → Query → Bool
mark_of t rs want (at_position p) = position_mark t rs want (position_at p)
mark_of t rs want (in_cell cell u) = cell_mark t rs want (place_at cell) (place_at u)
mark_of t rs want (at_floats x) = false

-- a marked answer equals the exact interpolant, multiplied out: the exact value at the cell that the query reads, from whatever records it
-- is lent, in either edition
abbrev pub MarkedExact : Type 0
MarkedExact =
    (t : FullShape) (rs : List ℤ) (want : Want) (q : Query) (v : ℤ) → queried t rs want q ≡ done v → mark_of t rs want q ≡ true
    → exact_sum (asked t want q) (records_field t.shape rs) ≡ v *ℤ pos (exact_divisor (asked t want q))

-- both editions mark the same answers: of a query that is answered
abbrev pub MarksAgree : Type 0
MarksAgree =
    (s : Shape) (numbers : List ℕ) (rs : List ℤ) (want : Want) (q : Query) (v : ℤ)
    → queried (full_shape s numbers false) rs want q ≡ done v
    → mark_of (full_shape s numbers true) rs want q ≡ mark_of (full_shape s numbers false) rs want q
