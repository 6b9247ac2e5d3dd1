-- Further rows: where a theorem would hold of more than one reading of document 01, a computed row fixes the reading.
-- Refusal numbers, places and order, those of a position apart; borders; the order of nodes, entries, coefficients and corners on two and
-- three axes; limits; the order of the stages; the cell of a shared node; curvatures; the distances; the rounding of both editions;
-- step numbers; the mark; pooling; totals.
use Rattle.std.specs.Prelude.{Bool, true, false, List, [], ◌∷◌, ◌++◌, ℕ, suc, ◌*◌, ◌-◌, eqb, Float, ℤ, pos, negsuc, nat_abs, ◌-ℤ◌, ◌*ℤ◌, replicate}
use Rattle.std.specs.Float.{nan, fin}
use Rattle.arith.specs.Choice.{pick}
use Rattle.lattice.specs.declared.Shape.{Shape}
use Rattle.lattice.specs.declared.FullShape.{FullShape}
use Rattle.lattice.specs.Outcome.{Outcome, Check, done, refused, first}
use Rattle.lattice.specs.Buffer.{tabulate}
use Rattle.lattice.specs.Shape.{shape_of, full_shape, size}
use Rattle.lattice.specs.Digits.{digit}
use Rattle.lattice.specs.Records.{entry_limit}
use Rattle.pool.specs.Pool.{Measurement, measured, pool_outcome, pooled_samples}
use Rattle.estimate.specs.Estimate.{table_records, records_of, estimate_outcome}
use Rattle.evaluate.specs.Evaluate.{Want, dose, slope_along, curvature_along, order_wanted, exact_sum, exact_divisor}
use Rattle.cell.specs.Cell.{place_at}
use Rattle.totals.specs.Totals.{cell_total, box_total}
use Rattle.table_file.specs.File.{read_check, file_of, file_header}
use Rattle.float_query.specs.Floats.{floats_at}
use Rattle.claims.specs.Third.{Query, at_position, in_cell, at_floats, queried, allowed_distance, asked}
use Rattle.claims.specs.Marks.{mark_of}
use Rattle.claims.specs.Examples.{Table, in_edition, full, listed, Row, ◌gives◌, ◌refused_as◌at_place◌, records_from, coefficients_of, back_from, back_into, answer_in, pair, at_x}

-- ---- what a row computes

-- a test, with nothing to list
abbrev pub tested : Check → Outcome (List ℤ)
tested (done u) = done []
tested (refused number place) = refused number place

-- a query of records, in edition one
unfoldable pub answer_from : Shape → List ℤ → Want → Query → Outcome (List ℤ)
answer_from s rs want q = listed (queried (full s) rs want q)

-- an answer and its mark, 1 where it is marked
abbrev pub with_mark : Outcome ℤ → Bool → Outcome (List ℤ)
with_mark (done v) mark = done (v ∷ pick mark (pos 1) (pos 0) ∷ [])
with_mark (refused number place) mark = refused number place

-- a dose from samples, in an edition
unfoldable pub dose_in : (second_edition : Bool) → Table → Query → Outcome (List ℤ)
dose_in second_edition t q =
    let s = in_edition second_edition t.shape in
    let rs = records_of t.shape t.samples in
    with_mark (queried s rs dose q) (mark_of s rs dose q)

-- the numbers of a list that are not 0, each after its index; the first has index i
unfoldable pub not_zero : ℕ → List ℤ → List ℤ
not_zero i [] = []
not_zero i (x ∷ xs) = pick (eqb (nat_abs x) 0) [] (pos i ∷ x ∷ []) ++ not_zero (suc i) xs

unfoldable pub sparse : Outcome (List ℤ) → Outcome (List ℤ)
sparse (done xs) = done (not_zero 0 xs)
sparse (refused number place) = refused number place

-- a list of that many numbers, 0 but for those that stand after their index
unfoldable pub among : List ℕ → ℕ → ℤ
among [] k = pos 0
among (i ∷ []) k = pos 0
among (i ∷ v ∷ rest) k = pick (eqb k i) (pos v) (among rest k)

unfoldable pub numbered : ℕ → List ℕ → List ℤ
numbered count entries = tabulate count (among entries)

-- the limits of that many entries of a record on three axes
unfoldable pub limits : ℕ → ℕ → List ℤ
limits m count = tabulate count (λ i. pos (entry_limit m 3 (λ a. digit (λ b. m) i a)))

-- the distance allowed less the distance of the answer v from the exact value, multiplied out
unfoldable pub left_over : Table → Want → List ℤ → ℤ → ℤ
left_over t want p v =
    let q = asked (full t.shape) want (at_position p) in
    let f = allowed_distance (order_wanted want) t.shape.axes in
    let y = exact_divisor q in
    pos (f.top * y - f.bottom * nat_abs (v *ℤ pos y -ℤ exact_sum q (table_records t.shape t.samples)))

-- the distances allowed on one, two and three axes
unfoldable pub distances : ℕ → List ℤ
distances order =
    pos (allowed_distance order 1).top ∷ pos (allowed_distance order 1).bottom ∷ pos (allowed_distance order 2).top
    ∷ pos (allowed_distance order 2).bottom
    ∷ pos (allowed_distance order 3).top ∷ pos (allowed_distance order 3).bottom ∷ []

-- ---- tables

abbrev pub three_nodes : Shape
three_nodes = shape_of 1 3 (3 ∷ 1 ∷ 1 ∷ [])

abbrev pub quintic : Shape
quintic = shape_of 1 5 (2 ∷ 1 ∷ 1 ∷ [])

-- two records, no two entries alike
abbrev pub curved : List ℤ
curved = pos 3 ∷ pos 5 ∷ pos 16 ∷ pos 100 ∷ negsuc 7 ∷ pos 10 ∷ []

abbrev pub plane : Shape
plane = shape_of 2 3 (2 ∷ 2 ∷ 1 ∷ [])

abbrev pub cube : Shape
cube = shape_of 3 3 (2 ∷ 2 ∷ 2 ∷ [])

-- no two counts alike
abbrev pub block : Shape
block = shape_of 3 3 (2 ∷ 3 ∷ 4 ∷ [])

abbrev pub sheet : Shape
sheet = shape_of 2 3 (3 ∷ 4 ∷ 1 ∷ [])

-- samples of the cube, 0 behind those given
abbrev pub on_cube : List ℤ → List ℤ
on_cube xs = xs ++ replicate 5 (pos 0)

-- all entries 0 but one
unfoldable pub only : Shape → ℕ → ℤ → List ℤ
only s i v = replicate i (pos 0) ++ (v ∷ replicate (size s - suc i) (pos 0))

-- eight values, each with seven entries 0
unfoldable pub flat : List ℤ → List ℤ
flat [] = []
flat (v ∷ vs) = (v ∷ pos 0 ∷ pos 0 ∷ pos 0 ∷ pos 0 ∷ pos 0 ∷ pos 0 ∷ pos 0 ∷ []) ++ flat vs

abbrev pub at_point : ℤ → ℤ → ℤ → Query
at_point x y z = at_position (x ∷ y ∷ z ∷ [])

abbrev pub start : Query
start = at_point (pos 0) (pos 0) (pos 0)

-- the file of 0, 100 in edition two or one, with more bytes
unfoldable pub file_with : Bool → List ℕ → List ℕ
file_with second more = file_of (file_header 1 (2 ∷ 1 ∷ 1 ∷ []) second) (pos 0 ∷ pos 100 ∷ []) ++ more

-- ---- refusals: numbers, places and order

unfoldable pub refusals : List Row
refusals =
    -- 1, 2, 3, then 4; 64 nodes stand
    (answer_from (shape_of 4 7 (0 ∷ 0 ∷ 0 ∷ [])) [] dose start refused_as 1 at_place 0)
    ∷ (answer_from (shape_of 2 7 (2 ∷ 65 ∷ 1 ∷ [])) [] dose start refused_as 2 at_place 0)
    ∷ (answer_from (shape_of 2 3 (64 ∷ 65 ∷ 1 ∷ [])) [] dose start refused_as 3 at_place 1)
    ∷ (answer_from (shape_of 2 5 (64 ∷ 64 ∷ 1 ∷ [])) [] (slope_along 2) start refused_as 4 at_place 0)
    -- 4 before 9, 9 before 19; samples of 16384, 8192 and 4096 stand on one, two and three axes, and of 32768 in a file
    ∷ (tested (estimate_outcome (full plane) (pos 0 ∷ []) 0) refused_as 4 at_place 0)
    ∷ (tested (estimate_outcome (full three_nodes) (pos 32769 ∷ pos 0 ∷ pos 0 ∷ []) 5) refused_as 9 at_place 0)
    ∷ (tested (estimate_outcome (full three_nodes) (pos 16384 ∷ negsuc 16383 ∷ pos 16385 ∷ []) 6) refused_as 19 at_place 2)
    ∷ (tested (estimate_outcome (full three_nodes) (pos 0 ∷ negsuc 32768 ∷ pos 16385 ∷ []) 6) refused_as 19 at_place 1)
    ∷ (tested (estimate_outcome (full plane) (pos 8192 ∷ negsuc 8191 ∷ pos 0 ∷ negsuc 8192 ∷ []) 16) refused_as 19 at_place 3)
    ∷ (tested (estimate_outcome (full cube) (on_cube (pos 4096 ∷ negsuc 4095 ∷ pos 4097 ∷ [])) 64) refused_as 19 at_place 2)
    ∷ (tested (read_check (file_of (file_header 1 (3 ∷ 1 ∷ 1 ∷ []) false) (pos 32768 ∷ negsuc 32767 ∷ pos 32769 ∷ [])) 3)
    refused_as 5 at_place 2)
    -- 15 before 9; the place of 13 is 0 wherever the entry stands
    ∷ (back_into 0 1 3 (pos 0 ∷ []) refused_as 15 at_place 0)
    ∷ (back_from 1 3 (pos 0 ∷ pos 0 ∷ pos 65537 ∷ pos 0 ∷ []) refused_as 13 at_place 0)
    -- 12 before 21, 21 before 14: no curvature in degree 3
    ∷ (answer_from plane (only plane 0 (pos 32769)) (curvature_along 2) (in_cell (1 ∷ 0 ∷ 0 ∷ []) (0 ∷ 0 ∷ 0 ∷ []))
    refused_as 12 at_place 0)
    ∷ (answer_from plane (only plane 0 (pos 32769)) (curvature_along 1) (in_cell (1 ∷ 0 ∷ 0 ∷ []) (0 ∷ 0 ∷ 0 ∷ []))
    refused_as 21 at_place 0)
    -- 12 before 14, 14 before 11, 11 before 5
    ∷ (answer_from plane (only plane 0 (pos 32769)) (slope_along 2) (in_cell (1 ∷ 0 ∷ 0 ∷ []) (0 ∷ 0 ∷ 0 ∷ []))
    refused_as 12 at_place 0)
    ∷ (answer_from plane (only plane 0 (pos 32769)) dose (in_cell (0 ∷ 1 ∷ 0 ∷ []) (257 ∷ 0 ∷ 0 ∷ [])) refused_as 14 at_place 1)
    ∷ (answer_from plane (only plane 0 (pos 32769)) dose (in_cell (0 ∷ 0 ∷ 0 ∷ []) (256 ∷ 257 ∷ 0 ∷ [])) refused_as 11 at_place 1)
    -- bytes after the samples begin section three; the place of 7 is the first byte after it
    ∷ (tested (read_check (file_with false (0 ∷ 0 ∷ [])) 0) refused_as 6 at_place 22)
    ∷ (tested (read_check (file_with true (0 ∷ 0 ∷ [])) 0) refused_as 7 at_place 28)
    ∷ []

-- ---- refusals of a position

-- a record beyond its limit
abbrev pub beyond_limit : List ℤ
beyond_limit = only plane 0 (pos 32769)

-- −m/1024
abbrev pub minus : ℕ → Float
minus m = fin true m (negsuc 9)

abbrev pub at_float : Float → Float → Float → Query
at_float x y z = at_floats (floats_at (record { x = x; y = y; z = z }))

unfoldable pub positions : List Row
positions =
    -- 22 and 11 are told apart, the first axis decides
    (answer_from plane beyond_limit dose (at_point (negsuc 0) (pos 257) (pos 1)) refused_as 22 at_place 0)
    ∷ (answer_from plane beyond_limit dose (at_point (pos 257) (negsuc 0) (pos 1)) refused_as 11 at_place 0)
    ∷ (answer_from plane beyond_limit (slope_along 0) (at_point (pos 256) (negsuc 0) (pos 1)) refused_as 22 at_place 1)
    -- 23 before 22 and 11, and before 5
    ∷ (answer_from plane beyond_limit dose (at_point (pos 256) (pos 0) (negsuc 0)) refused_as 23 at_place 2)
    ∷ (answer_from plane beyond_limit dose (at_point (pos 0) (pos 256) (pos 1)) refused_as 23 at_place 2)
    -- u is never below 0; 23 on an unused axis, where a cell index is 14
    ∷ (answer_from plane beyond_limit dose (in_cell (0 ∷ 0 ∷ 0 ∷ []) (2147483648 ∷ 0 ∷ 1 ∷ [])) refused_as 11 at_place 0)
    ∷ (answer_from plane beyond_limit dose (in_cell (0 ∷ 0 ∷ 0 ∷ []) (256 ∷ 256 ∷ 257 ∷ [])) refused_as 23 at_place 2)
    ∷ (answer_from plane beyond_limit dose (in_cell (0 ∷ 0 ∷ 1 ∷ []) (0 ∷ 0 ∷ 1 ∷ [])) refused_as 14 at_place 2)
    -- a float by its step: −1/1024 is step 0, −3/1024 step −1; 10 before all of its axis
    ∷ (answer_from plane (only plane 0 (pos 7)) dose (at_float (minus 1) (minus 1) (minus 1)) gives pos 7 ∷ [])
    ∷ (answer_from plane beyond_limit dose (at_float (minus 1) (minus 3) nan) refused_as 22 at_place 1)
    ∷ (answer_from plane beyond_limit dose (at_float (minus 1) (minus 1) (minus 3)) refused_as 23 at_place 2)
    ∷ (answer_from plane beyond_limit dose (at_float (minus 1) (minus 1) nan) refused_as 10 at_place 2)
    ∷ []

-- ---- borders, cells, limits, nodes and entries

unfoldable pub readings : List Row
readings =
    -- at both borders D is twice the difference and S is 0, between them neither; along y as along x
    (records_from (record { shape = shape_of 1 5 (3 ∷ 1 ∷ 1 ∷ []); samples = pos 1 ∷ pos 3 ∷ pos 10 ∷ [] })
    gives pos 1 ∷ pos 4 ∷ pos 0 ∷ pos 3 ∷ pos 9 ∷ pos 5 ∷ pos 10 ∷ pos 14 ∷ pos 0 ∷ [])
    ∷ (records_from (record { shape = plane; samples = pos 0 ∷ pos 0 ∷ pos 0 ∷ pos 100 ∷ [] })
    gives pos 0 ∷ pos 0 ∷ pos 0 ∷ pos 400 ∷ pos 0 ∷ pos 0 ∷ pos 200 ∷ pos 400
    ∷ pos 0 ∷ pos 200 ∷ pos 0 ∷ pos 400 ∷ pos 100 ∷ pos 200 ∷ pos 200 ∷ pos 400 ∷ [])
    -- a position on a shared node is read in the upper cell
    ∷ (answer_from three_nodes (pos 32769 ∷ pos 0 ∷ pos 7 ∷ pos 0 ∷ pos 9 ∷ pos 0 ∷ []) dose (at_position (at_x 256)) gives pos 7 ∷ [])
    -- the limits of the entries of a record
    ∷ (done (limits 2 8 ++ limits 3 9)
    gives pos 32768 ∷ pos 65536 ∷ pos 65536 ∷ pos 131072 ∷ pos 65536 ∷ pos 131072 ∷ pos 131072 ∷ pos 262144
    ∷ pos 32768 ∷ pos 65536 ∷ pos 131072 ∷ pos 65536 ∷ pos 131072 ∷ pos 262144 ∷ pos 131072 ∷ pos 262144 ∷ pos 524288 ∷ [])
    -- the place of 5, corner by corner with x fastest
    ∷ (answer_from cube (flat (pos 0 ∷ pos 32769 ∷ pos 32769 ∷ pos 0 ∷ pos 32769 ∷ pos 0 ∷ pos 0 ∷ pos 0 ∷ [])) dose start
    refused_as 5 at_place 8)
    ∷ (answer_from cube (flat (pos 0 ∷ pos 0 ∷ pos 32769 ∷ pos 0 ∷ pos 32769 ∷ pos 0 ∷ pos 0 ∷ pos 0 ∷ [])) dose start
    refused_as 5 at_place 16)
    -- nodes and entries, x fastest: twice the slope along y of node (0, 1, 2), and of node (1, 2)
    ∷ (answer_from block (only block 114 (pos 20)) (slope_along 1) (at_point (pos 0) (pos 256) (pos 512)) gives pos 10 ∷ [])
    ∷ (answer_from sheet (only sheet 30 (pos 20)) (slope_along 1) (at_point (pos 256) (pos 512) (pos 0)) gives pos 10 ∷ [])
    ∷ []

-- ---- stages, coefficients, distances

unfoldable pub numbers : List Row
numbers =
    -- the stages' order: x, y, z, a slope's axis last
    (answer_from cube (flat (pos 0 ∷ negsuc 1 ∷ negsuc 0 ∷ negsuc 0 ∷ pos 3 ∷ negsuc 0 ∷ pos 0 ∷ pos 0 ∷ [])) dose
    (at_point (pos 160) (pos 96) (pos 128)) gives negsuc 0 ∷ [])
    ∷ (answer_from cube (flat (negsuc 0 ∷ pos 1 ∷ negsuc 0 ∷ negsuc 0 ∷ pos 0 ∷ pos 0 ∷ negsuc 1 ∷ negsuc 1 ∷ []))
    (slope_along 1) (at_point (pos 32) (pos 96) (pos 128)) gives negsuc 1 ∷ [])
    -- curvatures in degree 5: at both nodes their own S, between them all numbers of both
    ∷ (answer_from quintic curved (curvature_along 0) (at_position (at_x 0)) gives pos 16 ∷ [])
    ∷ (answer_from quintic curved (curvature_along 0) (at_position (at_x 64)) gives pos 540 ∷ [])
    ∷ (answer_from quintic curved (curvature_along 0) (at_position (at_x 256)) gives pos 10 ∷ [])
    -- coefficients, x index fastest, of twice the slope along y of corner (1, 0), and of corner (1, 0, 0); and back
    ∷ (sparse (coefficients_of plane (only plane 6 (pos 1))) gives pos 6 ∷ pos 6 ∷ pos 7 ∷ pos 2 ∷ [])
    ∷ (sparse (coefficients_of cube (only cube 10 (pos 1)))
    gives pos 6 ∷ pos 12 ∷ pos 7 ∷ pos 4 ∷ pos 22 ∷ pos 36 ∷ pos 23 ∷ pos 12 ∷ [])
    ∷ (sparse (back_from 3 3 (numbered 64 (6 ∷ 12 ∷ 7 ∷ 4 ∷ 22 ∷ 36 ∷ 23 ∷ 12 ∷ []))) gives pos 10 ∷ pos 1 ∷ [])
    -- one half is attained on one axis; the distances allowed
    ∷ (done (left_over (pair 3 (pos 0) (pos 1)) dose (at_x 128) (pos 1) ∷ distances 0 ++ distances 1 ++ distances 2)
    gives pos 0
    ∷ pos 1 ∷ pos 2 ∷ pos 37 ∷ pos 64 ∷ pos 173 ∷ pos 256
    ∷ pos 1 ∷ pos 2 ∷ pos 13 ∷ pos 16 ∷ pos 77 ∷ pos 64
    ∷ pos 1 ∷ pos 2 ∷ pos 3 ∷ pos 2 ∷ pos 11 ∷ pos 4 ∷ [])
    ∷ []

-- ---- editions: halves up, and to the even number

-- two axes 2 by 2
abbrev pub four_samples : ℤ → ℤ → ℤ → ℤ → Table
four_samples a b c d = record { shape = plane; samples = a ∷ b ∷ c ∷ d ∷ [] }

unfoldable pub editions : List Row
editions =
    -- 1/2 and 5/2, on one axis
    (answer_in false (pair 3 (pos 0) (pos 1)) dose (at_x 128) gives pos 1 ∷ [])
    ∷ (answer_in true (pair 3 (pos 0) (pos 1)) dose (at_x 128) gives pos 0 ∷ [])
    ∷ (answer_in false (pair 3 (pos 2) (pos 3)) dose (at_x 128) gives pos 3 ∷ [])
    ∷ (answer_in true (pair 3 (pos 2) (pos 3)) dose (at_x 128) gives pos 2 ∷ [])
    -- on two axes: a half in the first stage that changes the last, and a half in the last
    ∷ (answer_in false (four_samples (pos 0) (negsuc 6) (negsuc 2) (pos 6)) dose (pos 16 ∷ pos 16 ∷ pos 0 ∷ []) gives pos 0 ∷ [])
    ∷ (answer_in true (four_samples (pos 0) (negsuc 6) (negsuc 2) (pos 6)) dose (pos 16 ∷ pos 16 ∷ pos 0 ∷ []) gives negsuc 0 ∷ [])
    ∷ (answer_in false (four_samples (pos 0) (pos 7) (negsuc 7) (negsuc 7)) dose (at_x 16) gives pos 1 ∷ [])
    ∷ (answer_in true (four_samples (pos 0) (pos 7) (negsuc 7) (negsuc 7)) dose (at_x 16) gives pos 0 ∷ [])
    ∷ []

-- ---- step numbers

-- a dose from samples, with step numbers, in edition one
unfoldable pub dose_with : List ℕ → Table → Query → Outcome (List ℤ)
dose_with numbers t q = listed (queried (full_shape t.shape numbers false) (records_of t.shape t.samples) dose q)

-- m/64
abbrev pub plus : ℕ → Float
plus m = fin false m (negsuc 5)

unfoldable pub step_numbers : List Row
step_numbers =
    -- 26 after 3 and before 4; 1 on an unused axis
    (tested (estimate_outcome (full_shape (shape_of 2 3 (2 ∷ 65 ∷ 1 ∷ [])) (16 ∷ 8 ∷ 1 ∷ []) false) [] 0) refused_as 3 at_place 1)
    ∷ (tested (estimate_outcome (full_shape plane (16 ∷ 8 ∷ 1 ∷ []) false) [] 0) refused_as 26 at_place 1)
    ∷ (tested (estimate_outcome (full_shape plane (16 ∷ 512 ∷ 0 ∷ []) false) [] 0) refused_as 26 at_place 1)
    ∷ (tested (estimate_outcome (full_shape plane (256 ∷ 128 ∷ 256 ∷ []) false) [] 0) refused_as 26 at_place 2)
    ∷ (dose_with (1 ∷ 1 ∷ 1 ∷ []) (pair 3 (pos 0) (pos 100)) start refused_as 26 at_place 0)
    -- one axis of 16 steps: its middle, its last node, the step beyond, by position and by cell
    ∷ (dose_with (16 ∷ 1 ∷ 1 ∷ []) (pair 3 (pos 0) (pos 100)) (at_position (at_x 8)) gives pos 50 ∷ [])
    ∷ (dose_with (16 ∷ 1 ∷ 1 ∷ []) (pair 3 (pos 0) (pos 100)) (at_position (at_x 16)) gives pos 100 ∷ [])
    ∷ (dose_with (16 ∷ 1 ∷ 1 ∷ []) (pair 3 (pos 0) (pos 100)) (at_position (at_x 17)) refused_as 11 at_place 0)
    ∷ (dose_with (16 ∷ 1 ∷ 1 ∷ []) (pair 3 (pos 0) (pos 100)) (in_cell (0 ∷ 0 ∷ 0 ∷ []) (16 ∷ 0 ∷ 0 ∷ [])) gives pos 100 ∷ [])
    ∷ (dose_with (16 ∷ 1 ∷ 1 ∷ []) (pair 3 (pos 0) (pos 100)) (in_cell (0 ∷ 0 ∷ 0 ∷ []) (17 ∷ 0 ∷ 0 ∷ [])) refused_as 11 at_place 0)
    -- a float by the axis's own number, 1/64 being a quarter of a step of 16; on an unused axis by 256, so that it is step 4
    ∷ (dose_with (16 ∷ 1 ∷ 1 ∷ []) (pair 3 (pos 0) (pos 100)) (at_float (plus 32) (plus 0) (plus 0)) gives pos 50 ∷ [])
    ∷ (dose_with (16 ∷ 1 ∷ 1 ∷ []) (pair 3 (pos 0) (pos 100)) (at_float (plus 1) (plus 0) (plus 0)) gives pos 0 ∷ [])
    ∷ (dose_with (16 ∷ 1 ∷ 1 ∷ []) (pair 3 (pos 0) (pos 100)) (at_float (plus 1) (plus 0) (plus 1)) refused_as 23 at_place 2)
    -- axes of 16 and 32 steps
    ∷ (dose_with (16 ∷ 32 ∷ 1 ∷ []) (four_samples (pos 0) (pos 100) (pos 0) (pos 300)) (at_point (pos 8) (pos 16) (pos 0))
    gives pos 100 ∷ [])
    ∷ []

-- ---- the mark

-- cubic, 2 by 4 nodes, all samples 0 but the last
abbrev pub corner : Table
corner = record { shape = shape_of 2 3 (2 ∷ 4 ∷ 1 ∷ []); samples = replicate 7 (pos 0) ++ (pos 1 ∷ []) }

unfoldable pub marks : List Row
marks =
    -- cells that share a point may differ: a number of weight 0 drops something in the upper one, which a position is read in
    (dose_in false corner (in_cell (0 ∷ 0 ∷ 0 ∷ []) (16 ∷ 256 ∷ 0 ∷ [])) gives pos 0 ∷ pos 1 ∷ [])
    ∷ (dose_in false corner (in_cell (0 ∷ 1 ∷ 0 ∷ []) (16 ∷ 0 ∷ 0 ∷ [])) gives pos 0 ∷ pos 0 ∷ [])
    ∷ (dose_in false corner (at_point (pos 16) (pos 256) (pos 0)) gives pos 0 ∷ pos 0 ∷ [])
    -- the last stage drops a half, in either edition, or nothing
    ∷ (dose_in false (pair 3 (pos 0) (pos 1)) (at_position (at_x 128)) gives pos 1 ∷ pos 0 ∷ [])
    ∷ (dose_in true (pair 3 (pos 0) (pos 1)) (at_position (at_x 128)) gives pos 0 ∷ pos 0 ∷ [])
    ∷ (dose_in true (pair 5 (pos 0) (pos 2)) (at_position (at_x 128)) gives pos 1 ∷ pos 1 ∷ [])
    ∷ []

-- ---- pooling

-- into a slice of `room` numbers
unfoldable pub pool_into : ℕ → Measurement → Measurement → Outcome (List ℤ)
pool_into room a b = first (pool_outcome a b room) (done (pooled_samples a b))

-- three samples of a line
abbrev pub weighed : ℤ → ℤ → ℤ → ℕ → Measurement
weighed x y z weight = measured (full three_nodes) (x ∷ y ∷ z ∷ []) weight

-- a shape and a weight, without samples
abbrev pub unmeasured : FullShape → ℕ → Measurement
unmeasured t weight = measured t [] weight

unfoldable pub poolings : List Row
poolings =
    -- 1/4, 102 and −3/4; halves go up on both sides of 0; weight 0 gives the other lattice
    (pool_into 3 (weighed (pos 0) (pos 100) (negsuc 0) 3) (weighed (pos 1) (pos 108) (pos 0) 1) gives pos 0 ∷ pos 102 ∷ negsuc 0 ∷ [])
    ∷ (pool_into 3 (weighed (pos 0) (pos 100) (negsuc 0) 10000) (weighed (pos 1) (pos 108) (pos 0) 10000)
    gives pos 1 ∷ pos 104 ∷ pos 0 ∷ [])
    ∷ (pool_into 3 (weighed (pos 0) (pos 100) (negsuc 0) 0) (weighed (pos 1) (pos 108) (pos 0) 1) gives pos 1 ∷ pos 108 ∷ pos 0 ∷ [])
    -- 1, 2, 3, 26 of the second shape come before 2, 3, 26 of the first, and before 27
    ∷ (pool_into 0 (unmeasured (full (shape_of 1 7 (2 ∷ 1 ∷ 1 ∷ []))) 0) (unmeasured (full (shape_of 4 3 (2 ∷ 1 ∷ 1 ∷ []))) 0)
    refused_as 1 at_place 0)
    ∷ (pool_into 0 (unmeasured (full (shape_of 1 3 (65 ∷ 1 ∷ 1 ∷ []))) 0) (unmeasured (full (shape_of 1 7 (2 ∷ 1 ∷ 1 ∷ []))) 0)
    refused_as 2 at_place 0)
    ∷ (pool_into 0 (unmeasured (full_shape plane (8 ∷ 16 ∷ 1 ∷ []) false) 0) (unmeasured (full (shape_of 2 3 (2 ∷ 65 ∷ 1 ∷ []))) 0)
    refused_as 3 at_place 1)
    ∷ (pool_into 0 (unmeasured (full plane) 0) (unmeasured (full_shape plane (16 ∷ 8 ∷ 1 ∷ []) false) 0) refused_as 26 at_place 1)
    -- 27 before 28: another degree, step number or edition
    ∷ (pool_into 0 (unmeasured (full quintic) 0) (unmeasured (full (shape_of 1 3 (2 ∷ 1 ∷ 1 ∷ []))) 0) refused_as 27 at_place 0)
    ∷ (pool_into 0 (unmeasured (full quintic) 0) (unmeasured (full_shape quintic (128 ∷ 1 ∷ 1 ∷ []) false) 0) refused_as 27 at_place 0)
    ∷ (pool_into 0 (unmeasured (full quintic) 0) (unmeasured (in_edition true quintic) 0) refused_as 27 at_place 0)
    -- 28 before 4: both weights 0, or one above 10,000
    ∷ (pool_into 0 (unmeasured (full quintic) 0) (unmeasured (full quintic) 0) refused_as 28 at_place 0)
    ∷ (pool_into 0 (unmeasured (full quintic) 10001) (unmeasured (full quintic) 0) refused_as 28 at_place 0)
    -- 4 of both before 9, 9 before 5, 5 of the first lattice before the second
    ∷ (pool_into 0 (weighed (pos 0) (pos 0) (pos 32769) 1) (unmeasured (full three_nodes) 0) refused_as 4 at_place 0)
    ∷ (pool_into 2 (weighed (pos 0) (pos 0) (pos 32769) 1) (weighed (pos 0) (negsuc 32768) (pos 0) 0) refused_as 9 at_place 0)
    ∷ (pool_into 3 (weighed (pos 0) (pos 0) (pos 32769) 1) (weighed (pos 0) (negsuc 32768) (pos 0) 0) refused_as 5 at_place 2)
    ∷ (pool_into 3 (weighed (pos 0) (pos 0) (pos 32768) 1) (weighed (pos 0) (negsuc 32768) (pos 0) 0) refused_as 5 at_place 1)
    ∷ []

-- ---- totals

-- of a cell, from records
unfoldable pub total_of_cell : Shape → List ℤ → List ℕ → Outcome (List ℤ)
total_of_cell s rs cell = listed (cell_total (full s) rs (place_at cell))

-- of a box of cells, from records
unfoldable pub total_of_box : Shape → List ℤ → List ℕ → List ℕ → Outcome (List ℤ)
total_of_box s rs from to = listed (box_total (full s) rs (place_at from) (place_at to))

-- three records of a line
abbrev pub three : List ℤ
three = pos 1 ∷ pos 2 ∷ pos 3 ∷ pos 4 ∷ pos 5 ∷ pos 6 ∷ []

unfoldable pub totals : List Row
totals =
    -- 0, 100 is 50 over 1; the numbers of both ends of a quintic cell
    (total_of_box (shape_of 1 3 (2 ∷ 1 ∷ 1 ∷ [])) (pos 0 ∷ pos 200 ∷ pos 100 ∷ pos 200 ∷ []) (0 ∷ 0 ∷ 0 ∷ []) (0 ∷ 0 ∷ 0 ∷ [])
    gives pos 1200 ∷ [])
    ∷ (total_of_cell quintic curved (0 ∷ 0 ∷ 0 ∷ []) gives pos 6284 ∷ [])
    -- two cells and their sum
    ∷ (total_of_cell three_nodes three (0 ∷ 0 ∷ 0 ∷ []) gives pos 46 ∷ [])
    ∷ (total_of_cell three_nodes three (1 ∷ 0 ∷ 0 ∷ []) gives pos 94 ∷ [])
    ∷ (total_of_box three_nodes three (0 ∷ 0 ∷ 0 ∷ []) (1 ∷ 0 ∷ 0 ∷ []) gives pos 140 ∷ [])
    -- 4 before 29, 29 before 5: the first index above the last, the last above count − 2, or above 0 on an unused axis; 14 for a cell
    ∷ (total_of_box plane [] (1 ∷ 0 ∷ 0 ∷ []) (0 ∷ 0 ∷ 0 ∷ []) refused_as 4 at_place 0)
    ∷ (total_of_box plane beyond_limit (0 ∷ 1 ∷ 0 ∷ []) (0 ∷ 0 ∷ 1 ∷ []) refused_as 29 at_place 1)
    ∷ (total_of_box plane beyond_limit (0 ∷ 0 ∷ 0 ∷ []) (0 ∷ 1 ∷ 1 ∷ []) refused_as 29 at_place 1)
    ∷ (total_of_box plane beyond_limit (0 ∷ 0 ∷ 0 ∷ []) (0 ∷ 0 ∷ 1 ∷ []) refused_as 29 at_place 2)
    ∷ (total_of_cell plane beyond_limit (0 ∷ 1 ∷ 0 ∷ []) refused_as 14 at_place 1)
    -- 5 at the smallest index, not cell by cell, of the nodes up to one above the last cell, and of no other
    ∷ (total_of_box sheet (numbered 48 (12 ∷ 32769 ∷ 8 ∷ 32769 ∷ [])) (0 ∷ 0 ∷ 0 ∷ []) (1 ∷ 0 ∷ 0 ∷ []) refused_as 5 at_place 8)
    ∷ (total_of_box sheet (numbered 48 (0 ∷ 32769 ∷ 32 ∷ 32769 ∷ [])) (1 ∷ 1 ∷ 0 ∷ []) (1 ∷ 1 ∷ 0 ∷ []) refused_as 5 at_place 32)
    ∷ (total_of_box sheet (numbered 48 (0 ∷ 32769 ∷ 44 ∷ 32769 ∷ [])) (1 ∷ 1 ∷ 0 ∷ []) (1 ∷ 1 ∷ 0 ∷ []) gives pos 0 ∷ [])
    ∷ []

unfoldable pub pins : List Row
pins = refusals ++ positions ++ readings ++ numbers ++ editions ++ step_numbers ++ marks ++ poolings ++ totals
