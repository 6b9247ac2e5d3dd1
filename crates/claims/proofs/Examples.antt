-- The worked examples with a star, and the further rows: every row computes what is printed. An example of straight data.
use mathlib.Core.Path.{◌≡◌, refl, sym, ap₂, ◌∙◌}
use mathlib.Core.List.{List, ◌++◌, map-append}
use Prim.Native.Nat.{ℕ, ◌+◌, ◌*◌, ◌<◌}
use lib.Dec.{lit<}
use lib.IntN.{pos}
use Rattle.arith.specs.Int.{round_half_up, is_even, round_half_even, rounding_of, divides, unsigned_of}
use Rattle.arith.specs.Sum.{sum, total, product, times}
use Rattle.arith.specs.Choice.{pick, all}
use Rattle.arith.proofs.Choices.{by_2, by-3}
use Rattle.lattice.specs.Outcome.{first_of}
use Rattle.lattice.specs.Buffer.{at, tabulate}
use Rattle.lattice.specs.Digits.{number, span, digit}
use Rattle.lattice.specs.Shape.{count, steps_on, orders_of, nodes, entries, size, axes_outcome, degree_outcome, count_allowed, counts_outcome, shape_outcome, step_number, steps_allowed, step_numbers_outcome, full_outcome, finest_on}
use Rattle.lattice.specs.Axes.{put, sweep, axes, without}
use Rattle.lattice.specs.Records.{node_number, samples_field, entry_number, entry_index, records_field, entry_place, total_order, entry_limit, limit_outcome}
use Rattle.hermite.specs.Hermite.{multiplier, mirrored, share, forward, solved, backward, weight, weight_at, divisor, stage_sum}
use Rattle.cell.specs.Cell.{place_at, cell_outcome, corner_place, corner_entries, entry_outcome, corners_outcome}
use Rattle.cell.specs.Coefficients.{coefficients}
use Rattle.cell.specs.Corners.{corner_numbers}
use Rattle.table_file.specs.Numbers.{number_at, bytes_of, bytes_of_all, signed_of}
use Rattle.table_file.specs.File.{section_one, section_two, section_three, file_of, complete, count_in, nodes_in, samples_in, start_of_three, second_in, count_outcome, one_outcome, two_outcome, nothing_after, three_outcome, read_check}
use Rattle.totals.specs.Totals.{total_multiplier, cell_numerator, over_cells, box_numerator, table_outcome, cell_total, box_outcome, in_box, records_outcome, box_total}
use Rattle.pool.specs.Pool.{pooled, shapes_outcome, alike, same_shape, weights_allowed, length_outcome, pool_outcome, pooled_samples}
use Rattle.estimate.specs.Estimate.{left, right, by_order, estimate, records, table_records, records_of, estimate_limit, estimate_outcome, estimate_writes}
use Rattle.coefficients.specs.Coefficients.{request_outcome, coefficient_list, coefficients_outcome}
use Rattle.corners.specs.Corners.{numbers_outcome, coefficients_field, doubled_entry, entry_allowed, possible_outcome, entry_list, back_outcome}
use Rattle.evaluate.specs.Evaluate.{dose, order_wanted, order_on, last_axis, weight_on, sum_over, exact_sum, divisor_on, exact_divisor, stage_on, to_eighth, to_unit, in_eighths, before, answer_by, clean, exact_by}
use Rattle.query.specs.Queries.{want_outcome, asked_outcome, reading, position_test, steps_outcome, tested_outcome, by_cell, position_at, position_outcome, cell_of, position_cell, position_step, by_position, cell_mark, position_mark}
use Rattle.floats.specs.Step.{step}
use Rattle.float_query.specs.Floats.{floats_at, float_steps, steps_of, float_outcome, by_float}
use Rattle.claims.specs.Third.{at_position, queried, point_of, cell_read, step_read, both_calls, ◌over◌, allowed_distance, WithinDistance}
use Rattle.claims.specs.Examples.{Row, full, records_from, coefficients_of, coefficients_from, back_into, first_stage, exactly, answer_in, table, AllRows}
use Rattle.claims.specs.Marks.{mark_of}
use Rattle.claims.specs.Pinned.{answer_from, dose_in, dose_with, not_zero, sparse, among, numbered, limits, left_over, distances, only, flat, file_with, pool_into, total_of_cell, total_of_box, refusals, positions, readings, numbers, editions, step_numbers, marks, poolings, totals, pins}
use Rattle.claims.specs.Straight.{value_of, value_at, wanted_of, Straight, saddle, saddle_table, in_saddle, saddle_rows}
use Rattle.claims.proofs.Straight.{nearly-straight}

-- all definitions that the rows compute with, opened together
opened : Unit {0}
unfolding total_of_cell total_of_box box_total records_outcome in_box box_outcome cell_total table_outcome box_numerator over_cells
    cell_numerator
    total_multiplier pool_into pooled_samples pooled pool_outcome length_outcome weights_allowed same_shape alike shapes_outcome
    dose_with dose_in mark_of position_mark cell_mark exact_by clean divides all
    answer_from not_zero sparse among numbered limits left_over distances only flat file_with allowed_distance read_check three_outcome
    nothing_after two_outcome one_outcome count_outcome second_in start_of_three samples_in nodes_in count_in complete file_of section_three
    section_two
    section_one bytes_of_all bytes_of number_at signed_of unsigned_of
    step floats_at steps_of float_outcome by_float position_test place_at by_cell tested_outcome steps_outcome records_from coefficients_of
    coefficients_from back_into first_stage exactly answer_in both_calls
    queried cell_read step_read by_position position_step position_cell cell_of position_outcome position_at reading asked_outcome
    want_outcome
    answer_by before in_eighths to_unit to_eighth stage_on exact_divisor divisor_on exact_sum sum_over weight_on last_axis order_on
    order_wanted
    estimate_writes estimate_outcome estimate_limit records_of table_records records estimate by_order right left coefficients_outcome
    request_outcome numbers_outcome coefficient_list back_outcome possible_outcome entry_allowed entry_list doubled_entry coefficients_field
    corner_numbers coefficients
    cell_outcome corners_outcome entry_outcome corner_entries corner_place stage_sum divisor weight_at weight forward backward solved share
    mirrored multiplier limit_outcome entry_limit total_order entry_place records_field entry_index entry_number samples_field node_number
    without
    axes sweep put full_outcome step_numbers_outcome steps_allowed step_number steps_on finest_on float_steps shape_outcome counts_outcome
    count_allowed degree_outcome axes_outcome size entries nodes orders_of count digit span number
    tabulate first_of pick times product total sum rounding_of round_half_even is_even round_half_up
opened = tt

pub examples : AllRows table
unfolding opened table
examples = refl

-- the further rows, in groups: so many as the checker computes at once
of-refusals : AllRows refusals
unfolding opened refusals
of-refusals = refl

of-positions : AllRows positions
unfolding opened positions
of-positions = refl

of-readings : AllRows readings
unfolding opened readings
of-readings = refl

of-numbers : AllRows numbers
unfolding opened numbers
of-numbers = refl

of-editions : AllRows editions
unfolding opened editions
of-editions = refl

of-step-numbers : AllRows step_numbers
unfolding opened step_numbers
of-step-numbers = refl

of-marks : AllRows marks
unfolding opened marks
of-marks = refl

of-poolings : AllRows poolings
unfolding opened poolings
of-poolings = refl

of-totals : AllRows totals
unfolding opened totals
of-totals = refl

pub pinned : AllRows pins
unfolding pins
pinned =
    joined (refusals ++ positions ++ readings ++ numbers ++ editions ++ step_numbers ++ marks ++ poolings) totals
    (joined (refusals ++ positions ++ readings ++ numbers ++ editions ++ step_numbers ++ marks) poolings
    (joined (refusals ++ positions ++ readings ++ numbers ++ editions ++ step_numbers) marks
    (joined (refusals ++ positions ++ readings ++ numbers ++ editions) step_numbers
    (joined (refusals ++ positions ++ readings ++ numbers) editions
    (joined (refusals ++ positions ++ readings) numbers
    (joined (refusals ++ positions) readings (joined refusals positions of-refusals of-positions) of-readings) of-numbers) of-editions)
    of-step-numbers) of-marks) of-poolings) of-totals
  where
    joined : (xs ys : List Row) → AllRows xs → AllRows ys → AllRows (xs ++ ys)
    joined xs ys e f = map-append (λ (r : Row). r.computed) xs ys ∙ ap₂ ◌++◌ e f ∙ sym (map-append (λ (r : Row). r.printed) xs ys)

-- ---- straight data

pub saddle-rows : AllRows saddle_rows
unfolding opened saddle_rows
saddle-rows = refl

-- the samples are the expression at every node
pub saddle-straight : (degree : ℕ) → Straight (saddle_table degree).shape (saddle_table degree).samples saddle
unfolding opened value_of
saddle-straight degree p here =
    by-3 At (rest 0 refl refl refl refl) (rest 1 refl refl refl refl) (rest 2 refl refl refl refl)
    (p 0) (here.used 0 (lit< tt)) (p 1) (here.used 1 (lit< tt)) (p 2) (here.used 2 (lit< tt))
  where
    Node : ℕ → ℕ → ℕ → Type 0
    Node i j k =
        at (saddle_table degree).samples (i + 3 * (j + 2 * (k + 2 * 0)))
        ≡ value_of saddle (pos 1) (pos 1) (pos 1) (pos i) (pos j) (pos k)

    At : ℕ → Type 0
    At i = (j : ℕ) → j < 2 → (k : ℕ) → k < 2 → Node i j k

    rest : (i : ℕ) → Node i 0 0 → Node i 0 1 → Node i 1 0 → Node i 1 1 → At i
    rest i a b c d = by_2 (λ j. (k : ℕ) → k < 2 → Node i j k) (by_2 (Node i 0) a b) (by_2 (Node i 1) c d)

-- so the theorem speaks of the number given
pub saddle-near : WithinDistance (173 over 256) (pos 161) (value_at saddle (λ a. 256) (position_at in_saddle)) (256 * 256 * 256)
unfolding opened wanted_of point_of
saddle-near =
    nearly-straight (full (saddle_table 3).shape) (saddle_table 3).samples (tabulate 96 (λ i. pos 0)) saddle dose
    (at_position in_saddle) (pos 161)
    (saddle-straight 3) refl
