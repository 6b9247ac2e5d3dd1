-- The examples: every row computes what is printed.
use mathlib.Core.Path.{refl}
use Rattle.arith.specs.Choice.{pick}
use Rattle.lattice.specs.Outcome.{first_of}
use Rattle.lattice.specs.Buffer.{tabulate}
use Rattle.lattice.specs.Digits.{span}
use Rattle.lattice.specs.Shape.{count, nodes, axes_outcome, degree_outcome, count_allowed, counts_outcome, shape_outcome, steps_on, step_number, steps_allowed, step_numbers_outcome, full_outcome}
use Rattle.import.specs.Bytes.{leading, beyond, leads, skip}
use Rattle.import.specs.Tokens.{separator, starts_token, starts_below, starts, token_count, token_start, token_at}
use Rattle.import.specs.Grammar.{is_digit, number_in, fits_exp, fits_frac, fits_int, fits}
use Rattle.import.specs.Value.{decimal_from, mantissa, raised, lowered, top, bottom, is_whole, units, sample_of}
use Rattle.import.specs.Import.{token_outcome, sample_outcome, import_outcome, samples_of}
use Rattle.import.specs.Examples.{ascii, imported, AllRows, table}

pub examples : AllRows table
unfolding table imported ascii samples_of import_outcome sample_outcome token_outcome sample_of units is_whole bottom top lowered raised
    mantissa decimal_from fits fits_int fits_frac fits_exp number_in is_digit token_at token_start token_count starts starts_below
    starts_token
    separator skip leads beyond leading full_outcome step_numbers_outcome steps_allowed step_number steps_on shape_outcome counts_outcome
    count_allowed degree_outcome axes_outcome nodes count span tabulate first_of pick
examples = refl
