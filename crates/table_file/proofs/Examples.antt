-- The worked examples of document 01 for the file of 0, 100, computed, and those of its second edition.
use mathlib.Core.Path.{◌≡◌, refl}
use mathlib.Core.Bool.{true, false}
use mathlib.Core.List.{List, [], ◌∷◌, ◌++◌}
use Prim.Native.Nat.{ℕ}
use lib.IntN.{pos}
use lib.ListN.{take, set}
use Rattle.arith.specs.Choice.{pick}
use Rattle.lattice.specs.Outcome.{done, refused, first_of}
use Rattle.lattice.specs.Buffer.{tabulate}
use Rattle.lattice.specs.Digits.{number, span, digit}
use Rattle.lattice.specs.Shape.{axes_outcome, count_allowed, finest_on}
use Rattle.lattice.specs.Records.{limit_outcome}
use Rattle.arith.specs.Int.{unsigned_of}
use Rattle.table_file.specs.Numbers.{number_at, bytes_of, bytes_of_all, signed_of}
use Rattle.table_file.specs.File.{header, section_one, section_two, section_three, file_of, complete, count_in, header_in, nodes_in, samples_in, start_of_three, second_in, count_outcome, one_outcome, nothing_after, two_outcome, three_outcome, read_check, read_outcome}

-- all definitions that the examples compute with, opened together
opened : Unit {0}
unfolding pick first_of tabulate number span digit finest_on axes_outcome count_allowed limit_outcome number_at bytes_of bytes_of_all
    signed_of
    unsigned_of section_one section_two section_three file_of complete count_in header_in nodes_in samples_in start_of_three second_in
    count_outcome
    one_outcome nothing_after two_outcome three_outcome read_check read_outcome
opened = tt

unfoldable pub file : List ℕ
file = 1 ∷ 0 ∷ 0 ∷ 0 ∷ 2 ∷ 0 ∷ 0 ∷ 0 ∷ 2 ∷ 0 ∷ 0 ∷ 0 ∷ 0 ∷ 0 ∷ 0 ∷ 0 ∷ 100 ∷ 0 ∷ 0 ∷ 0 ∷ []

-- taken, with its samples and its bytes; cut to 19 bytes; one byte more; section two's count 3
pub file-examples
    : (read_outcome file 2 ≡ done (header 1 (2 ∷ 1 ∷ 1 ∷ []) (256 ∷ 1 ∷ 1 ∷ []) false))
    × (samples_in file ≡ pos 0 ∷ pos 100 ∷ [])
    × (file_of (header 1 (2 ∷ 1 ∷ 1 ∷ []) (256 ∷ 1 ∷ 1 ∷ []) false) (pos 0 ∷ pos 100 ∷ []) ≡ file)
    × (read_outcome (take 19 file) 2 ≡ refused 6 19)
    × (read_outcome (file ++ (0 ∷ [])) 2 ≡ refused 6 21)
    × (read_outcome (set file 8 3) 2 ≡ refused 8 0)
unfolding opened file
file-examples = (refl, refl, refl, refl, refl, refl)

-- the same table in edition two
unfoldable pub second_file : List ℕ
second_file = file ++ (1 ∷ 0 ∷ 0 ∷ 0 ∷ 2 ∷ 0 ∷ 0 ∷ 0 ∷ [])

-- taken, with its bytes; cut to 27 bytes, with a wrong count too; one byte more; count 2, number 1 and number 3, with one byte more
pub second-examples
    : (read_outcome second_file 2 ≡ done (header 1 (2 ∷ 1 ∷ 1 ∷ []) (256 ∷ 1 ∷ 1 ∷ []) true))
    × (file_of (header 1 (2 ∷ 1 ∷ 1 ∷ []) (256 ∷ 1 ∷ 1 ∷ []) true) (pos 0 ∷ pos 100 ∷ []) ≡ second_file)
    × (read_outcome (take 27 (set second_file 20 3)) 2 ≡ refused 6 27)
    × (read_outcome (second_file ++ (0 ∷ [])) 2 ≡ refused 7 28)
    × (read_outcome (set second_file 20 2) 2 ≡ refused 25 0)
    × (read_outcome (set second_file 24 1) 2 ≡ refused 25 0)
    × (read_outcome (set second_file 24 3 ++ (0 ∷ [])) 0 ≡ refused 25 0)
unfolding opened file second_file
second-examples = (refl, refl, refl, refl, refl, refl, refl)
