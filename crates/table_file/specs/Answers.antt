-- The header of document 01 that a header of the code stands for, and the outcome of reading.
use Rattle.std.specs.Prelude.{List, ℕ, Result, Ok, Err}
use Rattle.lattice.specs.Answers.{number_of}
use Rattle.lattice.specs.Outcome.{Outcome, done, refused}
use Rattle.lattice.specs.declared.refusal.Refusal.{Refusal}
use Rattle.table_file.specs.File.{Header, header, file_header}
use Rattle.table_file.specs.declared.Header.{Header as Read}

-- of a table with step numbers
abbrev pub with_steps : Read → List ℕ → Header
with_steps h steps = header h.axes h.counts steps h.second_edition

-- of a table that is read
abbrev pub read_header : Read → Header
read_header h = file_header h.axes h.counts h.second_edition

abbrev pub outcome_of_header : Result Read Refusal → Outcome Header
outcome_of_header (Ok h) = done (read_header h)
outcome_of_header (Err r) = refused (number_of r.reason) r.place
