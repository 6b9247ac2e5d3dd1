-- `three_numbers` meets its contract: two numbers in edition two, none in edition one.
use mathlib.Core.Path.{sym, ap}
use native.Mathlib.Omega.{arith}
use lib.ListN.{length}
use Rattle.arith.specs.Choice.{pick}
use Rattle.table_file.specs.File.{section_three}
use Rattle.table_file.proofs.three_numbers.Goals as goal

pub returns-then-second : goal.returns-then-second
unfolding section_three pick
returns-then-second c = (ap (λ b. length (section_three b)) (sym c.if-second.true), omega arith)

pub returns-else-second : goal.returns-else-second
unfolding section_three pick
returns-else-second c = (ap (λ b. length (section_three b)) (sym c.if-second.false), omega arith)
