-- `sample_of` meets its contract: the library reads in two's complement.
use mathlib.Core.Path.{ap, ◌∙◌}
use Rattle.arith.proofs.Machine.{element}
use Rattle.table_file.specs.Numbers.{signed_of}
use Rattle.table_file.proofs.NumberLaws.{number-of-four}
use Rattle.table_file.proofs.Twos.{signed_is}
use Rattle.table_file.proofs.after_one.sample_of.Goals as goal

pub returns : goal.returns
returns c = element _ c.cast_signed.type_inv ∙ c.cast_signed.ensures ∙ signed_is c.from_le_bytes.result c.from_le_bytes.type_inv
    ∙ ap signed_of (c.from_le_bytes.ensures ∙ number-of-four c.args.number)
