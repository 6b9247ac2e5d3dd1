-- `number_at` meets its contract: the library reads four bytes, the lowest first.
use mathlib.Core.Path.{ap, ◌∙◌}
use mathlib.Core.List.{List}
use Prim.Native.Nat.{ℕ, ◌/◌}
use native.Mathlib.Omega.{arith}
use lib.ListN.{length, get_or}
use Rattle.table_file.specs.Numbers.{number_at}
use Rattle.table_file.proofs.NumberLaws.{number-of-four, chunk-number}
use Rattle.table_file.proofs.number_at.Goals as goal

pub returns : goal.returns
returns c =
    let a = c.args in
    c.from_le_bytes.ensures ∙ number-of-four _
    ∙ ap (λ (bs : List (List ℕ)). number_at (get_or bs a.k _) 0) c.as_chunks.ensures.front
    ∙ chunk-number (length a.bytes.now / 4) a.k a.bytes.now _ (omega arith)
