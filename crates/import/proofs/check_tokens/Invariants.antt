-- `check_tokens` meets its contract. The invariant: none of the tokens so far is refused.
use mathlib.Core.Path.{◌≡◌}
use Prim.Native.Nat.{◌≤◌}
use lib.ListN.{drop}
use Rattle.lattice.specs.Outcome.{done, first_of}
use Rattle.import.specs.Tokens.{token_count, tokens_from}
use Rattle.import.specs.Import.{sample_outcome}
use Rattle.import.proofs.check_tokens.Given as goal

abbrev pub invariant-loop-k : goal.invariant-loop-k
invariant-loop-k l =
    (goal.iterator-loop-k).can_next l.k-iterator
    × (goal.iterator-loop-k).is_finite l.k-iterator
    × (l.k-iterator.count ≤ token_count l.text)
    × (tokens_from l.k-iterator.iter.text.now l.k-iterator.iter.at ≡ drop l.k-iterator.count (tokens_from l.text 0))
    × (first_of l.k-iterator.count (sample_outcome l.text) ≡ done tt)
