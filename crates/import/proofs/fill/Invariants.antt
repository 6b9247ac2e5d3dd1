-- `fill` meets its contract. The invariant: the front of the slice holds the samples of the tokens so far.
use mathlib.Core.List.{List}
use mathlib.Core.Path.{◌≡◌}
use Prim.Native.Nat.{ℕ, ◌≤◌}
use lib.IntN.{ℤ}
use lib.ListN.{drop}
use Rattle.lattice.proofs.BufferLaws.{Filled}
use Rattle.import.specs.Tokens.{token_count, token_start, token_at, tokens_from}
use Rattle.import.specs.Import.{sample_in}
use Rattle.import.proofs.fill.Given as goal

abbrev pub sample : List ℕ → ℕ → ℤ
sample text k = sample_in (token_at text (token_start text k))

abbrev pub invariant-loop-k : goal.invariant-loop-k
invariant-loop-k l =
    (goal.iterator-loop-k).can_next l.k-iterator
    × (goal.iterator-loop-k).is_finite l.k-iterator
    × (l.k-iterator.count ≤ token_count l.text)
    × (tokens_from l.k-iterator.iter.text.now l.k-iterator.iter.at ≡ drop l.k-iterator.count (tokens_from l.text 0))
    × Filled (sample l.text) l.initial.samples l.k-iterator.count l.samples
