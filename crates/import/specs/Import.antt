-- Samples from decimal text: refusals and what the slice holds afterwards.
use Rattle.std.specs.Prelude.{◌≡◌, ℕ, ◌*◌, ◌≤◌, List, leb, eqb, ℤ, pos, neg_ℤ, nat_abs, length}
use Rattle.arith.specs.Choice.{pick}
use Rattle.lattice.specs.declared.FullShape.{FullShape}
use Rattle.lattice.specs.Outcome.{Check, refuse_unless, first, first_of, when_done}
use Rattle.lattice.specs.Buffer.{tabulate, overwrite}
use Rattle.lattice.specs.Shape.{nodes, full_outcome}
use Rattle.lattice.specs.Records.{sample_limit}
use Rattle.import.specs.Tokens.{token_count, token_start, token_at}
use Rattle.import.specs.Grammar.{Number, Grammar, number_in, fits}
use Rattle.import.specs.Value.{top, bottom, is_whole, sample_of}

-- a token's sample
abbrev pub sample_in : List ℕ → ℤ
sample_in token = sample_of (number_in token)

-- of a token that starts at byte `start` and gives sample k: 16, 17, 18, 5
unfoldable pub token_outcome : List ℕ → ℕ → ℕ → Check
token_outcome token start k =
    first (refuse_unless (leb (length token) 64) 16 start)
    (first (refuse_unless (fits token) 17 start)
    (first (refuse_unless (is_whole (number_in token)) 18 start) (refuse_unless (leb (nat_abs (sample_in token)) sample_limit) 5 k)))

-- the tests of token k
unfoldable pub sample_outcome : List ℕ → ℕ → Check
sample_outcome text k = token_outcome (token_at text (token_start text k)) (token_start text k) k

-- 1, 2, 3, 26, then 4, 9, then token by token
unfoldable pub import_outcome : FullShape → List ℕ → ℕ → Check
import_outcome t text room =
    first (full_outcome t)
    (first (refuse_unless (eqb (token_count text) (nodes t.shape)) 4 0)
    (first (refuse_unless (leb (nodes t.shape) room) 9 0) (first_of (token_count text) (sample_outcome text))))

-- the samples of all tokens, in order
unfoldable pub samples_of : List ℕ → List ℤ
samples_of text = tabulate (token_count text) (λ k. sample_in (token_at text (token_start text k)))

-- what the samples slice holds afterwards
unfoldable pub import_writes : FullShape → List ℕ → List ℤ → List ℤ
import_writes t text old = when_done (import_outcome t text (length old)) (overwrite (samples_of text) old) old

-- ---- what a sample is

-- x is the number of a token of at most 64 bytes that has the grammar, times 100, and within the limit
pub record IsSample (token : List ℕ) (x : ℤ) : Type 0 where
  pub short : length token ≤ 64
  pub number : Number
  pub has : Grammar token number
  pub exact : nat_abs x * bottom number ≡ top number
  pub signed : x ≡ pick number.negative (neg_ℤ (pos (nat_abs x))) (pos (nat_abs x))
  pub limited : nat_abs x ≤ sample_limit
