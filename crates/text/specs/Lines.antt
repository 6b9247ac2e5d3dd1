-- Lines of words with single spaces between them and a line feed at the end.
use Rattle.std.specs.Prelude.{◌≡◌, ℕ, ◌+◌, List, [], ◌∷◌, ◌++◌, ℤ, length, get_or}
use Rattle.std.proofs.lemmas.List.Edits.{sets}
use Rattle.text.specs.Decimal.{decimal, signed_decimal}

-- a word and the byte after it
abbrev pub word : List ℕ → ℕ → List ℕ
word w after = w ++ (after ∷ [])

-- byte 32 is the space, byte 10 the line feed
unfoldable pub line : List (List ℕ) → List ℕ
line [] = []
line (w ∷ []) = word w 10
line (w ∷ v ∷ ws) = word w 32 ++ line (v ∷ ws)

-- a cell's three indices, with a space after each
unfoldable pub indices : List ℕ → List ℕ
indices cell = word (decimal (get_or cell 0 0)) 32 ++ (word (decimal (get_or cell 1 0)) 32 ++ word (decimal (get_or cell 2 0)) 32)

-- a cell's three indices, the cubic dose and the quintic dose
unfoldable pub cell_line : List ℕ → ℤ → ℤ → List ℕ
cell_line cell cubic quintic =
    line (decimal (get_or cell 0 0) ∷ decimal (get_or cell 1 0) ∷ decimal (get_or cell 2 0) ∷ signed_decimal cubic ∷ signed_decimal quintic
    ∷ [])

-- `refused` in ASCII
abbrev pub refused_word : List ℕ
refused_word = 114 ∷ 101 ∷ 102 ∷ 117 ∷ 115 ∷ 101 ∷ 100 ∷ []

-- `refused ` and the number
unfoldable pub refused_line : ℕ → List ℕ
refused_line number = line (refused_word ∷ decimal number ∷ [])

-- `old` with a text from `at` on is `now`, and the text ends at `end`
pub record Put (old : List ℕ) (at : ℕ) (text now : List ℕ) (end : ℕ) : Type 0 where
  pub ended : end ≡ at + length text
  pub written : now ≡ sets old at text
