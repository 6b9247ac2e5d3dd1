-- Tokens: the longest runs of bytes that are no separators.
use Rattle.std.specs.Prelude.{◌≡◌, ℕ, zero, suc, ◌+◌, ◌-◌, ◌≤◌, ◌<◌, Bool, true, false, not, ◌&&◌, ◌||◌, List, [], ◌∷◌, ◌++◌, eqb, length, get_or, drop, map}
use Rattle.arith.specs.Choice.{pick}
use Rattle.import.specs.Bytes.{leading}

-- space, tab, line feed and carriage return
unfoldable pub separator : ℕ → Bool
separator b = eqb b 32 || eqb b 9 || eqb b 10 || eqb b 13

-- a byte of a token
abbrev pub other : ℕ → Bool
other b = not (separator b)

-- byte i is no separator, and i is 0 or byte i - 1 is one
unfoldable pub starts_token : List ℕ → ℕ → Bool
starts_token text i = other (get_or text i 0) && (eqb i 0 || separator (get_or text (i - 1) 0))

-- the places below i where a token starts, in order
unfoldable pub starts_below : List ℕ → ℕ → List ℕ
starts_below text zero = []
starts_below text (suc i) = starts_below text i ++ pick (starts_token text i) (i ∷ []) []

-- the first bytes of all tokens
unfoldable pub starts : List ℕ → List ℕ
starts text = starts_below text (length text)

unfoldable pub token_count : List ℕ → ℕ
token_count text = length (starts text)

-- the first byte of token k
unfoldable pub token_start : List ℕ → ℕ → ℕ
token_start text k = get_or (starts text) k 0

-- the longest run of other bytes from byte i on
unfoldable pub token_at : List ℕ → ℕ → List ℕ
token_at text i = leading other (drop i text)

-- the tokens from byte `at` on: the first byte of each, and its bytes
unfoldable pub tokens_from : List ℕ → ℕ → List (ℕ × List ℕ)
tokens_from text at = map (λ (i : ℕ). (i, token_at text i)) (drop (length (starts_below text at)) (starts text))

-- n bytes from i on that are no separators, with a separator or an end of the text on either side
pub record Longest (text : List ℕ) (i n : ℕ) : Type 0 where
  pub some : 0 < n
  pub inside : i + n ≤ length text
  pub inner : (j : ℕ) → j < n → separator (get_or text (i + j) 0) ≡ false
  pub before : 0 < i → separator (get_or text (i - 1) 0) ≡ true
  pub after : i + n < length text → separator (get_or text (i + n) 0) ≡ true

-- byte p lies in token k
pub record InToken (text : List ℕ) (p k : ℕ) : Type 0 where
  pub counted : k < token_count text
  pub from : token_start text k ≤ p
  pub below : p < token_start text k + length (token_at text (token_start text k))
