-- One token after the other: from a byte at which a token starts unless it is a separator, to the end of that token.
use mathlib.Core.Path.{◌≡◌, refl, sym, ap, ◌∙◌}
use mathlib.Core.Bool.{Bool, true, false, not, and-false, or-true}
use mathlib.Core.List.{List, [], ◌∷◌, map}
use Prim.Native.Nat.{ℕ, zero, suc, ◌+◌, ◌-◌, ◌≤◌, ◌<◌}
use native.Mathlib.Numerals.{add-one}
use native.Mathlib.Omega.{arith}
use borrow.Author.Tests.{ltb-false, not-true, not-false, ne_eqb}
use lib.Dec.{ltb, eqb}
use lib.ListN.{length, get_or, drop, length-drop, drop_of_length-le, length-map, get_or-map}
use lib.Seq.{drop-cons, get_or-drop}
use Rattle.std.specs.Prelude.{Some, None}
use Rattle.std.specs.List.{position, position_or_len}
use Rattle.std.proofs.lemmas.List.Quantifiers.{position-Some}
use Rattle.arith.proofs.Choices.{split, clash}
use Rattle.import.specs.Bytes.{leading}
use Rattle.import.specs.Tokens.{separator, other, starts_token, starts, token_count, token_start, token_at, tokens_from}
use Rattle.import.proofs.BytesLaws.{prefix-run, leading-front, leading-each, leading-next, run_more}
use Rattle.import.proofs.TokensLaws.{before, before-none, before-start, before-other, before-few, before-all, start_is, start-counted}

none-each : (kind : ℕ → Bool) (l : List ℕ) → position kind l ≡ None → (j : ℕ) → j < length l → kind (get_or l j 0) ≡ false
none-each kind l e j h = split (ltb (position_or_len kind l) (length l))
    (λ t. let g = rw t at e in clash (cc))
    (λ f. not-true (kind (get_or l j 0))
    (leading-each (λ b. not (kind b)) l j (omega (arith, ltb-false _ _ f, prefix-run (λ b. not (kind b)) l))))

module _ (text : List ℕ) where
  -- no token starts at a separator, nor after another byte of a token
  gap : (i : ℕ) → separator (get_or text i 0) ≡ true → starts_token text i ≡ false
  unfolding starts_token
  gap i e = rw e refl

  inner : (i : ℕ) → separator (get_or text i 0) ≡ false → starts_token text (i + 1) ≡ false
  unfolding starts_token
  inner i e =
      let k : i + 1 - 1 ≡ i = omega arith in
      rw (k, e, ne_eqb (i + 1) 0 (λ f. absurd (omega arith))) (and-false (other (get_or text (i + 1) 0)))

  quiet : (at n : ℕ) → ((j : ℕ) → j < n → starts_token text (at + j) ≡ false) → before text (at + n) ≡ before text at
  quiet at zero h = ap (before text) (omega arith)
  quiet at (suc n) h =
      ap (before text) (next at n) ∙ before-other text (at + n) (h n (omega arith)) ∙ quiet at n (λ j l. h j (omega arith))
    where
      next : (at n : ℕ) → at + suc n ≡ at + n + 1
      next at n = omega arith

  -- the bytes of a token, at which no other starts
  token-quiet : (i : ℕ) → (j : ℕ) → suc j < length (token_at text i) → starts_token text (i + 1 + j) ≡ false
  unfolding token_at
  token-quiet i j l =
      let e : i + 1 + j ≡ i + j + 1 = omega arith in
      rw e (inner (i + j) (not-true (separator (get_or text (i + j) 0))
      (ap other (sym (get_or-drop i text j 0)) ∙ leading-each other (drop i text) j (omega arith))))

  -- a token has a byte
  token-some : (i : ℕ) → i < length text → separator (get_or text i 0) ≡ false → 1 ≤ length (token_at text i)
  unfolding token_at
  token-some i l e = omega (arith, run_more other text i l (ap not e))

  -- past the token at i
  past : (i : ℕ) → i < length text → separator (get_or text i 0) ≡ false → starts_token text i ≡ true
      → before text (i + length (token_at text i)) ≡ before text i + 1
  past i l e s =
      let n = length (token_at text i) in
      let some : 1 ≤ n = token-some i l e in
      let to-end : i + n ≡ i + 1 + (n - 1) = omega arith in
      ap (before text) to-end ∙ quiet (i + 1) (n - 1) (λ j h. token-quiet i j (omega arith)) ∙ before-start text i s

  -- its end
  pub token-inside : (i : ℕ) → i ≤ length text → i + length (token_at text i) ≤ length text
  unfolding token_at
  token-inside i l = omega (arith, (leading-front other (drop i text)).0, length-drop i text)

  pub token-ends : (i : ℕ) → i + length (token_at text i) < length text → separator (get_or text (i + length (token_at text i)) 0) ≡ true
  unfolding token_at
  token-ends i l =
      let n = length (leading other (drop i text)) in
      not-false (separator (get_or text (i + n) 0))
      (ap other (sym (get_or-drop i text n 0)) ∙ leading-next other (drop i text) (omega (arith, length-drop i text)))

  pub token-between : (i n : ℕ) → n ≡ length (token_at text i) → i + n < length text → separator (get_or text (i + n) 0) ≡ false
      → starts_token text (i + n) ≡ true
  token-between i n e l s = let f = token-ends i (rw e at l) in let g = rw e at s in clash (cc)

  -- the list from the start of a token on
  from-start : (i : ℕ) → i < length text → starts_token text i ≡ true → drop (before text i) (starts text)
      ≡ i ∷ drop (before text i + 1) (starts text)
  unfolding token_count token_start
  from-start i l s =
      rw (add-one (before text i)) (drop-cons (starts text) (before text i) 0 (start-counted text i l s)
      ∙ ap (λ (x : ℕ). x ∷ drop (suc (before text i)) (starts text)) (start_is text i l s))

  after-gap : (i : ℕ) → separator (get_or text i 0) ≡ true → separator (get_or text (i + 1) 0) ≡ false → starts_token text (i + 1) ≡ true
  unfolding starts_token
  after-gap i e f =
      let k : i + 1 - 1 ≡ i = omega arith in
      rw (f, k, e) (or-true (eqb (i + 1) 0))

  -- from byte `at` on
  module _ (at : ℕ) (inside : at ≤ length text)
      (between : at < length text → separator (get_or text at 0) ≡ false → starts_token text at ≡ true) where
    -- no byte of a token is left
    pub none-left : position other (drop at text) ≡ None → tokens_from text at ≡ []
    unfolding tokens_from token_count
    none-left e =
        let gaps = λ (j : ℕ) (l : j < length text - at). gap (at + j) (not-false (separator (get_or text (at + j) 0))
        (ap other (sym (get_or-drop at text j 0)) ∙ none-each other (drop at text) e j (omega (arith, length-drop at text)))) in
        let all = sym (quiet at (length text - at) gaps) ∙ before-all text (at + (length text - at)) (omega arith) in
        ap (map (λ (i : ℕ). (i, token_at text i))) (drop_of_length-le (starts text) (omega arith))

    module _ (p : ℕ) (found : position other (drop at text) ≡ Some p) where
      pub start-inside : at + p < length text
      start-inside = omega (arith, (position-Some other (drop at text) p 0 found).0, length-drop at text)

      first-byte : separator (get_or text (at + p) 0) ≡ false
      first-byte = not-true (separator (get_or text (at + p) 0))
          (ap other (sym (get_or-drop at text p 0)) ∙ (position-Some other (drop at text) p 0 found).1)

      passed : (j : ℕ) → j < p → separator (get_or text (at + j) 0) ≡ true
      passed j l = not-false (separator (get_or text (at + j) 0))
          (ap other (sym (get_or-drop at text j 0)) ∙ (position-Some other (drop at text) p 0 found).2 j l)

      starts-here : starts_token text (at + p) ≡ true
      starts-here = go p start-inside first-byte passed
        where
          go : (k : ℕ) → at + k < length text → separator (get_or text (at + k) 0) ≡ false
              → ((j : ℕ) → j < k → separator (get_or text (at + j) 0) ≡ true) → starts_token text (at + k) ≡ true
          go zero l e h = let z : at + 0 ≡ at = omega arith in rw z (between (omega arith) (rw z at e))
          go (suc k) l e h =
              let z : at + suc k ≡ at + k + 1 = omega arith in
              rw z (after-gap (at + k) (h k (omega arith)) (rw z at e))

      pub next-token : tokens_from text at ≡ (at + p, token_at text (at + p)) ∷ tokens_from text (at + p + length (token_at text (at + p)))
      unfolding tokens_from
      next-token =
          let i = at + p in
          let same = quiet at p (λ j l. gap (at + j) (passed j l)) in
          ap (map (λ (i : ℕ). (i, token_at text i)))
          (ap (λ (k : ℕ). drop k (starts text)) (sym same) ∙ from-start i start-inside starts-here
          ∙ ap (λ (k : ℕ). i ∷ drop k (starts text)) (sym (past i start-inside first-byte starts-here)))

-- from byte 0 on
module _ (text : List ℕ) where
  pub all-tokens : tokens_from text 0 ≡ map (λ (i : ℕ). (i, token_at text i)) (starts text)
  unfolding tokens_from
  all-tokens = ap (λ (k : ℕ). map (λ (i : ℕ). (i, token_at text i)) (drop k (starts text))) (before-none text)

  pub count-all : length (tokens_from text 0) ≡ token_count text
  unfolding token_count
  count-all = ap length all-tokens ∙ length-map (starts text) (λ (i : ℕ). (i, token_at text i))

  pub count-bytes : length (tokens_from text 0) ≤ length text
  unfolding token_count starts
  count-bytes = omega (arith, count-all, before-few text (length text))

  -- token k: its first byte and its bytes
  abbrev pub token : ℕ → ℕ × List ℕ
  token k = (token_start text k, token_at text (token_start text k))

  -- one token after k of them
  pub record Turn (k : ℕ) (x : ℕ × List ℕ) (after : List (ℕ × List ℕ)) : Type 0 where
    pub counted : k < token_count text
    pub here : x ≡ token k
    pub left : after ≡ drop (k + 1) (tokens_from text 0)

  pub turn : (k : ℕ) {now after : List (ℕ × List ℕ)} {x : ℕ × List ℕ} → now ≡ drop k (tokens_from text 0) → now ≡ x ∷ after → Turn k x after
  unfolding token_start
  turn k {now} {after} {x} e f =
      let all = tokens_from text 0 in
      let n : k < length all = omega (arith, length-drop k all, ap length (sym e ∙ f)) in
      let first : ℕ × List ℕ = (0, token_at text 0) in
      let g : x ∷ after ≡ get_or all k first ∷ drop (suc k) all = sym f ∙ e ∙ drop-cons all k first n in
      let h : x ≡ get_or all k first = cc in
      record {
        counted = omega (arith, count-all);
        here =
            h ∙ ap (λ (l : List (ℕ × List ℕ)). get_or l k first) all-tokens
            ∙ get_or-map (λ (i : ℕ). (i, token_at text i)) (starts text) k 0;
        left = rw (add-one k) (cc);
      }

  pub ended : (k : ℕ) {now : List (ℕ × List ℕ)} → now ≡ drop k (tokens_from text 0) → now ≡ [] → token_count text ≤ k
  ended k e f = omega (arith, length-drop k (tokens_from text 0), ap length (sym e ∙ f), count-all)
