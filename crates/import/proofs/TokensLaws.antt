-- Where tokens start, byte by byte.
use mathlib.Core.Path.{◌≡◌, refl, sym, ap, subst, ◌∙◌}
use mathlib.Core.Bool.{true, false}
use mathlib.Core.List.{List, [], ◌∷◌, ◌++◌, append-nil}
use mathlib.Core.Logic.{⊎_elim}
use Prim.Native.Nat.{ℕ, zero, suc, ◌+◌, ◌≤◌, ◌<◌}
use native.Mathlib.Numerals.{add-one}
use native.Mathlib.Decide.{dec_le}
use native.Mathlib.Nat.{eq-or-lt_of_le, not-suc-le-zero, le_of_suc-le-suc}
use native.Mathlib.Omega.{arith}
use lib.ListN.{length, get_or, length-append, get_or-append}
use lib.Seq.{get_or_at}
use Rattle.arith.specs.Choice.{pick}
use Rattle.arith.proofs.Choices.{pick_true, pick-false, on-pick, split}
use Rattle.import.specs.Tokens.{starts_token, starts_below, starts, token_count, token_start}

module _ (text : List ℕ) where
  abbrev pub before : ℕ → ℕ
  before i = length (starts_below text i)

  pub before-none : before 0 ≡ 0
  unfolding starts_below
  before-none = refl

  pub before-start : (i : ℕ) → starts_token text i ≡ true → before (i + 1) ≡ before i + 1
  unfolding starts_below
  before-start i e = rw (add-one i, pick_true (starts_token text i) (i ∷ []) [] e) (length-append (starts_below text i) (i ∷ []))

  pub before-other : (i : ℕ) → starts_token text i ≡ false → before (i + 1) ≡ before i
  unfolding starts_below
  before-other i e = rw (add-one i, pick-false (starts_token text i) (i ∷ []) [] e) (length-append (starts_below text i) [] ∙ omega arith)

  pub before-few : (i : ℕ) → before i ≤ i
  unfolding starts_below
  before-few zero = omega arith
  before-few (suc i) =
      let h = before-few i in
      rw (length-append (starts_below text i))
      (on-pick (λ (w : List ℕ). before i + length w ≤ suc i) (starts_token text i) (i ∷ []) [] (λ _. omega arith) (λ _. omega arith))

  before-upto : (n i : ℕ) → i ≤ n → before i ≤ before n
  unfolding starts_below
  before-upto zero i l = let e : i ≡ 0 = omega arith in rw e (omega arith)
  before-upto (suc n) i l = ⊎_elim
      (λ (j : i ≡ suc n). rw j (omega arith))
      (λ (j : i < suc n). omega (
        arith,
        before-upto n i (le_of_suc-le-suc j),
        length-append (starts_below text n)
            (pick (starts_token text n) (n ∷ []) []),
      ))
      (eq-or-lt_of_le l)

  -- the start at i has as many before it
  start-below : (n i : ℕ) → i < n → starts_token text i ≡ true → (before i < before n) × (get_or (starts_below text n) (before i) 0 ≡ i)
  unfolding starts_below
  start-below zero i l e = absurd (not-suc-le-zero l)
  start-below (suc n) i l e = ⊎_elim
      (λ (j : i ≡ n).
      let f : starts_token text n ≡ true = subst (λ (m : ℕ). starts_token text m ≡ true) j e in
      rw (j, pick_true (starts_token text n) (n ∷ []) [] f) (
        omega (arith, length-append (starts_below text n) (n ∷ [])),
        get_or_at
            (starts_below text n) n [] 0 (before n) refl,
      ))
      (λ (j : i < n).
      let h = start-below n i j e in
      let w = pick (starts_token text n) (n ∷ []) [] in
      (omega (arith, h.0, length-append (starts_below text n) w), get_or-append (starts_below text n) w 0 (before i) h.0 ∙ h.1))
      (eq-or-lt_of_le (le_of_suc-le-suc l))

  pub start-counted : (i : ℕ) → i < length text → starts_token text i ≡ true → before i < token_count text
  unfolding token_count starts
  start-counted i l e = (start-below (length text) i l e).0

  pub start_is : (i : ℕ) → i < length text → starts_token text i ≡ true → token_start text (before i) ≡ i
  unfolding token_start starts
  start_is i l e = (start-below (length text) i l e).1

  pub before-all : (i : ℕ) → i ≡ length text → before i ≡ token_count text
  unfolding token_count starts
  before-all i e = ap before e

  -- token k starts at i, below n
  abbrev Starts : ℕ → ℕ → ℕ → Type 0
  Starts n k i = (i < n) × (starts_token text i ≡ true) × (before i ≡ k)

  -- every place that is counted is a start
  below-starts : (n k : ℕ) → k < before n → Starts n k (get_or (starts_below text n) k 0)
  unfolding starts_below
  below-starts zero k l = absurd (omega arith)
  below-starts (suc n) k l = split (starts_token text n)
      (λ e.
      let f = pick_true (starts_token text n) (n ∷ []) [] e in
      rw f (at-start (below-starts n k) e (rw f at l)))
      (λ e.
      let f : starts_below text n ++ pick (starts_token text n) (n ∷ []) [] ≡ starts_below text n
      = ap (λ (w : List ℕ). starts_below text n ++ w) (pick-false (starts_token text n) (n ∷ []) [] e) ∙ append-nil (starts_below text n) in
      rw f (higher (below-starts n k (rw f at l))))
    where
      higher : {i : ℕ} → Starts n k i → Starts (suc n) k i
      higher h = (omega (arith, h.0), h.1, h.2)

      at-start : (k < before n → Starts n k (get_or (starts_below text n) k 0)) → starts_token text n ≡ true
          → k < length (starts_below text n ++ (n ∷ [])) → Starts (suc n) k (get_or (starts_below text n ++ (n ∷ [])) k 0)
      at-start f e m = ⊎_elim
          (λ (j : k ≡ before n). rw (get_or_at (starts_below text n) n [] 0 k (sym j)) (omega arith, e, sym j))
          (λ (j : k < before n). rw (get_or-append (starts_below text n) (n ∷ []) 0 k j) (higher (f j)))
          (eq-or-lt_of_le (omega (arith, length-append (starts_below text n) (n ∷ []))))

  pub starts-are : (k : ℕ) → k < token_count text → Starts (length text) k (token_start text k)
  unfolding token_count token_start starts
  starts-are k l = below-starts (length text) k l

  -- a later token starts later
  pub starts-ascend : (k l : ℕ) → k < l → l < token_count text → token_start text k < token_start text l
  starts-ascend k l h m = go (dec_le (token_start text l) (token_start text k))
    where
      go : Dec (token_start text l ≤ token_start text k) → token_start text k < token_start text l
      go (yes d) =
          absurd (omega (
            arith,
            before-upto (token_start text k) (token_start text l) d,
            (starts-are k (omega arith)).2,
            (starts-are l m).2,
          ))
      go (no d) = omega (arith, d)
