-- What is left of a slice as its chunks of n are gone over.
use mathlib.Core.Path.{◌≡◌, sym, ap, ◌∙◌}
use mathlib.Core.List.{List, ◌++◌}
use mathlib.Core.Logic.{⊎_elim}
use Prim.Native.Nat.{ℕ, ◌+◌, ◌*◌, ◌≤◌, ◌<◌}
use native.Mathlib.Nat.{eq-or-lt_of_le, mul-le-mul_left}
use native.Mathlib.Decide.{dec_lt}
use native.Mathlib.Omega.{arith}
use lib.ListN.{length, drop, get_or, length-append}
use Rattle.lattice.proofs.DigitsLaws.{group-room}
use Rattle.std.proofs.lemmas.List.{get_or-drop, get_or_append_left, drop_at, drop-drop, length-drop}

module _ {A : Type 0} (xs rest after chunk : List A) (n k : ℕ) (left : rest ≡ drop (n * k) xs) (cut : rest ≡ chunk ++ after)
    (long : length chunk ≡ n) where
  pub chunk-left : after ≡ drop (n * (k + 1)) xs
  chunk-left =
      let e : n * k + n ≡ n * (k + 1) = omega arith in
      sym (drop_at chunk after n long) ∙ ap (drop n) (sym cut ∙ left) ∙ drop-drop n (n * k) xs ∙ ap (λ (i : ℕ). drop i xs) e

  pub chunk-at : (d : A) (i : ℕ) → i < n → get_or chunk i d ≡ get_or xs (n * k + i) d
  chunk-at d i l =
      sym (get_or_append_left chunk after d i (omega arith)) ∙ ap (λ (ys : List A). get_or ys i d) (sym cut ∙ left)
      ∙ get_or-drop (n * k) xs i d

  -- of the N chunks of xs
  pub chunk-below : (N : ℕ) → 1 ≤ n → length xs ≡ n * N → k < N
  chunk-below N some all = go (dec_lt k N)
    where
      go : Dec (k < N) → k < N
      go (yes l) = l
      go (no l) =
          let e = sym (length-drop (n * k) xs) ∙ ap length (sym left ∙ cut) ∙ length-append chunk after in
          let f : n * N ≤ n * k = mul-le-mul_left n (let h : N ≤ k = omega (arith, l) in h) in
          absurd (omega arith)

-- no chunk is left
pub chunks-end : {A : Type 0} (xs rest : List A) (n k N : ℕ) → rest ≡ drop (n * k) xs → length rest < n → length xs ≡ n * N → k ≤ N → k ≡ N
chunks-end xs rest n k N left short long few =
    ⊎_elim (λ (e : k ≡ N). e)
    (λ (l : k < N). absurd (let r = group-room n k N l in let e = ap length left ∙ length-drop (n * k) xs in omega arith))
    (eq-or-lt_of_le few)
