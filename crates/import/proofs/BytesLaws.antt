-- Laws of the longest run of bytes of a kind at the front, and of a first byte that is skipped.
use mathlib.Core.Path.{◌≡◌, refl, sym, ap, subst, ◌∙◌}
use mathlib.Core.Bool.{Bool, true, false, ◌||◌}
use mathlib.Core.List.{List, [], ◌∷◌, ◌++◌}
use Prim.Native.Nat.{ℕ, zero, suc, ◌+◌, ◌≤◌, ◌<◌}
use native.Mathlib.Numerals.{add-one}
use native.Mathlib.Nat.{le_of_suc-le-suc}
use native.Mathlib.Omega.{arith}
use lib.Dec.{eqb}
use lib.ListN.{length, get_or, take, drop, take-append-drop, drop_of_length-le, length-drop}
use lib.Seq.{drop-cons}
use borrow.Author.Tests.{ne_eqb}
use Rattle.std.specs.List.{prefix_len}
use Rattle.arith.specs.Choice.{pick}
use Rattle.arith.proofs.Choices.{pick_true, pick-false, on-pick, split}
use Rattle.import.specs.Bytes.{leading, beyond, leads, skip}

module _ (kind : ℕ → Bool) where
  -- its length, in the words of the library
  pub prefix-run : (l : List ℕ) → prefix_len kind l ≡ length (leading kind l)
  unfolding leading pick
  prefix-run [] = refl
  prefix-run (b ∷ bs) = split (kind b) (λ e. rw e (omega (arith, prefix-run bs))) (λ e. rw e refl)

  -- the run is the front of the list
  pub leading-front : (l : List ℕ) → (length (leading kind l) ≤ length l) × (take (length (leading kind l)) l ≡ leading kind l)
  unfolding leading
  leading-front [] = (omega arith, refl)
  leading-front (b ∷ bs) =
      on-pick (λ (r : List ℕ). (length r ≤ suc (length bs)) × (take (length r) (b ∷ bs) ≡ r)) (kind b) (b ∷ leading kind bs) []
      (λ _. (omega (arith, (leading-front bs).0), ap (λ (r : List ℕ). b ∷ r) (leading-front bs).1))
      (λ _. (omega arith, refl))

  pub split-leading : (l : List ℕ) → leading kind l ++ beyond kind l ≡ l
  unfolding beyond
  split-leading l =
      ap (λ (r : List ℕ). r ++ drop (length (leading kind l)) l) (sym (leading-front l).1) ∙ take-append-drop (length (leading kind l)) l

  -- all its bytes are of the kind, and the next is not
  pub leading-each : (l : List ℕ) (j : ℕ) → j < length (leading kind l) → kind (get_or l j 0) ≡ true
  unfolding leading
  leading-each [] j h = absurd (omega arith)
  leading-each (b ∷ bs) j h = split (kind b)
      (λ e. each (leading-each bs) j e (rw (pick_true (kind b) (b ∷ leading kind bs) [] e) at h))
      (λ e. absurd (none_left (rw (pick-false (kind b) (b ∷ leading kind bs) [] e) at h)))
    where
      each : ((j : ℕ) → j < length (leading kind bs) → kind (get_or bs j 0) ≡ true) → (j : ℕ) → kind b ≡ true
          → j < suc (length (leading kind bs)) → kind (get_or (b ∷ bs) j 0) ≡ true
      each f zero e k = e
      each f (suc j) e k = f j (le_of_suc-le-suc k)

      none_left : j < 0 → ⊥
      none_left k = omega arith

  pub leading-next : (l : List ℕ) → length (leading kind l) < length l → kind (get_or l (length (leading kind l)) 0) ≡ false
  unfolding leading
  leading-next [] h = absurd (omega arith)
  leading-next (b ∷ bs) h = split (kind b)
      (λ e.
      let f = pick_true (kind b) (b ∷ leading kind bs) [] e in
      ap (λ (r : List ℕ). kind (get_or (b ∷ bs) (length r) 0)) f
      ∙ leading-next bs (le_of_suc-le-suc (subst (λ (r : List ℕ). length r < suc (length bs)) f h)))
      (λ e. ap (λ (r : List ℕ). kind (get_or (b ∷ bs) (length r) 0)) (pick-false (kind b) (b ∷ leading kind bs) [] e) ∙ e)

  -- ---- from byte i on

  module _ (l : List ℕ) (i : ℕ) where
    pub run_end : length l ≤ i → length (leading kind (drop i l)) ≡ 0
    unfolding leading
    run_end h = ap (λ (r : List ℕ). length (leading kind r)) (drop_of_length-le l h)

    pub run-stops : i < length l → kind (get_or l i 0) ≡ false → length (leading kind (drop i l)) ≡ 0
    unfolding leading
    run-stops h e = rw (drop-cons l i 0 h) (ap length (pick-false (kind (get_or l i 0)) (get_or l i 0 ∷ leading kind (drop (suc i) l)) []
        e))

    pub run_more : i < length l → kind (get_or l i 0) ≡ true → length (leading kind (drop i l)) ≡ suc
        (length (leading kind (drop (i + 1) l)))
    unfolding leading
    run_more h e =
        rw (add-one i, drop-cons l i 0 h) (ap length (pick_true (kind (get_or l i 0)) (get_or l i 0 ∷ leading kind (drop (suc i) l)) [] e))

-- ---- a first byte

module _ (x y : ℕ) where
  pub leads-none : (l : List ℕ) → length l ≡ 0 → leads x y l ≡ false
  unfolding leads
  leads-none [] h = refl
  leads-none (b ∷ bs) h = absurd (omega arith)

  pub leads-first : (l : List ℕ) → 0 < length l → leads x y l ≡ (eqb (get_or l 0 0) x || eqb (get_or l 0 0) y)
  unfolding leads
  leads-first [] h = absurd (omega arith)
  leads-first (b ∷ bs) h = refl

  pub leads-not : (l : List ℕ) → (0 < length l → (get_or l 0 0 ≡ x → ⊥) × (get_or l 0 0 ≡ y → ⊥)) → leads x y l ≡ false
  leads-not [] h = leads-none [] refl
  leads-not (b ∷ bs) h = let k = h (omega arith) in leads-first (b ∷ bs) (omega arith) ∙ rw (ne_eqb b x k.0, ne_eqb b y k.1) refl

  pub skip-one : (l : List ℕ) → leads x y l ≡ true → skip x y l ≡ drop 1 l
  unfolding skip
  skip-one l e = pick_true (leads x y l) (drop 1 l) l e

  pub skip-none : (l : List ℕ) → leads x y l ≡ false → skip x y l ≡ l
  unfolding skip
  skip-none l e = pick-false (leads x y l) (drop 1 l) l e

-- ---- lengths

pub skip-short : (x y : ℕ) (l : List ℕ) → length (skip x y l) ≤ length l
unfolding skip
skip-short x y l =
    on-pick (λ (r : List ℕ). length r ≤ length l) (leads x y l) (drop 1 l) l (λ _. omega (arith, length-drop 1 l)) (λ _. omega arith)

pub beyond-short : (kind : ℕ → Bool) (l : List ℕ) → length (beyond kind l) ≤ length l
unfolding beyond
beyond-short kind l = omega (arith, length-drop (length (leading kind l)) l)
