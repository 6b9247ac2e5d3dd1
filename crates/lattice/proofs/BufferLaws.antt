-- Laws of a list by its elements' numbers: f 0, f 1, .., f (n - 1); the filling of a slice from the front; runs of stores.
use Prim.Native.Nat.{ℕ, zero, suc, ◌+◌, ◌≤◌, ◌<◌}
use native.Mathlib.Omega.{arith}
use native.Mathlib.Nat.{eq-or-lt_of_le, zero-add}
use native.Mathlib.Numerals.{add-one}
use mathlib.Core.Path.{◌≡◌, refl, ap, sym, ◌∙◌}
use mathlib.Core.Logic.{⊎_elim}
use mathlib.Core.List.{List, [], ◌∷◌, ◌++◌}
use lib.IntN.{ℤ, pos}
use lib.ListN.{length-drop, length, get_or, set, take, drop, length-append, get_or-append}
use lib.Seq.{sets, sets-eq, ext_get_or, drop-cons, set_at, append_snoc, get_or_at, get_or-set_same, get_or-set_other, take-suc, length-take-le}
use borrow.Author.Count.{below_more}
use Rattle.lattice.specs.Buffer.{at, tabulate, overwrite}

module _ {A : Type 0} where
  pub length-tabulate : (n : ℕ) (f : ℕ → A) → length (tabulate n f) ≡ n
  unfolding tabulate
  length-tabulate zero f = refl
  length-tabulate (suc n) f = length-append (tabulate n f) (f n ∷ []) ∙ omega (arith, length-tabulate n f)

  pub get_d_tabulate : (n : ℕ) (f : ℕ → A) (i : ℕ) (d : A) → i < n → get_or (tabulate n f) i d ≡ f i
  unfolding tabulate
  get_d_tabulate zero f i d h = absurd (omega arith)
  get_d_tabulate (suc n) f i d h = ⊎_elim
      (λ (e : i ≡ n). rw e (get_or_at (tabulate n f) (f n) [] d n (length-tabulate n f)))
      (λ (p : i < n). get_or-append (tabulate n f) (f n ∷ []) d i (rw (length-tabulate n f) p) ∙ get_d_tabulate n f i d p)
      (eq-or-lt_of_le (omega arith))

  -- a list is the one of its elements
  pub tabulate-get_or : (l : List A) (n : ℕ) (d : A) → length l ≡ n → tabulate n (λ (i : ℕ). get_or l i d) ≡ l
  tabulate-get_or l n d h =
      ext_get_or d (tabulate n (λ (i : ℕ). get_or l i d)) l (length-tabulate n _ ∙ sym h)
      (λ i p. get_d_tabulate n (λ (i : ℕ). get_or l i d) i d (rw (length-tabulate n (λ (i : ℕ). get_or l i d)) at p))

  -- the invariant of a loop that fills a slice from the front
  abbrev pub Filled : (ℕ → A) → List A → ℕ → List A → Type 0
  Filled f old i now = now ≡ tabulate i f ++ drop i old

  module _ (f : ℕ → A) (old : List A) where
    pub filled_none : Filled f old 0 old
    unfolding tabulate
    filled_none = refl

    pub filled_more : (i : ℕ) (now : List A) (v d : A) → i < length old → Filled f old i now → v ≡ f i → Filled f old (i + 1) (set now i v)
    unfolding tabulate
    filled_more i now v d h e w =
        rw (e, w, drop-cons old i d h, add-one)
        (set_at (tabulate i f) (get_or old i d) (drop (suc i) old) (f i) i (length-tabulate i f)
        ∙ sym (append_snoc (tabulate i f) (f i) (drop (suc i) old)))

    pub filled-length : (i : ℕ) (now : List A) → i ≤ length old → Filled f old i now → length now ≡ length old
    filled-length i now h e = ap length e ∙ length-append (tabulate i f) (drop i old)
        ∙ omega (arith, length-tabulate i f, length-drop i old)

    pub filled-all : (n : ℕ) (now : List A) → Filled f old n now → now ≡ overwrite (tabulate n f) old
    filled-all n now e = e ∙ ap (λ (k : ℕ). tabulate n f ++ drop k old) (sym (length-tabulate n f))

  -- ---- runs of stores

  -- one run of stores after another
  pub sets-append : (vs ws l : List A) (i : ℕ) → sets l i (vs ++ ws) ≡ sets (sets l i vs) (i + length vs) ws
  sets-append [] ws l i = let e : i ≡ i + 0 = omega arith in ap (λ (k : ℕ). sets l k ws) e
  sets-append (x ∷ vs) ws l i =
      let e : suc i + length vs ≡ i + suc (length vs) = omega arith in
      sets-append vs ws (set l i x) (suc i) ∙ ap (λ (k : ℕ). sets (sets (set l i x) (suc i) vs) k ws) e

  -- a run of stores from the front
  pub sets-front : (vs l : List A) → length vs ≤ length l → sets l 0 vs ≡ overwrite vs l
  sets-front vs l h = sets-eq vs l 0 (omega arith) ∙ ap (λ (k : ℕ). vs ++ drop k l) (zero-add (length vs))

  -- one element more of a list
  pub sets-next : (vs l : List A) (i k : ℕ) (d : A) → k < length vs
      → set (sets l i (take k vs)) (i + k) (get_or vs k d) ≡ sets l i (take (k + 1) vs)
  sets-next vs l i k d h =
      ap (λ (j : ℕ). set (sets l i (take k vs)) (i + j) (get_or vs k d)) (sym (length-take-le k vs (omega arith)))
      ∙ sym (sets-append (take k vs) (get_or vs k d ∷ []) l i)
      ∙ ap (λ (m : List A). sets l i m) (sym (take-suc vs k d h) ∙ ap (λ (j : ℕ). take j vs) (sym (add-one k)))

-- ---- numbers

-- lists of equal numbers
pub tabulate-same : (n : ℕ) (f g : ℕ → ℤ) → ((i : ℕ) → i < n → f i ≡ g i) → tabulate n f ≡ tabulate n g
unfolding tabulate
tabulate-same zero f g h = refl
tabulate-same (suc n) f g h = ap (λ (l : List ℤ). l ++ (f n ∷ [])) (tabulate-same n f g (λ i l. h i (omega arith)))
    ∙ ap (λ z. tabulate n g ++ (z ∷ [])) (h n (omega arith))

-- an array of which the first i numbers are known, and one more
pub fill : (l : List ℤ) (i : ℕ) (f : ℕ → ℤ) (v : ℤ) → i < length l → ((j : ℕ) → j < i → at l j ≡ f j) → v ≡ f i → (j : ℕ) → j < i + 1
    → at (set l i v) j ≡ f j
fill l i f v h p e =
    below_more (λ j. at (set l i v) j ≡ f j) i (λ j q. get_or-set_other l i j v (pos 0) (λ z. apart j i q z) ∙ p j q)
    (get_or-set_same l i v (pos 0) h ∙ e)
  where
    apart : (j i : ℕ) → j < i → j ≡ i → ⊥
    apart j i q z = omega arith

-- a list of zeros
abbrev pub noughts : ℕ → List ℤ
noughts zero = []
noughts (suc n) = pos 0 ∷ noughts n

pub noughts-at : (n k : ℕ) → at (noughts n) k ≡ pos 0
noughts-at zero k = refl
noughts-at (suc n) zero = refl
noughts-at (suc n) (suc k) = noughts-at n k
