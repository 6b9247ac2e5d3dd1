-- What the total takes of the orders at a node: the numbers of the code, and how large they are.
use mathlib.Core.Path.{◌≡◌, refl, sym, ap, ap₂, subst, ◌∙◌}
use mathlib.Core.Bool.{Bool, true, false}
use mathlib.Core.List.{List, [], ◌∷◌}
use Prim.Native.Nat.{ℕ, ◌+◌, ◌-◌, ◌≤◌, ◌<◌}
use native.Mathlib.Nat.{le_trans, le_of_eq}
use native.Mathlib.Omega.{arith}
use lib.Dec.{ltb, eqb, lit≤}
use lib.IntN.{ℤ, pos, negsuc, nat_abs, ◌+ℤ◌}
use lib.ListN.{get_or}
use borrow.Author.Tests.{eq-eqb, ne_eqb, lt-ltb, le-ltb}
use Rattle.arith.specs.Choice.{pick}
use Rattle.arith.specs.Sum.{sum, total}
use Rattle.arith.proofs.Choices.{by-m, by_2, by-3}
use Rattle.arith.proofs.Sums.{total_ext}
use Rattle.lattice.specs.Buffer.{at}
use Rattle.hermite.specs.Hermite.{multiplier, mirrored, share}
use Rattle.totals.specs.Totals.{total_multiplier}
use Rattle.totals.specs.Parts.{taken, taken_at}
use Rattle.totals.proofs.SumLaws.{term-low}

-- by three tests: there is no cell, there is a cell above the node, there is one below
unfoldable pub taken_by : ℕ → Bool → Bool → Bool → ℕ → ℤ
taken_by m none above below o =
    pick none (pick (eqb o 0) (pos 1) (pos 0)) (pick above (taken m o) (pos 0) +ℤ pick below (taken m (m + o)) (pos 0))

pub taken-by : (m K j o : ℕ) → taken_at m K j o ≡ taken_by m (eqb K 0) (ltb j K) (ltb 0 j) o
unfolding taken_at taken_by
taken-by m K j o = refl

light : ℕ → Type 0
light m = (n a b : Bool) → total m (λ o. nat_abs (taken_by m n a b o)) ≤ 128

light-2 : light 2
unfolding light total taken_by pick taken sum share multiplier mirrored total_multiplier
light-2 true a b = lit≤ tt
light-2 false true true = lit≤ tt
light-2 false true false = lit≤ tt
light-2 false false true = lit≤ tt
light-2 false false false = lit≤ tt

light-3 : light 3
unfolding light total taken_by pick taken sum share multiplier mirrored total_multiplier
light-3 true a b = lit≤ tt
light-3 false true true = lit≤ tt
light-3 false true false = lit≤ tt
light-3 false false true = lit≤ tt
light-3 false false false = lit≤ tt

pub taken-light : (m K j : ℕ) → 2 ≤ m → m ≤ 3 → total m (λ o. nat_abs (taken_at m K j o)) ≤ 128
unfolding light taken_at taken_by
taken-light m K j m2 m3 = by-m light light-2 light-3 m m2 m3 (eqb K 0) (ltb j K) (ltb 0 j)

-- numbers that are those of the tests
pub by_tests : (m K j : ℕ) (none above below : Bool) → eqb K 0 ≡ none → ltb j K ≡ above → ltb 0 j ≡ below → (f : ℕ → ℤ)
    → ((o : ℕ) → o < m → f o ≡ taken_by m none above below o) → (o : ℕ) → o < m → f o ≡ taken_at m K j o
by_tests m K j none above below n a b f h o l =
    h o l ∙ sym (taken-by m K j o ∙ ap (λ (x : Bool). taken_by m x (ltb j K) (ltb 0 j) o) n
    ∙ ap₂ (λ (x y : Bool). taken_by m none x y o) a b)

-- along an unused axis, at the first, at a middle and at the last node
abbrev pub Taken : ℕ → ℕ → ℕ → List ℤ → Type 0
Taken m K j xs = (o : ℕ) → o < m → at xs o ≡ taken_at m K j o

module _ (m K j : ℕ) where
  pub taken_none : m ≤ 3 → K ≡ 0 → Taken m K j (pos 1 ∷ pos 0 ∷ pos 0 ∷ [])
  unfolding taken_by pick
  taken_none m3 e = by_tests m K j true (ltb j K) (ltb 0 j) (eq-eqb K 0 e) refl refl (at (pos 1 ∷ pos 0 ∷ pos 0 ∷ []))
      (λ o l. by-3 (λ o. at (pos 1 ∷ pos 0 ∷ pos 0 ∷ []) o ≡ pick (eqb o 0) (pos 1) (pos 0)) refl refl refl o (omega arith))

  -- of a node with a cell above it, below it
  pub taken-cubic : (above below : Bool) → m ≡ 2 → 0 < K → ltb j K ≡ above → ltb 0 j ≡ below → (xs : List ℤ)
      → at xs 0 ≡ taken_by 2 false above below 0 → at xs 1 ≡ taken_by 2 false above below 1 → Taken m K j xs
  taken-cubic above below e k a b xs p q =
      subst (λ (m : ℕ). (o : ℕ) → o < m → at xs o ≡ taken_at m K j o) (sym e)
      (by_tests 2 K j false above below (ne_eqb K 0 (λ z. omega arith)) a b (at xs) (by_2 _ p q))

  pub taken-quintic : (above below : Bool) → m ≡ 3 → 0 < K → ltb j K ≡ above → ltb 0 j ≡ below → (xs : List ℤ)
      → at xs 0 ≡ taken_by 3 false above below 0 → at xs 1 ≡ taken_by 3 false above below 1 → at xs 2 ≡ taken_by 3 false above below 2
      → Taken m K j xs
  taken-quintic above below e k a b xs p q r =
      subst (λ (m : ℕ). (o : ℕ) → o < m → at xs o ≡ taken_at m K j o) (sym e)
      (by_tests 3 K j false above below (ne_eqb K 0 (λ z. omega arith)) a b (at xs) (by-3 _ p q r))

-- by degree: at the first, at the last and at any other node
abbrev pub numbers : List (List (List ℤ))
numbers =
    ((pos 12 ∷ pos 1 ∷ pos 0 ∷ []) ∷ (pos 12 ∷ negsuc 0 ∷ pos 0 ∷ []) ∷ (pos 24 ∷ pos 0 ∷ pos 0 ∷ []) ∷ [])
    ∷ ((pos 60 ∷ pos 6 ∷ pos 1 ∷ []) ∷ (pos 60 ∷ negsuc 5 ∷ pos 1 ∷ []) ∷ (pos 120 ∷ pos 0 ∷ pos 2 ∷ []) ∷ [])
    ∷ []

-- of a node with a cell above it, below it
Row : ℕ → Bool → Bool → ℕ → Type 0
Row k above below m = (o : ℕ) → o < m → at (get_or (get_or numbers (m - 2) []) k []) o ≡ taken_by m false above below o

firsts : (m : ℕ) → 2 ≤ m → m ≤ 3 → Row 0 true false m
unfolding Row taken_by taken sum share multiplier mirrored pick total_multiplier
firsts = by-m (Row 0 true false) (by_2 _ refl refl) (by-3 _ refl refl refl)

lasts : (m : ℕ) → 2 ≤ m → m ≤ 3 → Row 1 false true m
unfolding Row taken_by taken sum share multiplier mirrored pick total_multiplier
lasts = by-m (Row 1 false true) (by_2 _ refl refl) (by-3 _ refl refl refl)

others : (m : ℕ) → 2 ≤ m → m ≤ 3 → Row 2 true true m
unfolding Row taken_by taken sum share multiplier mirrored pick total_multiplier
others = by-m (Row 2 true true) (by_2 _ refl refl) (by-3 _ refl refl refl)

module _ (m K j : ℕ) (m2 : 2 ≤ m) (m3 : m ≤ 3) (some : 0 < K) where
  pub taken-first : j ≡ 0 → Taken m K j (get_or (get_or numbers (m - 2) []) 0 [])
  unfolding Row
  taken-first e = by_tests m K j false true false (ne_eqb K 0 (λ z. omega arith)) (lt-ltb j K (omega arith)) (le-ltb 0 j (omega arith))
      (at (get_or (get_or numbers (m - 2) []) 0 [])) (firsts m m2 m3)

  pub taken-last : j ≡ K → Taken m K j (get_or (get_or numbers (m - 2) []) 1 [])
  unfolding Row
  taken-last e = by_tests m K j false false true (ne_eqb K 0 (λ z. omega arith)) (le-ltb j K (omega arith)) (lt-ltb 0 j (omega arith))
      (at (get_or (get_or numbers (m - 2) []) 1 [])) (lasts m m2 m3)

  pub taken-other : 0 < j → j < K → Taken m K j (get_or (get_or numbers (m - 2) []) 2 [])
  unfolding Row
  taken-other e l = by_tests m K j false true true (ne_eqb K 0 (λ z. omega arith)) (lt-ltb j K l) (lt-ltb 0 j e)
      (at (get_or (get_or numbers (m - 2) []) 2 [])) (others m m2 m3)

-- numbers that are what the total takes are small
pub factors-light : (m K j : ℕ) (f : ℕ → ℤ) → 2 ≤ m → m ≤ 3 → ((o : ℕ) → o < m → f o ≡ taken_at m K j o) → total m (λ o. nat_abs (f o)) ≤
    128
factors-light m K j f m2 m3 h =
    le_trans (le_of_eq (total_ext m (λ o. nat_abs (f o)) (λ o. nat_abs (taken_at m K j o)) (λ o l. ap nat_abs (h o l))))
    (taken-light m K j m2 m3)

pub factor-low : (m K j : ℕ) (f : ℕ → ℤ) → 2 ≤ m → m ≤ 3 → ((o : ℕ) → o < m → f o ≡ taken_at m K j o) → (o : ℕ) → o < m
    → nat_abs (f o) ≤ 128
factor-low m K j f m2 m3 h o l = le_trans (term-low m (λ o. nat_abs (f o)) o l) (factors-light m K j f m2 m3 h)
