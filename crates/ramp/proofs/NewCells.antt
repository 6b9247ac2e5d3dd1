-- Cells that differ, and the number of fetches from query to query.
use mathlib.Core.Path.{◌≡◌, refl, sym, ap, ap₂, ◌∙◌}
use mathlib.Core.Bool.{Bool, true, false, not, ◌&&◌}
use mathlib.Core.List.{List}
use Prim.Native.Nat.{ℕ, zero, suc, ◌+◌, ◌≤◌, ◌<◌}
use native.Mathlib.Omega.{arith}
use lib.Dec.{eqb}
use lib.ListN.{length, get_or}
use lib.Pointwise.{pointwise}
use borrow.Author.Tests.{eqb-true}
use Rattle.arith.specs.Choice.{pick}
use Rattle.arith.proofs.Choices.{and-true}
use Rattle.lattice.specs.Axes.{Place}
use Rattle.lattice.specs.Buffer.{tabulate}
use Rattle.lattice.proofs.BufferLaws.{tabulate-get_or}
use Rattle.cell.specs.Cell.{place_at}
use Rattle.std.proofs.Math.Bool.{and-true as and-right}
use Rattle.query.proofs.CoarseCalls.{back}
use Rattle.ramp.specs.Ramp.{differ, changes, fetches}

-- cells as they are compared
three-pairs : (f g : ℕ → ℕ) → not (pointwise eqb (tabulate 3 f) (tabulate 3 g))
    ≡ not (eqb (f 0) (g 0) && (eqb (f 1) (g 1) && eqb (f 2) (g 2)))
unfolding tabulate
three-pairs f g = ap (λ (t : Bool). not (eqb (f 0) (g 0) && (eqb (f 1) (g 1) && t))) (and-right (eqb (f 2) (g 2)))

pub differ-lists : (xs ys : List ℕ) → length xs ≡ 3 → length ys ≡ 3 → not (pointwise eqb xs ys) ≡ differ (place_at xs) (place_at ys)
unfolding differ place_at pick
differ-lists xs ys h k =
    ap₂ (λ (a b : List ℕ). not (pointwise eqb a b)) (sym (tabulate-get_or xs 3 0 h)) (sym (tabulate-get_or ys 3 0 k))
    ∙ three-pairs (λ a. get_or xs a 0) (λ a. get_or ys a 0)

module _ (c d : Place) where
  -- cells that do not differ are the same
  pub differ-not : differ c d ≡ false → (c 0 ≡ d 0) × (c 1 ≡ d 1) × (c 2 ≡ d 2)
  unfolding differ
  differ-not h =
      let f = and-true (eqb (c 0) (d 0)) (eqb (c 1) (d 1) && eqb (c 2) (d 2)) (back _ h) in
      let g = and-true (eqb (c 1) (d 1)) (eqb (c 2) (d 2)) f.1 in
      (eqb-true (c 0) (d 0) f.0, eqb-true (c 1) (d 1) g.0, eqb-true (c 2) (d 2) g.1)

-- one query more
module _ (cell : ℕ → Place) where
  pub fetches-none : fetches cell 0 ≡ 0
  unfolding fetches
  fetches-none = refl

  pub fetches-first : fetches cell 1 ≡ 1
  unfolding fetches changes
  fetches-first = refl

  pub fetches-more : (n : ℕ) → fetches cell (suc n) + pick (differ (cell n) (cell (suc n))) 1 0 ≡ fetches cell (suc (suc n))
  unfolding fetches changes
  fetches-more n = omega arith

  pub fetches-some : (n : ℕ) → fetches cell (suc n) ≡ 0 → ⊥
  unfolding fetches
  fetches-some n h = omega arith

  -- there are at most as many as queries
  pub fetches-few : (n : ℕ) → fetches cell n ≤ n
  unfolding fetches changes pick
  fetches-few zero = omega arith
  fetches-few (suc n) = few n
    where
      bit : (b : Bool) → pick b 1 0 ≤ 1
      bit true = omega arith
      bit false = omega arith

      few : (n : ℕ) → 1 + changes cell n ≤ suc n
      few zero = omega arith
      few (suc n) = let h = few n in let k = bit (differ (cell n) (cell (suc n))) in omega arith

-- of cells that are the same
pub fetches-same : (c d : ℕ → Place) (n : ℕ) → ((i : ℕ) → i < n → c i ≡ d i) → fetches c n ≡ fetches d n
unfolding fetches changes
fetches-same c d zero h = refl
fetches-same c d (suc n) h = ap (λ (k : ℕ). 1 + k) (changes-same n (λ i l. h i (omega arith)))
  where
    changes-same : (n : ℕ) → ((i : ℕ) → i ≤ n → c i ≡ d i) → changes c n ≡ changes d n
    changes-same zero h = refl
    changes-same (suc n) h =
        ap₂ (λ (k : ℕ) (b : Bool). k + pick b 1 0) (changes-same n (λ i l. h i (omega arith)))
        (ap₂ differ (h n (omega arith)) (h (suc n) (omega arith)))
