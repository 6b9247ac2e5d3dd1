-- The corners of a cell by its layout: the block of each corner, signed and solved, is its coefficients, within ±2^30.
use mathlib.Core.Path.{◌≡◌, sym, ap, ◌∙◌}
use mathlib.Core.Bool.{false}
use mathlib.Core.List.{List}
use Prim.Native.Nat.{ℕ, ◌+◌, ◌*◌, ◌%◌, ◌^◌, ◌≤◌, ◌<◌}
use native.Mathlib.Nat.{le_trans, le_of_eq}
use lib.IntN.{ℤ, ◌*ℤ◌, nat_abs}
use Rattle.lattice.specs.Buffer.{at}
use Rattle.lattice.specs.Digits.{digit}
use Rattle.lattice.specs.Axes.{Place, origin}
use Rattle.lattice.proofs.DigitsLaws.{Digits, of_number, high_digit, low_digit}
use Rattle.cell.specs.declared.Layout.{Layout}
use Rattle.cell.specs.Cell.{start_of}
use Rattle.cell.specs.Coefficients.{coefficients}
use Rattle.cell.specs.Corners.{corner_entry}
use Rattle.coefficients.specs.Blocks.{Sizes, block_sign, coefficient_number, block_numbers, coefficient_index, gathered, cell_coefficient, solved_block, Gathered}
use Rattle.coefficients.proofs.Sizes.{coefficient-within}
use Rattle.coefficients.proofs.BlockLaws.{orders-some}
use Rattle.coefficients.proofs.SpotLaws.{mirror-digits, block_in, spot-number}
use Rattle.coefficients.proofs.ConvertLaws.{solved-same, forward-block}

module _ {m n r : ℕ} (ok : Sizes m n r) (l : Layout) (rs : List ℤ) (g : Gathered m n l rs) (c : ℕ) (hc : c < 2 ^ n) where
  entry-is : (j : ℕ) → j < m ^ n → at rs (start_of l c + j) ≡ gathered (m ^ n) l rs (m ^ n * c + j)
  unfolding gathered
  entry-is j h =
      sym (ap (λ (i : ℕ). at rs (start_of l i + (m ^ n * c + j) % m ^ n)) (high_digit (m ^ n) c j h)
      ∙ ap (λ (i : ℕ). at rs (start_of l c + i)) (low_digit (m ^ n) c j h))

  module _ (xs : ℕ → ℤ) (hx : (j : ℕ) → j < m ^ n → xs j ≡ block_sign m c j *ℤ at rs (start_of l c + j)) (k : ℕ) (hk : k < m ^ n) where
    place : Place
    place a = coefficient_number m (block_numbers m c k a)

    place_in : Digits n (2 * m) place
    unfolding place
    place_in = mirror-digits m n (orders-some ok) (block_numbers m c k) (block_in m n (orders-some ok) c k hc hk)

    block-place : solved_block false m n xs k ≡ coefficients m n origin (λ t. gathered (m ^ n) l rs (corner_entry m n t)) place
    unfolding place
    block-place =
        solved-same false m n ok.orders-low ok.orders-high xs (λ j. block_sign m c j *ℤ gathered (m ^ n) l rs (m ^ n * c + j))
        (λ j h. hx j h ∙ ap (λ z. block_sign m c j *ℤ z) (entry-is j h)) k hk
        ∙ forward-block m n ok.orders-low ok.orders-high c hc (gathered (m ^ n) l rs) ok.axes-high k hk

    pub block-is : solved_block false m n xs k ≡ cell_coefficient m n l rs (coefficient_index m c k)
    unfolding place
    block-is =
        block-place
        ∙ ap (coefficients m n origin (λ t. gathered (m ^ n) l rs (corner_entry m n t)))
        (sym (ap (digit (λ a. 2 * m)) (spot-number m n (orders-some ok) c k hc hk ok.axes-low ok.axes-high)
        ∙ of_number n (2 * m) place place_in))

    pub block-low : nat_abs (solved_block false m n xs k) ≤ 2 ^ 30
    block-low =
        le_trans (le_of_eq (ap nat_abs block-place))
        (coefficient-within m ok.orders-low ok.orders-high n ok.axes-high (gathered (m ^ n) l rs) g.within place place_in)
