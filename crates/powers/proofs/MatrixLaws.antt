-- The columns and rows of the matrix of table II: every pair of numbers of the two axes has one column, and what a row makes of the numbers
-- of permitted columns is at most 10,616,832.
use mathlib.Core.Path.{◌≡◌, refl, sym, ap, ◌∙◌}
use mathlib.Core.List.{List, [], ◌∷◌}
use Prim.Native.Nat.{ℕ, zero, suc, ◌+◌, ◌*◌, ◌/◌, ◌%◌, ◌≤◌, ◌<◌}
use native.Mathlib.Nat.{le_refl, le_trans, le_of_eq, mul-le-mul_left, mul-le-mul_right}
use native.Mathlib.Omega.{arith}
use lib.Dec.{T, leb, leb→le, lit<}
use lib.IntN.{ℤ, pos, nat_abs, ◌*ℤ◌}
use lib.ListN.{get_or}
use Rattle.arith.specs.Sum.{sum, total}
use Rattle.arith.proofs.Abs.{abs-mul}
use Rattle.arith.specs.Choice.{all}
use Rattle.arith.proofs.Choices.{all-at}
use Rattle.arith.proofs.Ring.{E, var, con, ◌⊞◌, ring}
use Rattle.arith.proofs.Sums.{total_ext, total_mono, total_right, dot-sum}
use Rattle.lattice.specs.Buffer.{at, tabulate}
use Rattle.lattice.specs.Digits.{digit}
use Rattle.lattice.specs.Records.{total_order, entry_limit}
use Rattle.lattice.proofs.BufferLaws.{get_d_tabulate}
use Rattle.lattice.proofs.DigitsLaws.{high_digit, low_digit, pair-in, Digits}
use Rattle.cell.specs.declared.Layout.{Layout}
use Rattle.cell.specs.Cell.{start_of}
use Rattle.cell.specs.Corners.{corner_numbers}
use Rattle.cell.proofs.NumberLaws.{numbers-in}
use Rattle.coefficients.specs.Blocks.{gathered, Gathered}
use Rattle.powers.specs.Powers.{one_axis, column_entry, column_numbers, matrix, table_two, factor}
use Rattle.powers.specs.Parts.{column_at, row_load}

-- ---- columns

pub entry-low : (K : ℕ) → K < 16 → column_entry K < 16
unfolding column_entry
entry-low K h = omega arith

pub numbers-low : (K : ℕ) → K < 16 → Digits 2 4 (column_numbers K)
unfolding column_numbers
numbers-low K h = numbers-in 2 2 (lit< tt) (column_entry K) (entry-low K h)

-- a column's number in the records, by its corner and its entry
pub column-at : (l : Layout) (rs : List ℤ) (K : ℕ) → K < 16 → column_at l rs K ≡ factor K *ℤ at rs (start_of l (K % 4) + K / 4)
unfolding column_at gathered column_entry
column-at l rs K h =
    let corner : (4 * (K % 4) + K / 4) / 4 ≡ K % 4 = omega arith in
    let entry : (4 * (K % 4) + K / 4) % 4 ≡ K / 4 = omega arith in
    rw (corner, entry) refl

abbrev sums : ℕ → (ℕ → E) → E
sums zero f = con (pos 0)
sums (suc n) f = sums n f ⊞ f n

-- every pair of numbers has one column
pub by-columns : (h : ℕ → ℕ → ℤ) → sum 16 (λ K. h (column_numbers K 0) (column_numbers K 1)) ≡ sum 4 (λ s. sum 4 (λ t. h t s))
unfolding sum column_numbers column_entry corner_numbers digit tabulate
by-columns h =
    ring (sums 16 (λ K. var (column_numbers K 0 + 4 * column_numbers K 1))) (sums 4 (λ s. sums 4 (λ t. var (t + 4 * s))))
    (tabulate 16 (λ n. h (n % 4) (n / 4))) tt

-- twice a value, once D: 2 times what number t stands for on one axis
unfoldable pub double : ℕ → ℤ
double t = get_or (pos 2 ∷ pos 1 ∷ pos 2 ∷ pos 1 ∷ []) t (pos 0)

-- a column has the factors of both axes
factors : tabulate 16 factor ≡ tabulate 16 (λ K. double (column_numbers K 0) *ℤ double (column_numbers K 1))
unfolding tabulate factor double column_numbers column_entry corner_numbers digit
factors = refl

pub factor-is : (K : ℕ) → K < 16 → factor K ≡ double (column_numbers K 0) *ℤ double (column_numbers K 1)
factor-is K h =
    sym (get_d_tabulate 16 factor K (pos 0) h) ∙ ap (λ (xs : List ℤ). at xs K) factors
    ∙ get_d_tabulate 16 (λ K. double (column_numbers K 0) *ℤ double (column_numbers K 1)) K (pos 0) h

-- ---- rows

pub matrix-product : (i j K : ℕ) → i < 4 → matrix (i + 4 * j) K ≡ one_axis i (column_numbers K 0) *ℤ one_axis j (column_numbers K 1)
unfolding matrix
matrix-product i j K h =
    let low : (i + 4 * j) % 4 ≡ i = omega arith in
    let high : (i + 4 * j) / 4 ≡ j = omega arith in
    rw (low, high) refl

pub matrix-at : (R K : ℕ) → R < 16 → K < 16 → at table_two (16 * R + K) ≡ matrix R K
unfolding table_two
matrix-at R K p q =
    get_d_tabulate 256 (λ n. matrix (n / 16) (n % 16)) (16 * R + K) (pos 0) (pair-in 16 R K q 16 p)
    ∙ rw (high_digit 16 R K q, low_digit 16 R K q) refl

-- ---- sizes

row-sizes : T (all 16 (λ R. leb (total 16 (λ K. nat_abs (matrix R K))) 81))
unfolding all total matrix one_axis column_numbers column_entry corner_numbers digit
row-sizes = tt

column-sizes : T (all 16 (λ K. leb (nat_abs (factor K) * entry_limit 2 2 (column_numbers K)) 131072))
unfolding all total factor entry_limit total_order column_numbers column_entry corner_numbers digit
column-sizes = tt

-- a test computed over all numbers below n
at_most : (n : ℕ) (f : ℕ → ℕ) (B : ℕ) → T (all n (λ i. leb (f i) B)) → (i : ℕ) → i < n → f i ≤ B
at_most n f B t i h = leb→le (f i) B (all-at n (λ i. leb (f i) B) t i h)

-- a permitted entry of the corner records makes a column within 4 · 32768
pub column-size : (K : ℕ) → K < 16 → (z : ℤ) → nat_abs z ≤ entry_limit 2 2 (column_numbers K) → nat_abs (factor K *ℤ z) ≤ 131072
column-size K h z l =
    le_trans (le_of_eq (abs-mul (factor K) z))
    (le_trans (mul-le-mul_left (nat_abs (factor K)) l)
    (at_most 16 (λ K. nat_abs (factor K) * entry_limit 2 2 (column_numbers K)) 131072 column-sizes K h))

pub column-within : (l : Layout) (rs : List ℤ) → Gathered 2 2 l rs → (K : ℕ) → K < 16 → nat_abs (column_at l rs K) ≤ 131072
unfolding column_at column_numbers
column-within l rs g K h = column-size K h (gathered 4 l rs (column_entry K)) (g.within (column_entry K) (entry-low K h))

-- such columns make rows within 81 times that
module _ (x : ℕ → ℤ) (within : (K : ℕ) → K < 16 → nat_abs (x K) ≤ 131072) (R : ℕ) (low : R < 16) where
  pub row-load : total 16 (λ K. nat_abs (matrix R K) * nat_abs (x K)) ≤ 10616832
  row-load =
      le_trans
      (total_mono 16 (λ K. nat_abs (matrix R K) * nat_abs (x K)) (λ K. nat_abs (matrix R K) * 131072)
      (λ K q. mul-le-mul_left (nat_abs (matrix R K)) (within K q)))
      (le_trans (le_of_eq (total_right 16 (λ K. nat_abs (matrix R K)) 131072))
      (mul-le-mul_right 131072 (at_most 16 (λ R. total 16 (λ K. nat_abs (matrix R K))) 81 row-sizes R low)))

  pub row-size : nat_abs (sum 16 (λ K. matrix R K *ℤ x K)) ≤ 10616832
  row-size = dot-sum 16 (matrix R) x 10616832 row-load 16 (le_refl 16)

pub load-within : (xs : List ℤ) → ((K : ℕ) → K < 16 → nat_abs (at xs K) ≤ 131072) → (R : ℕ) → R < 16 → row_load table_two xs R ≤ 10616832
unfolding row_load
load-within xs h R p =
    le_trans
    (le_of_eq (total_ext 16 (λ K. nat_abs (at table_two (16 * R + K)) * nat_abs (at xs K)) (λ K. nat_abs (matrix R K) * nat_abs (at xs K))
    (λ K q. ap (λ z. nat_abs z * nat_abs (at xs K)) (matrix-at R K p q))))
    (row-load (at xs) h R p)
