-- Each entry of the matrix that `table::matrix` gives is the product of its two one-axis entries. The exported polynomial over 4 is the
-- exact value at every step pair, and no exported number is beyond 10,616,832, so each fits 32 bits.
use mathlib.Core.Path.{◌≡◌, sym, ap, subst, ◌∙◌}
use mathlib.Core.List.{List}
use Prim.Native.Nat.{ℕ, ◌+◌, ◌*◌, ◌^◌, ◌≤◌, ◌<◌}
use native.Mathlib.Nat.{le_trans, le_of_eq}
use native.Mathlib.Omega.{arith}
use lib.IntN.{ℤ, pos, nat_abs, ◌*ℤ◌}
use lib.ListN.{length, drop, get_or-append}
use Rattle.arith.specs.Sum.{sum}
use Rattle.arith.proofs.Sums.{sum-ext}
use Rattle.lattice.specs.declared.Shape.{Shape}
use Rattle.lattice.specs.declared.FullShape.{FullShape}
use Rattle.lattice.specs.Outcome.{done}
use Rattle.lattice.specs.Buffer.{at, overwrite}
use Rattle.lattice.specs.Shape.{orders}
use Rattle.lattice.specs.Axes.{Place}
use Rattle.lattice.specs.Records.{records_field}
use Rattle.lattice.proofs.OutcomeLaws.{first_done, when-done}
use Rattle.lattice.proofs.BufferLaws.{length-tabulate, get_d_tabulate}
use Rattle.cell.specs.Cell.{place_at, corners_outcome}
use Rattle.evaluate.specs.Evaluate.{Ask, dose, exact_sum, exact_divisor}
use Rattle.powers.specs.Powers.{one_axis, column_numbers, table_two, factor, power_coefficient, power_list, request_outcome, powers_outcome, powers_writes, power_of, polynomial_at, ExactlyExported}
use Rattle.powers.proofs.MatrixLaws.{matrix-at, matrix-product, row-size}
use Rattle.powers.proofs.PolynomialLaws.{polynomial-exact, polynomial-divisor}
use Rattle.powers.proofs.CallLaws.{Asked, asked, column-permitted}

pub entry-product : (i j K : ℕ) → i < 4 → j < 4 → K < 16
    → at table_two (16 * (i + 4 * j) + K) ≡ one_axis i (column_numbers K 0) *ℤ one_axis j (column_numbers K 1)
entry-product i j K p q h = matrix-at (i + 4 * j) K (omega arith) h ∙ matrix-product i j K p

-- of a call that is not refused
module _ (t : FullShape) (rs out : List ℤ) (cell : List ℕ) (passed : powers_outcome t rs (place_at cell) (length out) ≡ done tt) where
  abbrev s : Shape
  s = t.shape

  tests : (request_outcome t (length rs) (place_at cell) (length out) ≡ done tt) × (corners_outcome s rs (place_at cell) ≡ done tt)
  unfolding powers_outcome
  tests = first_done (request_outcome t (length rs) (place_at cell) (length out)) (corners_outcome s rs (place_at cell)) tt passed

  facts : Asked s (length rs) (place_at cell) (length out)
  facts = asked t (length rs) cell (length out) tests.0

  -- number R of the slice
  number_is : (R : ℕ) → R < 16 → at (powers_writes t rs (place_at cell) out) R ≡ power_coefficient (place_at cell) (records_field s rs) R
  unfolding powers_writes power_list
  number_is R h =
      let cs = power_list (place_at cell) (records_field s rs) in
      let n : length cs ≡ 16 = length-tabulate 16 (power_coefficient (place_at cell) (records_field s rs)) in
      ap (λ (xs : List ℤ). at xs R) (sym (when-done (overwrite cs out) out passed))
      ∙ get_or-append cs (drop (length cs) out) (pos 0) R (omega arith)
      ∙ get_d_tabulate 16 (power_coefficient (place_at cell) (records_field s rs)) R (pos 0) h

  pub exported-within : (R : ℕ) → R < 16 → nat_abs (at (powers_writes t rs (place_at cell) out) R) ≤ 10616832
  unfolding power_coefficient
  exported-within R h =
      le_trans (le_of_eq (ap nat_abs (number_is R h)))
      (row-size (λ K. factor K *ℤ records_field s rs (λ a. 2 * place_at cell a + column_numbers K a))
      (λ K q. column-permitted s (place_at cell) (length out) rs facts K q tests.1) R h)

  module _ (N u : Place) (x : u 0 ≤ N 0) (y : u 1 ≤ N 1) where
    polynomial : ℤ
    polynomial = polynomial_at (powers_writes t rs (place_at cell) out) N u

    polynomial-is : polynomial
        ≡ sum 4 (λ j. sum 4 (λ i. power_coefficient (place_at cell) (records_field s rs) (i + 4 * j)
        *ℤ (power_of (N 0) (u 0) i *ℤ power_of (N 1) (u 1) j)))
    unfolding polynomial polynomial_at
    polynomial-is =
        sum-ext 4 _ _ (λ j h. sum-ext 4 _ _ (λ i k.
        ap (λ z. z *ℤ (power_of (N 0) (u 0) i *ℤ power_of (N 1) (u 1) j)) (number_is (i + 4 * j) (omega arith))))

    -- in a table of m orders and n axes
    Exactly : ℕ → ℕ → Type 0
    Exactly m n =
        let q : Ask = record { m = m; n = n; want = dose; N = N; cell = place_at cell; step = u } in
        (exact_sum q (records_field s rs) ≡ polynomial) × (exact_divisor q ≡ 4 * (N 0 ^ 3 * N 1 ^ 3))

    cubic-pair : Exactly 2 2
    unfolding Exactly
    cubic-pair = (
      polynomial-exact N (place_at cell) u (records_field s rs) (λ a l. facts.here.unused a (le_trans (le_of_eq facts.two) l)) x y
          ∙ sym polynomial-is,
      polynomial-divisor N (place_at cell) u,
    )

    exact : Exactly (orders s) s.axes
    exact = subst (λ (n : ℕ). Exactly (orders s) n) (sym facts.two) (subst (λ (m : ℕ). Exactly m 2) (sym facts.cubic) cubic-pair)

pub exactly-exported : ExactlyExported
unfolding Exactly polynomial
exactly-exported t rs out cell N u passed x y = exact t rs out cell passed N u x y
