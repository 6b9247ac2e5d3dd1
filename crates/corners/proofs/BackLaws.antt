-- A corner's block after back: its numbers are the doubled entries of the corner and its tests those of refusal 13; filled corner by
-- corner, the entries stand in order.
use mathlib.Core.Path.{◌≡◌, sym, ap, subst, ◌∙◌}
use mathlib.Core.Bool.{true}
use mathlib.Core.List.{List}
use Prim.Native.Nat.{ℕ, zero, suc, ◌+◌, ◌*◌, ◌%◌, ◌^◌, ◌≤◌, ◌<◌}
use native.Mathlib.Nat.{mul_comm, le_refl, lt_of_lt_of_le, pow-le-pow_right}
use native.Mathlib.Omega.{arith}
use borrow.Author.Count.{below_more}
use lib.IntN.{ℤ, pos, ◌*ℤ◌, nat_abs}
use lib.ListN.{length, set, length-set}
use Rattle.arith.specs.Int.{floor_div}
use Rattle.arith.specs.Sum.{total}
use Rattle.arith.proofs.Sums.{total_ext}
use Rattle.lattice.specs.Outcome.{first_of, refuse_unless}
use Rattle.lattice.specs.Buffer.{at}
use Rattle.lattice.specs.Digits.{digit}
use Rattle.lattice.specs.Axes.{Place}
use Rattle.lattice.specs.Records.{total_order, sample_limit, entry_limit}
use Rattle.lattice.proofs.BufferLaws.{fill}
use Rattle.lattice.proofs.DigitsLaws.{digit-below, low_digit, next-group}
use Rattle.lattice.proofs.OutcomeLaws.{first_of-same, first_of-rows}
use Rattle.cell.specs.Cell.{limit_of, limit_in}
use Rattle.cell.specs.Coefficients.{coefficient_count}
use Rattle.cell.specs.Corners.{corner_numbers}
use Rattle.cell.proofs.CornerLaws.{digits-total}
use Rattle.cell.proofs.NumberLaws.{count-split}
use Rattle.coefficients.specs.Blocks.{Sizes, block_sign, block_numbers, coefficient_index, solved_block, scatter}
use Rattle.coefficients.proofs.BlockLaws.{orders-some}
use Rattle.coefficients.proofs.SpotLaws.{numbers-are, entry-of, scatter-length}
use Rattle.coefficients.proofs.ConvertLaws.{solved-same}
use Rattle.corners.specs.Corners.{whole_within, doubled_entry, entry_allowed, possible_outcome}
use Rattle.corners.specs.Back.{Gathers, block_test, entry_of, entry_test}
use Rattle.corners.proofs.ConvertBack.{backward-block}

-- one coefficient more
pub gathers-more : (m c k : ℕ) (cs xs : List ℤ) (v : ℤ) → k < 27 → Gathers m c k cs xs → v ≡ at cs (coefficient_index m c k)
    → nat_abs v ≤ 2 ^ 31 → Gathers m c (k + 1) cs (set xs k v)
gathers-more m c k cs xs v l g e h = record {
  long = simp length-set g.long;
  is = fill xs k (λ j. at cs (coefficient_index m c j)) v room g.is e;
  low = λ j q. subst (λ z. nat_abs z ≤ 2 ^ 31) (sym (fill xs k (λ j. at cs (coefficient_index m c j)) v room g.is e j q))
      (below_more (λ j. nat_abs (at cs (coefficient_index m c j)) ≤ 2 ^ 31) k
      (λ j p. subst (λ z. nat_abs z ≤ 2 ^ 31) (g.is j p) (g.low j p)) (subst (λ z. nat_abs z ≤ 2 ^ 31) e h) j q);
}
  where
    room : k < length xs
    room = let n = g.long in omega arith

module _ {m n r : ℕ} (ok : Sizes m n r) where
  -- the limits of a record in the table of limits
  module _ (limits : List ℤ) (table : (e : ℕ) → e < m ^ 3 → at limits e ≡ pos (limit_of m e)) where
    in_table : (k : ℕ) → k < m ^ n → k < m ^ 3
    in_table k l = lt_of_lt_of_le l (pow-le-pow_right {n = m} (orders-some ok) ok.axes-high)

    module _ (cs : List ℤ) (c : ℕ) (hc : c < 2 ^ n) where
      some : 0 < m
      some = orders-some ok

      limit_is : (k : ℕ) → k < m ^ n → limit_in limits k ≡ entry_limit m n (corner_numbers m n (m ^ n * c + k))
      unfolding limit_of entry_limit total_order block_numbers
      limit_is k hk =
          ap nat_abs (table k (in_table k hk))
          ∙ sym (ap (λ (p : Place). sample_limit * 2 ^ total n (λ a. p a % m)) (numbers-are m n some c k hc hk)
          ∙ ap (λ (i : ℕ). sample_limit * 2 ^ i)
          (total_ext n (λ a. (m * digit (λ b. 2) c a + digit (λ a. m) k a) % m) (digit (λ a. m) k)
          (λ a l. low_digit m (digit (λ b. 2) c a) (digit (λ a. m) k a) (digit-below (λ a. m) k a some))
          ∙ digits-total m n k ok.orders-low ok.orders-high ok.axes-low ok.axes-high hk))

      module _ (xs zs : ℕ → ℤ) (hx : (j : ℕ) → j < m ^ n → xs j ≡ at cs (coefficient_index m c j))
          (hz : (k : ℕ) → k < m ^ n → zs k ≡ block_sign m c k *ℤ solved_block true m n xs k) where
        -- number k of the block
        doubled-is : (k : ℕ) → k < m ^ n → zs k ≡ doubled_entry m n cs (m ^ n * c + k)
        doubled-is k l =
            hz k l
            ∙ ap (λ z. block_sign m c k *ℤ z)
            (solved-same true m n ok.orders-low ok.orders-high xs (λ j. at cs (coefficient_index m c j)) hx k l)
            ∙ backward-block m n ok.orders-low ok.orders-high ok.axes-low ok.axes-high c hc cs k l

        pub tests-are : first_of (m ^ n) (block_test n limits zs) ≡ first_of (m ^ n) (λ k. entry_test m n cs (m ^ n * c + k))
        unfolding entry_allowed
        tests-are = first_of-same (m ^ n) (block_test n limits zs) (λ k. entry_test m n cs (m ^ n * c + k)) (λ k l.
            ap (λ (i : ℕ). refuse_unless (whole_within n i (zs k)) 13 0) (limit_is k l)
            ∙ ap (λ z. refuse_unless (whole_within n (entry_limit m n (corner_numbers m n (m ^ n * c + k))) z) 13 0) (doubled-is k l))

        -- the entries of one corner more
        module _ (old : List ℤ) (long : coefficient_count m n ≤ length old)
            (before : (i : ℕ) → i < m ^ n * c → at old i ≡ entry_of m n cs i) where
          abbrev part : ℕ → List ℤ
          part k = scatter k (λ j. m ^ n * c + j) (λ j. floor_div (zs j) (2 ^ n)) old

          part-is : (k : ℕ) → k ≤ m ^ n → (i : ℕ) → i < m ^ n * c + k → at (part k) i ≡ entry_of m n cs i
          unfolding scatter
          part-is zero l i h = before i (omega arith)
          part-is (suc k) l i h =
              let e = scatter-length (λ j. m ^ n * c + j) (λ j. floor_div (zs j) (2 ^ n)) old k in
              let q = entry-of m n some c k hc (omega arith) in
              fill (part k) (m ^ n * c + k) (entry_of m n cs) (floor_div (zs k) (2 ^ n)) (omega arith) (part-is k (omega arith))
              (ap (λ z. floor_div z (2 ^ n)) (doubled-is k (omega arith))) i (omega arith)

          pub filled : (i : ℕ) → i < m ^ n * (c + 1) → at (part (m ^ n)) i ≡ entry_of m n cs i
          filled i h = part-is (m ^ n) (le_refl (m ^ n)) i (rw (next-group (m ^ n) c) h)

-- the tests corner by corner
pub count-is : (m n : ℕ) → coefficient_count m n ≡ m ^ n * 2 ^ n
count-is m n = count-split m n ∙ mul_comm (2 ^ n) (m ^ n)

pub rows : (m n : ℕ) (cs : List ℤ) → possible_outcome m n cs ≡ first_of (2 ^ n)
    (λ c. first_of (m ^ n) (λ k. entry_test m n cs (m ^ n * c + k)))
unfolding possible_outcome
rows m n cs = ap (λ (k : ℕ). first_of k (entry_test m n cs)) (count-is m n) ∙ first_of-rows (m ^ n) (2 ^ n) (entry_test m n cs)
