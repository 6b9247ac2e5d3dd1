-- Corner records and their coefficients as lists: sizes, back of forward, forward of back, and when 13 is passed.
use mathlib.Core.Path.{◌≡◌, refl, sym, ap, subst, ◌∙◌}
use mathlib.Core.Bool.{Bool, true, false}
use mathlib.Core.List.{List}
use mathlib.Core.Logic.{◌⊎◌, inl, inr, ⊎_elim}
use Prim.Native.Nat.{ℕ, zero, suc, ◌*◌, ◌^◌, ◌≤◌, ◌<◌}
use native.Mathlib.Nat.{one-le-pow}
use native.Mathlib.Omega.{arith}
use lib.Dec.{leb, eqb, lit<}
use lib.IntN.{ℤ, pos, ◌*ℤ◌, nat_abs}
use lib.ListN.{length}
use lib.Seq.{ext_get_or}
use borrow.Author.Tests.{le-leb, eq-eqb}
use Rattle.arith.specs.Int.{◌^ℤ◌, floor_div}
use Rattle.arith.proofs.Round.{pos-power, floor-multiple}
use Rattle.lattice.specs.Outcome.{done, refused, refuse_unless, first_of}
use Rattle.lattice.specs.Buffer.{at}
use Rattle.lattice.specs.Digits.{digit}
use Rattle.lattice.specs.Shape.{orders_of, axes_outcome, degree_outcome}
use Rattle.lattice.specs.Axes.{origin}
use Rattle.lattice.specs.Records.{entry_limit}
use Rattle.lattice.proofs.BufferLaws.{length-tabulate, get_d_tabulate}
use Rattle.lattice.proofs.OutcomeLaws.{first-passed, refuse-done, passes, first_of-each, first_of-passes}
use Rattle.lattice.proofs.DigitsLaws.{digits_in}
use Rattle.cell.specs.Coefficients.{coefficients, coefficient_count}
use Rattle.cell.specs.Corners.{corner_numbers, corners_field}
use Rattle.coefficients.specs.Coefficients.{coefficient_list}
use Rattle.coefficients.proofs.Sizes.{coefficient-within}
use Rattle.corners.specs.Corners.{PermittedCorners, HasCoefficients, doubled_entry, entry_allowed, possible_outcome, entry_list, numbers_outcome, back_outcome}
use Rattle.corners.proofs.Inverse.{doubled-of, has_of}
use Rattle.corners.proofs.Whole.{allowed_of, allowed-parts}

module _ (m n : ℕ) (m2 : 2 ≤ m) (m3 : m ≤ 3) (cs : List ℤ) where
  entry : ℕ → ℤ
  entry i = floor_div (doubled_entry m n cs i) (2 ^ n)

  entry_at : (i : ℕ) → i < coefficient_count m n → at (entry_list m n cs) i ≡ entry i
  unfolding entry_list entry
  entry_at i l = get_d_tabulate (coefficient_count m n) (λ i. floor_div (doubled_entry m n cs i) (2 ^ n)) i (pos 0) l

  pub entries-many : length (entry_list m n cs) ≡ coefficient_count m n
  unfolding entry_list
  entries-many = length-tabulate (coefficient_count m n) (λ i. floor_div (doubled_entry m n cs i) (2 ^ n))

  module _ (r : List ℤ) (has : HasCoefficients m n r cs) where
    -- coefficients of permitted corner records lie within ±2^30
    pub within : n ≤ 3 → PermittedCorners m n r → (K : ℕ) → K < coefficient_count m n → nat_abs (at cs K) ≤ 2 ^ 30
    unfolding coefficient_list corners_field
    within few ok K l =
        subst (λ (ks : List ℤ). nat_abs (at ks K) ≤ 2 ^ 30) has.are
        (subst (λ z. nat_abs z ≤ 2 ^ 30)
        (sym (get_d_tabulate (coefficient_count m n) (λ K. coefficients m n origin (corners_field m n r) (digit (λ b. 2 * m) K)) K (pos 0)
        l))
        (coefficient-within m m2 m3 n few (at r) ok.within (digit (λ b. 2 * m) K) (digits_in n (2 * m) K (omega arith) l)))

    doubled-is : (i : ℕ) → i < coefficient_count m n → doubled_entry m n cs i ≡ pos (2 ^ n) *ℤ at r i
    doubled-is i l = doubled-of m n m2 m3 r cs has i l ∙ ap (λ z. z *ℤ at r i) (pos-power 2 n)

    -- back of forward is the corner records
    pub back-of-forward : length r ≡ coefficient_count m n → entry_list m n cs ≡ r
    unfolding entry
    back-of-forward many =
        ext_get_or (pos 0) (entry_list m n cs) r (entries-many ∙ sym many)
        (λ i l. let k : i < coefficient_count m n = rw entries-many at l in entry_at i k ∙ ap (λ z. floor_div z (2 ^ n)) (doubled-is i k)
        ∙ floor-multiple (2 ^ n) (one-le-pow n 2 (lit< tt)) (at r i))

    pub possible-of : PermittedCorners m n r → possible_outcome m n cs ≡ done tt
    unfolding possible_outcome
    possible-of ok =
        first_of-passes (coefficient_count m n) (λ i. refuse_unless (entry_allowed m n i (doubled_entry m n cs i)) 13 0)
        (λ i l. passes (entry_allowed m n i (doubled_entry m n cs i)) 13 0
        (allowed_of m n i (doubled_entry m n cs i) (at r i) (doubled-is i l) (ok.within i l)))

  module _ (many : length cs ≡ coefficient_count m n) (possible : possible_outcome m n cs ≡ done tt) where
    each : (i : ℕ) → i < coefficient_count m n
        → (doubled_entry m n cs i ≡ pos (2 ^ n) *ℤ entry i) × (nat_abs (entry i) ≤ entry_limit m n (corner_numbers m n i))
    unfolding possible_outcome entry
    each i l =
        allowed-parts m n i (doubled_entry m n cs i)
        (refuse-done (entry_allowed m n i (doubled_entry m n cs i)) 13 0
        (first_of-each (coefficient_count m n) (λ i. refuse_unless (entry_allowed m n i (doubled_entry m n cs i)) 13 0) possible i l))

    -- what back gives is permitted
    pub back-permitted : PermittedCorners m n (entry_list m n cs)
    back-permitted = record {
      many = entries-many;
      within = λ i l. subst (λ z. nat_abs z ≤ entry_limit m n (corner_numbers m n i)) (sym (entry_at i l)) (each i l).1;
    }

    -- forward of what back gives is the coefficients
    pub forward-of-back : HasCoefficients m n (entry_list m n cs) cs
    forward-of-back =
        has_of m n m2 m3 (entry_list m n cs) cs many
        (λ i l. (each i l).0 ∙ ap (λ z. z *ℤ entry i) (sym (pos-power 2 n)) ∙ ap (λ z. pos 2 ^ℤ n *ℤ z) (sym (entry_at i l)))

-- ---- refusal 13

-- a scan that can only refuse by one number and place
pub first_of-either : (k : ℕ) (test : ℕ → Bool) (v p : ℕ)
    → (first_of k (λ i. refuse_unless (test i) v p) ≡ done tt) ⊎ (first_of k (λ i. refuse_unless (test i) v p) ≡ refused v p)
unfolding first_of
first_of-either zero test v p = inl refl
first_of-either (suc k) test v p =
    ⊎_elim (λ e. ⊎_elim (λ f. inl (first-passed _ _ e ∙ f)) (λ f. inr (first-passed _ _ e ∙ f)) (one (test k))) (λ e. inr (rw e refl))
    (first_of-either k test v p)
  where
    one : (t : Bool) → (refuse_unless t v p ≡ done tt) ⊎ (refuse_unless t v p ≡ refused v p)
    one true = inl refl
    one false = inr refl

module _ (n degree : ℕ) (axes-ok : axes_outcome n ≡ done tt) (degree-ok : degree_outcome degree ≡ done tt) (cs : List ℤ)
    (many : length cs ≡ coefficient_count (orders_of degree) n) (room : ℕ) (fits : coefficient_count (orders_of degree) n ≤ room) where
  -- the tests before 13 are passed
  pub only-13 : back_outcome n degree cs room ≡ possible_outcome (orders_of degree) n cs
  unfolding back_outcome numbers_outcome
  only-13 =
      first-passed (numbers_outcome n degree (length cs) room) (possible_outcome (orders_of degree) n cs)
      (first-passed (axes_outcome n) _ axes-ok ∙ first-passed (degree_outcome degree) _ degree-ok
      ∙ first-passed (refuse_unless (eqb (length cs) (coefficient_count (orders_of degree) n)) 15 0) _
      (passes (eqb (length cs) (coefficient_count (orders_of degree) n)) 15 0
      (eq-eqb (length cs) (coefficient_count (orders_of degree) n) many))
      ∙ passes (leb (coefficient_count (orders_of degree) n) room) 9 0 (le-leb (coefficient_count (orders_of degree) n) room fits))
