-- Over all axes forward and back undo each other but for the doubling, on fields and on lists: from the one-axis laws, fused axis by axis.
use mathlib.Core.Path.{◌≡◌, refl, sym, ap, subst, ◌∙◌}
use mathlib.Core.List.{List, [], ◌∷◌}
use Prim.Native.Nat.{ℕ, zero, suc, ◌*◌, ◌-◌, ◌≤◌, ◌<◌}
use native.Mathlib.Omega.{arith}
use lib.Dec.{ltb}
use lib.IntN.{ℤ, pos, ◌*ℤ◌}
use lib.ListN.{length}
use lib.Seq.{ext_get_or}
use Rattle.arith.specs.Int.{◌^ℤ◌}
use Rattle.arith.proofs.Choices.{on-pick}
use Rattle.arith.proofs.Laws.{*ℤ-assoc, pos-one-*ℤ}
use Rattle.arith.proofs.Linear.{eq→ℕ, ℕ→eq}
use Rattle.arith.proofs.Quote.{quotes}
use Rattle.lattice.specs.Buffer.{at}
use Rattle.lattice.specs.Digits.{number, digit}
use Rattle.lattice.specs.Axes.{Place, Field, Rule, origin, sweep, axes}
use Rattle.lattice.proofs.Along.{each-axes, distinct-axes, sweep-fuse, multiply, sweep-multiply}
use Rattle.lattice.proofs.BufferLaws.{get_d_tabulate}
use Rattle.lattice.proofs.Local.{linear-depends, sweep-carries}
use Rattle.lattice.proofs.DigitsLaws.{Digits, digits_in, number_in, of-digits, of_number}
use Rattle.hermite.specs.Hermite.{forward, backward}
use Rattle.hermite.proofs.HermiteLaws.{forward-linear}
use Rattle.hermite.proofs.BackLaws.{backward-linear, back-forth, forth-back}
use Rattle.cell.specs.Coefficients.{coefficients, coefficient_count}
use Rattle.cell.specs.Corners.{corner_numbers, corner_entry, corners_field}
use Rattle.cell.proofs.NumberLaws.{numbers-in, entry_in, numbers-entry, entry-numbers}
use Rattle.coefficients.specs.Coefficients.{coefficient_list}
use Rattle.coefficients.proofs.Below.{Same, same-places, same-pair, depends-carries, agree}
use Rattle.coefficients.proofs.TableCell.{list_length}
use Rattle.corners.specs.Corners.{HasCoefficients, coefficients_field, doubled_entry}

-- ---- forward and back over all axes

module _ (m n : ℕ) (m2 : 2 ≤ m) (m3 : m ≤ 3) where
  pub forward-agree : (g h : Field) → ((p : Place) → Digits n (2 * m) p → g p ≡ h p) → (p : Place) → Digits n (2 * m) p
      → coefficients m n origin g p ≡ coefficients m n origin h p
  unfolding coefficients forward-linear
  forward-agree =
      agree n (2 * m) (λ a. forward m 0)
      (each-axes n _ (λ a l. depends-carries n (2 * m) (linear-depends (forward-linear m 0) (λ j t p q. omega arith)) a l))

  pub backward-agree : (g h : Field) → ((p : Place) → Digits n (2 * m) p → g p ≡ h p) → (p : Place) → Digits n (2 * m) p
      → sweep (axes n) (λ a. backward m) g p ≡ sweep (axes n) (λ a. backward m) h p
  unfolding backward-linear
  backward-agree =
      agree n (2 * m) (λ a. backward m)
      (each-axes n _
      (λ a l. depends-carries n (2 * m)
      (linear-depends (backward-linear m)
      (λ j t p q. on-pick (λ (k : ℕ). k < 2 * m) (ltb j m) t (2 * m - 1 - t) (λ e. omega arith) (λ e. omega arith))) a l))

  -- a rule that doubles where the digits are below 2m
  doubles : (R : Rule) → ((x : ℕ → ℤ) (t : ℕ) → t < 2 * m → R x t ≡ pos 2 *ℤ x t) → (g : Field) (p : Place) → Digits n (2 * m) p
      → sweep (axes n) (λ a. R) g p ≡ pos 2 ^ℤ n *ℤ g p
  doubles R two g p d =
      sweep-carries (Same n (2 * m)) (Same n (2 * m)) (λ a. R) (λ a. multiply (pos 2)) (axes n) (distinct-axes n)
      (each-axes n _ (λ a l x y j k s eq. two x j (s.low l) ∙ ap (λ z. pos 2 *ℤ z) (eq j k s))) g g
      (λ p q s. ap g (same-places n (2 * m) p q s).0) p p (same-pair n (2 * m) p d)
      ∙ sweep-multiply n (pos 2) g p

  -- back of the coefficients is the numbers, doubled once per axis
  pub undo : (g : Field) (p : Place) → Digits n (2 * m) p
      → sweep (axes n) (λ a. backward m) (coefficients m n origin g) p ≡ pos 2 ^ℤ n *ℤ g p
  unfolding coefficients
  undo g p d =
      ap (λ (h : Field). h p)
      (sweep-fuse (axes n) (distinct-axes n) (λ a. backward m) (λ a. forward m 0) (λ a. backward-linear m) (λ a. forward-linear m 0) g)
      ∙ doubles (λ x. backward m (forward m 0 x)) (back-forth m m2 m3) g p d

  -- the coefficients of what back gives are the coefficients, doubled once per axis
  pub redo : (g : Field) (p : Place) → Digits n (2 * m) p
      → coefficients m n origin (sweep (axes n) (λ a. backward m) g) p ≡ pos 2 ^ℤ n *ℤ g p
  unfolding coefficients
  redo g p d =
      ap (λ (h : Field). h p)
      (sweep-fuse (axes n) (distinct-axes n) (λ a. forward m 0) (λ a. backward m) (λ a. forward-linear m 0) (λ a. backward-linear m) g)
      ∙ doubles (λ x. forward m 0 (backward m x)) (forth-back m m2 m3) g p d

-- ---- on lists

two-cancel : (a b : ℤ) → pos 2 *ℤ a ≡ pos 2 *ℤ b → a ≡ b
two-cancel a b h =
    ℕ→eq (a ∷ b ∷ []) (search quotes)
    (omega (arith, eq→ℕ (a ∷ b ∷ []) {a = pos 2 *ℤ a} {b = pos 2 *ℤ b} (search quotes) h))

cancel : (n : ℕ) (a b : ℤ) → pos 2 ^ℤ n *ℤ a ≡ pos 2 ^ℤ n *ℤ b → a ≡ b
cancel zero a b h = sym (pos-one-*ℤ a) ∙ h ∙ pos-one-*ℤ b
cancel (suc n) a b h = cancel n a b (two-cancel _ _ (sym (*ℤ-assoc (pos 2) (pos 2 ^ℤ n) a) ∙ h ∙ *ℤ-assoc (pos 2) (pos 2 ^ℤ n) b))

module _ (m n : ℕ) (m2 : 2 ≤ m) (m3 : m ≤ 3) where
  some : 0 < m
  some = omega arith

  -- the list of the coefficients holds them
  pub list-holds : (g : Field) (p : Place) → Digits n (2 * m) p
      → coefficients_field m n (coefficient_list m n origin g) p ≡ coefficients m n origin g p
  unfolding coefficients_field coefficient_list
  list-holds g p d =
      get_d_tabulate (coefficient_count m n) (λ K. coefficients m n origin g (digit (λ b. 2 * m) K)) (number n (λ a. 2 * m) p) (pos 0)
      (number_in n (2 * m) p d)
      ∙ ap (coefficients m n origin g) (of_number n (2 * m) p d)

  -- back of forward: the entries, doubled once per axis
  pub doubled-of : (r cs : List ℤ) → HasCoefficients m n r cs → (i : ℕ) → i < coefficient_count m n
      → doubled_entry m n cs i ≡ pos 2 ^ℤ n *ℤ at r i
  unfolding doubled_entry corners_field
  doubled-of r cs has i l =
      let d = numbers-in m n some i l in
      ap (λ (ks : List ℤ). sweep (axes n) (λ a. backward m) (coefficients_field m n ks) (corner_numbers m n i)) (sym has.are)
      ∙ backward-agree m n m2 m3 (coefficients_field m n (coefficient_list m n origin (corners_field m n r)))
      (coefficients m n origin (corners_field m n r)) (list-holds (corners_field m n r)) (corner_numbers m n i) d
      ∙ undo m n m2 m3 (corners_field m n r) (corner_numbers m n i) d
      ∙ ap (λ (k : ℕ). pos 2 ^ℤ n *ℤ at r k) (entry-numbers m n some i l)

  -- forward of back: the coefficients, where back is whole
  pub has_of : (r cs : List ℤ) → length cs ≡ coefficient_count m n
      → ((i : ℕ) → i < coefficient_count m n → doubled_entry m n cs i ≡ pos 2 ^ℤ n *ℤ at r i) → HasCoefficients m n r cs
  unfolding coefficients_field doubled_entry
  has_of r cs many h = record { are = ext_get_or (pos 0) ds cs (long ∙ sym many) (λ K l. each K (rw long at l)) }
    where
      ds : List ℤ
      ds = coefficient_list m n origin (corners_field m n r)

      long : length ds ≡ coefficient_count m n
      long = list_length m n origin (corners_field m n r)

      back : (t : Place) → Digits n (2 * m) t
          → sweep (axes n) (λ a. backward m) (coefficients_field m n ds) t ≡ sweep (axes n) (λ a. backward m) (coefficients_field m n cs) t
      back t d =
          let e = numbers-entry m n some t d in
          let l = entry_in m n some t d in
          subst (λ (q : Place). sweep (axes n) (λ a. backward m) (coefficients_field m n ds) q
          ≡ sweep (axes n) (λ a. backward m) (coefficients_field m n cs) q) e
          (doubled-of r ds (record { are = refl }) (corner_entry m n t) l ∙ sym (h (corner_entry m n t) l))

      each : (K : ℕ) → K < coefficient_count m n → at ds K ≡ at cs K
      each K l =
          let p : Place = digit (λ b. 2 * m) K in
          let d = digits_in n (2 * m) K (omega arith) l in
          let e = of-digits n (2 * m) K l in
          subst (λ (k : ℕ). at ds k ≡ at cs k) e
          (cancel n _ _
          (sym (redo m n m2 m3 (coefficients_field m n ds) p d) ∙ forward-agree m n m2 m3 _ _ back p d
          ∙ redo m n m2 m3 (coefficients_field m n cs) p d))
