-- A corner's coefficients, solved back and signed, are its doubled entries: from the rule of each end, axis by axis.
use mathlib.Core.Path.{◌≡◌, refl, sym, ap, ◌∙◌}
use mathlib.Core.Bool.{true}
use mathlib.Core.List.{List}
use Prim.Native.Nat.{ℕ, zero, suc, ◌+◌, ◌*◌, ◌-◌, ◌^◌, ◌≤◌, ◌<◌}
use native.Mathlib.Omega.{arith}
use lib.IntN.{ℤ, ◌*ℤ◌}
use Rattle.arith.specs.Choice.{pick}
use Rattle.arith.specs.Int.{◌^ℤ◌}
use Rattle.lattice.specs.Buffer.{at}
use Rattle.lattice.specs.Digits.{number, digit}
use Rattle.lattice.specs.Axes.{Place, Field, sweep, axes}
use Rattle.lattice.proofs.Along.{distinct-axes, each-axes, sweep-fuse}
use Rattle.lattice.proofs.Local.{sweep-carries}
use Rattle.lattice.proofs.DigitsLaws.{digits_in, number_in, of-digits, of_number}
use Rattle.hermite.specs.Hermite.{mirrored, solved, backward, end_rule}
use Rattle.hermite.proofs.BackLaws.{backward-low, backward-high, solved-ext}
use Rattle.hermite.proofs.EndLaws.{end-linear}
use Rattle.coefficients.specs.Blocks.{end_sign, block_sign, coefficient_number, block_numbers, coefficient_index, solved_block}
use Rattle.coefficients.proofs.SignLaws.{low-sign, high-sign, signs-are, signing, signing-linear, sweep-signing}
use Rattle.coefficients.proofs.SpotLaws.{mirror-low, numbers-are, spot-number}
use Rattle.coefficients.proofs.ConvertLaws.{from_low, high-place, Order, reads, orders-in, paired, end, end_low, joined, counted, both-none}
use Rattle.corners.specs.Corners.{coefficients_field, doubled_entry}

-- ---- one axis

module _ (m : ℕ) (m2 : 2 ≤ m) (m3 : m ≤ 3) where
  -- the doubled numbers of an end, from its coefficients counted from it, then signed
  backward-end : (e : ℕ) → e < 2 → (x y : ℕ → ℤ) → ((t : ℕ) → t < m → x (coefficient_number m (m * e + t)) ≡ y t) → (o : ℕ) → o < m
      → backward m x (m * e + o) ≡ signing (λ k. end_sign e ^ℤ k) (end_rule true m y) o
  unfolding end_rule pick
  backward-end zero l x y h o p =
      ap (backward m x) (from_low m o) ∙ backward-low m m2 m3 x o p
      ∙ solved-ext m m2 m3 x y o p (λ t q. sym (ap x (ap (coefficient_number m) (from_low m t) ∙ mirror-low m t q)) ∙ h t q)
      ∙ sym (low-sign o (solved m y o))
  backward-end (suc zero) l x y h o p =
      let z : m * 1 + o ≡ m + o = omega arith in
      ap (backward m x) z ∙ backward-high m m2 m3 x o
      ∙ ap (mirrored o) (solved-ext m m2 m3 (λ k. x (2 * m - 1 - k)) y o p (λ t q. sym (ap x (high-place m m2 m3 t q)) ∙ h t q))
      ∙ sym (high-sign o (solved m y o))
  backward-end (suc (suc e)) l x y h o p = absurd (omega arith)

-- ---- all axes of a corner

module _ (m n : ℕ) (m2 : 2 ≤ m) (m3 : m ≤ 3) (low : 1 ≤ n) (high : n ≤ 3) (c : ℕ) (hc : c < 2 ^ n) (cs : List ℤ) where
  some : 0 < m
  some = omega arith

  spots-are : (p q : Place) → ((a : ℕ) → Order m n (counted m c) a (p a) (q a))
      → coefficients_field m n cs p ≡ at cs (coefficient_index m c (number n (λ b. m) q))
  unfolding coefficients_field block_numbers
  spots-are p q h =
      let z = orders-in m n (counted m c) p q h in
      let k = number_in n m q z.1 in
      ap (at cs)
      (ap (number n (λ b. 2 * m)) (z.0 ∙ ap (λ (o : Place). λ a. coefficient_number m (m * end c a + o a)) (sym (of_number n m q z.1)))
      ∙ sym (spot-number m n some c (number n (λ b. m) q) hc k low high))

  -- its sign along axis a
  abbrev along-axis : ℕ → ℕ → ℤ
  along-axis a o = end_sign (end c a) ^ℤ o

  -- number k of the coefficients solved back, then signed, is its doubled entry
  pub backward-block : (k : ℕ) → k < m ^ n
      → block_sign m c k *ℤ solved_block true m n (λ j. at cs (coefficient_index m c j)) k ≡ doubled_entry m n cs (m ^ n * c + k)
  unfolding doubled_entry block_numbers solved_block
  backward-block k hk =
      sym (ap (sweep (axes n) (λ a. backward m) (coefficients_field m n cs)) (numbers-are m n some c k hc hk)
      ∙ sweep-carries (Order m n (joined m c)) (Order m n (counted m c)) (λ a. backward m)
      (λ a x. signing (along-axis a) (end_rule true m x)) (axes n) (distinct-axes n)
      (each-axes n _ (λ a l x y j t s h.
      ap (backward m x) s.is ∙ backward-end m m2 m3 (end c a) (end_low c a) x y (reads m n (counted m c) x y a l h) t s.below))
      (coefficients_field m n cs) plain spots-are (block_numbers m c k) (digit (λ b. m) k)
      (paired m n some (joined m c) (counted m c) (block_numbers m c k) k hk (λ a. refl) (λ a l. sym (both-none m n c some hc k hk a l)))
      ∙ sym (ap (λ (g : Field). g (digit (λ b. m) k))
      (sweep-fuse (axes n) (distinct-axes n) (λ a. signing (along-axis a)) (λ a. end_rule true m)
      (λ a. signing-linear (along-axis a)) (λ a. end-linear true m) plain))
      ∙ sweep-signing n along-axis (sweep (axes n) (λ a. end_rule true m) plain) (digit (λ b. m) k)
      ∙ ap (λ z. z *ℤ sweep (axes n) (λ a. end_rule true m) plain (digit (λ b. m) k))
      (signs-are m n c high (digit (λ b. m) k) (digits_in n m k some hk)
      ∙ ap (block_sign m c) (of-digits n m k hk)))
    where
      plain : Field
      plain q = at cs (coefficient_index m c (number n (λ b. m) q))
