-- A sum of three products whose sizes sum to less than 2^63, as the machine works it out: each product and each shorter sum fit and are
-- what they say.
use mathlib.Core.Path.{◌≡◌, sym, ap, ap₂, ◌∙◌}
use mathlib.Core.List.{List}
use Prim.Native.Nat.{ℕ, ◌*◌, ◌^◌, ◌≤◌, ◌<◌}
use native.Mathlib.Nat.{le_refl, lt_of_le_of_lt}
use lib.Dec.{lit<, lit≤}
use lib.IntN.{ℤ, pos, ◌+ℤ◌, ◌*ℤ◌, nat_abs, +ℤ_idl, +ℤ_idr, *ℤ-zero}
use lib.Signed.{mag}
use mir.Syntax.{w64}
use mir.Val.{SFits, to_z, of_z}
use mir.Facts.{to_z-of_z}
use Rattle.arith.proofs.Abs.{sfits-abs}
use Rattle.arith.proofs.Machine.{Size, held as known, read}
use Rattle.arith.proofs.Sums.{dot-sum, dot-term}
use Rattle.arith.specs.Sum.{sum, total}
use Rattle.lattice.specs.Buffer.{at}

-- an integer as the machine holds it
abbrev pub held : ℤ → ℤ
held z = to_z w64 (of_z w64 z)

-- an element of an array, its size known
abbrev pub element : (xs : List ℤ) (i B : ℕ) → nat_abs (at xs i) ≤ B → B < 2 ^ 63 → Size (held (at xs i))
element xs i B h l = known w64 (at xs i) B (sfits-abs (at xs i) (lt_of_le_of_lt h l)) h

module _ (f g : ℕ → ℤ) (small : total 3 (λ i. nat_abs (f i) * nat_abs (g i)) < 2 ^ 63) where
  term_fits : (i : ℕ) → i < 3 → SFits w64 (f i *ℤ g i)
  term_fits i l = sfits-abs (f i *ℤ g i)
      (lt_of_le_of_lt (dot-term 3 f g (total 3 (λ i. nat_abs (f i) * nat_abs (g i)))
      (le_refl (total 3 (λ i. nat_abs (f i) * nat_abs (g i)))) i l) small)

  part-fits : (k : ℕ) → k ≤ 3 → SFits w64 (sum k (λ i. f i *ℤ g i))
  part-fits k l = sfits-abs (sum k (λ i. f i *ℤ g i))
      (lt_of_le_of_lt (dot-sum 3 f g (total 3 (λ i. nat_abs (f i) * nat_abs (g i)))
      (le_refl (total 3 (λ i. nat_abs (f i) * nat_abs (g i)))) k l) small)

  -- product i
  module _ (i : ℕ) (l : i < 3) (p : mag (f i) < 2 ^ 63) (q : mag (g i) < 2 ^ 63) where
    plain : held (f i) *ℤ held (g i) ≡ f i *ℤ g i
    plain = ap₂ ◌*ℤ◌ (read (f i) p) (read (g i) q)

    pub one-fits : SFits w64 (held (f i) *ℤ held (g i))
    one-fits = rw plain (term_fits i l)

    pub one : held (held (f i) *ℤ held (g i)) ≡ f i *ℤ g i
    one = rw plain (to_z-of_z (term_fits i l))

  -- the first two, and all three
  module _ (p0 : mag (f 0) < 2 ^ 63) (q0 : mag (g 0) < 2 ^ 63) (p1 : mag (f 1) < 2 ^ 63) (q1 : mag (g 1) < 2 ^ 63) where
    two : held (held (f 0) *ℤ held (g 0)) +ℤ held (held (f 1) *ℤ held (g 1)) ≡ sum 2 (λ i. f i *ℤ g i)
    unfolding sum
    two = ap₂ ◌+ℤ◌ (one 0 (lit< tt) p0 q0 ∙ sym (+ℤ_idl (f 0 *ℤ g 0))) (one 1 (lit< tt) p1 q1)

    pub two_fits : SFits w64 (held (held (f 0) *ℤ held (g 0)) +ℤ held (held (f 1) *ℤ held (g 1)))
    two_fits = rw two (part-fits 2 (lit≤ tt))

    -- all three, where the third is 0
    pub two-whole : g 2 ≡ pos 0 → held (held (held (f 0) *ℤ held (g 0)) +ℤ held (held (f 1) *ℤ held (g 1))) ≡ sum 3 (λ i. f i *ℤ g i)
    unfolding sum
    two-whole e = ap held two ∙ to_z-of_z (part-fits 2 (lit≤ tt))
        ∙ sym (ap (λ z. sum 2 (λ i. f i *ℤ g i) +ℤ f 2 *ℤ z) e ∙ ap (λ z. sum 2 (λ i. f i *ℤ g i) +ℤ z) (*ℤ-zero (f 2))
        ∙ +ℤ_idr (sum 2 (λ i. f i *ℤ g i)))

    module _ (p2 : mag (f 2) < 2 ^ 63) (q2 : mag (g 2) < 2 ^ 63) where
      three : held (held (held (f 0) *ℤ held (g 0)) +ℤ held (held (f 1) *ℤ held (g 1))) +ℤ held (held (f 2) *ℤ held (g 2)) ≡ sum 3
          (λ i. f i *ℤ g i)
      unfolding sum
      three = ap₂ ◌+ℤ◌ (ap held two ∙ to_z-of_z (part-fits 2 (lit≤ tt))) (one 2 (lit< tt) p2 q2)

      pub three-fits : SFits w64
          (held (held (held (f 0) *ℤ held (g 0)) +ℤ held (held (f 1) *ℤ held (g 1))) +ℤ held (held (f 2) *ℤ held (g 2)))
      three-fits = rw three (part-fits 3 (lit≤ tt))

      pub whole : held (held (held (held (f 0) *ℤ held (g 0)) +ℤ held (held (f 1) *ℤ held (g 1))) +ℤ held (held (f 2) *ℤ held (g 2))) ≡ sum
          3 (λ i. f i *ℤ g i)
      whole = rw three (to_z-of_z (part-fits 3 (lit≤ tt)))
