-- A pooled sample: what the code computes of lifted samples; that it is near the mean and between its parents.
use mathlib.Core.Path.{◌≡◌, refl, sym, ap, ap₂, subst, ◌∙◌}
use mathlib.Core.List.{[], ◌∷◌}
use mathlib.Core.Logic.{◌⊎◌, inl, inr, ⊎_elim}
use Prim.Native.Nat.{ℕ, ◌+◌, ◌*◌, ◌/◌, ◌≤◌, ◌<◌}
use native.Mathlib.Nat.{add_comm, zero-add}
use native.Mathlib.Omega.{arith}
use lib.IntN.{ℤ, pos, negsuc, ◌+ℤ◌, ◌-ℤ◌, ◌*ℤ◌, nat_abs}
use lib.Signed.{◌≤ℤ◌}
use Rattle.arith.specs.Int.{floor_div, round_half_up}
use Rattle.arith.proofs.Quote.{quotes, ring! }
use Rattle.arith.proofs.Linear.{pz, nz, le→ℕ}
use Rattle.arith.proofs.Order.{le-elim, le_intro, ≤ℤ-total}
use Rattle.arith.proofs.Round.{floor-is, floor-unique, round_exact, round_mono, half-up-sound}
use Rattle.pool.specs.Pool.{pooled}

-- ---- lifted samples

-- a quotient rounded down moves with a multiple of its divisor
floor-moved : (z : ℤ) (m k : ℕ) → 0 < m → floor_div (z +ℤ pos m *ℤ pos k) m ≡ floor_div z m +ℤ pos k
floor-moved z m k h =
    let f = floor-is z m h in
    floor-unique (floor-is (z +ℤ pos m *ℤ pos k) m h)
    (record {
      rest = f.rest;
      below = f.below;
      is = ap (λ t. t +ℤ pos m *ℤ pos k) f.is ∙ out (pos m) (floor_div z m) (pos f.rest) (pos k);
    })
  where
    out : (m q r k : ℤ) → m *ℤ q +ℤ r +ℤ m *ℤ k ≡ m *ℤ (q +ℤ k) +ℤ r
    out m q r k = ring! (m ∷ q ∷ r ∷ k ∷ []) (search quotes depth 40) tt

module _ (a b : ℤ) (v w x y : ℕ) (ex : pos x ≡ a +ℤ pos 32768) (ey : pos y ≡ b +ℤ pos 32768) where
  sum-lifted : pos (2 * (x * v + y * w) + (v + w))
      ≡ (pos 2 *ℤ (a *ℤ pos v +ℤ b *ℤ pos w) +ℤ pos (v + w)) +ℤ pos (2 * (v + w)) *ℤ pos 32768
  sum-lifted =
      ap₂ (λ (p q : ℤ). pos 2 *ℤ (p *ℤ pos v +ℤ q *ℤ pos w) +ℤ (pos v +ℤ pos w)) ex ey
      ∙ out a b (pos v) (pos w) (pos 32768)
    where
      out : (a b v w k : ℤ) → pos 2 *ℤ ((a +ℤ k) *ℤ v +ℤ (b +ℤ k) *ℤ w) +ℤ (v +ℤ w)
          ≡ (pos 2 *ℤ (a *ℤ v +ℤ b *ℤ w) +ℤ (v +ℤ w)) +ℤ (pos 2 *ℤ (v +ℤ w)) *ℤ k
      out a b v w k = ring! (a ∷ b ∷ v ∷ w ∷ k ∷ []) (search quotes depth 40) tt

  -- the quotient of the lifted samples is the pooled sample, lifted
  pub pooled-lifted : 0 < v + w → pos ((2 * (x * v + y * w) + (v + w)) / (2 * (v + w))) ≡ pooled a v b w +ℤ pos 32768
  unfolding pooled round_half_up
  pooled-lifted some =
      ap (λ z. floor_div z (2 * (v + w))) sum-lifted
      ∙ floor-moved (pos 2 *ℤ (a *ℤ pos v +ℤ b *ℤ pos w) +ℤ pos (v + w)) (2 * (v + w)) 32768 (omega arith)

-- ---- the mean

-- the order of the two does not matter
pub pooled-turned : (a : ℤ) (v : ℕ) (b : ℤ) (w : ℕ) → pooled a v b w ≡ pooled b w a v
unfolding pooled
pooled-turned a v b w = ap₂ round_half_up (turn a b (pos v) (pos w)) (add_comm v w)
  where
    turn : (a b v w : ℤ) → a *ℤ v +ℤ b *ℤ w ≡ b *ℤ w +ℤ a *ℤ v
    turn a b v w = ring! (a ∷ b ∷ v ∷ w ∷ []) (search quotes depth 40) tt

-- of a sample with itself
pub pooled-itself : (a : ℤ) (v w : ℕ) → 0 < v + w → pooled a v a w ≡ a
unfolding pooled
pooled-itself a v w some = ap (λ z. round_half_up z (v + w)) (out a (pos v) (pos w)) ∙ round_exact a (v + w) some
  where
    out : (a v w : ℤ) → a *ℤ v +ℤ a *ℤ w ≡ a *ℤ (v +ℤ w)
    out a v w = ring! (a ∷ v ∷ w ∷ []) (search quotes depth 40) tt

-- weight 0 gives the other
pub pooled-nought : (a b : ℤ) (w : ℕ) → 0 < w → pooled a 0 b w ≡ b
unfolding pooled
pooled-nought a b w some =
    ap₂ round_half_up (out a b (pos w)) (zero-add w) ∙ round_exact b w some
  where
    out : (a b w : ℤ) → a *ℤ pos 0 +ℤ b *ℤ w ≡ b *ℤ w
    out a b w = ring! (a ∷ b ∷ w ∷ []) (search quotes depth 40) tt

module _ (a : ℤ) (v : ℕ) (b : ℤ) (w : ℕ) (some : 0 < v + w) where
  abbrev sum : ℤ
  sum = a *ℤ pos v +ℤ b *ℤ pos w

  pub mean-near : 2 * nat_abs (pooled a v b w *ℤ pos (v + w) -ℤ sum) ≤ v + w
  unfolding pooled
  mean-near = half-up-sound.nearly sum (v + w) some

  -- at least the lower, at most the higher
  above : a ≤ℤ b → a ≤ℤ pooled a v b w
  unfolding pooled
  above l =
      let k = le-elim l in
      subst (λ t. t ≤ℤ pooled a v b w) (round_exact a (v + w) some)
      (round_mono (a *ℤ pos (v + w)) sum (v + w) some
      (le_intro (k.0 * w) (ap (λ t. a *ℤ pos v +ℤ t *ℤ pos w) k.1 ∙ out a (pos k.0) (pos v) (pos w))))
    where
      out : (a k v w : ℤ) → a *ℤ v +ℤ (a +ℤ k) *ℤ w ≡ a *ℤ (v +ℤ w) +ℤ k *ℤ w
      out a k v w = ring! (a ∷ k ∷ v ∷ w ∷ []) (search quotes depth 40) tt

  below : a ≤ℤ b → pooled a v b w ≤ℤ b
  unfolding pooled
  below l =
      let k = le-elim l in
      subst (λ t. pooled a v b w ≤ℤ t) (round_exact b (v + w) some)
      (round_mono sum (b *ℤ pos (v + w)) (v + w) some
      (le_intro (k.0 * v)
      (ap (λ t. t *ℤ pos (v + w)) k.1 ∙ out a (pos k.0) (pos v) (pos w)
      ∙ ap (λ t. a *ℤ pos v +ℤ t *ℤ pos w +ℤ pos (k.0 * v)) (sym k.1))))
    where
      out : (a k v w : ℤ) → (a +ℤ k) *ℤ (v +ℤ w) ≡ a *ℤ v +ℤ (a +ℤ k) *ℤ w +ℤ k *ℤ v
      out a k v w = ring! (a ∷ k ∷ v ∷ w ∷ []) (search quotes depth 40) tt

pub mean-between : (a : ℤ) (v : ℕ) (b : ℤ) (w : ℕ) → 0 < v + w
    → ((a ≤ℤ pooled a v b w) × (pooled a v b w ≤ℤ b)) ⊎ ((b ≤ℤ pooled a v b w) × (pooled a v b w ≤ℤ a))
mean-between a v b w some = go (≤ℤ-total a b)
  where
    other : 0 < w + v
    other = omega arith

    go : (a ≤ℤ b) ⊎ (b ≤ℤ a)
        → ((a ≤ℤ pooled a v b w) × (pooled a v b w ≤ℤ b)) ⊎ ((b ≤ℤ pooled a v b w) × (pooled a v b w ≤ℤ a))
    go (inl l) = inl (above a v b w some l, below a v b w some l)
    go (inr l) = inr (
      subst (λ t. b ≤ℤ t) (sym (pooled-turned a v b w)) (above b w a v other l),
      subst (λ t. t ≤ℤ a) (sym (pooled-turned a v b w)) (below b w a v other l),
    )

-- a number between two has their limits
parts_low : (x : ℤ) → (pz x ≤ nat_abs x) × (nz x ≤ nat_abs x)
parts_low (pos n) = omega arith
parts_low (negsuc n) = omega arith

size-between : (limit : ℕ) (a b q : ℤ) → nat_abs a ≤ limit → nat_abs b ≤ limit → a ≤ℤ q → q ≤ℤ b → nat_abs q ≤ limit
size-between limit a b (pos n) ha hb l u =
    let ρ = pos n ∷ b ∷ [] in omega (arith, le→ℕ ρ (search quotes depth 40) u, parts_low b)
size-between limit a b (negsuc n) ha hb l u =
    let ρ = negsuc n ∷ a ∷ [] in omega (arith, le→ℕ ρ (search quotes depth 40) l, parts_low a)

pub mean-limit : (a : ℤ) (v : ℕ) (b : ℤ) (w : ℕ) → 0 < v + w → (limit : ℕ) → nat_abs a ≤ limit → nat_abs b ≤ limit
    → nat_abs (pooled a v b w) ≤ limit
mean-limit a v b w some limit ha hb =
    ⊎_elim (λ l. size-between limit a b (pooled a v b w) ha hb l.0 l.1)
    (λ l. size-between limit b a (pooled a v b w) hb ha l.0 l.1) (mean-between a v b w some)

-- 1/2 is 1, −1/2 is 0, −3/2 is −1, 3/2 is 2; of weights 3 and 1, 1/4 is 0 and −1/4 is 0; of weights 1 and 2, −2/3 is −1
halves : (pooled (pos 0) 1 (pos 1) 1 ≡ pos 1) × (pooled (negsuc 0) 1 (pos 0) 1 ≡ pos 0) × (pooled (negsuc 1) 1 (negsuc 0) 1 ≡ negsuc 0)
    × (pooled (pos 1) 1 (pos 2) 1 ≡ pos 2) × (pooled (pos 0) 3 (pos 1) 1 ≡ pos 0) × (pooled (pos 0) 3 (negsuc 0) 1 ≡ pos 0)
    × (pooled (pos 0) 1 (negsuc 0) 2 ≡ negsuc 0)
unfolding pooled round_half_up
halves = (refl, refl, refl, refl, refl, refl, refl)
