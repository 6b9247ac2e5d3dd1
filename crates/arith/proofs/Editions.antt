-- Rounding of halves to the even number: off by at most half, and a common factor of both parts goes out, as for halves up; off a half both
-- roundings agree; by an even number it is a quotient rounded down.
use mathlib.Core.Path.{◌≡◌, refl, sym, ◌∙◌, ap, ap₂, subst}
use mathlib.Core.Bool.{Bool, true, false}
use mathlib.Core.List.{[], ◌∷◌}
use Prim.Native.Nat.{ℕ, zero, suc, ◌+◌, ◌*◌, ◌-◌, ◌%◌, ◌≤◌, ◌<◌}
use native.Mathlib.Decide.{ℕ_discrete}
use native.Mathlib.Omega.{arith}
use borrow.Author.Tests.{eq-eqb, ne_eqb}
use lib.Dec.{lit<}
use lib.IntN.{ℤ, pos, negsuc, neg_ℤ, nat_abs, ◌+ℤ◌, ◌-ℤ◌, ◌*ℤ◌, +ℤ_idr, +ℤ_assoc}
use lib.Signed.{◌≤ℤ◌, ◌<ℤ◌}
use Rattle.arith.specs.Choice.{pick}
use Rattle.arith.specs.Int.{Rounding, floor_div, round_half_up, is_even, round_half_even, rounding_of, IsHalf}
use Rattle.arith.proofs.Laws.{*ℤ-negℤ}
use Rattle.arith.proofs.Quote.{quotes, ring! }
use Rattle.arith.proofs.Order.{subℕ-pos, lt-intro, le-elim}
use Rattle.arith.proofs.Abs.{abs_neg}
use Rattle.arith.proofs.Linear.{eq→ℕ, ℕ→eq, lt→ℕ, ℕ→le}
use Rattle.arith.proofs.Choices.{pick_true, pick-false, on-pick}
use Rattle.arith.proofs.Round.{Floor, floor-is, floor-unique, floor-rest, round-near, round-unique, round-half, rest-none, whole_is, Sound, half-up-sound}

-- to the nearest, halves down
half_down : Rounding
half_down x y = neg_ℤ (round_half_up (neg_ℤ x) y)

-- ---- both editions are sound

down-nearly : (x : ℤ) (y : ℕ) → 0 < y → 2 * nat_abs (half_down x y *ℤ pos y -ℤ x) ≤ y
unfolding half_down
down-nearly x y h =
    subst (λ (i : ℕ). 2 * i ≤ y)
    (sym (ap nat_abs (turn (round_half_up (neg_ℤ x) y) (pos y) x) ∙ abs_neg (round_half_up (neg_ℤ x) y *ℤ pos y -ℤ neg_ℤ x)))
    (half-up-sound.nearly (neg_ℤ x) y h)
  where
    turn : (r y x : ℤ) → neg_ℤ r *ℤ y -ℤ x ≡ neg_ℤ (r *ℤ y -ℤ neg_ℤ x)
    turn r y x = ring! (r ∷ y ∷ x ∷ []) (search quotes depth 40) tt

half-even-sound : Sound round_half_even
unfolding round_half_even half_down
half-even-sound = record {
  nearly = λ x y h.
      on-pick (λ z. 2 * nat_abs (z *ℤ pos y -ℤ x) ≤ y) (is_even (round_half_up x y)) (round_half_up x y) (half_down x y)
      (λ e. half-up-sound.nearly x y h) (λ e. down-nearly x y h);
  common = λ k x y h l.
      ap₂ (λ (u d : ℤ). pick (is_even u) u (neg_ℤ d)) (half-up-sound.common k x y h l)
      (ap (λ z. round_half_up z (k * y)) (sym (*ℤ-negℤ (pos k) x)) ∙ half-up-sound.common k (neg_ℤ x) y h l);
}

pub edition-sound : (second : Bool) → Sound (rounding_of second)
unfolding rounding_of
edition-sound true = half-even-sound
edition-sound false = half-up-sound

-- ---- off a half

-- what is near from below, and no half, is nearest
module _ (x : ℤ) (y : ℕ) (some : 0 < y) (off : IsHalf x y → ⊥) where
  strict : (w y x : ℤ) → (pos 2 *ℤ (w *ℤ y -ℤ neg_ℤ x)) ≤ℤ y → ((pos 2 *ℤ x ≡ (pos 2 *ℤ neg_ℤ w +ℤ pos 1) *ℤ y) → ⊥)
      → neg_ℤ y <ℤ (pos 2 *ℤ (neg_ℤ w *ℤ y -ℤ x))
  strict w y x h none = go (le-elim h).0 (le-elim h).1
    where
      apart : (n : ℕ) → y ≡ pos 2 *ℤ (w *ℤ y -ℤ neg_ℤ x) +ℤ pos n → pos 2 *ℤ (neg_ℤ w *ℤ y -ℤ x) ≡ neg_ℤ y +ℤ pos n
      apart n e =
          ring! (w ∷ y ∷ x ∷ pos n ∷ []) {y = neg_ℤ (pos 2 *ℤ (w *ℤ y -ℤ neg_ℤ x) +ℤ pos n) +ℤ pos n} (search quotes depth 40) tt
          ∙ ap (λ z. neg_ℤ z +ℤ pos n) (sym e)

      is-half : y ≡ pos 2 *ℤ (w *ℤ y -ℤ neg_ℤ x) +ℤ pos 0 → pos 2 *ℤ x ≡ (pos 2 *ℤ neg_ℤ w +ℤ pos 1) *ℤ y
      is-half e =
          ring! (w ∷ y ∷ x ∷ []) {y = (pos 2 *ℤ (w *ℤ y -ℤ neg_ℤ x) +ℤ pos 0) -ℤ pos 2 *ℤ w *ℤ y} (search quotes depth 40) tt
          ∙ ap (λ z. z -ℤ pos 2 *ℤ w *ℤ y) (sym e)
          ∙ ring! (w ∷ y ∷ []) (search quotes depth 40) tt

      go : (n : ℕ) → y ≡ pos 2 *ℤ (w *ℤ y -ℤ neg_ℤ x) +ℤ pos n → neg_ℤ y <ℤ (pos 2 *ℤ (neg_ℤ w *ℤ y -ℤ x))
      go zero e = absurd (none (is-half e))
      go (suc n) e = lt-intro n (apart (suc n) e)

  upper : (w y x : ℤ) → neg_ℤ y <ℤ (pos 2 *ℤ (w *ℤ y -ℤ neg_ℤ x)) → (pos 2 *ℤ (neg_ℤ w *ℤ y -ℤ x)) ≤ℤ y
  upper w y x h =
      let ρ = w ∷ y ∷ x ∷ [] in
      ℕ→le ρ (search quotes depth 40) (omega (arith, lt→ℕ ρ (search quotes depth 40) h))

  down-is-up : half_down x y ≡ round_half_up x y
  unfolding half_down
  down-is-up =
      let n = round-near (neg_ℤ x) y some in
      let w = round_half_up (neg_ℤ x) y in
      round-unique x y (neg_ℤ w) some
      (record { above = strict w (pos y) x n.upto (λ e. off (neg_ℤ w, e)); upto = upper w (pos y) x n.above })

  even-off-half : round_half_even x y ≡ round_half_up x y
  unfolding round_half_even half_down
  even-off-half = on-pick (λ z. z ≡ round_half_up x y) (is_even (round_half_up x y)) (round_half_up x y) (half_down x y)
      (λ e. refl) (λ e. down-is-up)

  pub off-half : (second : Bool) → rounding_of second x y ≡ round_half_up x y
  unfolding rounding_of
  off-half true = even-off-half
  off-half false = refl

-- ---- by an even number

-- the quotient below, and what is left
module _ (x : ℤ) (h : ℕ) (some : 0 < h) where
  wide : 0 < 2 * h
  wide = omega arith

  abbrev below : ℤ
  below = floor_div x (2 * h)

  abbrev left : Floor x (2 * h) below
  left = floor-is x (2 * h) wide

  -- halves down
  down-half : half_down x (2 * h) ≡ floor_div (x +ℤ pos h -ℤ pos 1) (2 * h)
  unfolding half_down
  down-half =
      let f = floor-is (neg_ℤ x +ℤ pos h) (2 * h) wide in
      let w = floor_div (neg_ℤ x +ℤ pos h) (2 * h) in
      ap neg_ℤ (round-half (neg_ℤ x) h some)
      ∙ floor-unique
      (record {
        rest = 2 * h - suc f.rest;
        below = omega (arith, f.below);
        is = line x (pos (2 * h) *ℤ w) h f.rest (2 * h - suc f.rest) f.is (omega (arith, f.below))
            ∙ ap (λ z. z +ℤ pos (2 * h - suc f.rest)) (sym (*ℤ-negℤ (pos (2 * h)) w));
      })
      (floor-is (x +ℤ pos h -ℤ pos 1) (2 * h) wide)
    where
      line : (x P : ℤ) (h s t : ℕ) → neg_ℤ x +ℤ pos h ≡ P +ℤ pos s → 2 * h ≡ s + t + 1 → x +ℤ pos h -ℤ pos 1 ≡ neg_ℤ P +ℤ pos t
      line x P h s t e f =
          let ρ = x ∷ P ∷ pos h ∷ pos s ∷ pos t ∷ [] in
          ℕ→eq ρ (search quotes depth 40) (omega (arith, eq→ℕ ρ (search quotes depth 40) e))

  -- at a half, the number above
  up-at-half : left.rest ≡ h → round_half_up x (2 * h) ≡ below +ℤ pos 1
  up-at-half e =
      round-half x h some
      ∙ floor-unique (floor-is (x +ℤ pos h) (2 * h) wide)
      (record {
        rest = 0;
        below = wide;
        is = ap (λ z. z +ℤ pos h) (left.is ∙ ap (λ (i : ℕ). pos (2 * h) *ℤ below +ℤ pos i) e) ∙ whole below (pos h);
      })
    where
      whole : (q h : ℤ) → (pos 2 *ℤ h *ℤ q +ℤ h) +ℤ h ≡ pos 2 *ℤ h *ℤ (q +ℤ pos 1) +ℤ pos 0
      whole q h = ring! (q ∷ h ∷ []) (search quotes depth 40) tt

  -- where half is not left, the quotient is no half
  no-half : (left.rest ≡ h → ⊥) → IsHalf x (2 * h) → ⊥
  no-half off (q, e) =
      let f : Floor x (2 * h) q = record { rest = h; below = omega arith; is = middle x q h e } in
      off (floor-rest left
      (record { rest = h; below = f.below; is = f.is ∙ ap (λ z. pos (2 * h) *ℤ z +ℤ pos h) (sym (floor-unique left f)) }))
    where
      middle : (x q : ℤ) (h : ℕ) → pos 2 *ℤ x ≡ (pos 2 *ℤ q +ℤ pos 1) *ℤ pos (2 * h) → x ≡ pos (2 * h) *ℤ q +ℤ pos h
      middle x q h e =
          let ρ = x ∷ q ∷ pos h ∷ [] in
          ℕ→eq ρ (search quotes depth 40) (omega (arith, eq→ℕ ρ (search quotes depth 40) e))

  -- its parity
  abbrev odd : ℤ
  odd = below -ℤ pos 2 *ℤ floor_div below 2

  abbrev halved : Floor below 2 (floor_div below 2)
  halved = floor-is below 2 (lit< tt)

  odd_is : odd ≡ pos halved.rest
  odd_is = ap (λ z. z -ℤ pos 2 *ℤ floor_div below 2) halved.is ∙ taken (floor_div below 2) (pos halved.rest)
    where
      taken : (b r : ℤ) → (pos 2 *ℤ b +ℤ r) -ℤ pos 2 *ℤ b ≡ r
      taken b r = ring! (b ∷ r ∷ []) (search quotes depth 40) tt

  -- what is rounded down: halves go up from an odd number, down from an even one
  abbrev code : ℕ → ℤ
  code o = floor_div (x +ℤ (pos h -ℤ (pos 1 -ℤ pos o))) (2 * h)

  code-odd : code 1 ≡ round_half_up x (2 * h)
  code-odd = ap (λ z. floor_div (x +ℤ z) (2 * h)) (+ℤ_idr (pos h)) ∙ sym (round-half x h some)

  code-even : code 0 ≡ half_down x (2 * h)
  code-even = ap (λ z. floor_div z (2 * h)) (sym (+ℤ_assoc x (pos h) (negsuc 0))) ∙ sym down-half

  off : (left.rest ≡ h → ⊥) → half_down x (2 * h) ≡ round_half_up x (2 * h)
  off none = down-is-up x (2 * h) wide (no-half none)

  -- at a half the number above is even where the one below is odd
  above-is : (o : ℕ) → halved.rest ≡ o → left.rest ≡ h → round_half_up x (2 * h) ≡ (pos 2 *ℤ floor_div below 2 +ℤ pos o) +ℤ pos 1
  above-is o e m = up-at-half m ∙ ap (λ z. z +ℤ pos 1) (halved.is ∙ ap (λ (i : ℕ). pos 2 *ℤ floor_div below 2 +ℤ pos i) e)

  above_odd : halved.rest ≡ 0 → left.rest ≡ h → nat_abs (round_half_up x (2 * h)) % 2 ≡ 0 → ⊥
  above_odd e m r =
      apart (floor_div below 2) (floor_div (round_half_up x (2 * h)) 2)
      (sym (above-is 0 e m) ∙ whole_is 2 (lit< tt) (round_half_up x (2 * h)) r)
    where
      apart : (b c : ℤ) → (pos 2 *ℤ b +ℤ pos 0) +ℤ pos 1 ≡ pos 2 *ℤ c → ⊥
      apart b c e = let ρ = b ∷ c ∷ [] in omega (arith, eq→ℕ ρ (search quotes depth 40) e)

  above-even : halved.rest ≡ 1 → left.rest ≡ h → nat_abs (round_half_up x (2 * h)) % 2 ≡ 0
  above-even e m =
      rest-none 2 (lit< tt) (round_half_up x (2 * h)) (floor_div below 2 +ℤ pos 1) (above-is 1 e m ∙ next (floor_div below 2))
    where
      next : (b : ℤ) → (pos 2 *ℤ b +ℤ pos 1) +ℤ pos 1 ≡ pos 2 *ℤ (b +ℤ pos 1)
      next b = ring! (b ∷ []) (search quotes depth 40) tt

  by-parity : (o : ℕ) → halved.rest ≡ o → o < 2 → Dec (left.rest ≡ h) → code o ≡ round_half_even x (2 * h)
  unfolding round_half_even half_down is_even
  by-parity zero e l (yes m) =
      code-even ∙ sym (pick-false (is_even (round_half_up x (2 * h))) (round_half_up x (2 * h)) (half_down x (2 * h))
      (ne_eqb (nat_abs (round_half_up x (2 * h)) % 2) 0 (above_odd e m)))
  by-parity (suc zero) e l (yes m) =
      code-odd ∙ sym (pick_true (is_even (round_half_up x (2 * h))) (round_half_up x (2 * h)) (half_down x (2 * h))
      (eq-eqb (nat_abs (round_half_up x (2 * h)) % 2) 0 (above-even e m)))
  by-parity zero e l (no none) = code-even ∙ off none ∙ sym (even-off-half x (2 * h) wide (no-half none))
  by-parity (suc zero) e l (no none) = code-odd ∙ sym (even-off-half x (2 * h) wide (no-half none))
  by-parity (suc (suc o)) e l d = absurd (omega arith)

  pub even-half : floor_div (x +ℤ (pos h -ℤ (pos 1 -ℤ odd))) (2 * h) ≡ round_half_even x (2 * h)
  even-half =
      ap (λ z. floor_div (x +ℤ (pos h -ℤ (pos 1 -ℤ z))) (2 * h)) odd_is
      ∙ by-parity halved.rest refl halved.below (ℕ_discrete left.rest h)

  -- its parity is 0 or 1, and no sum on the way is larger than where halves go up
  pub odd-small : nat_abs odd ≤ 1
  odd-small = rw odd_is (let l = halved.below in omega arith)

  pub addend_small : nat_abs (pos h -ℤ (pos 1 -ℤ odd)) ≤ h
  addend_small = rw odd_is (step halved.rest halved.below)
    where
      step : (o : ℕ) → o < 2 → nat_abs (pos h -ℤ (pos 1 -ℤ pos o)) ≤ h
      step zero l = rw (subℕ-pos h 1 some) (omega arith)
      step (suc zero) l = omega arith
      step (suc (suc o)) l = absurd (omega arith)

-- 1/2 is 0, 3/2 and 5/2 are 2, −1/2 is 0, −3/2 and −5/2 are −2, 3/4 is 1
halves : (round_half_even (pos 1) 2 ≡ pos 0) × (round_half_even (pos 3) 2 ≡ pos 2) × (round_half_even (pos 5) 2 ≡ pos 2)
    × (round_half_even (negsuc 0) 2 ≡ pos 0) × (round_half_even (negsuc 2) 2 ≡ negsuc 1) × (round_half_even (negsuc 4) 2 ≡ negsuc 1)
    × (round_half_even (pos 3) 4 ≡ pos 1)
unfolding round_half_even is_even round_half_up pick
halves = (refl, refl, refl, refl, refl, refl, refl)
