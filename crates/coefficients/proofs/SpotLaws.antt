-- Where the coefficients of the corners stand: every coefficient belongs to one number of one corner; after any number of corners in the
-- order of the listings theirs stand and all other numbers are 0.
use mathlib.Core.Path.{◌≡◌, refl, sym, ap, subst, ◌∙◌, fun_ext}
use mathlib.Core.List.{List}
use Prim.Native.Nat.{ℕ, zero, suc, ◌+◌, ◌*◌, ◌-◌, ◌/◌, ◌%◌, ◌^◌, ◌≤◌, ◌<◌}
use native.Mathlib.Nat.{add-zero, add-suc, not-suc-le-zero, div-eq_of_lt, div-add-mod, mod-lt}
use native.Mathlib.Numerals.{add-one}
use native.Mathlib.Decide.{ℕ_discrete, dec_lt}
use native.Mathlib.Omega.{arith}
use lib.Dec.{ltb, lit<, lit≤}
use lib.IntN.{ℤ, pos}
use lib.ListN.{length, set, length-set}
use lib.Seq.{get_or-set_same, get_or-set_other}
use borrow.Author.Tests.{lt-ltb, le-ltb}
use Rattle.arith.proofs.Choices.{pick_true, pick-false, by_2}
use Rattle.lattice.specs.Buffer.{at}
use Rattle.lattice.specs.Digits.{number, digit}
use Rattle.lattice.specs.Axes.{Place}
use Rattle.lattice.proofs.DigitsLaws.{digit-below, Digits, digits_in, number_in, of-digits, of_number, high_digit, low_digit, pair-in}
use Rattle.cell.specs.Coefficients.{coefficient_count}
use Rattle.cell.specs.Corners.{corner_numbers, corner_entry}
use Rattle.cell.proofs.CellLaws.{number_is}
use Rattle.cell.proofs.NumberLaws.{record-some, corner-low, count-split, numbers-in, numbers-entry, entry-numbers, entry_in}
use Rattle.coefficients.specs.Blocks.{coefficient_number, block_numbers, coefficient_index, scatter, reversed, corner_at, turn_of, Filled}

-- ---- counting from an end

module _ (m : ℕ) where
  pub mirror-low : (t : ℕ) → t < m → coefficient_number m t ≡ t
  unfolding coefficient_number
  mirror-low t l = pick_true (ltb t m) t (3 * m - 1 - t) (lt-ltb t m l)

  pub mirror-high : (t : ℕ) → m ≤ t → coefficient_number m t ≡ 3 * m - 1 - t
  unfolding coefficient_number
  mirror-high t l = pick-false (ltb t m) t (3 * m - 1 - t) (le-ltb t m l)

  mirror-in : (t : ℕ) → t < 2 * m → coefficient_number m t < 2 * m
  unfolding coefficient_number
  mirror-in t l = go (dec_lt t m)
    where
      go : Dec (t < m) → coefficient_number m t < 2 * m
      go (yes h) = let e = mirror-low t h in omega arith
      go (no h) = let e = mirror-high t (omega (arith, h)) in omega (arith, h)

  mirror-twice : (t : ℕ) → t < 2 * m → coefficient_number m (coefficient_number m t) ≡ t
  mirror-twice t l = go (dec_lt t m)
    where
      go : Dec (t < m) → coefficient_number m (coefficient_number m t) ≡ t
      go (yes h) = ap (coefficient_number m) (mirror-low t h) ∙ mirror-low t h
      go (no h) =
          let e : m ≤ t = omega (arith, h) in
          ap (coefficient_number m) (mirror-high t e) ∙ mirror-high (3 * m - 1 - t) (omega arith)
          ∙ (let z : 3 * m - 1 - (3 * m - 1 - t) ≡ t = omega arith in z)

  -- the end of a coefficient
  end_of : (e t : ℕ) → e < 2 → t < m → coefficient_number m (m * e + t) / m ≡ e
  end_of zero t l h =
      let z : m * 0 + t ≡ t = omega arith in
      ap (λ (i : ℕ). coefficient_number m i / m) z ∙ ap (λ (i : ℕ). i / m) (mirror-low t h) ∙ div-eq_of_lt h
  end_of (suc zero) t l h =
      let w : 3 * m - 1 - (m * 1 + t) ≡ m * 1 + (m - 1 - t) = omega arith in
      ap (λ (i : ℕ). i / m) (mirror-high (m * 1 + t) (omega arith) ∙ w) ∙ high_digit m 1 (m - 1 - t) (omega arith)
  end_of (suc (suc e)) t l h = absurd (omega arith)

  pub mirror-digits : (n : ℕ) → 0 < m → (p : Place) → Digits n (2 * m) p → Digits n (2 * m) (λ a. coefficient_number m (p a))
  mirror-digits n some p d =
      record { used = λ a l. mirror-in (p a) (d.used a l); unused = λ a l. ap (coefficient_number m) (d.unused a l) ∙ mirror-low 0 some }

-- ---- where a number of a corner stands

module _ (m n : ℕ) (some : 0 < m) where
  -- the coefficient of entry i
  abbrev spot_of : ℕ → ℕ
  spot_of i = number n (λ b. 2 * m) (λ a. coefficient_number m (corner_numbers m n i a))

  mirrored-in : (i : ℕ) → i < coefficient_count m n → Digits n (2 * m) (λ a. coefficient_number m (corner_numbers m n i a))
  mirrored-in i l = mirror-digits m n some (corner_numbers m n i) (numbers-in m n some i l)

  spot-low : (i : ℕ) → i < coefficient_count m n → spot_of i < coefficient_count m n
  spot-low i l = number_in n (2 * m) _ (mirrored-in i l)

  same-mirrored : (p : Place) → Digits n (2 * m) p → (λ a. coefficient_number m (coefficient_number m (p a))) ≡ p
  same-mirrored p d = fun_ext (λ a. go a (dec_lt a n))
    where
      go : (a : ℕ) → Dec (a < n) → coefficient_number m (coefficient_number m (p a)) ≡ p a
      go a (yes l) = mirror-twice m (p a) (d.used a l)
      go a (no l) =
          let e = d.unused a (omega (arith, l)) in
          mirror-twice m (p a) (let z = d.unused a (omega (arith, l)) in omega arith)

  -- the entry of a coefficient
  abbrev entry_at : ℕ → ℕ
  entry_at K = corner_entry m n (λ a. coefficient_number m (digit (λ b. 2 * m) K a))

  entry-spot : (i : ℕ) → i < coefficient_count m n → entry_at (spot_of i) ≡ i
  entry-spot i l =
      ap (λ (p : Place). corner_entry m n (λ a. coefficient_number m (p a))) (of_number n (2 * m) _ (mirrored-in i l))
      ∙ ap (corner_entry m n) (same-mirrored (corner_numbers m n i) (numbers-in m n some i l)) ∙ entry-numbers m n some i l

  spot-entry : (K : ℕ) → K < coefficient_count m n → spot_of (entry_at K) ≡ K
  spot-entry K l =
      let two : 0 < 2 * m = omega arith in
      let d = digits_in n (2 * m) K two l in
      ap (λ (p : Place). number n (λ b. 2 * m) (λ a. coefficient_number m (p a)))
      (numbers-entry m n some _ (mirror-digits m n some (digit (λ b. 2 * m) K) d))
      ∙ ap (number n (λ b. 2 * m)) (same-mirrored (digit (λ b. 2 * m) K) d) ∙ of-digits n (2 * m) K l

  module _ (c k : ℕ) (hc : c < 2 ^ n) (hk : k < m ^ n) where
    pub entry-of : m ^ n * c + k < coefficient_count m n
    entry-of = rw (count-split m n) (pair-in (m ^ n) c k hk (2 ^ n) hc)

    pub numbers-are : corner_numbers m n (m ^ n * c + k) ≡ block_numbers m c k
    unfolding corner_numbers block_numbers
    numbers-are = fun_ext (λ a.
        ap (λ (i : ℕ). m * digit (λ b. 2) i a + digit (λ b. m) ((m ^ n * c + k) % m ^ n) a) (high_digit (m ^ n) c k hk)
        ∙ ap (λ (i : ℕ). m * digit (λ b. 2) c a + digit (λ b. m) i a) (low_digit (m ^ n) c k hk))

    pub block_in : Digits n (2 * m) (block_numbers m c k)
    block_in = subst (λ (p : Place). Digits n (2 * m) p) numbers-are (numbers-in m n some (m ^ n * c + k) entry-of)

    module _ (low : 1 ≤ n) (high : n ≤ 3) where
      -- three digits, or as many as there are axes
      pub spot-number : coefficient_index m c k ≡ number n (λ b. 2 * m) (λ a. coefficient_number m (block_numbers m c k a))
      unfolding coefficient_index
      spot-number =
          let d = mirror-digits m n some (block_numbers m c k) block_in in
          number_is (2 * m) 3 (λ a. coefficient_number m (block_numbers m c k a)) (lit≤ tt) (lit≤ tt) (λ a l. d.unused a (omega arith))
          ∙ sym (number_is (2 * m) n (λ a. coefficient_number m (block_numbers m c k a)) low high d.unused)

      spot_is : coefficient_index m c k ≡ spot_of (m ^ n * c + k)
      spot_is = spot-number ∙ ap (λ (p : Place). number n (λ b. 2 * m) (λ a. coefficient_number m (p a))) (sym numbers-are)

      -- the turn of its corner
      turn_is : turn_of m n (coefficient_index m c k) ≡ corner_at n c
      unfolding turn_of corner_at block_numbers
      turn_is =
          ap (reversed n)
          (fun_ext (λ a.
          ap (λ (p : Place). p a / m) (ap (digit (λ b. 2 * m)) spot-number
          ∙ of_number n (2 * m) (λ a. coefficient_number m (block_numbers m c k a)) (mirror-digits m n some (block_numbers m c k) block_in))
          ∙ end_of m (digit (λ b. 2) c a) (digit (λ b. m) k a) (digit-below (λ b. 2) c a (lit< tt)) (digit-below (λ b. m) k a some)))

      pub spot_in : coefficient_index m c k < coefficient_count m n
      spot_in = rw spot_is (spot-low (m ^ n * c + k) entry-of)

-- ---- filling

pub scatter-length : (place : ℕ → ℕ) (f : ℕ → ℤ) (old : List ℤ) (k : ℕ) → length (scatter k place f old) ≡ length old
unfolding scatter
scatter-length place f old zero = refl
scatter-length place f old (suc k) = length-set (scatter k place f old) (place k) (f k) ∙ scatter-length place f old k

-- what stands at a place that is written once, and at one that is not
pub scatter-off : (place : ℕ → ℕ) (f : ℕ → ℤ) (old : List ℤ) (i n : ℕ) → ((k : ℕ) → k < n → i ≡ place k → ⊥)
    → at (scatter n place f old) i ≡ at old i
unfolding scatter
scatter-off place f old i zero h = refl
scatter-off place f old i (suc n) h = get_or-set_other (scatter n place f old) (place n) i (f n) (pos 0) (h n (omega arith))
    ∙ scatter-off place f old i n (λ k l. h k (omega arith))

pub scatter-at : (place : ℕ → ℕ) (f : ℕ → ℤ) (old : List ℤ) (k n : ℕ) → k < n → place k < length old
    → ((j : ℕ) → j < n → place k ≡ place j → k ≡ j) → at (scatter n place f old) (place k) ≡ f k
unfolding scatter
scatter-at place f old k zero l room one = absurd (not-suc-le-zero l)
scatter-at place f old k (suc n) l room one = go (λ h. scatter-at place f old k n h room (λ j q. one j (omega arith))) (ℕ_discrete k n)
  where
    go : (k < n → at (scatter n place f old) (place k) ≡ f k) → Dec (k ≡ n)
        → at (set (scatter n place f old) (place n) (f n)) (place k) ≡ f k
    go before (yes e) = rw e (get_or-set_same (scatter n place f old) (place n) (f n) (pos 0)
        (rw (scatter-length place f old n) (subst (λ (i : ℕ). place i < length old) e room)))
    go before (no e) = get_or-set_other (scatter n place f old) (place n) (place k) (f n) (pos 0) (λ p. e (one n (omega arith) p))
        ∙ before (omega arith)

-- one number more, as code writes it
pub scatter-more : (place : ℕ → ℕ) (f : ℕ → ℤ) (old now : List ℤ) (k p : ℕ) (v : ℤ) → now ≡ scatter k place f old → p ≡ place k → v ≡ f k
    → set now p v ≡ scatter (k + 1) place f old
unfolding scatter
scatter-more place f old now k p v e q h = rw (e, q, h) (ap (λ (i : ℕ). scatter i place f old) (sym (add-one k)))

-- the same numbers
pub scatter-same : (place : ℕ → ℕ) (f g : ℕ → ℤ) (old : List ℤ) (n : ℕ) → ((k : ℕ) → k < n → f k ≡ g k)
    → scatter n place f old ≡ scatter n place g old
unfolding scatter
scatter-same place f g old zero h = refl
scatter-same place f g old (suc n) h =
    ap (λ (xs : List ℤ). set xs (place n) (f n)) (scatter-same place f g old n (λ k l. h k (omega arith)))
    ∙ ap (λ z. set (scatter n place g old) (place n) z) (h n (omega arith))

-- some numbers, then more
pub scatter-add : (place : ℕ → ℕ) (f : ℕ → ℤ) (old : List ℤ) (i n : ℕ)
    → scatter n (λ k. place (i + k)) (λ k. f (i + k)) (scatter i place f old) ≡ scatter (i + n) place f old
unfolding scatter
scatter-add place f old i zero = ap (λ (k : ℕ). scatter k place f old) (sym (add-zero i))
scatter-add place f old i (suc n) = ap (λ (xs : List ℤ). set xs (place (i + n)) (f (i + n))) (scatter-add place f old i n)
    ∙ ap (λ (k : ℕ). scatter k place f old) (sym (add-suc i n))

-- ---- the corners in turn

-- what is asked of a turn
record Turn (n i : ℕ) : Type 0 where
  back : corner_at n (corner_at n i) ≡ i
  below : corner_at n i < 2 ^ n

turn-1 : (i : ℕ) → i < 2 → Turn 1 i
unfolding corner_at reversed number digit
turn-1 = by_2 (Turn 1) (record { back = refl; below = lit< tt }) (record { back = refl; below = lit< tt })

turn-2 : (i : ℕ) → i < 4 → Turn 2 i
unfolding corner_at reversed number digit
turn-2 zero l = record { back = refl; below = lit< tt }
turn-2 (suc zero) l = record { back = refl; below = lit< tt }
turn-2 (suc (suc zero)) l = record { back = refl; below = lit< tt }
turn-2 (suc (suc (suc zero))) l = record { back = refl; below = lit< tt }
turn-2 (suc (suc (suc (suc i)))) l = absurd (omega arith)

turn-3 : (i : ℕ) → i < 8 → Turn 3 i
unfolding corner_at reversed number digit
turn-3 zero l = record { back = refl; below = lit< tt }
turn-3 (suc zero) l = record { back = refl; below = lit< tt }
turn-3 (suc (suc zero)) l = record { back = refl; below = lit< tt }
turn-3 (suc (suc (suc zero))) l = record { back = refl; below = lit< tt }
turn-3 (suc (suc (suc (suc zero)))) l = record { back = refl; below = lit< tt }
turn-3 (suc (suc (suc (suc (suc zero))))) l = record { back = refl; below = lit< tt }
turn-3 (suc (suc (suc (suc (suc (suc zero)))))) l = record { back = refl; below = lit< tt }
turn-3 (suc (suc (suc (suc (suc (suc (suc zero))))))) l = record { back = refl; below = lit< tt }
turn-3 (suc (suc (suc (suc (suc (suc (suc (suc i)))))))) l = absurd (omega arith)

turn : (n : ℕ) → 1 ≤ n → n ≤ 3 → (i : ℕ) → i < 2 ^ n → Turn n i
turn zero low high i l = absurd (not-suc-le-zero low)
turn (suc zero) low high i l = turn-1 i l
turn (suc (suc zero)) low high i l = turn-2 i l
turn (suc (suc (suc zero))) low high i l = turn-3 i l
turn (suc (suc (suc (suc n)))) low high i l = absurd (omega arith)

pub corner-below : (n : ℕ) → 1 ≤ n → n ≤ 3 → (i : ℕ) → i < 2 ^ n → corner_at n i < 2 ^ n
corner-below n low high i l = (turn n low high i l).below

module _ (m n : ℕ) (some : 0 < m) (low : 1 ≤ n) (high : n ≤ 3) (f : ℕ → ℤ) where
  -- the corner and the number of a coefficient
  record Spot (K : ℕ) : Type 0 where
    corner : ℕ
    inside : ℕ
    corner-low : corner < 2 ^ n
    inside-low : inside < m ^ n
    is : coefficient_index m corner inside ≡ K

  spot : (K : ℕ) → K < coefficient_count m n → Spot K
  spot K l =
      let i = entry_at m n some K in
      let hi = entry_in m n some _ (mirror-digits m n some (digit (λ b. 2 * m) K) (digits_in n (2 * m) K (omega arith) l)) in
      let hc = corner-low m n some i hi in
      let hk = mod-lt i (record-some m n some) in
      record {
        corner = i / m ^ n;
        inside = i % m ^ n;
        corner-low = hc;
        inside-low = hk;
        is = spot_is m n some (i / m ^ n) (i % m ^ n) hc hk low high ∙ ap (spot_of m n some) (div-add-mod i (m ^ n))
            ∙ spot-entry m n some K l;
      }

  -- the turn of a coefficient is that of its corner
  spot-turn : (K : ℕ) (s : Spot K) → turn_of m n K ≡ corner_at n s.corner
  spot-turn K s =
      ap (turn_of m n) (sym s.is) ∙ turn_is m n some s.corner s.inside s.corner-low s.inside-low low high

  -- two numbers of a corner have different places
  apart : (c : ℕ) → c < 2 ^ n → (k j : ℕ) → k < m ^ n → j < m ^ n → coefficient_index m c k ≡ coefficient_index m c j → k ≡ j
  apart c hc k j hk hj e =
      let at-k = entry-spot m n some (m ^ n * c + k) (entry-of m n some c k hc hk) in
      let at_j = entry-spot m n some (m ^ n * c + j) (entry-of m n some c j hc hj) in
      let same = ap (entry_at m n some) (sym (spot_is m n some c k hc hk low high) ∙ e ∙ spot_is m n some c j hc hj low high) in
      let z : m ^ n * c + k ≡ m ^ n * c + j = sym at-k ∙ same ∙ at_j in
      omega arith

  -- one corner more
  module _ (i : ℕ) (hi : i < 2 ^ n) (F : ℕ → ℤ) (old : List ℤ)
      (is : (k : ℕ) → k < m ^ n → F k ≡ f (coefficient_index m (corner_at n i) k)) (h : Filled m n f i old)
      (room : coefficient_count m n ≤ 216) where
    abbrev after : List ℤ
    after = scatter (m ^ n) (coefficient_index m (corner_at n i)) F old

    hc : corner_at n i < 2 ^ n
    hc = (turn n low high i hi).below

    -- the turn of its numbers
    turn-here : (k : ℕ) → k < m ^ n → turn_of m n (coefficient_index m (corner_at n i) k) ≡ i
    turn-here k hk = turn_is m n some (corner_at n i) k hc hk low high ∙ (turn n low high i hi).back

    -- a coefficient of another turn stays
    stays : (K : ℕ) → (turn_of m n K ≡ i → ⊥) → at after K ≡ at old K
    stays K off = scatter-off (coefficient_index m (corner_at n i)) F old K (m ^ n) (λ k l e. off (ap (turn_of m n) e ∙ turn-here k l))

    -- one of this turn is written
    written : (K : ℕ) → K < coefficient_count m n → turn_of m n K ≡ i → at after K ≡ f K
    written K l e =
        let s = spot K l in
        let same : s.corner ≡ corner_at n i =
        sym (turn n low high s.corner s.corner-low).back ∙ ap (corner_at n) (sym (spot-turn K s) ∙ e) in
        let here : coefficient_index m (corner_at n i) s.inside ≡ K =
        ap (λ (d : ℕ). coefficient_index m d s.inside) (sym same) ∙ s.is in
        ap (at after) (sym here)
        ∙ scatter-at (coefficient_index m (corner_at n i)) F old s.inside (m ^ n) s.inside-low
        (rw here (let z = h.long in omega arith))
        (λ j q p. apart (corner_at n i) hc s.inside j s.inside-low q p)
        ∙ is s.inside s.inside-low ∙ ap f here

    pub filled-corner : Filled m n f (i + 1) after
    filled-corner = record {
      long = scatter-length (coefficient_index m (corner_at n i)) F old (m ^ n) ∙ h.long;
      stand = λ K l t. stand K l t (ℕ_discrete (turn_of m n K) i);
      empty = λ K l t. stays K (λ e. late K t e) ∙ h.empty K l (omega arith);
      beyond = λ K l. scatter-off (coefficient_index m (corner_at n i)) F old K (m ^ n) (λ k q e. outside K l k q e) ∙ h.beyond K l;
    }
      where
        stand : (K : ℕ) → K < coefficient_count m n → turn_of m n K < i + 1 → Dec (turn_of m n K ≡ i) → at after K ≡ f K
        stand K l t (yes e) = written K l e
        stand K l t (no e) = stays K e ∙ h.stand K l (omega arith)

        late : (K : ℕ) → i + 1 ≤ turn_of m n K → turn_of m n K ≡ i → ⊥
        late K t e = omega arith

        outside : (K : ℕ) → coefficient_count m n ≤ K → (k : ℕ) → k < m ^ n → K ≡ coefficient_index m (corner_at n i) k → ⊥
        outside K l k q e = let z = spot_in m n some (corner_at n i) k hc q low high in omega arith

  -- nothing stands where nothing was written
  pub filled_none : (xs : List ℤ) → length xs ≡ 216 → ((K : ℕ) → at xs K ≡ pos 0) → Filled m n f 0 xs
  filled_none xs long h = record {
    long = long;
    stand = λ K l t. absurd (not-suc-le-zero t);
    empty = λ K l t. h K;
    beyond = λ K l. h K;
  }

  -- and after all corners every coefficient
  pub filled-all : (xs : List ℤ) → Filled m n f (2 ^ n) xs → (K : ℕ) → K < coefficient_count m n → at xs K ≡ f K
  filled-all xs h K l =
      let s = spot K l in
      h.stand K l (rw (spot-turn K s) (turn n low high s.corner s.corner-low).below)
