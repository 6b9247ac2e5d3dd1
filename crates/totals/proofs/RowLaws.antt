-- The rows of nodes of a box: the node of each along y and along z, and where its records stand.
use mathlib.Core.Path.{◌≡◌, refl, ap, ap₂, subst, ◌∙◌}
use mathlib.Core.List.{List}
use Prim.Native.Nat.{ℕ, ◌+◌, ◌*◌, ◌-◌, ◌/◌, ◌%◌, ◌^◌, ◌≤◌, ◌<◌}
use native.Mathlib.Nat.{mod-lt, mul-le-mul, mul-le-mul_right, le_trans, le_of_eq}
use native.Mathlib.Omega.{arith}
use lib.Dec.{lit<}
use lib.IntN.{ℤ, pos, nat_abs, ◌*ℤ◌}
use lib.ListN.{get_or, length, take, drop}
use mir.Syntax.{w64}
use mir.Val.{SFits}
use Rattle.arith.specs.Sum.{total}
use Rattle.arith.proofs.Abs.{abs-mul}
use Rattle.arith.proofs.Choices.{by-m}
use Rattle.arith.proofs.Sums.{sum-ext, total_ext, total-part}
use Rattle.lattice.specs.Buffer.{at}
use Rattle.lattice.specs.Outcome.{Check, first_of}
use Rattle.lattice.proofs.DigitsLaws.{high-below, group-room}
use Rattle.std.proofs.lemmas.List.{length-take-le, get_or-take, get_or-drop}
use Rattle.cell.specs.declared.Layout.{Layout}
use Rattle.cell.specs.Cell.{Small, record_outcome}
use Rattle.totals.specs.Parts.{taken_at, row_count, row_start, across, record_sum, row_sum, EntriesWithin, FewCells}
use Rattle.totals.proofs.SumLaws.{sum-within, record-within, record-moved, record_same, factor_read, pair-fits, pair_is}
use Rattle.totals.proofs.TakenLaws.{taken-light, factor-low}

module _ (K : List ℕ) (r : ℕ) (h : r < row_count K) where
  pub along-y : r % (get_or K 1 0 + 1) ≤ get_or K 1 0
  along-y = let k : r % (get_or K 1 0 + 1) < get_or K 1 0 + 1 = mod-lt r (omega arith) in omega arith

  pub along-z : r / (get_or K 1 0 + 1) ≤ get_or K 2 0
  unfolding row_count
  along-z = let k = high-below {m = get_or K 1 0 + 1} {n = get_or K 2 0 + 1} (omega arith) h in omega arith

  module _ (l : Layout) (small : Small l) (few : FewCells K) where
    pub y-step : r % (get_or K 1 0 + 1) * get_or l.strides 1 0 ≤ 63 * 2 ^ 32
    y-step = mul-le-mul (le_trans along-y (few 1 (lit< tt))) small.y-low

    pub z-step : r / (get_or K 1 0 + 1) * get_or l.strides 2 0 ≤ 63 * 2 ^ 32
    z-step = mul-le-mul (le_trans along-z (few 2 (lit< tt))) small.z-low

pub rows_few : (K : List ℕ) → FewCells K → row_count K ≤ 4096
unfolding row_count
rows_few K few =
    mul-le-mul {n₂ = 64} {m₂ = 64} (let h = few 1 (lit< tt) in omega arith) (let h = few 2 (lit< tt) in omega arith)

-- entries of one of n parts
pub entries-part : (B : ℕ) (rs : List ℤ) (p e n : ℕ) → EntriesWithin B rs p (e * n) → (j : ℕ) → j < n → EntriesWithin B rs (p + e * j) e
entries-part B rs p e n h j l i q =
    subst (λ (k : ℕ). nat_abs (at rs k) ≤ B) (moved p (e * j) i) (h (e * j + i) (let k = group-room e j n l in omega arith))
  where
    moved : (p a i : ℕ) → p + (a + i) ≡ p + a + i
    moved p a i = omega arith

-- ---- how large

-- at most nine groups, at most 27 entries
pub groups-nine : (m k : ℕ) → m ≤ 3 → k ≤ m * m → k ≤ 9
groups-nine m k h l = let w = mul-le-mul h h in omega arith

pub entries-few : (m k : ℕ) → m ≤ 3 → k ≤ m * m → m * k ≤ 27
entries-few m k h l = mul-le-mul h (groups-nine m k h l)

-- m factors of y with m of z
pairs : (m : ℕ) → 2 ≤ m → m ≤ 3 → (y z : ℕ → ℕ) → total (m * m) (λ g. y (g % m) * z (g / m)) ≡ total m y * total m z
unfolding total
pairs = by-m (λ m. (y z : ℕ → ℕ) → total (m * m) (λ g. y (g % m) * z (g / m)) ≡ total m y * total m z) (λ y z. omega arith)
    (λ y z. omega arith)

pub across-light : (m k : ℕ) (K : List ℕ) (r : ℕ) → 2 ≤ m → m ≤ 3 → k ≤ m * m → total k (λ g. nat_abs (across m K r g)) ≤ 2 ^ 14
unfolding across
across-light m k K r m2 m3 few =
    let y = get_or K 1 0 in
    let z = get_or K 2 0 in
    le_trans (total-part k (m * m) (λ g. nat_abs (across m K r g)) few)
    (le_trans (le_of_eq (total_ext (m * m) (λ g. nat_abs (across m K r g))
    (λ g. nat_abs (taken_at m y (r % (y + 1)) (g % m)) * nat_abs (taken_at m z (r / (y + 1)) (g / m)))
    (λ g l. abs-mul (taken_at m y (r % (y + 1)) (g % m)) (taken_at m z (r / (y + 1)) (g / m)))
    ∙ pairs m m2 m3 (λ o. nat_abs (taken_at m y (r % (y + 1)) o)) (λ o. nat_abs (taken_at m z (r / (y + 1)) o))))
    (mul-le-mul (taken-light m y (r % (y + 1)) m2 m3) (taken-light m z (r / (y + 1)) m2 m3)))

-- the product for a group, of what is taken of the orders along y and along z
module _ (m k : ℕ) (m2 : 2 ≤ m) (m3 : m ≤ 3) (few : k ≤ m * m) (K : List ℕ) (r g : ℕ) (inside : g < k) (y z : List ℤ)
    (along-y : (o : ℕ) → o < m → at y o ≡ taken_at m (get_or K 1 0) (r % (get_or K 1 0 + 1)) o)
    (along-z : (o : ℕ) → o < m → at z o ≡ taken_at m (get_or K 2 0) (r / (get_or K 1 0 + 1)) o) where
  low : g % m < m
  low = mod-lt g (omega arith)

  high : g / m < m
  high = high-below (omega arith) (let l : g < m * m = omega arith in l)

  y-low : nat_abs (at y (g % m)) ≤ 128
  y-low = factor-low m (get_or K 1 0) (r % (get_or K 1 0 + 1)) (at y) m2 m3 along-y (g % m) low

  z-low : nat_abs (at z (g / m)) ≤ 128
  z-low = factor-low m (get_or K 2 0) (r / (get_or K 1 0 + 1)) (at z) m2 m3 along-z (g / m) high

  pub pair-asks : SFits w64 (factor_read (at y (g % m)) *ℤ factor_read (at z (g / m)))
  pair-asks = pair-fits (at y (g % m)) (at z (g / m)) y-low z-low

  pub pair-across : factor_read (factor_read (at y (g % m)) *ℤ factor_read (at z (g / m))) ≡ across m K r g
  unfolding across
  pair-across = pair_is (at y (g % m)) (at z (g / m)) y-low z-low ∙ ap₂ ◌*ℤ◌ (along-y (g % m) low) (along-z (g / m) high)

-- the test of a row
module _ (limits : ℕ → ℕ) (l : Layout) (K : List ℕ) (rs : List ℤ) where
  abbrev pub row-test : ℕ → Check
  row-test r = first_of (get_or K 0 0 + 1) (λ i. record_outcome limits l.entries rs (row_start l K r + l.entries * i))

  pub tested-at : (p r : ℕ) → p ≡ row_start l K r
      → first_of (get_or K 0 0 + 1) (λ i. record_outcome limits l.entries rs (p + l.entries * i)) ≡ row-test r
  tested-at p r e = ap (λ (q : ℕ). first_of (get_or K 0 0 + 1) (λ i. record_outcome limits l.entries rs (q + l.entries * i))) e

-- the record of node i of a row of its own
abbrev pub record-of : ℕ → ℕ → ℕ → List ℤ → List ℤ → ℕ → ℤ
record-of m k K ys row i = record_sum m k (taken_at m K i) (at ys) row (0 + m * k * i)

-- a row
module _ (m k K : ℕ) (y : ℕ → ℤ) (rs : List ℤ) (p : ℕ) (m2 : 2 ≤ m) (m3 : m ≤ 3) (few : K ≤ 63)
    (light : total k (λ g. nat_abs (y g)) ≤ 2 ^ 14) (within : EntriesWithin (2 ^ 21) rs p (m * k * (K + 1))) where
  pub row_within : nat_abs (row_sum m k K y rs p) ≤ 2 ^ 48
  unfolding row_sum
  row_within =
      le_trans (sum-within (K + 1) (λ i. record_sum m k (taken_at m K i) y rs (p + m * k * i)) (2 ^ 42)
      (λ i l. record-within m (taken_at m K i) rs (2 ^ 21) (taken-light m K i m2 m3) k y (p + m * k * i) light
      (entries-part (2 ^ 21) rs p (m * k) (K + 1) within i l)))
      (mul-le-mul_right (2 ^ 42) (let h : K + 1 ≤ 64 = omega arith in h))

pub row_same : (m k K : ℕ) (y z : ℕ → ℤ) (rs : List ℤ) (p : ℕ) → ((g : ℕ) → g < k → y g ≡ z g) → row_sum m k K y rs p ≡ row_sum m k K z rs p
unfolding row_sum
row_same m k K y z rs p h =
    sum-ext (K + 1) (λ i. record_sum m k (taken_at m K i) y rs (p + m * k * i)) (λ i. record_sum m k (taken_at m K i) z rs (p + m * k * i))
    (λ i l. record_same m k (taken_at m K i) (taken_at m K i) y z rs (p + m * k * i) (λ o q. refl) h)

pub row-moved : (m k K : ℕ) (y : ℕ → ℤ) (row rs : List ℤ) (p : ℕ) → ((i : ℕ) → i < m * k * (K + 1) → at row i ≡ at rs (p + i))
    → row_sum m k K y row 0 ≡ row_sum m k K y rs p
unfolding row_sum
row-moved m k K y row rs p h =
    sum-ext (K + 1) (λ i. record_sum m k (taken_at m K i) y row (0 + m * k * i)) (λ i. record_sum m k (taken_at m K i) y rs (p + m * k * i))
    (λ i l. record-moved m k (taken_at m K i) y row (0 + m * k * i) rs (p + m * k * i) (λ j q.
    let e : 0 + m * k * i + j ≡ m * k * i + j = omega arith in
    let f : p + (m * k * i + j) ≡ p + m * k * i + j = omega arith in
    ap (at row) e ∙ h (m * k * i + j) (let w = group-room (m * k) i (K + 1) l in omega arith) ∙ ap (at rs) f))

-- a part of the records, with the first k of an array
module _ (m k K n p : ℕ) (ys rs : List ℤ) (y : ℕ → ℤ) (some : k ≤ length ys) (entries : n ≡ m * k) (are : (g : ℕ) → g < k → at ys g ≡ y g)
    (inside : p + n * (K + 1) ≤ length rs) where
  abbrev row : List ℤ
  row = take (p + n * (K + 1) - p) (drop p rs)

  abbrev first : List ℤ
  first = take k ys

  first-long : length first ≡ k
  first-long = length-take-le k ys some

  first-are : (g : ℕ) → g < k → at first g ≡ y g
  first-are g l = get_or-take k ys g (pos 0) l ∙ are g l

  pub first-light : total k (λ g. nat_abs (y g)) ≤ 2 ^ 14 → total (length first) (λ g. nat_abs (at first g)) ≤ 2 ^ 14
  first-light h = rw first-long (le_trans (le_of_eq (total_ext k (λ g. nat_abs (at first g)) (λ g. nat_abs (y g))
      (λ g l. ap nat_abs (first-are g l)))) h)

  pub row-is : (q : ℕ) → p ≡ q → row_sum m (length first) K (at first) row 0 ≡ row_sum m k K y rs q
  row-is q e = rw first-long (row-moved m k K (at first) row rs p (λ i l.
      get_or-take (p + n * (K + 1) - p) (drop p rs) i (pos 0) (let h = ap (λ (j : ℕ). j * (K + 1)) entries in omega arith)
      ∙ get_or-drop p rs i (pos 0)) ∙ row_same m k K (at first) y rs p first-are
      ∙ ap (row_sum m k K y rs) e)
