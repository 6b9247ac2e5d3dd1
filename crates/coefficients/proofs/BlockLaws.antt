-- A corner's block: its sizes, and what the passes of a block give.
use mathlib.Core.Path.{◌≡◌, sym, ap, subst, ◌∙◌}
use mathlib.Core.Bool.{Bool}
use mathlib.Core.List.{List}
use Prim.Native.Nat.{ℕ, suc, ◌+◌, ◌*◌, ◌/◌, ◌%◌, ◌^◌, ◌≤◌, ◌<◌}
use native.Mathlib.Nat.{le_trans, le_of_eq, lt_of_lt_of_le, mul-le-mul_right, pow-succ', eq_of_mul-eq-mul_left, pow-le-pow_right, div-add-mod, mod-lt}
use native.Mathlib.Decide.{ℕ_discrete}
use native.Mathlib.Omega.{arith}
use lib.Pow.{pow_mono}
use lib.Dec.{lit<, lit≤}
use lib.IntN.{ℤ}
use lib.ListN.{length}
use Rattle.arith.proofs.Choices.{by-m}
use Rattle.lattice.specs.declared.order_count.Orders.{Orders}
use Rattle.lattice.specs.Buffer.{at}
use Rattle.lattice.specs.Flat.{pass}
use Rattle.lattice.proofs.Local.{Depends}
use Rattle.lattice.proofs.PassesLaws.{passes, passes-sweep, pass_same, passes-size, some-groups, place_in}
use Rattle.lattice.proofs.ShapeLaws.{pow-range}
use Rattle.lattice.proofs.DigitsLaws.{high_digit, low_digit, pair-in, group-room}
use Rattle.hermite.specs.Hermite.{end_rule}
use Rattle.hermite.proofs.EndLaws.{end-depends, end-size}
use Rattle.cell.specs.Coefficients.{coefficient_count}
use Rattle.coefficients.specs.declared.Row.{Row}
use Rattle.coefficients.specs.Blocks.{Sizes, RowOf, solved_block, AllWithin, StartsWith, scatter}
use Rattle.coefficients.proofs.SpotLaws.{scatter-off, scatter-at}

-- ---- sizes

module _ {m n r : ℕ} (ok : Sizes m n r) where
  pub orders-some : 0 < m
  orders-some = omega (arith, ok.orders-low)

  pub entries-low : m ^ n ≤ 27
  entries-low = pow-range 3 m n ok.orders-high ok.axes-high (lit< tt)

  pub count_low : coefficient_count m n ≤ 216
  count_low = pow-range 6 (2 * m) n (let h = ok.orders-high in omega arith) ok.axes-high (lit< tt)

  groups-is : (j : ℕ) → suc j ≡ n → r ≡ m ^ j
  groups-is j e = eq_of_mul-eq-mul_left m orders-some r (m ^ j) (ok.groups-are ∙ ap (λ (k : ℕ). m ^ k) (sym e) ∙ pow-succ' m j)

  pub size_low : m * r ≤ 27
  size_low = le_trans (le_of_eq ok.groups-are) entries-low

  -- the corners are eight at most
  pub corner-low : (c : ℕ) → c < 2 ^ n → c < 8
  corner-low c h = lt_of_lt_of_le h (pow_mono ok.axes-high)

  -- a row lies in the block
  pub row_room : (g : ℕ) → g < r → m * g + m ≤ m ^ n
  row_room g l = let h = group-room m g r l in let e = ok.groups-are in omega arith

  -- a number of the block by its groups
  pub in-groups : (k : ℕ) → k < m ^ n → k < m * r
  in-groups k l = rw ok.groups-are l

-- rows: the first, and their orders along y and z are below m
pub first-row : (m : ℕ) → 0 < m → RowOf m 0 (record { y = 0; z = 0 })
first-row m some = record { number_is = (let e : 0 ≡ m * 0 + 0 = omega arith in e); low = some }

pub row-orders : (m g : ℕ) (o : Row) → 2 ≤ m → m ≤ 3 → g < m * m → RowOf m g o → o.z < m
row-orders m g o m2 m3 l row =
    by-m (λ m. g < m * m → g ≡ m * o.z + o.y → o.z < m) (λ a b. omega arith) (λ a b. omega arith) m m2 m3 l row.number_is

pub row-low : (m : Orders) (g r : ℕ) (o : Row) → g < r → r ≤ m.count * m.count → RowOf m.count g o
    → (o.y < 3) × (o.z < 3) × (o.z < m.count)
row-low m g r o l few row =
    let m3 = m.bounds.1 in
    let y = row.low in
    let z = row-orders m.count g o m.bounds.0 m3 (lt_of_lt_of_le l few) row in
    (omega arith, omega arith, z)

module _ {m n r : ℕ} (ok : Sizes m n r) where
  pub rows_few : r ≤ m * m
  rows_few =
      by-m (λ m. m * r ≡ m ^ n → r ≤ m * m)
      (λ e. let h = pow-le-pow_right {n = 2} (lit< tt) {i = n} {j = 3} ok.axes-high in omega arith)
      (λ e. let h = pow-le-pow_right {n = 3} (lit< tt) {i = n} {j = 3} ok.axes-high in omega arith)
      m ok.orders-low ok.orders-high ok.groups-are

-- ---- one pass

-- row k of the results holds what becomes of number k of each group
module _ (m r : ℕ) (R : ℕ → ℕ → ℤ) where
  -- the results of the groups below g
  abbrev pub Rows : ℕ → List ℤ → Type 0
  Rows g zs = (k j : ℕ) → k < m → j < g → at zs (r * k + j) ≡ R k j

  pub rows_more : (g : ℕ) → g < r → (z : ℕ → ℤ) → ((k : ℕ) → k < m → z k ≡ R k g) → (old : List ℤ) → m * r ≤ length old → Rows g old
      → Rows (g + 1) (scatter m (λ k. r * k + g) z old)
  rows_more g hg z is old long h k j l q = go (ℕ_discrete j g)
    where
      go : Dec (j ≡ g) → at (scatter m (λ k. r * k + g) z old) (r * k + j) ≡ R k j
      go (yes e) =
          rw e
          (scatter-at (λ k. r * k + g) z old k m l (let p = pair-in r k g hg m l in omega arith)
          (λ i q p. sym (high_digit r k g hg) ∙ ap (λ (x : ℕ). x / r) p ∙ high_digit r i g hg) ∙ is k l)
      go (no n) =
          let p : j < g = omega arith in
          scatter-off (λ k. r * k + g) z old (r * k + j) m
          (λ i s e. n (sym (low_digit r k j (omega arith)) ∙ ap (λ (x : ℕ). x % r) e ∙ low_digit r i g hg)) ∙ h k j l p

  pub rows_all : (zs : List ℤ) → Rows r zs → (i : ℕ) → i < m * r → at zs i ≡ R (i / r) (i % r)
  rows_all zs h i l = ap (at zs) (sym (div-add-mod i r)) ∙ h (i / r) (i % r) (place_in m r i l) (mod-lt i (some-groups i m r l))

-- ---- all axes

module _ (back : Bool) {m n r : ℕ} (ok : Sizes m n r) (xs : ℕ → ℤ) where
  -- an array after i passes
  abbrev pub After : ℕ → List ℤ → Type 0
  After i zs = StartsWith (m * r) (passes m r (λ a. end_rule back m) i xs) zs

  depends : Depends (end_rule back m) (λ j. j < m) (λ t. t < m)
  depends = end-depends back m ok.orders-low ok.orders-high

  pub after_first : (zs : List ℤ) → StartsWith (m * r) (pass m r (end_rule back m) xs) zs → After 1 zs
  unfolding passes
  after_first zs z = z

  pub after_next : (i : ℕ) (ys zs : List ℤ) → After i ys → StartsWith (m * r) (pass m r (end_rule back m) (at ys)) zs → After (suc i) zs
  unfolding passes
  after_next i ys zs h z = record {
    long = z.long;
    is = λ k l. z.is k l
        ∙ pass_same m r (end_rule back m) depends (at ys) (passes m r (λ a. end_rule back m) i xs) h.is k l;
  }

  -- no pass is beyond 64 bits
  pub after-low : AllWithin (2 ^ 31) (m ^ n) xs → (i : ℕ) → i ≤ 3 → (zs : List ℤ) → After i zs → AllWithin (2 ^ 50) (m * r) (at zs)
  after-low h i l zs z k q =
      rw (z.is k q)
      (le_trans
      (passes-size m r (λ a. end_rule back m) 32
      (λ a x B j p e. end-size back m ok.orders-low ok.orders-high x B j p e) xs (2 ^ 31)
      (λ k q. h k (subst (λ (e : ℕ). k < e) ok.groups-are q)) i k q)
      (le_trans (mul-le-mul_right (2 ^ 31) (pow-le-pow_right {n = 32} (lit< tt) {i = i} {j = 3} l)) (lit≤ tt)))

  -- as many passes as there are axes
  pub after-all : AllWithin (2 ^ 31) (m ^ n) xs → (i : ℕ) → i ≡ n → (zs : List ℤ) → After i zs
      → StartsWith (m ^ n) (solved_block back m n xs) zs × AllWithin (2 ^ 50) (m ^ n) (at zs)
  unfolding solved_block
  after-all h i e zs z = (
    record {
      long = z.long;
      is = λ k l. z.is k (in-groups ok k l) ∙ ap (λ (j : ℕ). passes m r (λ a. end_rule back m) j xs k) e
          ∙ passes-sweep m n r (orders-some ok) (groups-is ok) (λ a. end_rule back m) (λ i. depends) xs k l;
    },
    λ k l. after-low h i (subst (λ (j : ℕ). j ≤ 3) (sym e) ok.axes-high) zs z k (in-groups ok k l),
  )
