-- One axis: the total of a cell takes its numbers with factors, and that of neighbouring cells is a sum over their nodes.
use mathlib.Core.Path.{◌≡◌, refl, sym, ap, ap₂, ◌∙◌}
use mathlib.Core.Bool.{Bool, true, false}
use mathlib.Core.List.{[], ◌∷◌}
use Prim.Native.Nat.{ℕ, zero, suc, ◌+◌, ◌*◌, ◌≤◌, ◌<◌}
use native.Mathlib.Nat.{add-zero, mul-zero, mul-suc, add-suc}
use native.Mathlib.Omega.{arith}
use lib.Dec.{ltb, eqb, lit≤}
use lib.IntN.{ℤ, pos, ◌+ℤ◌, ◌*ℤ◌, +ℤ_idl, +ℤ_idr, +ℤ_assoc, zero-*ℤ}
use borrow.Author.Tests.{ltb-true, ltb-false, lt-ltb, le-ltb, ne_eqb}
use Rattle.arith.specs.Choice.{pick}
use Rattle.arith.specs.Sum.{sum}
use Rattle.arith.proofs.Choices.{by_n, pick_true, pick-false}
use Rattle.arith.proofs.Laws.{+ℤ-*ℤ, pos-one-*ℤ}
use Rattle.arith.proofs.Quote.{quotes, ring! }
use Rattle.arith.proofs.Sums.{sum-ext, sum-add, sum_left, sum-right, sum-swap, sum-zero, sum-ends}
use Rattle.lattice.specs.Axes.{Place, Field, Rule, origin, put, along, sweep, axes}
use Rattle.lattice.proofs.Along.{put_same, distinct-axes, sweep-fuse}
use Rattle.hermite.specs.Hermite.{share, forward}
use Rattle.hermite.proofs.HermiteLaws.{forward-linear, weigh, weigh-linear}
use Rattle.cell.specs.Coefficients.{coefficients}
use Rattle.evaluate.proofs.Exact.{weigh-each}
use Rattle.totals.specs.Totals.{total_multiplier, cell_numerator}
use Rattle.totals.specs.Parts.{taken, taken_at}

-- ---- sums

-- a sum of products changes places with a sum
pub sum-pull : (N T : ℕ) (F : ℕ → ℤ) (X : ℕ → ℕ → ℤ) → sum N (λ k. sum T (λ t. F t *ℤ X k t)) ≡ sum T (λ t. F t *ℤ sum N (λ k. X k t))
sum-pull N T F X = sum-swap N T (λ k t. F t *ℤ X k t) ∙ sum-ext T (λ t. sum N (λ k. F t *ℤ X k t)) (λ t. F t *ℤ sum N (λ k. X k t))
    (λ t l. sum_left N (F t) (λ k. X k t))

-- two sums, one behind the other
pub sum-cut : (a b : ℕ) (f : ℕ → ℤ) → sum (a + b) f ≡ sum a f +ℤ sum b (λ i. f (a + i))
unfolding sum
sum-cut a zero f = ap (λ (k : ℕ). sum k f) (add-zero a) ∙ sym (+ℤ_idr (sum a f))
sum-cut a (suc b) f =
    ap (λ (k : ℕ). sum k f) (add-suc a b) ∙ ap (λ z. z +ℤ f (a + b)) (sum-cut a b f)
    ∙ +ℤ_assoc (sum a f) (sum b (λ i. f (a + i))) (f (a + b))

-- the first by itself
sum-after : (n : ℕ) (f : ℕ → ℤ) → sum (n + 1) f ≡ f 0 +ℤ sum n (λ i. f (i + 1))
unfolding sum
sum-after n f =
    let e : n + 1 ≡ 1 + n = omega arith in
    ap (λ (k : ℕ). sum k f) e ∙ sum-cut 1 n f
    ∙ ap₂ ◌+ℤ◌ (+ℤ_idl (f 0)) (sum-ext n (λ i. f (1 + i)) (λ i. f (i + 1)) (λ i l. let d : 1 + i ≡ i + 1 = omega arith in ap f d))

-- k runs of n
pub sum_rows : (n k : ℕ) (f : ℕ → ℤ) → sum (n * k) f ≡ sum k (λ c. sum n (λ e. f (n * c + e)))
unfolding sum
sum_rows n zero f = ap (λ (i : ℕ). sum i f) (mul-zero n)
sum_rows n (suc k) f =
    ap (λ (i : ℕ). sum i f) (mul-suc n k) ∙ sum-cut (n * k) n f ∙ ap (λ z. z +ℤ sum n (λ e. f (n * k + e))) (sum_rows n k f)

-- ---- a cell

-- the total of cell c along an axis
pub takes : ℕ → ℕ → Rule
takes m c x j = weigh (2 * m) (total_multiplier m) (forward m c x) j

pub takes-is : (m c : ℕ) (x : ℕ → ℤ) (j : ℕ) → takes m c x j ≡ sum (2 * m) (λ t. taken m t *ℤ x (m * c + t))
unfolding takes forward taken
takes-is m c x j =
    sum-ext (2 * m) (λ i. sum (2 * m) (λ t. share m i t *ℤ x (m * c + t)) *ℤ total_multiplier m i)
    (λ i. sum (2 * m) (λ t. share m i t *ℤ total_multiplier m i *ℤ x (m * c + t)))
    (λ i l. sym (sum-right (2 * m) (λ t. share m i t *ℤ x (m * c + t)) (total_multiplier m i))
    ∙ sum-ext (2 * m) (λ t. share m i t *ℤ x (m * c + t) *ℤ total_multiplier m i)
    (λ t. share m i t *ℤ total_multiplier m i *ℤ x (m * c + t))
    (λ t k. regroup (share m i t) (x (m * c + t)) (total_multiplier m i)))
    ∙ sum-swap (2 * m) (2 * m) (λ i t. share m i t *ℤ total_multiplier m i *ℤ x (m * c + t))
    ∙ sum-ext (2 * m) (λ t. sum (2 * m) (λ i. share m i t *ℤ total_multiplier m i *ℤ x (m * c + t)))
    (λ t. sum (2 * m) (λ i. share m i t *ℤ total_multiplier m i) *ℤ x (m * c + t))
    (λ t l. sum-right (2 * m) (λ i. share m i t *ℤ total_multiplier m i) (x (m * c + t)))
  where
    regroup : (s x w : ℤ) → s *ℤ x *ℤ w ≡ s *ℤ w *ℤ x
    regroup s x w = ring! (s ∷ x ∷ w ∷ []) (search quotes depth 40) tt

-- axis after axis
pub cell-sweep : (m n : ℕ) (cell : Place) (g : Field) → cell_numerator m n cell g ≡ sweep (axes n) (λ a. takes m (cell a)) g origin
unfolding cell_numerator coefficients takes
cell-sweep m n cell g =
    ap (λ (h : Field). h origin)
    (weigh-each (2 * m) (λ a. total_multiplier m) (axes n) (distinct-axes n) (coefficients m n cell g)
    ∙ sweep-fuse (axes n) (distinct-axes n) (λ a. weigh (2 * m) (total_multiplier m)) (λ a. forward m (cell a))
    (λ a. weigh-linear (2 * m) (total_multiplier m)) (λ a. forward-linear m (cell a)) g)

-- ---- three axes: the numbers of a cell along each, and their factors; 1 along an unused axis

module _ (m n : ℕ) where
  unfoldable pub numbers_on : ℕ → ℕ
  numbers_on a = pick (ltb a n) (2 * m) 1

  unfoldable pub factor_on : ℕ → ℕ → ℤ
  factor_on a t = pick (ltb a n) (taken m t) (pos 1)

  unfoldable pub on_axis : ℕ → ℕ → (ℕ → ℤ) → ℤ
  on_axis a c x = sum (numbers_on a) (λ t. factor_on a t *ℤ x (m * c + t))

  -- the number at three places
  abbrev pub at_places : Field → ℕ → ℕ → ℕ → ℤ
  at_places g x y z = g (put 0 x (put 1 y (put 2 z origin)))

-- along an unused axis: the number at place 0
unused-axis : (m c : ℕ) (x : ℕ → ℤ) → c ≡ 0 → sum 1 (λ t. pos 1 *ℤ x (m * c + t)) ≡ x 0
unfolding sum
unused-axis m c x e =
    let p : m * c + 0 ≡ 0 = rw (e, mul-zero m) refl in
    +ℤ_idl (pos 1 *ℤ x (m * c + 0)) ∙ pos-one-*ℤ (x (m * c + 0)) ∙ ap x p

module _ (m : ℕ) (cell : Place) (g : Field) where
  one : Place → ℤ
  one p = sum (2 * m) (λ t. taken m t *ℤ g (put 0 (m * cell 0 + t) p))

  two : Place → ℤ
  two p = sum (2 * m) (λ t. taken m t *ℤ one (put 1 (m * cell 1 + t) p))

  one-is : (p : Place) → along 0 (takes m (cell 0)) g p ≡ one p
  unfolding one
  one-is p = takes-is m (cell 0) (λ t. g (put 0 t p)) (p 0)

  two_is : (p : Place) → along 1 (takes m (cell 1)) (along 0 (takes m (cell 0)) g) p ≡ two p
  unfolding two
  two_is p =
      takes-is m (cell 1) (λ t. along 0 (takes m (cell 0)) g (put 1 t p)) (p 1)
      ∙ sum-ext (2 * m) (λ t. taken m t *ℤ along 0 (takes m (cell 0)) g (put 1 (m * cell 1 + t) p))
      (λ t. taken m t *ℤ one (put 1 (m * cell 1 + t) p)) (λ t l. ap (λ z. taken m t *ℤ z) (one-is (put 1 (m * cell 1 + t) p)))

  Axes : ℕ → Type 0
  Axes n = ((a : ℕ) → n ≤ a → cell a ≡ 0) → sweep (axes n) (λ a. takes m (cell a)) g origin
      ≡ on_axis m n 2 (cell 2) (λ z. on_axis m n 1 (cell 1) (λ y. on_axis m n 0 (cell 0) (λ x. at_places m n g x y z)))

  axes-1 : Axes 1
  unfolding Axes sweep axes on_axis numbers_on factor_on pick one
  axes-1 h =
      one-is origin ∙ ap one (sym (put_same 1 origin)) ∙ ap (λ (q : Place). one (put 1 0 q)) (sym (put_same 2 origin))
      ∙ sym (unused-axis m (cell 2) (λ z. sum 1 (λ t. pos 1 *ℤ one (put 1 (m * cell 1 + t) (put 2 z origin)))) (h 2 (lit≤ tt))
      ∙ unused-axis m (cell 1) (λ y. one (put 1 y (put 2 0 origin))) (h 1 (lit≤ tt)))

  axes-2 : Axes 2
  unfolding Axes sweep axes on_axis numbers_on factor_on pick one two
  axes-2 h = two_is origin ∙ ap two (sym (put_same 2 origin)) ∙ sym (unused-axis m (cell 2) (λ z. two (put 2 z origin)) (h 2 (lit≤ tt)))

  axes-3 : Axes 3
  unfolding Axes sweep axes on_axis numbers_on factor_on pick one two
  axes-3 h =
      takes-is m (cell 2) (λ t. along 1 (takes m (cell 1)) (along 0 (takes m (cell 0)) g) (put 2 t origin)) 0
      ∙ sum-ext (2 * m) (λ t. taken m t *ℤ along 1 (takes m (cell 1)) (along 0 (takes m (cell 0)) g) (put 2 (m * cell 2 + t) origin))
      (λ t. taken m t *ℤ two (put 2 (m * cell 2 + t) origin)) (λ t l. ap (λ z. taken m t *ℤ z) (two_is (put 2 (m * cell 2 + t) origin)))

  pub cell-axes : (n : ℕ) → 1 ≤ n → n ≤ 3 → ((a : ℕ) → n ≤ a → cell a ≡ 0)
      → cell_numerator m n cell g
      ≡ on_axis m n 2 (cell 2) (λ z. on_axis m n 1 (cell 1) (λ y. on_axis m n 0 (cell 0) (λ x. at_places m n g x y z)))
  unfolding Axes
  cell-axes n low high none = cell-sweep m n cell g ∙ by_n Axes axes-1 axes-2 axes-3 n low high none

-- ---- neighbouring cells, by their nodes

-- factors that are chosen together
chosen : (m : ℕ) (b : Bool) (w y : ℕ → ℤ) → sum m (λ o. pick b (w o) (pos 0) *ℤ y o) ≡ pick b (sum m (λ o. w o *ℤ y o)) (pos 0)
unfolding pick
chosen m true w y = refl
chosen m false w y = sum-zero m (λ o. pos 0 *ℤ y o) (λ o l. zero-*ℤ (y o))

-- all but the last of K + 1, all but the first
but_last : (K : ℕ) (h : ℕ → ℤ) → sum (K + 1) (λ j. pick (ltb j K) (h j) (pos 0)) ≡ sum K h
unfolding sum
but_last K h =
    let e : K + 1 ≡ suc K = omega arith in
    ap (λ (k : ℕ). sum k (λ j. pick (ltb j K) (h j) (pos 0))) e
    ∙ ap₂ ◌+ℤ◌ (sum-ext K (λ j. pick (ltb j K) (h j) (pos 0)) h (λ j l. pick_true (ltb j K) (h j) (pos 0) (lt-ltb j K l)))
    (pick-false (ltb K K) (h K) (pos 0) (le-ltb K K (omega arith)))
    ∙ +ℤ_idr (sum K h)

but_first : (K : ℕ) (h : ℕ → ℤ) → sum (K + 1) (λ j. pick (ltb 0 j) (h j) (pos 0)) ≡ sum K (λ k. h (k + 1))
but_first K h =
    sum-after K (λ j. pick (ltb 0 j) (h j) (pos 0))
    ∙ ap₂ ◌+ℤ◌ (pick-false (ltb 0 0) (h 0) (pos 0) refl)
    (sum-ext K (λ k. pick (ltb 0 (k + 1)) (h (k + 1)) (pos 0)) (λ k. h (k + 1))
    (λ k l. pick_true (ltb 0 (k + 1)) (h (k + 1)) (pos 0) (lt-ltb 0 (k + 1) (omega arith))))
    ∙ +ℤ_idl (sum K (λ k. h (k + 1)))

-- K cells from cell f on: each node but the last is the low end of a cell, each but the first the high end of one
module _ (m : ℕ) (m2 : 2 ≤ m) (m3 : m ≤ 3) (f : ℕ) (x : ℕ → ℤ) where
  abbrev lows : ℕ → ℤ
  lows j = sum m (λ o. taken m o *ℤ x (m * (f + j) + o))

  abbrev highs : ℕ → ℤ
  highs j = sum m (λ o. taken m (m + o) *ℤ x (m * (f + j) + o))

  ends : (k : ℕ) → sum (2 * m) (λ t. taken m t *ℤ x (m * (f + k) + t)) ≡ lows k +ℤ highs (k + 1)
  ends k =
      sum-ends m m2 m3 (λ t. taken m t *ℤ x (m * (f + k) + t))
      ∙ ap (λ z. lows k +ℤ z)
      (sum-ext m (λ o. taken m (m + o) *ℤ x (m * (f + k) + (m + o))) (λ o. taken m (m + o) *ℤ x (m * (f + (k + 1)) + o))
      (λ o l. ap (λ (p : ℕ). taken m (m + o) *ℤ x p) (next m f k o)))
    where
      next : (m f k o : ℕ) → m * (f + k) + (m + o) ≡ m * (f + (k + 1)) + o
      next m f k o = omega arith

  -- at one node
  node : (K j : ℕ) → 0 < K → sum m (λ o. taken_at m K j o *ℤ x (m * (f + j) + o))
      ≡ pick (ltb j K) (lows j) (pos 0) +ℤ pick (ltb 0 j) (highs j) (pos 0)
  unfolding taken_at
  node K j some =
      sum-ext m _ (λ o. pick (ltb j K) (taken m o) (pos 0) *ℤ y o +ℤ pick (ltb 0 j) (taken m (m + o)) (pos 0) *ℤ y o)
      (λ o l. ap (λ z. z *ℤ y o) (pick-false (eqb K 0) _ _ (ne_eqb K 0 (λ e. omega arith)))
      ∙ +ℤ-*ℤ (pick (ltb j K) (taken m o) (pos 0)) (pick (ltb 0 j) (taken m (m + o)) (pos 0)) (y o))
      ∙ sum-add m (λ o. pick (ltb j K) (taken m o) (pos 0) *ℤ y o) (λ o. pick (ltb 0 j) (taken m (m + o)) (pos 0) *ℤ y o)
      ∙ ap₂ ◌+ℤ◌ (chosen m (ltb j K) (taken m) y) (chosen m (ltb 0 j) (λ o. taken m (m + o)) y)
    where
      y : ℕ → ℤ
      y o = x (m * (f + j) + o)

  pub by-nodes : (K : ℕ) → 0 < K → sum K (λ k. sum (2 * m) (λ t. taken m t *ℤ x (m * (f + k) + t)))
      ≡ sum (K + 1) (λ j. sum m (λ o. taken_at m K j o *ℤ x (m * (f + j) + o)))
  by-nodes K some =
      sum-ext K _ (λ k. lows k +ℤ highs (k + 1)) (λ k l. ends k) ∙ sum-add K lows (λ k. highs (k + 1))
      ∙ sym (sum-ext (K + 1) _ (λ j. pick (ltb j K) (lows j) (pos 0) +ℤ pick (ltb 0 j) (highs j) (pos 0)) (λ j l. node K j some)
      ∙ sum-add (K + 1) (λ j. pick (ltb j K) (lows j) (pos 0)) (λ j. pick (ltb 0 j) (highs j) (pos 0))
      ∙ ap₂ ◌+ℤ◌ (but_last K lows) (but_first K highs))

-- along an unused axis
alone : (m f : ℕ) (x : ℕ → ℤ) (N K : ℕ) → N ≡ 1 → K ≡ 0 → sum N (λ k. sum 1 (λ t. pos 1 *ℤ x (m * (f + k) + t)))
    ≡ sum (K + 1) (λ j. sum 1 (λ o. taken_at m K j o *ℤ x (m * (f + j) + o)))
unfolding sum taken_at pick
alone m f x N K p q =
    ap (λ (k : ℕ). sum k (λ k. sum 1 (λ t. pos 1 *ℤ x (m * (f + k) + t)))) p
    ∙ ap (λ (K : ℕ). sum (K + 1) (λ j. sum 1 (λ o. taken_at m K j o *ℤ x (m * (f + j) + o)))) (sym q)

-- along any axis of a box
module _ (m n : ℕ) (m2 : 2 ≤ m) (m3 : m ≤ 3) where
  unfoldable pub orders_on : ℕ → ℕ
  orders_on a = pick (ltb a n) m 1

  -- N cells, and K of them along a used axis, none along an unused one
  pub axis-nodes : (a f N K : ℕ) (x : ℕ → ℤ) → (a < n → (N ≡ K) × (0 < K)) → (n ≤ a → (N ≡ 1) × (K ≡ 0))
      → sum N (λ k. on_axis m n a (f + k) x) ≡ sum (K + 1) (λ j. sum (orders_on a) (λ o. taken_at m K j o *ℤ x (m * (f + j) + o)))
  unfolding on_axis numbers_on factor_on orders_on pick
  axis-nodes a f N K x used unused = go (ltb a n) (λ e. used (ltb-true a n e)) (λ e. unused (ltb-false a n e))
    where
      go : (b : Bool) → (b ≡ true → (N ≡ K) × (0 < K)) → (b ≡ false → (N ≡ 1) × (K ≡ 0))
          → sum N (λ k. sum (pick b (2 * m) 1) (λ t. pick b (taken m t) (pos 1) *ℤ x (m * (f + k) + t)))
          ≡ sum (K + 1) (λ j. sum (pick b m 1) (λ o. taken_at m K j o *ℤ x (m * (f + j) + o)))
      go true p q = ap (λ (k : ℕ). sum k (λ k. sum (2 * m) (λ t. taken m t *ℤ x (m * (f + k) + t)))) (p refl).0
          ∙ by-nodes m m2 m3 f x K (p refl).1
      go false p q = alone m f x N K (q refl).0 (q refl).1
