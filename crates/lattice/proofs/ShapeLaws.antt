-- What callers may use of a shape that is not refused: ranges of its counts, of m, of the numbers of entries and nodes.
use mathlib.Core.Path.{◌≡◌, refl, ap, sym, ◌∙◌}
use mathlib.Core.Bool.{Bool, true, false, ◌&&◌}
use Prim.Native.Nat.{ℕ, ◌*◌, ◌^◌, ◌≤◌, ◌<◌}
use native.Mathlib.Nat.{pow-zero, pow-suc, one-mul, mul-one, mul-le-mul, pow-le-pow_left, pow-le-pow_right, le_trans, one-le-pow}
use native.Mathlib.Omega.{arith}
use lib.Dec.{leb, ltb, eqb, lit<}
use borrow.Author.Tests.{ltb-true, ltb-false, leb-true, eqb-true, eq-eqb, lt-ltb, le-ltb, le-leb}
use Rattle.arith.proofs.Choices.{pick_true, pick-false, on-pick, and-true, true-and}
use Rattle.lattice.specs.declared.Shape.{Shape}
use Rattle.lattice.specs.Outcome.{Check, done, refused, refuse_unless, first}
use Rattle.lattice.specs.Digits.{span}
use Rattle.lattice.specs.Shape.{count, orders_of, orders, nodes, entries, size, axes_outcome, degree_outcome, count_allowed, counts_outcome, shape_outcome, Shaped}
use Rattle.lattice.proofs.OutcomeLaws.{first_done, first-passed, refuse-done, passes, first_of-each}

-- ---- the counts

-- what is allowed
module _ (n c a : ℕ) where
  pub allowed-is : a < n → count_allowed n c a ≡ (leb 2 c && leb c 64)
  unfolding count_allowed
  allowed-is l = pick_true (ltb a n) (leb 2 c && leb c 64) (eqb c 1) (lt-ltb a n l)

  pub allowed-unused : n ≤ a → c ≡ 1 → count_allowed n c a ≡ true
  unfolding count_allowed
  allowed-unused l e = pick-false (ltb a n) (leb 2 c && leb c 64) (eqb c 1) (le-ltb a n l) ∙ eq-eqb c 1 e

-- of a count that is allowed
module _ (n c a : ℕ) (h : count_allowed n c a ≡ true) where
  pub count-used : a < n → (2 ≤ c) × (c ≤ 64)
  unfolding count_allowed
  count-used l =
      let e = and-true (leb 2 c) (leb c 64) (sym (allowed-is n c a l) ∙ h) in
      (leb-true 2 c e.0, leb-true c 64 e.1)

  pub count-unused : n ≤ a → c ≡ 1
  unfolding count_allowed
  count-unused l = eqb-true c 1 (sym (pick-false (ltb a n) (leb 2 c && leb c 64) (eqb c 1) (le-ltb a n l)) ∙ h)

  pub count-range : (1 ≤ c) × (c ≤ 64)
  count-range = by (ltb a n) (ltb-true a n) (ltb-false a n)
    where
      by : (t : Bool) → (t ≡ true → a < n) → (t ≡ false → n ≤ a) → (1 ≤ c) × (c ≤ 64)
      by true f g = let e = count-used (f refl) in omega arith
      by false f g = let e = count-unused (g refl) in omega arith

pub counts_each : (n : ℕ) (counts : ℕ → ℕ) → counts_outcome n counts ≡ done tt → (a : ℕ) → a < 3 → count_allowed n (counts a) a ≡ true
unfolding counts_outcome
counts_each n counts h a l =
    refuse-done (count_allowed n (counts a) a) 3 a (first_of-each 3 (λ a. refuse_unless (count_allowed n (counts a) a) 3 a) h a l)

pub axes-range : (n : ℕ) → axes_outcome n ≡ done tt → (1 ≤ n) × (n ≤ 3)
unfolding axes_outcome
axes-range n h =
    let e = and-true (leb 1 n) (leb n 3) (refuse-done (leb 1 n && leb n 3) 1 0 h) in
    (leb-true 1 n e.0, leb-true n 3 e.1)

pub no-axes : (n : ℕ) → (1 ≤ n → n ≤ 3 → ⊥) → axes_outcome n ≡ refused 1 0
unfolding axes_outcome
no-axes n none = go (leb 1 n) (leb n 3) (leb-true 1 n) (leb-true n 3)
  where
    go : (a b : Bool) → (a ≡ true → 1 ≤ n) → (b ≡ true → n ≤ 3) → refuse_unless (a && b) 1 0 ≡ refused 1 0
    go true true f g = absurd (none (f refl) (g refl))
    go true false f g = refl
    go false b f g = refl

-- where the number of axes is not refused, 2 and 3 are all that is tested of a shape
pub table-shape : (s : Shape) → 1 ≤ s.axes → s.axes ≤ 3
    → first (degree_outcome s.degree) (counts_outcome s.axes (count s)) ≡ shape_outcome s
unfolding shape_outcome axes_outcome
table-shape s l h =
    sym (first-passed (refuse_unless (leb 1 s.axes && leb s.axes 3) 1 0)
    (first (degree_outcome s.degree) (counts_outcome s.axes (count s)))
    (passes (leb 1 s.axes && leb s.axes 3) 1 0
    (true-and (leb 1 s.axes) (leb s.axes 3) (le-leb 1 s.axes l) (le-leb s.axes 3 h))))

-- the facts of a shape whose counts are not refused
pub counts-shaped : (s : Shape) → 1 ≤ s.axes → s.axes ≤ 3 → counts_outcome s.axes (count s) ≡ done tt → Shaped s
counts-shaped s low high h =
    let c = counts_each s.axes (count s) h in
    record {
      axes-low = low;
      axes-high = high;
      low = λ a l. (count-range s.axes (count s a) a (c a l)).0;
      high = λ a l. (count-range s.axes (count s a) a (c a l)).1;
      used = λ a l. (count-used s.axes (count s a) a (c a (within a s.axes l high)) l).0;
      unused = λ a l k. count-unused s.axes (count s a) a (c a l) k;
    }
  where
    within : (a n : ℕ) → a < n → n ≤ 3 → a < 3
    within a n l h = omega arith

pub shaped : (s : Shape) → shape_outcome s ≡ done tt → Shaped s
unfolding shape_outcome
shaped s h =
    let rest : Check = first (degree_outcome s.degree) (counts_outcome s.axes (count s)) in
    let f = first_done (axes_outcome s.axes) rest tt h in
    let g = first_done (degree_outcome s.degree) (counts_outcome s.axes (count s)) tt f.1 in
    let n = axes-range s.axes f.0 in
    counts-shaped s n.0 n.1 g.1

-- ---- m

pub orders-range : (d : ℕ) → (2 ≤ orders_of d) × (orders_of d ≤ 3)
unfolding orders_of
orders-range d = on-pick (λ m. (2 ≤ m) × (m ≤ 3)) (eqb d 3) 2 3 (λ e. omega arith) (λ e. omega arith)

-- ---- entries and nodes

pub pow-one : (m : ℕ) → m ^ 1 ≡ m
pow-one m = pow-suc m 0 ∙ ap (λ (k : ℕ). k * m) (pow-zero m) ∙ one-mul m

pub pow-two : (m : ℕ) → m ^ 2 ≡ m * m
pow-two m = pow-suc m 1 ∙ ap (λ (k : ℕ). k * m) (pow-one m)

pub pow-three : (m : ℕ) → m ^ 3 ≡ m * m * m
pow-three m = pow-suc m 2 ∙ ap (λ (k : ℕ). k * m) (pow-two m)

-- a power of at most w, of at most 3 axes
pub pow-range : (w b n : ℕ) → b ≤ w → n ≤ 3 → 0 < w → b ^ n ≤ w ^ 3
pow-range w b n h k l = le_trans (pow-le-pow_left h n) (pow-le-pow_right {n = w} l k)

pub nodes-is : (s : Shape) → nodes s ≡ count s 0 * (count s 1 * count s 2)
unfolding nodes span
nodes-is s = ap (λ (k : ℕ). count s 0 * (count s 1 * k)) (mul-one (count s 2))

module _ (s : Shape) where
  pub entries-pos : 0 < entries s
  unfolding entries
  entries-pos = one-le-pow s.axes (orders s) (omega (arith, (orders-range s.degree).0))

module _ (s : Shape) (ok : Shaped s) where
  pub entries-high : entries s ≤ 27
  unfolding entries
  entries-high = pow-range 3 (orders s) s.axes (orders-range s.degree).1 ok.axes-high (lit< tt)

  pub plane-high : count s 1 * count s 2 ≤ 4096
  plane-high = mul-le-mul (ok.high 1 (lit< tt)) (ok.high 2 (lit< tt))

  pub nodes-high : nodes s ≤ 262144
  nodes-high = rw (nodes-is s) (mul-le-mul (ok.high 0 (lit< tt)) plane-high)

  pub size-high : size s ≤ 7077888
  unfolding size
  size-high = mul-le-mul nodes-high entries-high
