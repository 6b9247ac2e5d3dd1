-- One pass: its groups of orders, the machine's numbers that it reads, and the sizes of what it gives.
use mathlib.Core.Path.{◌≡◌, refl, sym, ap, ◌∙◌}
use mathlib.Core.Bool.{Bool, true}
use mathlib.Core.List.{List}
use Prim.Native.Nat.{ℕ, zero, suc, ◌+◌, ◌-◌, ◌*◌, ◌/◌, ◌%◌, ◌≤◌, ◌<◌}
use native.Mathlib.Nat.{mul-le-mul, le_trans, mul_assoc, mul-add-div, mul-add-mod_self_left, mod-one, div-one}
use native.Mathlib.Decide.{ℕ_discrete}
use native.Mathlib.Numerals.{add-one}
use native.Mathlib.Omega.{arith}
use lib.Dec.{leb, ltb}
use lib.IntN.{ℤ, pos, nat_abs}
use lib.ListN.{length, take, drop, length-drop}
use lib.Seq.{length-take-le, get_or-take, get_or-drop}
use mir.Syntax.{w32}
use mir.Val.{to_z, of_z}
use mir.Facts.{to_z-of_z}
use borrow.Author.Tests.{lt-ltb, le-ltb}
use Rattle.arith.proofs.Abs.{sfits-abs}
use Rattle.arith.proofs.Choices.{pick_true, pick-false}
use Rattle.estimate.specs.declared.Grid.{Grid}
use Rattle.estimate.specs.Estimate.{by_order}
use Rattle.estimate.specs.Passes.{pass_limit, placed, since, grouped, before, behind, at_border, pass_of, orders_of_row, row_start, row_z, row_yz, node_size, record_size, row_size, plane_size, Read, Line, Lines, Grids, Samples}
use Rattle.lattice.proofs.DigitsLaws.{group-room, pair-in, high-below}
use Rattle.estimate.proofs.EstimateLaws.{orders-near, orders-size}
use Rattle.estimate.proofs.PlacedLaws.{placed_same}
use Rattle.lattice.specs.Buffer.{at}

-- a number read from its bits
pub bits : (x : ℤ) → nat_abs x ≤ 3 * pass_limit → to_z w32 (of_z w32 x) ≡ x
bits x h = to_z-of_z {w = w32} (sfits-abs x (omega arith))

pub small-bits : (n : ℕ) (x : ℤ) → n ≤ 3 * pass_limit → nat_abs x ≤ n → nat_abs (to_z w32 (of_z w32 x)) ≤ n
small-bits n x l h = rw (bits x (le_trans h l)) h

-- ---- the nodes before and behind

pub before-is : (i : ℕ) → (i ≡ 0 → ⊥) → i - 1 ≡ before i
unfolding before
before-is zero h = absurd (h refl)
before-is (suc i) h = omega arith

pub before-none : (i : ℕ) → i ≡ 0 → i ≡ before i
unfolding before
before-none i e = rw e

pub behind-is : (count i : ℕ) → i + 1 < count → i + 1 ≡ behind count i
unfolding behind
behind-is count i h = rw (add-one i) (sym (pick_true (ltb (suc i) count) (suc i) i (lt-ltb (suc i) count (omega arith))))

pub behind-none : (count i : ℕ) → count ≤ i + 1 → i ≡ behind count i
unfolding behind
behind-none count i h = sym (pick-false (ltb (suc i) count) (suc i) i (le-ltb (suc i) count (omega arith)))

-- the first node, a node between and the last
pub first-border : (count i : ℕ) → i ≡ 0 → at_border count i ≡ true
unfolding at_border
first-border count i e = rw e

pub later-border : (count i : ℕ) → (i ≡ 0 → ⊥) → leb count (i + 1) ≡ at_border count i
unfolding at_border
later-border count zero h = absurd (h refl)
later-border count (suc i) h = ap (leb count) (add-one (suc i))

-- ---- a pass

-- entry h of node x, where a node has b numbers of a orders each: its number, and its order
pub group_of : {a : ℕ} → 0 < a → (b x h : ℕ) → (a * b * x + h) / a ≡ b * x + h / a
group_of {a} k b x h = rw (mul_assoc a b x) (mul-add-div k (b * x) h)

pub member_of : (a b x h : ℕ) → (a * b * x + h) % a ≡ h % a
member_of a b x h = rw (mul_assoc a b x) (mul-add-mod_self_left a (b * x) h)

-- a single order: the pass changes nothing
pub one-order : (m : ℕ) → m ≡ 1 → (count : ℕ) (rows : ℕ → ℕ → ℤ) (i t : ℕ) → orders_of_row m count rows i t ≡ rows i t
unfolding grouped by_order
one-order m e count rows i t = rw (e, mod-one t, div-one t) refl

one-pass : (b : Bool) (m : ℕ) → m ≡ 1 → (l f r : ℕ → ℤ) (t : ℕ) → pass_of b m l f r t ≡ f t
unfolding grouped by_order
one-pass b m e l f r t = rw (e, mod-one t, div-one t) refl

-- the orders of row i come from the rows before, i and behind
pub pass-is : (m count i : ℕ) → ((m ≡ 1 → ⊥) → 2 ≤ count) → (rows : ℕ → ℕ → ℤ) (t : ℕ)
    → pass_of (at_border count i) m (rows (before i)) (rows i) (rows (behind count i)) t ≡ orders_of_row m count rows i t
unfolding grouped
pass-is m count i wide rows t = go (ℕ_discrete m 1)
  where
    go : Dec (m ≡ 1) → pass_of (at_border count i) m (rows (before i)) (rows i) (rows (behind count i)) t ≡ orders_of_row m count rows i t
    go (yes e) = one-pass (at_border count i) m e (rows (before i)) (rows i) (rows (behind count i)) t ∙ sym (one-order m e count rows i t)
    go (no k) = sym (orders-near count (λ v. rows v (t / m)) i (t % m) (wide k))

-- ---- parts of a list

-- the n numbers from index a on
pub record Part (xs : List ℤ) (a n : ℕ) (part : List ℤ) : Type 0 where
  pub long : length part ≡ n
  pub same : (t : ℕ) → t < n → at part t ≡ since xs a t

pub part-of : (xs : List ℤ) (a n k : ℕ) {part : List ℤ} → a + n ≤ length xs → k ≡ n → part ≡ take k (drop a xs) → Part xs a n part
part-of xs a n k l e is =
    rw (is, e)
    (record {
      long = length-take-le n (drop a xs) (omega (arith, length-drop a xs));
      same = λ t i. get_or-take n (drop a xs) t (pos 0) i ∙ get_or-drop a xs t (pos 0);
    })

-- the three that a pass reads
module _ {xs : List ℤ} {u v w n : ℕ} {low mid high : List ℤ} (below : Part xs u n low) (here : Part xs v n mid)
    (above : Part xs w n high) where
  pub parts-lines : Read xs u n × Read xs v n × Read xs w n → Lines low mid high
  parts-lines r = rw here.long (line below r.0, line here r.1, line above r.2)
    where
      line : {a : ℕ} {part : List ℤ} → Part xs a n part → Read xs a n → Line n part
      line p r = record { long = p.long; small = λ t i. rw (p.same t i) (r.small t i) }

  pub parts-pass : (border : Bool) (m : ℕ) (old : List ℤ) {next : List ℤ} → 0 < m
      → next ≡ placed 0 (m * length mid) (pass_of border m (at low) (at mid) (at high)) old
      → next ≡ placed 0 (m * n) (pass_of border m (since xs u) (since xs v) (since xs w)) old
  unfolding grouped
  parts-pass border m old some e =
      (rw here.long at e)
      ∙ placed_same 0 (m * n) (pass_of border m (at low) (at mid) (at high)) (pass_of border m (since xs u) (since xs v) (since xs w)) old
      (λ t i. let q : t / m < n = high-below some i in rw (below.same (t / m) q, here.same (t / m) q, above.same (t / m) q) refl)

-- ---- rows

module _ (g : Grid) (ok : Grids g) where
  pub node-high : node_size g ≤ 9
  node-high = mul-le-mul ok.my.1 ok.mz.1

  pub record-high : record_size g ≤ 27
  record-high = mul-le-mul ok.mx.1 node-high

  pub row-high : row_size g ≤ 1728
  row-high = mul-le-mul record-high ok.x-high

  pub plane-high : plane_size g ≤ 110592
  plane-high = mul-le-mul row-high ok.y-high

  pub row-z-high : g.z.orders * g.x.count ≤ 192
  row-z-high = mul-le-mul ok.mz.1 ok.x-high

  pub row-yz-high : g.y.orders * (g.z.orders * g.x.count) ≤ 576
  row-yz-high = mul-le-mul ok.my.1 row-z-high

pub row_in : (g : Grid) (xs : List ℤ) (y z : ℕ) → Samples g xs → y < g.y.count → z < g.z.count → row_start g y z + g.x.count ≤ length xs
unfolding row_start
row_in g xs y z ok h k = rw ok.whole
    (group-room g.x.count (y + g.y.count * z) (g.y.count * g.z.count) (omega (arith, pair-in g.y.count z y h g.z.count k)))

pub row_read : (g : Grid) (xs : List ℤ) (y z : ℕ) → Samples g xs → y < g.y.count → z < g.z.count → Read xs (row_start g y z) g.x.count
row_read g xs y z ok h k =
    record { inside = row_in g xs y z ok h k; small = λ t l. le_trans (ok.small (row_start g y z + t)) (omega arith) }

pub row_part : (g : Grid) (xs : List ℤ) (y z : ℕ) {row : List ℤ} → Samples g xs → y < g.y.count → z < g.z.count
    → row ≡ take g.x.count (drop (row_start g y z) xs) → Part xs (row_start g y z) g.x.count row
row_part g xs y z ok h k is = part-of xs (row_start g y z) g.x.count g.x.count (row_in g xs y z ok h k) refl is

-- what a row, worked off along z, and along z and y, is within
pub row-z-size : (g : Grid) (xs : List ℤ) (y z t : ℕ) → Samples g xs → nat_abs (row_z g xs y z t) ≤ 131072
unfolding row_z grouped
row-z-size g xs y z t ok = orders-size g.z.count (λ v. since xs (row_start g y v) (t / g.z.orders)) z (t % g.z.orders) (λ i. ok.small _)

pub row-yz-size : (g : Grid) (xs : List ℤ) (y z t : ℕ) → Samples g xs → nat_abs (row_yz g xs y z t) ≤ pass_limit
unfolding row_yz grouped
row-yz-size g xs y z t ok =
    orders-size g.y.count (λ v. row_z g xs v z (t / g.y.orders)) y (t % g.y.orders) (λ i. row-z-size g xs i z (t / g.y.orders) ok)
