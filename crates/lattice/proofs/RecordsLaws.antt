-- Samples and entries in their slices: every index is in range, an entry is found again by its index, and what the limit test says of each
-- number.
use mathlib.Core.Path.{◌≡◌, ap, subst, ◌∙◌, fun_ext}
use mathlib.Core.List.{List}
use Prim.Native.Nat.{ℕ, ◌+◌, ◌*◌, ◌/◌, ◌%◌, ◌≤◌, ◌<◌}
use native.Mathlib.Nat.{mod-lt, mod-eq_of_lt, div-eq_of_lt, div-add-mod, add-zero, mul-zero, zero-div, zero-mod, mul-le-mul_right, mul-add-div_right, mul-add-mod_self_right}
use native.Mathlib.Decide.{dec_lt}
use native.Mathlib.Omega.{arith}
use mathlib.Core.Bool.{Bool}
use lib.Dec.{leb}
use lib.IntN.{ℤ, pos, nat_abs}
use lib.ListN.{length, get_or-eq_default}
use borrow.Author.Tests.{leb-true, le-leb, lt-leb}
use Rattle.lattice.specs.declared.Shape.{Shape}
use Rattle.lattice.specs.Outcome.{Check, done, refused, refuse_unless, first_of}
use Rattle.lattice.specs.Buffer.{at}
use Rattle.lattice.specs.Digits.{number, digit}
use Rattle.lattice.specs.Shape.{count, orders, nodes, entries, size, Shaped}
use Rattle.lattice.specs.Axes.{Place}
use Rattle.lattice.specs.Records.{node_number, entry_number, entry_index, entry_place, limit_outcome}
use Rattle.lattice.proofs.OutcomeLaws.{refuse-done, first_of-each, first_of-stops, first_of-more}
use Rattle.lattice.proofs.DigitsLaws.{digit-number, number-below, span-power, above_zero}
use Rattle.lattice.proofs.ShapeLaws.{orders-range}

-- ---- nodes

-- a node of the table
pub record InTable (s : Shape) (p : Place) : Type 0 where
  pub inside : (a : ℕ) → a < 3 → p a < count s a
  pub none : (a : ℕ) → s.axes ≤ a → p a ≡ 0

-- from the used axes alone
pub in_table : (s : Shape) (p : Place) → Shaped s → ((a : ℕ) → a < s.axes → p a < count s a) → ((a : ℕ) → s.axes ≤ a → p a ≡ 0)
    → InTable s p
in_table s p ok used none = record { inside = λ a l. go a l (dec_lt a s.axes); none = none }
  where
    go : (a : ℕ) → a < 3 → Dec (a < s.axes) → p a < count s a
    go a l (yes h) = used a h
    go a l (no h) = let e = none a (omega (arith, h)) in let k = ok.low a l in omega arith

-- i + cx·(j + cy·k)
pub node-is : (s : Shape) (p : Place) → node_number s p ≡ p 0 + count s 0 * (p 1 + count s 1 * p 2)
unfolding node_number number
node-is s p = ap (λ (k : ℕ). p 0 + count s 0 * (p 1 + count s 1 * k)) (ap (λ (k : ℕ). p 2 + k) (mul-zero (count s 2)) ∙ add-zero (p 2))

pub node-below : (s : Shape) (p : Place) → InTable s p → node_number s p < nodes s
unfolding node_number nodes
node-below s p h = number-below 3 (count s) p h.inside

-- ---- entries

-- an entry of the table: its node is one
module _ (s : Shape) (p : Place) (here : InTable s (λ a. p a / orders s)) (none : (a : ℕ) → s.axes ≤ a → p a ≡ 0) where
  some : 0 < orders s
  some = let h = (orders-range s.degree).0 in omega arith

  node : Place
  node a = p a / orders s

  order : Place
  order a = p a % orders s

  order_below : entry_number s order < entries s
  unfolding entry_number entries order
  order_below = subst (λ (k : ℕ). number s.axes (λ b. orders s) order < k) (span-power (orders s) s.axes)
      (number-below s.axes (λ b. orders s) order (λ a l. mod-lt (p a) some))

  pub index_below : entry_index s p < size s
  unfolding entry_index size node order
  index_below = go (node_number s node) (nodes s) (entries s) (entry_number s order) (node-below s node here) order_below
    where
      go : (v n e o : ℕ) → v < n → o < e → v * e + o < n * e
      go v n e o h k = let z = mul-le-mul_right e h in omega arith

  index-node : entry_index s p / entries s ≡ node_number s node
  unfolding entry_index node order
  index-node =
      mul-add-div_right (above_zero order_below) (node_number s node) (entry_number s order)
      ∙ ap (λ (k : ℕ). node_number s node + k) (div-eq_of_lt order_below) ∙ add-zero (node_number s node)

  index-order : entry_index s p % entries s ≡ entry_number s order
  unfolding entry_index node order
  index-order = mul-add-mod_self_right (node_number s node) (entries s) (entry_number s order) ∙ mod-eq_of_lt order_below

  -- the entry at the index of a place is that of the place
  pub place-back : s.axes ≤ 3 → entry_place s (entry_index s p) ≡ p
  unfolding entry_place node_number entry_number node order
  place-back l = fun_ext (λ a.
      ap (λ (i : ℕ). orders s * digit (count s) i a + digit (λ b. orders s) (entry_index s p % entries s) a) index-node
      ∙ ap (λ (i : ℕ). orders s * digit (count s) (node_number s node) a + digit (λ b. orders s) i a) index-order
      ∙ ap (λ (i : ℕ). orders s * i + digit (λ b. orders s) (entry_number s order) a) (digit-number 3 (count s) node here.inside beyond a)
      ∙ ap (λ (i : ℕ). orders s * (p a / orders s) + i)
      (digit-number s.axes (λ b. orders s) order (λ a l. mod-lt (p a) some)
      (λ a l. ap (λ (i : ℕ). i % orders s) (none a l) ∙ zero-mod (orders s)) a)
      ∙ div-add-mod (p a) (orders s))
    where
      beyond : (a : ℕ) → 3 ≤ a → p a / orders s ≡ 0
      beyond a k = ap (λ (i : ℕ). i / orders s) (none a (omega arith)) ∙ zero-div (orders s)

-- ---- limits

-- every number is within the limit where the test is passed
pub limit-each : (number limit : ℕ) (xs : List ℤ) → limit_outcome number limit xs ≡ done tt → (i : ℕ) → nat_abs (at xs i) ≤ limit
unfolding limit_outcome
limit-each number limit xs h i = go (dec_lt i (length xs))
  where
    go : Dec (i < length xs) → nat_abs (at xs i) ≤ limit
    go (yes l) = leb-true (nat_abs (at xs i)) limit
        (refuse-done (leb (nat_abs (at xs i)) limit) number i
        (first_of-each (length xs) (λ i. refuse_unless (leb (nat_abs (at xs i)) limit) number i) h i l))
    go (no n) = rw (get_or-eq_default xs (pos 0) {n = i} (omega (arith, n))) (omega arith)

-- tested from the front
abbrev pub limit_test : ℕ → ℕ → List ℤ → ℕ → Check
limit_test number limit xs i = refuse_unless (leb (nat_abs (at xs i)) limit) number i

module _ (number limit : ℕ) (xs : List ℤ) where
  pub limit-stops : (i : ℕ) → i < length xs → first_of i (limit_test number limit xs) ≡ done tt → limit < nat_abs (at xs i)
      → limit_outcome number limit xs ≡ refused number i
  unfolding limit_outcome
  limit-stops i l h big = first_of-stops (length xs) i (limit_test number limit xs) number i l h
      (ap (λ (t : Bool). refuse_unless t number i) (lt-leb (nat_abs (at xs i)) limit big))

  pub limit-more : (i : ℕ) → first_of i (limit_test number limit xs) ≡ done tt → nat_abs (at xs i) ≤ limit
      → first_of (i + 1) (limit_test number limit xs) ≡ done tt
  limit-more i h small = first_of-more i (limit_test number limit xs) h
      (ap (λ (t : Bool). refuse_unless t number i) (le-leb (nat_abs (at xs i)) limit small))

  pub limit-ends : (i : ℕ) → i ≡ length xs → first_of i (limit_test number limit xs) ≡ done tt → limit_outcome number limit xs ≡ done tt
  unfolding limit_outcome
  limit-ends i e h = subst (λ (k : ℕ). first_of k (limit_test number limit xs) ≡ done tt) e h
