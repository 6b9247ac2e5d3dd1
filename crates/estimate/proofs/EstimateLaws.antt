-- Estimation along one axis is linear; so the order of axes does not matter, entries keep their limits, and an entry reads the samples
-- at its node and at the neighbours of it only.
use mathlib.Core.Path.{◌≡◌, refl, sym, ap, subst, ◌∙◌, fun_ext}
use mathlib.Core.Bool.{Bool, true, false}
use mathlib.Core.List.{List, [], ◌∷◌}
use Prim.Native.Nat.{ℕ, zero, suc, ◌+◌, ◌*◌, ◌/◌, ◌%◌, ◌^◌, ◌≤◌, ◌<◌}
use native.Mathlib.Nat.{le_trans, le_of_eq, mul-le-mul_right, pow-suc, one-le-pow}
use native.Mathlib.Omega.{arith}
use lib.Pow.{pow-add}
use lib.Dec.{leb, ltb, lit≤}
use lib.IntN.{ℤ, pos, negsuc, ◌+ℤ◌, ◌-ℤ◌, ◌*ℤ◌, nat_abs}
use borrow.Author.Tests.{ltb-true, lt-ltb, le-ltb, leb-true, leb-false, le-leb}
use Rattle.arith.specs.Choice.{pick}
use Rattle.arith.proofs.Choices.{pick_true, on-pick}
use Rattle.arith.proofs.Quote.{quotes, ring! }
use Rattle.arith.proofs.Sums.{sum-ext, total_ext, abs-weighted}
use Rattle.arith.specs.Sum.{sum, total}
use Rattle.lattice.proofs.Along.{put-off, each-axes, Linear, linear-size, distinct-axes, Reordered, sweep-order}
use Rattle.lattice.proofs.Local.{Depends, linear-depends, sweep-carries, sweep-local, used, OnAxis, on-used}
use Rattle.lattice.specs.Axes.{Place, Field, put, sweep, axes, OnUsed}
use Rattle.lattice.specs.Records.{total_order}
use Rattle.estimate.specs.Estimate.{left, right, by_order, estimate, records, NextTo}
use Rattle.estimate.specs.Passes.{before, behind, at_border, lower, upper, orders_at}

-- ---- the neighbours, from the numbers at the nodes before and behind

-- the node behind, where an axis has two nodes
next : ℕ → ℕ → ℕ
next count zero = 1
next count (suc i) = behind count (suc i)

next-is : (count i : ℕ) → 2 ≤ count → next count i ≡ behind count i
unfolding next behind
next-is count zero l = sym (pick_true (ltb 1 count) 1 0 (lt-ltb 1 count l))
next-is count (suc i) l = refl

module _ (count : ℕ) (x : ℕ → ℤ) where
  lower-is : (i : ℕ) → left x i ≡ lower (at_border count i) (x (before i)) (x i) (x (next count i))
  unfolding left lower at_border before next behind pick
  lower-is zero = ring! (x 0 ∷ x 1 ∷ []) (search quotes depth 40) tt
  lower-is (suc i) = go (leb count (suc (suc i))) refl
    where
      go : (b : Bool) → leb count (suc (suc i)) ≡ b → x i ≡ pick b (x (suc i) -ℤ (x (behind count (suc i)) -ℤ x i)) (x i)
      go true e =
          let l : ltb (suc (suc i)) count ≡ false = le-ltb (suc (suc i)) count (leb-true count (suc (suc i)) e) in
          rw l (ring! (x i ∷ x (suc i) ∷ []) (search quotes depth 40) tt)
      go false e = refl

  upper_is : (i : ℕ) → right count x i ≡ upper (at_border count i) (x (before i)) (x i) (x (next count i))
  unfolding left right upper at_border before next behind pick
  upper_is zero = on-pick (λ r. r ≡ x 0 +ℤ (x 1 -ℤ x 0)) (ltb 1 count) (x 1) (pos 2 *ℤ x 0 -ℤ (pos 2 *ℤ x 0 -ℤ x 1))
      (λ e. ring! (x 0 ∷ x 1 ∷ []) (search quotes depth 40) tt) (λ e. ring! (x 0 ∷ x 1 ∷ []) (search quotes depth 40) tt)
  upper_is (suc i) = go (leb count (suc (suc i))) refl
    where
      go : (b : Bool) → leb count (suc (suc i)) ≡ b
          → right count x (suc i) ≡ pick b (x (suc i) +ℤ (x (behind count (suc i)) -ℤ x i)) (x (behind count (suc i)))
      go true e =
          let l : ltb (suc (suc i)) count ≡ false = le-ltb (suc (suc i)) count (leb-true count (suc (suc i)) e) in
          rw l (ring! (x i ∷ x (suc i) ∷ []) (search quotes depth 40) tt)
      go false e = rw (lt-ltb (suc (suc i)) count (leb-false count (suc (suc i)) e))

  -- so the orders of a node are those of a pass
  orders-are : (i o : ℕ) → let b : Bool = at_border count i in
      orders_at count x i o ≡ by_order o (lower b (x (before i)) (x i) (x (next count i))) (x i)
      (upper b (x (before i)) (x i) (x (next count i)))
  orders-are i o = rw (lower-is i, upper_is i)

  pub orders-near : (i o : ℕ) → 2 ≤ count → let b : Bool = at_border count i in
      orders_at count x i o ≡ by_order o (lower b (x (before i)) (x i) (x (behind count i))) (x i)
      (upper b (x (before i)) (x i) (x (behind count i)))
  orders-near i o w = rw (← next-is count i w) (orders-are i o)

-- ---- borders

-- a straight line that rises by d: D is twice the rise and S is 0
pub rise : (f d : ℤ) → (f +ℤ d) -ℤ (f -ℤ d) ≡ pos 2 *ℤ d
rise f d = ring! (f ∷ d ∷ []) (search quotes depth 40) tt

pub straight : (f d : ℤ) → f -ℤ d -ℤ pos 2 *ℤ f +ℤ (f +ℤ d) ≡ pos 0
straight f d = ring! (f ∷ d ∷ []) (search quotes depth 40) tt

-- so it is at a border, where D is twice the difference
module _ (count : ℕ) (x : ℕ → ℤ) where
  pub border-low : (orders_at count x 0 1 ≡ pos 2 *ℤ (x 1 -ℤ x 0)) × (orders_at count x 0 2 ≡ pos 0)
  unfolding by_order lower upper at_border before next pick
  border-low = (orders-are count x 0 1 ∙ rise (x 0) (x 1 -ℤ x 0), orders-are count x 0 2 ∙ straight (x 0) (x 1 -ℤ x 0))

  pub border-high : (i : ℕ) → count ≡ suc (suc i)
      → (orders_at count x (suc i) 1 ≡ pos 2 *ℤ (x (suc i) -ℤ x i)) × (orders_at count x (suc i) 2 ≡ pos 0)
  unfolding by_order lower upper at_border before next behind pick
  border-high i e =
      let last : leb count (suc (suc i)) ≡ true = le-leb count (suc (suc i)) (omega arith) in
      let none : ltb (suc (suc i)) count ≡ false = le-ltb (suc (suc i)) count (omega arith) in (
        orders-are count x (suc i) 1 ∙ rw (last, none) (rise (x (suc i)) (x (suc i) -ℤ x i)),
        orders-are count x (suc i) 2 ∙ rw (last, none) (straight (x (suc i)) (x (suc i) -ℤ x i)),
      )

-- ---- the rule as a sum of three numbers

-- what order o takes of the numbers at the nodes before, i and behind
pick3 : ℤ → ℤ → ℤ → ℕ → ℤ
pick3 k₀ k₁ k₂ zero = k₀
pick3 k₀ k₁ k₂ (suc zero) = k₁
pick3 k₀ k₁ k₂ (suc (suc t)) = k₂

of_three : Bool → ℕ → ℕ → ℤ
of_three border zero = pick3 (pos 0) (pos 1) (pos 0)
of_three true (suc zero) = pick3 (negsuc 1) (pos 0) (pos 2)
of_three false (suc zero) = pick3 (negsuc 0) (pos 0) (pos 1)
of_three true (suc (suc o)) = pick3 (pos 0) (pos 0) (pos 0)
of_three false (suc (suc o)) = pick3 (pos 1) (negsuc 1) (pos 1)

node_of : ℕ → ℕ → ℕ → ℕ
node_of count i zero = before i
node_of count i (suc zero) = i
node_of count i (suc (suc t)) = next count i

none : (l f r : ℤ) → pos 0 +ℤ pos 0 *ℤ l +ℤ pos 0 *ℤ f +ℤ pos 0 *ℤ r ≡ pos 0
none l f r = ring! (l ∷ f ∷ r ∷ []) (search quotes depth 40) tt

three : (b : Bool) (o : ℕ) (l f r : ℤ)
    → by_order o (lower b l f r) f (upper b l f r) ≡ pos 0 +ℤ of_three b o 0 *ℤ l +ℤ of_three b o 1 *ℤ f +ℤ of_three b o 2 *ℤ r
unfolding by_order of_three pick3 lower upper pick
three border zero l f r = ring! (l ∷ f ∷ r ∷ []) (search quotes depth 40) tt
three true (suc zero) l f r = ring! (l ∷ f ∷ r ∷ []) (search quotes depth 40) tt
three false (suc zero) l f r = ring! (l ∷ f ∷ r ∷ []) (search quotes depth 40) tt
three true (suc (suc o)) l f r = straight f (r -ℤ l) ∙ sym (none l f r)
three false (suc (suc o)) l f r = ring! (l ∷ f ∷ r ∷ []) (search quotes depth 40) tt

module _ (count : ℕ) (x : ℕ → ℤ) (i o : ℕ) where
  orders-sum : orders_at count x i o ≡ sum 3 (λ t. of_three (at_border count i) o t *ℤ x (node_of count i t))
  unfolding sum node_of
  orders-sum = orders-are count x i o ∙ three (at_border count i) o (x (before i)) (x i) (x (next count i))

pub estimate-linear : (m count : ℕ) → Linear (estimate m count)
unfolding estimate
estimate-linear m count =
    record {
      width = 3;
      factor = λ j t. of_three (at_border count (j / m)) (j % m) t;
      place = λ j t. node_of count (j / m) t;
      is = λ x j. orders-sum count x (j / m) (j % m);
    }

-- ---- the order of axes does not matter
pub estimate-order : (m n : ℕ) (count : ℕ → ℕ) (g : Field) (ls : List ℕ) → Reordered (axes n) ls
    → records m n count g ≡ sweep ls (λ a. estimate m (count a)) g
unfolding records
estimate-order m n count g ls h = sweep-order h (λ a. estimate m (count a)) (λ a. estimate-linear m (count a)) g

-- ---- limits
reach-four : (b : Bool) (o : ℕ) → total 3 (λ t. nat_abs (of_three b o t)) ≤ 4
unfolding total of_three pick3
reach-four b zero = lit≤ tt
reach-four true (suc zero) = lit≤ tt
reach-four false (suc zero) = lit≤ tt
reach-four true (suc (suc o)) = lit≤ tt
reach-four false (suc (suc o)) = lit≤ tt

-- twice 2^o at most: once for the order, once for the doubled difference at a border
reach : (b : Bool) (o : ℕ) → total 3 (λ t. nat_abs (of_three b o t)) ≤ 2 * 2 ^ o
unfolding total of_three pick3
reach b zero = lit≤ tt
reach b (suc o) = let h = one-le-pow o 2 (omega arith) in let e = pow-suc 2 o in le_trans (reach-four b (suc o)) (omega arith)

-- numbers within B have orders within 4B
pub orders-size : (count : ℕ) (x : ℕ → ℤ) (i o : ℕ) {B : ℕ} → ((k : ℕ) → nat_abs (x k) ≤ B) → nat_abs (orders_at count x i o) ≤ 4 * B
orders-size count x i o {B} h =
    le_trans (le_of_eq (ap nat_abs (orders-sum count x i o)))
    (le_trans (abs-weighted 3 (of_three (at_border count i) o) (λ t. x (node_of count i t)) B (λ t l. h (node_of count i t)))
    (mul-le-mul_right B (reach-four (at_border count i) o)))

order-put : (m n t : ℕ) (p : Place) → total_order m n (put n t p) ≡ total_order m n p
unfolding total_order
order-put m n t p = total_ext n (λ a. put n t p a % m) (λ a. p a % m) (λ a l. ap (λ (k : ℕ). k % m) (put-off n t a p (apart a n l)))
  where
    apart : (a n : ℕ) → a < n → a ≡ n → ⊥
    apart a n l e = omega arith

-- samples within B have entries of total order q on n axes within B·2^n·2^q
pub limits : (B m n : ℕ) (count : ℕ → ℕ) (g : Field) → ((p : Place) → nat_abs (g p) ≤ B) → (p : Place)
    → nat_abs (records m n count g p) ≤ B * 2 ^ n * 2 ^ total_order m n p
unfolding records sweep axes total_order total estimate-linear
limits B m zero count g h p = le_trans (h p) (omega arith)
limits B m (suc n) count g h p =
    le_trans
    (linear-size L x (p n) (B * 2 ^ n * 2 ^ total_order m n p)
    (λ t l. subst (λ (q : ℕ). nat_abs (x (L.place (p n) t)) ≤ B * 2 ^ n * 2 ^ q) (order-put m n (L.place (p n) t) p)
    (limits B m n count g h (put n (L.place (p n) t) p))))
    (scaled (p n % m) (total_order m n p) (reach (at_border (count n) (p n / m)) (p n % m)))
  where
    L : Linear (estimate m (count n))
    L = estimate-linear m (count n)

    x : ℕ → ℤ
    x t = records m n count g (put n t p)

    regroup : (y z v w : ℕ) → w ≡ z * y → 2 * y * (B * v * z) ≡ B * (v * 2) * w
    regroup y z v w e = rw e (omega arith)

    scaled : (o q : ℕ) {k : ℕ} → k ≤ 2 * 2 ^ o → k * (B * 2 ^ n * 2 ^ q) ≤ B * 2 ^ suc n * 2 ^ (q + o)
    scaled o q h =
        le_trans (mul-le-mul_right (B * 2 ^ n * 2 ^ q) h)
        (le_of_eq (regroup (2 ^ o) (2 ^ q) (2 ^ n) (2 ^ (q + o)) (pow-add 2 q o)
        ∙ ap (λ (v : ℕ). B * v * 2 ^ (q + o)) (sym (pow-suc 2 n))))

-- ---- locality

pub near_before : (count i : ℕ) → i < count → NextTo count i (before i)
unfolding before
near_before count zero l = record { low = omega arith; high = omega arith; there = l }
near_before count (suc i) l = record { low = omega arith; high = omega arith; there = omega arith }

pub near-behind : (count i : ℕ) → i < count → NextTo count i (behind count i)
unfolding behind
near-behind count i l =
    on-pick (NextTo count i) (ltb (suc i) count) (suc i) i
    (λ e. record { low = omega arith; high = omega arith; there = ltb-true (suc i) count e })
    (λ e. record { low = omega arith; high = omega arith; there = l })

-- what an order at node i of an axis reads is node i or a neighbour of it
near : (count i : ℕ) → 2 ≤ count → i < count → (t : ℕ) → NextTo count i (node_of count i t)
unfolding node_of
near count i w l zero = near_before count i l
near count i w l (suc zero) = record { low = omega arith; high = omega arith; there = l }
near count i w l (suc (suc t)) = rw (next-is count i w) (near-behind count i l)

-- numbers that agree on an axis of two nodes or more have the same orders
pub orders-same : (count : ℕ) (x y : ℕ → ℤ) (i o : ℕ) → 2 ≤ count → i < count → ((k : ℕ) → k < count → x k ≡ y k)
    → orders_at count x i o ≡ orders_at count y i o
orders-same count x y i o w l same =
    orders-sum count x i o
    ∙ sum-ext 3 (λ t. of_three (at_border count i) o t *ℤ x (node_of count i t))
    (λ t. of_three (at_border count i) o t *ℤ y (node_of count i t))
    (λ t k. ap (λ z. of_three (at_border count i) o t *ℤ z) (same (node_of count i t) (near count i w l t).there))
    ∙ sym (orders-sum count y i o)

module _ (m n : ℕ) (count p : Place) (wide : (a : ℕ) → a < n → 2 ≤ count a) (inside : (a : ℕ) → a < n → p a / m < count a) where
  S : ℕ → ℕ → Type 0
  S = OnAxis n (λ a j. j ≡ p a)

  T : ℕ → ℕ → Type 0
  T = OnAxis n (λ a. NextTo (count a) (p a / m))

  estimate-depends : (a : ℕ) → a < n → Depends (estimate m (count a)) (S a) (T a)
  unfolding estimate-linear S T
  estimate-depends a l = linear-depends (estimate-linear m (count a))
      (λ j t e k. (λ i. rw (e.0 l) (near (count a) (p a / m) (wide a l) (inside a l) t), λ k. absurd (not-both l k)))
    where
      not-both : {a : ℕ} → a < n → n ≤ a → ⊥
      not-both l k = omega arith

  -- an entry reads the samples at its node and at the neighbours of it on each axis, diagonals included
  pub entry-local : ((a : ℕ) → n ≤ a → p a ≡ 0) → (g h : Field) → ((q : Place) → OnUsed n (λ a. NextTo (count a) (p a / m)) q → g q ≡ h q)
      → records m n count g p ≡ records m n count h p
  unfolding records S T
  entry-local none g h eq =
      sweep-local S T (λ a. estimate m (count a)) (axes n) (distinct-axes n)
      (each-axes n (λ a. Depends (estimate m (count a)) (S a) (T a)) estimate-depends) g h (λ q y. eq q (on-used y)) p
      (record { done = λ b f. (λ l. refl, none b); left = λ b f. (λ l. absurd (used n b l f), none b) })

-- where a node has an upper neighbour with both counts or with neither, its records are the same
pub entry-recounted : (m n : ℕ) (count other p : Place)
    → ((a : ℕ) → a < n → ltb (suc (p a / m)) (count a) ≡ ltb (suc (p a / m)) (other a)) → (g : Field)
    → records m n count g p ≡ records m n other g p
unfolding records estimate right
entry-recounted m n count other p same g =
    sweep-carries (λ a s t. (s ≡ p a) × (t ≡ p a)) (λ a s t. s ≡ t) (λ a. estimate m (count a)) (λ a. estimate m (other a)) (axes n)
    (distinct-axes n)
    (each-axes n _ (λ a l x y j k e h. ap (estimate m (count a) x) e.0
    ∙ ap (λ (z : ℕ → ℤ). estimate m (count a) z (p a)) (fun_ext (λ s. h s s refl))
    ∙ ap (λ (b : Bool). by_order (p a % m) (left y (p a / m)) (y (p a / m))
    (pick b (y (suc (p a / m))) (pos 2 *ℤ y (p a / m) -ℤ left y (p a / m)))) (same a l)
    ∙ sym (ap (estimate m (other a) y) e.1)))
    g g (λ q r e. ap g (fun_ext e)) p p (record { done = λ b f. (refl, refl); left = λ b f. refl })
