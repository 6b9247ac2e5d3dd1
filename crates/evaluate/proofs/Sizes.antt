-- How large the numbers of a cell are after each stage, for corner records within their limits; and that every answer is below 2^24.
use mathlib.Core.Path.{◌≡◌, refl, sym, ap, subst, ◌∙◌}
use mathlib.Core.List.{List, [], ◌∷◌}
use Prim.Native.Nat.{ℕ, zero, suc, ◌+◌, ◌*◌, ◌-◌, ◌%◌, ◌^◌, ◌≤◌, ◌<◌}
use native.Mathlib.Nat.{le_trans, le_of_eq, zero-mod, mul-add-mod_self_left, not-suc-le-zero, lt_of_le_of_lt, mod-eq_of_lt, mod-lt}
use native.Mathlib.Omega.{arith}
use native.Mathlib.Decide.{ℕ_discrete}
use lib.Dec.{lit≤}
use lib.ListN.{length}
use lib.Pow.{pow-add}
use lib.IntN.{pos, nat_abs}
use Rattle.arith.specs.Int.{Rounding}
use Rattle.arith.specs.Sum.{total}
use Rattle.arith.proofs.Choices.{by-3}
use Rattle.arith.proofs.Round.{Sound}
use Rattle.arith.proofs.Abs.{abs-mul}
use Rattle.arith.proofs.Sums.{total_ext}
use Rattle.lattice.specs.Axes.{Place, Field, put, sweep}
use Rattle.lattice.specs.Records.{total_order, entry_limit}
use Rattle.lattice.proofs.Along.{put-at, put-off, put-swap, Each, Fresh, Distinct, last-first, length-order, length-axes}
use Rattle.hermite.proofs.Sizes.{eighth-size, unit_size}
use Rattle.cell.specs.Cell.{AtEnds, InCorners}
use Rattle.hermite.specs.Stage.{Smooth}
use Rattle.evaluate.specs.Evaluate.{Ask, order_wanted, order_on, last_axis, divisor_on, stage_on, to_eighth, to_unit, in_eighths, before, answer_by}
use Rattle.evaluate.proofs.AnswerLaws.{order-before, order-smooth, each-before, distinct-before, fresh-before, answer-anywhere}

-- ---- orders that are 0 on the axes worked off

-- p with place 0 on each axis of a list
unfoldable pub noughts : List ℕ → Place → Place
noughts [] p = p
noughts (a ∷ ls) p = noughts ls (put a 0 p)

noughts-put : (ls : List ℕ) (a s : ℕ) (p : Place) → Fresh a ls → noughts ls (put a s p) ≡ put a s (noughts ls p)
unfolding noughts
noughts-put [] a s p f = refl
noughts-put (b ∷ ls) a s p f = ap (noughts ls) (put-swap b a 0 s p (λ e. f.0 (sym e))) ∙ noughts-put ls a s (put b 0 p) f.1

-- the order on one axis, apart from the others
order-at : (m n a s : ℕ) (p : Place) → a < n → total_order m n (put a s p) ≡ s % m + total_order m n (put a 0 p)
unfolding total_order total
order-at m zero a s p l = absurd (not-suc-le-zero l)
order-at m (suc n) a s p l = go (λ k. order-at m n a s p k) (ℕ_discrete a n)
  where
    apart : {i n : ℕ} → i < n → i ≡ n → ⊥
    apart k e = omega arith

    below : (a n : ℕ) → a < suc n → (a ≡ n → ⊥) → a < n
    below a n l k = omega arith

    turn : (a n : ℕ) → (a ≡ n → ⊥) → n ≡ a → ⊥
    turn a n k e = k (sym e)

    go : (a < n → total n (λ b. put a s p b % m) ≡ s % m + total n (λ b. put a 0 p b % m)) → Dec (a ≡ n)
        → total n (λ b. put a s p b % m) + put a s p n % m ≡ s % m + (total n (λ b. put a 0 p b % m) + put a 0 p n % m)
    go r (yes e) =
        let f = total_ext n (λ b. put a s p b % m) (λ b. put a 0 p b % m)
        (λ i k. ap (λ (j : ℕ). j % m) (put-off a s i p (λ q. apart k (q ∙ e)) ∙ sym (put-off a 0 i p (λ q. apart k (q ∙ e))))) in
        let g : put a s p n % m ≡ s % m = ap (λ (j : ℕ). j % m) (subst (λ (i : ℕ). put a s p i ≡ s) e (put-at a s p)) in
        let h : put a 0 p n % m ≡ 0 = ap (λ (j : ℕ). j % m) (subst (λ (i : ℕ). put a 0 p i ≡ 0) e (put-at a 0 p)) ∙ zero-mod m in
        omega arith
    go r (no k) =
        let f = r (below a n l k) in
        let g : put a s p n % m ≡ put a 0 p n % m =
        ap (λ (j : ℕ). j % m) (put-off a s n p (turn a n k) ∙ sym (put-off a 0 n p (turn a n k))) in
        omega arith

-- each order is below m, so the other axes have at most m − 1 each
orders-most : (m n : ℕ) (p : Place) → 0 < m → total_order m n p ≤ (m - 1) * n
unfolding total_order total
orders-most m zero p h = omega arith
orders-most m (suc n) p h = let e = orders-most m n p h in let f = mod_below (p n) m h in omega arith
  where
    mod_below : (x m : ℕ) → 0 < m → x % m ≤ m - 1
    mod_below x m h = let k = mod-lt x h in omega arith

pub orders-left : (m n : ℕ) → 2 ≤ m → (ls : List ℕ) → Distinct ls → Each (λ a. a < n) ls → (p : Place)
    → total_order m n (noughts ls p) + (m - 1) * length ls ≤ (m - 1) * n
unfolding noughts
orders-left m n h [] d e p = let k = orders-most m n p (omega arith) in omega arith
orders-left m n h (a ∷ ls) d e p =
    let k = orders-left m n h ls d.1 e.1 (put a (m - 1) p) in
    let o = ap (total_order m n) (noughts-put ls a (m - 1) p d.0) ∙ order-at m n a (m - 1) (noughts ls p) e.0 in
    let z = ap (total_order m n) (noughts-put ls a 0 p d.0) in
    let r : (m - 1) % m ≡ m - 1 = mod-eq_of_lt (omega arith) in
    omega arith

-- ---- all stages

-- in eighths, after k stages: 2^18, doubled with each stage
unfoldable pub cap : ℕ → ℕ
cap zero = 262144
cap (suc k) = 2 * cap k

-- moved along a used axis to a number of the cell, a corner's entry stays one
pub corners-put : {m n : ℕ} {cell : Place} (a t : ℕ) (p : Place) → a < n → t < 2 * m → InCorners m n cell p
    → InCorners m n cell (put a (m * cell a + t) p)
corners-put {m} {n} {cell} a t p l k h =
    record { used = λ b i. one b i (ℕ_discrete b a); unused = λ b i. put-off a (m * cell a + t) b p (apart b i) ∙ h.unused b i }
  where
    apart : (b : ℕ) → n ≤ b → b ≡ a → ⊥
    apart b i e = omega arith

    here : AtEnds m (cell a) (m * cell a + t)
    here = record { low = omega arith; high = omega arith }

    one : (b : ℕ) → b < n → Dec (b ≡ a) → AtEnds m (cell b) (put a (m * cell a + t) p b)
    one b i (yes e) = subst (λ (c : ℕ). AtEnds m (cell c) (put a (m * cell a + t) p c)) (sym e)
        (subst (AtEnds m (cell a)) (sym (put-at a (m * cell a + t) p)) here)
    one b i (no e) = subst (AtEnds m (cell b)) (sym (put-off a (m * cell a + t) b p e)) (h.used b i)

module _ (round : Rounding) (sound : Sound round) (q : Ask) (smooth : Smooth (order_wanted q.want) q.m) (m2 : 2 ≤ q.m) (m3 : q.m ≤ 3)
    (some : (a : ℕ) → 0 < q.N a) (g : Field)
    (limited : (p : Place) → InCorners q.m q.n q.cell p → nat_abs (g p) ≤ entry_limit q.m q.n p) where
  -- the bound at a place after the stages of a list
  abbrev pub bound : List ℕ → Place → ℕ
  bound ls p = cap (length ls) * 2 ^ total_order q.m q.n (noughts ls p)

  abbrev got : List ℕ → Field
  got ls = sweep ls (to_eighth round q) (in_eighths g)

  -- what a stage reads is within its bound, doubled with each order of its axis
  reads : (ls : List ℕ) (a : ℕ) (p : Place) → Fresh a ls → a < q.n → InCorners q.m q.n q.cell p
      → ((p : Place) → InCorners q.m q.n q.cell p → nat_abs (got ls p) ≤ bound ls p)
      → (t : ℕ) → t < 2 * q.m → nat_abs (got ls (put a (q.m * q.cell a + t) p)) ≤ bound ls (put a 0 p) * 2 ^ (t % q.m)
  reads ls a p fresh l h small t k =
      le_trans (small (put a (q.m * q.cell a + t) p) (corners-put a t p l k h))
      (le_of_eq (regroup (cap (length ls)) (2 ^ total_order q.m q.n (noughts ls (put a (q.m * q.cell a + t) p))) (2 ^ (t % q.m))
      (2 ^ total_order q.m q.n (noughts ls (put a 0 p)))
      (ap (λ (i : ℕ). 2 ^ i) order ∙ pow-add 2 (t % q.m) (total_order q.m q.n (noughts ls (put a 0 p))))))
    where
      regroup : (c x y z : ℕ) → x ≡ y * z → c * x ≡ c * z * y
      regroup c x y z e = rw e (omega arith)

      order : total_order q.m q.n (noughts ls (put a (q.m * q.cell a + t) p)) ≡ t % q.m + total_order q.m q.n
          (noughts ls (put a 0 p))
      order =
          ap (total_order q.m q.n) (noughts-put ls a (q.m * q.cell a + t) p fresh)
          ∙ order-at q.m q.n a (q.m * q.cell a + t) (noughts ls p) l
          ∙ ap (λ (i : ℕ). i + total_order q.m q.n (put a 0 (noughts ls p))) (mul-add-mod_self_left q.m (q.cell a) t)
          ∙ ap (λ (z : Place). t % q.m + total_order q.m q.n z) (sym (noughts-put ls a 0 p fresh))

  -- an axis before the last: no derivative, a step of the cell, and used
  pub record Plain (a : ℕ) : Type 0 where
    pub plain : order_on q.want a ≡ 0
    pub step : q.step a ≤ q.N a
    pub used : a < q.n

  pub stages-size : (ls : List ℕ) → Distinct ls → Each Plain ls → (p : Place) → InCorners q.m q.n q.cell p
      → nat_abs (got ls p) ≤ bound ls p
  unfolding sweep in_eighths to_eighth stage_on divisor_on noughts cap entry_limit
  stages-size [] d e p h = le_trans (le_of_eq (abs-mul (pos 8) (g p))) (let k = limited p h in omega arith)
  stages-size (a ∷ ls) d e p h =
      le_trans
      (eighth-size (order_on q.want a) q.m (q.N a) (q.cell a) (q.step a) (λ t. got ls (put a t p)) (bound ls (put a 0 p))
      (reads ls a p d.0 e.0.used h (stages-size ls d.1 e.1))
      round sound (order-smooth q.want a q.m smooth) m2 m3 (some a) e.0.step (p a) e.0.plain)
      (le_of_eq (regroup (cap (length ls)) (2 ^ total_order q.m q.n (noughts ls (put a 0 p)))))
    where
      regroup : (c w : ℕ) → 2 * (c * w) ≡ 2 * c * w
      regroup c w = omega arith

  -- what the stage of an axis reads, after those of a list
  pub reads-size : (ls : List ℕ) → Distinct ls → Each Plain ls → (a : ℕ) → Fresh a ls → a < q.n → (p : Place)
      → InCorners q.m q.n q.cell p
      → (t : ℕ) → t < 2 * q.m → nat_abs (got ls (put a (q.m * q.cell a + t) p)) ≤ bound ls (put a 0 p) * 2 ^ (t % q.m)
  reads-size ls d e a f l p h = reads ls a p f l h (stages-size ls d e)

  -- ---- the answer

  module _ (last : last_axis q.n q.want < q.n) (steps-in : (a : ℕ) → a < q.n → q.step a ≤ q.N a)
      (none : (a : ℕ) → q.n ≤ a → q.cell a ≡ 0) where
    abbrev l : ℕ
    l = last_axis q.n q.want

    -- the low corner's value
    pub corner : Place
    corner a = q.m * q.cell a

    pub corner-none : (a : ℕ) → q.n ≤ a → corner a ≡ 0
    unfolding corner
    corner-none a h = rw (none a h) (omega arith)

    pub corner-in : InCorners q.m q.n q.cell corner
    unfolding corner
    corner-in = record { used = λ a i. record { low = omega arith; high = omega arith }; unused = corner-none }

    pub plain-before : Each Plain (before q)
    plain-before = each-before q Plain (λ a i n. record { plain = order-before q.want a q.n n; step = steps-in a i; used = i })

    pub stages-before : q.n ≡ suc (length (before q))
    unfolding before
    stages-before = sym (length-axes q.n) ∙ length-order (last-first q.n l last)

    -- nine times the bound after the stages before the last, in units
    answer-size : nat_abs (answer_by round q g) ≤ 9 * bound (before q) (put l 0 corner)
    unfolding to_unit stage_on divisor_on
    answer-size =
        le_trans (le_of_eq (ap nat_abs (answer-anywhere round q g corner corner-none)))
        (unit_size (order_on q.want l) q.m (q.N l) (q.cell l) (q.step l) (λ t. got (before q) (put l t corner))
        (bound (before q) (put l 0 corner))
        (reads-size (before q) (distinct-before q) plain-before l (fresh-before q) last corner corner-in) round sound
        (order-smooth q.want l q.m smooth) m2 m3 (some l) (steps-in l last) (corner l))

    no-order : total_order q.m q.n (noughts (before q) (put l 0 corner)) ≡ 0
    unfolding noughts
    no-order =
        let h = orders-left q.m q.n m2 (l ∷ before q) (fresh-before q, distinct-before q)
        (last, below (before q) plain-before) corner in
        let e = stages-before in
        let f : (q.m - 1) * q.n ≡ (q.m - 1) * suc (length (before q)) = ap (λ (i : ℕ). (q.m - 1) * i) e in
        omega arith
      where
        below : (ls : List ℕ) → Each Plain ls → Each (λ a. a < q.n) ls
        below [] h = tt
        below (a ∷ ls) h = (h.0.used, below ls h.1)

    few : (k : ℕ) → k < 3 → 9 * (cap k * 2 ^ 0) < 2 ^ 24
    unfolding cap
    few = by-3 (λ k. 9 * (cap k * 2 ^ 0) < 2 ^ 24) (lit≤ tt) (lit≤ tt) (lit≤ tt)

    pub answer-below : q.n ≤ 3 → nat_abs (answer_by round q g) < 2 ^ 24
    answer-below n3 =
        lt_of_le_of_lt answer-size
        (subst (λ (i : ℕ). 9 * (cap (length (before q)) * 2 ^ i) < 2 ^ 24) (sym no-order)
        (few (length (before q)) (subst (λ (i : ℕ). i ≤ 3) stages-before n3)))
