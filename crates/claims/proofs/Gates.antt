-- The tests of 14, 10, 23, 22 and 11 of the three kinds of query: what they say of the query's point and of the cell that it reads, and
-- where they are passed.
use mathlib.Core.Path.{◌≡◌, refl, sym, ap, ◌∙◌}
use mathlib.Core.Bool.{Bool, true, ◌||◌}
use mathlib.Core.List.{List}
use Prim.Native.Nat.{ℕ, ◌+◌, ◌*◌, ◌-◌, ◌≤◌, ◌<◌}
use native.Mathlib.Nat.{mul-zero, mul-le-mul_left}
use native.Mathlib.Omega.{arith}
use native.Mathlib.Decide.{dec_lt}
use lib.Dec.{leb, ltb, eqb, leb→le}
use lib.Ieee.{Float}
use lib.Ieee.Scale.{finite}
use lib.IntN.{ℤ, pos, negsuc, nat_abs, ◌-ℤ◌}
use lib.Signed.{◌≤ℤ◌, non_neg}
use borrow.Author.Tests.{le-ltb}
use Rattle.arith.specs.Choice.{pick}
use Rattle.arith.proofs.Choices.{clash, pick-false}
use Rattle.arith.proofs.Order.{nn-pos}
use Rattle.lattice.specs.declared.Shape.{Shape}
use Rattle.lattice.specs.declared.FullShape.{FullShape}
use Rattle.lattice.specs.Outcome.{Check, done, refuse_unless, first, first_of}
use Rattle.lattice.specs.Buffer.{at}
use Rattle.lattice.specs.Shape.{count, steps_on, step_number, full_outcome, Shaped}
use Rattle.lattice.specs.Axes.{Place, OnUsed}
use Rattle.lattice.proofs.OutcomeLaws.{first_done, first-passed, first-assoc, passes, first_of-each, first_of-passes, first_of-same}
use Rattle.lattice.proofs.ShapeLaws.{shaped}
use Rattle.lattice.proofs.StepLaws.{by-step-number, full-shape}
use Rattle.cell.specs.Cell.{place_at, cell_outcome, Accepted}
use Rattle.cell.proofs.CellLaws.{accepted, cell-passes}
use Rattle.floats.specs.Step.{step}
use Rattle.evaluate.specs.Evaluate.{Want}
use Rattle.query.specs.Queries.{Position, position_at, asked_outcome, tested_outcome, reading, position_test, steps_outcome, position_outcome, cell_of, position_cell, position_step, by_cell, by_position}
use Rattle.query.proofs.QueryLaws.{test-passes, steps-known, steps-pass, position-range, in_cell as in-cell}
use Rattle.query.proofs.Locate.{cell-none}
use Rattle.float_query.specs.Floats.{float_steps, steps_of, float_outcome, by_float}
use Rattle.claims.specs.Third.{Query, at_position, in_cell, at_floats, queried, point_of, cell_read, step_read, Point, Contains, NearCell, recounted, resized, AgreeOnBlock, Inside, Reads}
use Rattle.claims.proofs.General.{less, le-pos, leb-same, number-used}

-- ---- one form for all queries

unfoldable pub gate : FullShape → Query → Check
gate t (at_position p) = first_of 3 (position_outcome t (position_at p))
gate t (in_cell cell u) = first (cell_outcome t.shape (place_at cell)) (steps_outcome t (place_at u))
gate t (at_floats x) = first_of 3 (float_outcome t x)

pub by-gate : (t : FullShape) (rs : List ℤ) (want : Want) (q : Query)
    → queried t rs want q ≡ first (asked_outcome t rs want) (first (gate t q) (reading t rs want (cell_read t q) (step_read t q)))
unfolding queried gate cell_read step_read by_cell tested_outcome by_position by_float
by-gate t rs want (at_position p) = refl
by-gate t rs want (in_cell cell u) =
    first-assoc (asked_outcome t rs want) (first (cell_outcome t.shape (place_at cell)) (steps_outcome t (place_at u)))
    (reading t rs want (place_at cell) (place_at u))
by-gate t rs want (at_floats x) = refl

-- ---- a cell and u

-- the point lies between the cell's nodes, on an axis of N steps a cell
between : (N c u n : ℕ) → c + 2 ≤ n → u ≤ N → N * c + u ≤ N * (n - 1)
between N c u n h k = let i : c + 1 ≤ n - 1 = omega arith in let p = mul-le-mul_left N i in omega arith

cell-reads : (t : FullShape) (cell u : Place) → Accepted t.shape cell → OnUsed t.shape.axes (λ a i. i ≤ steps_on t a) u
    → Point t (λ a. pos (steps_on t a * cell a + u a)) × Contains t cell u (λ a. pos (steps_on t a * cell a + u a))
cell-reads t cell u h k = (
  record {
    low = λ a l. nn-pos (steps_on t a * cell a + u a);
    high = λ a l. le-pos (between (steps_on t a) (cell a) (u a) (count t.shape a) (h.used a l) (k.used a l));
    unused = λ a l. ap pos (rw (h.unused a l, k.unused a l, mul-zero (steps_on t a)) refl);
  },
  record { is = λ a l. less (steps_on t a * cell a) (u a); upto = k.used },
)

-- ---- a position

-- a number from 0 to a limit, by the tests on one axis
range-test : (z : ℤ) (B : ℕ) → pos 0 ≤ℤ z → z ≤ℤ pos B → (non_neg z ≡ true) × (nat_abs z ≤ B)
range-test (pos n) B h k = (refl, leb→le n B k.le)
range-test (negsuc n) B h k = absurd h.le

range-known : (z : ℤ) (B : ℕ) → non_neg z ≡ true → nat_abs z ≤ B → (pos 0 ≤ℤ z) × (z ≤ℤ pos B)
range-known (pos n) B h k = (nn-pos n, le-pos k)
range-known (negsuc n) B h k = clash (cc)

whole : (z : ℤ) (B : ℕ) → pos 0 ≤ℤ z → z ≤ℤ pos B → (z ≡ pos (nat_abs z)) × (nat_abs z ≤ B)
whole (pos n) B h k = (refl, leb→le n B k.le)
whole (negsuc n) B h k = absurd h.le

-- an accepted table
module _ (t : FullShape) (full : full_outcome t ≡ done tt) where
  abbrev s : Shape
  s = t.shape

  ok : Shaped s
  ok = shaped s (full-shape t full)

  below : {a : ℕ} → a < s.axes → a < 3
  below l = let k = ok.axes-high in omega arith

  abbrev last : ℕ → ℕ
  last a = steps_on t a * (count s a - 1)

  -- the last position of an unused axis is 0
  last_none : (a : ℕ) → a < 3 → s.axes ≤ a → last a ≡ 0
  last_none a l k = rw (ok.unused a l k) (mul-zero (steps_on t a))

  module _ (p : Position) where
    point-passes : Point t p → first_of 3 (position_outcome t p) ≡ done tt
    unfolding position_outcome
    point-passes h = first_of-passes 3 (position_outcome t p) (λ a l. go a (dec_lt a s.axes))
      where
        go : (a : ℕ) → Dec (a < s.axes) → position_test s (last a) (p a) a ≡ done tt
        go a (yes l) =
            let f = range-test (p a) (last a) (h.low a l) (h.high a l) in
            test-passes s (last a) (p a) a f.0 f.1 (λ k. absurd (omega arith))
        go a (no k) = rw (h.unused a (omega arith)) (test-passes s (last a) (pos 0) a refl (omega arith) (λ l. refl))

    module _ (beyond : (a : ℕ) → 3 ≤ a → p a ≡ pos 0) (h : first_of 3 (position_outcome t p) ≡ done tt) where
      tested : (a : ℕ) → a < 3 → (pos 0 ≤ℤ p a) × (p a ≤ℤ pos (last a))
      tested a l = let f = position-range t p h a l in range-known (p a) (last a) f.0 f.1

      point-known : Point t p
      point-known = record {
        low = λ a l. (tested a (below l)).0;
        high = λ a l. (tested a (below l)).1;
        unused = λ a l. go a l (dec_lt a 3);
      }
        where
          go : (a : ℕ) → s.axes ≤ a → Dec (a < 3) → p a ≡ pos 0
          go a l (yes k) =
              let f = whole (p a) (last a) (tested a k).0 (tested a k).1 in
              let e = last_none a k l in
              f.0 ∙ ap pos (let i = f.1 in omega arith)
          go a l (no k) = beyond a (omega arith)

    module _ (h : Point t p) where
      abbrev P : ℕ → ℕ
      P a = nat_abs (p a)

      held : (a : ℕ) → a < s.axes → (cell_of (steps_on t a) (count s a) (P a) + 2 ≤ count s a)
          × (steps_on t a * cell_of (steps_on t a) (count s a) (P a) ≤ P a)
          × (P a - steps_on t a * cell_of (steps_on t a) (count s a) (P a) ≤ steps_on t a)
      held a l =
          in-cell (steps_on t a) (number-used t full a l) (count s a) (P a) (ok.used a l)
          (whole (p a) (last a) (h.low a l) (h.high a l)).1

      position-cell : Accepted s (position_cell t p)
      unfolding position_cell
      position-cell = record {
        used = λ a l. (held a l).0;
        unused = λ a l. cell-none (steps_on t a) (count s a) (P a) (ap nat_abs (h.unused a l));
      }

      position-contains : Contains t (position_cell t p) (position_step t p) p
      unfolding position_cell position_step
      position-contains = record {
        is = λ a l. is a (whole (p a) (last a) (h.low a l) (h.high a l)).0 (held a l).1;
        upto = λ a l. (held a l).2;
      }
        where
          is : (a : ℕ) → p a ≡ pos (P a) → steps_on t a * position_cell t p a ≤ P a
              → p a -ℤ pos (steps_on t a * position_cell t p a) ≡ pos (position_step t p a)
          is a e k =
              let f : P a ≡ steps_on t a * position_cell t p a + position_step t p a = rest (P a) (steps_on t a * position_cell t p a) k in
              ap (λ (z : ℤ). z -ℤ pos (steps_on t a * position_cell t p a)) (e ∙ ap pos f)
              ∙ less (steps_on t a * position_cell t p a) (position_step t p a)
            where
              rest : (n c : ℕ) → c ≤ n → n ≡ c + (n - c)
              rest n c h = omega arith

  -- ---- floats

  module _ (x : ℕ → Float) where
    floats-pass : ((a : ℕ) → a < 3 → finite (x a) ≡ true) → first_of 3 (position_outcome t (steps_of t x)) ≡ done tt
        → first_of 3 (float_outcome t x) ≡ done tt
    unfolding float_outcome
    floats-pass f h = first_of-passes 3 (float_outcome t x)
        (λ a l. first-passed (refuse_unless (finite (x a)) 10 a) (position_outcome t (steps_of t x) a) (passes (finite (x a)) 10 a (f a l))
        ∙ first_of-each 3 (position_outcome t (steps_of t x)) h a l)

    float-positions : first_of 3 (float_outcome t x) ≡ done tt → first_of 3 (position_outcome t (steps_of t x)) ≡ done tt
    unfolding float_outcome
    float-positions h =
        first_of-passes 3 (position_outcome t (steps_of t x))
        (λ a l. (first_done (refuse_unless (finite (x a)) 10 a) (position_outcome t (steps_of t x) a) tt
        (first_of-each 3 (float_outcome t x) h a l)).1)

  -- ---- all queries

  -- a query whose tests are passed reads an accepted cell, which contains its point
  pub gated : (q : Query) → gate t q ≡ done tt → Reads t q
  unfolding gate point_of cell_read step_read position_at steps_of
  gated (at_position xs) h =
      let k = point-known (position_at xs) (λ a l. pick-false (ltb a 3) (at xs a) (pos 0) (le-ltb a 3 l)) h in
      record { point = k; accepted = position-cell (position_at xs) k; contains = position-contains (position_at xs) k }
  gated (in_cell cell u) h =
      let f = first_done (cell_outcome s (place_at cell)) (steps_outcome t (place_at u)) tt h in
      let k = accepted s cell ok.axes-high f.0 in
      let r = cell-reads t (place_at cell) (place_at u) k (steps-known t u ok.axes-high f.1) in
      record { point = r.0; accepted = k; contains = r.1 }
  gated (at_floats x) h =
      let k = point-known (steps_of t x) (λ a l. pick-false (ltb a 3) (step (float_steps t a) (x a)) (pos 0) (le-ltb a 3 l))
      (float-positions x h) in
      record { point = k; accepted = position-cell (steps_of t x) k; contains = position-contains (steps_of t x) k }

  -- every step of the table, and every accepted cell with every u, passes
  pub gate-passes : (q : Query) → Inside t q → gate t q ≡ done tt
  unfolding gate Inside
  gate-passes (at_position xs) h = point-passes (position_at xs) h
  gate-passes (in_cell cell u) h =
      first-passed (cell_outcome s (place_at cell)) (steps_outcome t (place_at u))
      (cell-passes s (place_at cell) h.0.used (λ a l. h.0.unused a))
      ∙ steps-pass t (place_at u) h.1.used (λ a l. h.1.unused a)
  gate-passes (at_floats x) h = floats-pass x h.0 (point-passes (steps_of t x) h.1)

-- ---- a query that reads the same cell in a table of another size

-- a position of one table is a position of the other
fits : (N : ℕ) → step_number N ≡ true → (c d P : ℕ) → 2 ≤ c → 2 ≤ d → cell_of N d P ≡ cell_of N c P → P ≤ N * (c - 1) → P ≤ N * (d - 1)
unfolding cell_of
fits N ok c d P h k =
    by-step-number (λ N. cell_of N d P ≡ cell_of N c P → P ≤ N * (c - 1) → P ≤ N * (d - 1)) (λ e l. omega arith) (λ e l. omega arith)
    (λ e l. omega arith) (λ e l. omega arith) (λ e l. omega arith) N ok

module _ (t : FullShape) (full : full_outcome t ≡ done tt) (counts : List ℕ) (sized : Shaped (recounted t.shape counts)) where
  abbrev old : Shape
  old = t.shape

  abbrev new : Shape
  new = recounted t.shape counts

  abbrev other : FullShape
  other = resized t counts

  old_ok : Shaped old
  old_ok = shaped old (full-shape t full)

  abbrev N : ℕ → ℕ
  N = steps_on t

  positions-same : (p : Position) → position_cell other p ≡ position_cell t p → (a : ℕ) → a < 3
      → position_outcome t p a ≡ position_outcome other p a
  unfolding position_outcome position_test position_cell steps_on
  positions-same p e a l =
      ap (λ (b : Bool). first (refuse_unless (ltb a old.axes || eqb P 0) 23 a)
      (first (refuse_unless (non_neg (p a)) 22 a) (refuse_unless b 11 a)))
      (go (dec_lt a old.axes))
    where
      P : ℕ
      P = nat_abs (p a)

      here : cell_of (N a) (count new a) P ≡ cell_of (N a) (count old a) P
      here = ap (λ (f : Place). f a) e

      go : Dec (a < old.axes) → leb P (N a * (count old a - 1)) ≡ leb P (N a * (count new a - 1))
      go (yes k) =
          leb-same P (N a * (count old a - 1)) P (N a * (count new a - 1))
          (fits (N a) (number-used t full a k) (count old a) (count new a) P (old_ok.used a k) (sized.used a k) here)
          (fits (N a) (number-used t full a k) (count new a) (count old a) P (sized.used a k) (old_ok.used a k) (sym here))
      go (no k) = let n : old.axes ≤ a = omega (arith, k) in rw (old_ok.unused a l n, sized.unused a l n) refl

  cells_same : (cell : Place) (xs ys : List ℤ) → AgreeOnBlock old new cell xs ys → cell_outcome old cell ≡ cell_outcome new cell
  unfolding cell_outcome
  cells_same cell xs ys same = first_of-same 3 _ _ (λ a l. ap (λ (b : Bool). refuse_unless b 14 a) (go a (dec_lt a old.axes)))
    where
      -- the cell's upper node
      upper : (n d c : ℕ) → (NearCell n c (c + 1) → c + 1 < d) → c + 2 ≤ n → c + 2 ≤ d
      upper n d c f h = let k = f (record { low = omega arith; high = omega arith; there = omega arith }) in omega arith

      go : (a : ℕ) → Dec (a < old.axes)
          → pick (ltb a old.axes) (leb (cell a + 2) (count old a)) (eqb (cell a) 0)
          ≡ pick (ltb a old.axes) (leb (cell a + 2) (count new a)) (eqb (cell a) 0)
      go a (yes k) =
          ap (λ (b : Bool). pick (ltb a old.axes) b (eqb (cell a) 0))
          (leb-same (cell a + 2) (count old a) (cell a + 2) (count new a)
          (upper (count old a) (count new a) (cell a) (same.there a k (cell a + 1)))
          (upper (count new a) (count old a) (cell a) (same.back a k (cell a + 1))))
      go a (no k) = let e = le-ltb a old.axes (omega (arith, k)) in pick-false _ _ _ e ∙ sym (pick-false _ _ _ e)

  pub gate_same : (q : Query) (xs ys : List ℤ) → AgreeOnBlock old new (cell_read t q) xs ys → cell_read other q ≡ cell_read t q
      → gate t q ≡ gate other q
  unfolding gate cell_read float_outcome float_steps steps_of steps_outcome position_test steps_on
  gate_same (at_position p) xs ys same e =
      first_of-same 3 (position_outcome t (position_at p)) (position_outcome other (position_at p)) (positions-same (position_at p) e)
  gate_same (in_cell cell u) xs ys same e = ap (λ (o : Check). first o (steps_outcome t (place_at u)))
      (cells_same (place_at cell) xs ys same)
  gate_same (at_floats x) xs ys same e =
      first_of-same 3 (float_outcome t x) (float_outcome other x)
      (λ a l. ap (first (refuse_unless (finite (x a)) 10 a)) (positions-same (steps_of t x) e a l))

  pub step_same : (q : Query) → cell_read other q ≡ cell_read t q → step_read other q ≡ step_read t q
  unfolding cell_read step_read position_step float_steps steps_of steps_on
  step_same (at_position p) e = ap (λ (c : Place). λ a. nat_abs (position_at p a) - N a * c a) e
  step_same (in_cell cell u) e = refl
  step_same (at_floats x) e = ap (λ (c : Place). λ a. nat_abs (steps_of t x a) - N a * c a) e
