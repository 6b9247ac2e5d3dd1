-- Straight data: the exact interpolant is the expression, axis after axis; with the distance of the third demand, every dose and
-- derivative is near it.
use mathlib.Core.Path.{◌≡◌, refl, sym, ap, ap₂, subst, ◌∙◌, fun_ext}
use mathlib.Core.List.{List, [], ◌∷◌}
use Prim.Native.Nat.{ℕ, zero, suc, ◌+◌, ◌*◌, ◌-◌, ◌≤◌, ◌<◌}
use native.Mathlib.Nat.{add-zero, add-suc}
use native.Mathlib.Decide.{dec_lt}
use native.Mathlib.Omega.{arith}
use lib.Dec.{eqb}
use lib.IntN.{ℤ, pos, nat_abs, ◌+ℤ◌, ◌*ℤ◌}
use borrow.Author.Tests.{ne_eqb}
use Rattle.arith.specs.Choice.{pick}
use Rattle.arith.specs.Int.{Rounding}
use Rattle.arith.specs.Sum.{times}
use Rattle.arith.proofs.Round.{Sound}
use Rattle.arith.proofs.Editions.{edition-sound}
use Rattle.arith.proofs.Choices.{by-3, pick-false}
use Rattle.arith.proofs.Laws.{*ℤ-assoc, *ℤ-left-comm}
use Rattle.arith.proofs.Quote.{quotes, ring! }
use Rattle.lattice.specs.declared.Shape.{Shape}
use Rattle.lattice.specs.Shape.{rounding_in, count, steps_on, orders, Shaped}
use Rattle.lattice.specs.Axes.{Place, Field, Rule, origin, put, sweep, axes}
use Rattle.lattice.specs.Records.{samples_field}
use Rattle.lattice.proofs.Along.{linear-multiple, each-axes, fresh-axes, distinct-axes, sweep-fuse, same}
use Rattle.lattice.proofs.Local.{used, OnAxis, on-used}
use Rattle.lattice.proofs.ShapeLaws.{orders-range}
use Rattle.lattice.proofs.Straight.{LinearOn, Straightens, moved, ones, unused, Works, straight-sweep}
use Rattle.hermite.proofs.Sizes.{divisor-some}
use Rattle.hermite.proofs.HermiteLaws.{stage-linear}
use Rattle.hermite.proofs.Straight.{unit_of, coordinate_of, stage-line}
use Rattle.cell.specs.Cell.{Accepted}
use Rattle.estimate.specs.Estimate.{estimate, records, table_records}
use Rattle.estimate.proofs.EstimateLaws.{estimate-linear}
use Rattle.estimate.proofs.Straight.{estimate-line}
use Rattle.evaluate.specs.Evaluate.{Want, dose, derivative_along, order_wanted, Ask, order_on, stage_on, divisor_on, exact_sum, exact_divisor, answer_by, ask_of}
use Rattle.evaluate.proofs.Exact.{exact-stages}
use Rattle.evaluate.proofs.AnswerLaws.{order-smooth}
use Rattle.query.specs.Queries.{Position}
use Rattle.claims.specs.Third.{WithinDistance, allowed_distance, point_of, cell_read, step_read, Reads, asked, Askable}
use Rattle.claims.specs.Straight.{Expression, value_of, value_at, derivative, derivative_of, wanted_of, Straight, ExactlyStraight, NearlyStraight}
use Rattle.claims.proofs.General.{rejoined, steps-some, times-used}
use Rattle.claims.proofs.Distance.{distance, same-fraction}
use Rattle.claims.proofs.Demand.{permitted, full, known, Taken, taken, third-reads, proper}

-- ---- the expression

module _ (e : Expression) where
  abbrev Value : Place → Place → ℤ
  Value n x = value_at e n (λ a. pos (x a))

  -- all that it is made of
  abbrev numbers : Place → Place → List ℤ
  numbers n x = pos (n 0) ∷ pos (n 1) ∷ pos (n 2) ∷ pos (x 0) ∷ pos (x 1) ∷ pos (x 2) ∷ e.one ∷ e.x ∷ e.y ∷ e.z ∷ e.xy ∷ e.xz ∷ e.yz
      ∷ e.xyz ∷ []

  -- linear in the unit and the coordinate of each axis
  value-linear : (a : ℕ) → a < 3 → LinearOn Value a
  unfolding put pick value_of
  value-linear =
      by-3 (LinearOn Value)
      (λ n x v t. ring! (pos v ∷ pos t ∷ numbers n x)
      (record { left = search quotes depth 60 fits 8000; right = search quotes depth 60 fits 8000 }) tt)
      (λ n x v t. ring! (pos v ∷ pos t ∷ numbers n x)
      (record { left = search quotes depth 60 fits 8000; right = search quotes depth 60 fits 8000 }) tt)
      (λ n x v t. ring! (pos v ∷ pos t ∷ numbers n x)
      (record { left = search quotes depth 60 fits 8000; right = search quotes depth 60 fits 8000 }) tt)

  -- at the units and coordinates of a derivative of order k along axis l it is that derivative
  IsDerivative : ℕ → ℕ → Type 0
  IsDerivative k l = (N x : Place) → let order = order_on (derivative_along k l) in
      Value (λ a. unit_of (order a) (N a)) (λ a. coordinate_of (order a) (N a) (x a)) ≡ value_at (derivative_of k l e) N (λ a. pos (x a))

  -- the first has unit 0 and coordinate N on its axis, the second unit 0 and coordinate 0
  derivative-is : (k : ℕ) → k < 3 → (l : ℕ) → l < 3 → IsDerivative k l
  unfolding IsDerivative order_on pick unit_of coordinate_of derivative_of derivative value_of
  derivative-is =
      by-3 (λ k. (l : ℕ) → l < 3 → IsDerivative k l)
      (by-3 (IsDerivative 0) (λ N x. refl) (λ N x. refl) (λ N x. refl))
      (by-3 (IsDerivative 1)
      (λ N x. ring! (numbers N x) (record { left = search quotes depth 60 fits 8000; right = search quotes depth 60 fits 8000 }) tt)
      (λ N x. ring! (numbers N x) (record { left = search quotes depth 60 fits 8000; right = search quotes depth 60 fits 8000 }) tt)
      (λ N x. ring! (numbers N x) (record { left = search quotes depth 60 fits 8000; right = search quotes depth 60 fits 8000 }) tt))
      (by-3 (IsDerivative 2)
      (λ N x. ring! (numbers N x) (record { left = search quotes depth 60 fits 8000; right = search quotes depth 60 fits 8000 }) tt)
      (λ N x. ring! (numbers N x) (record { left = search quotes depth 60 fits 8000; right = search quotes depth 60 fits 8000 }) tt)
      (λ N x. ring! (numbers N x) (record { left = search quotes depth 60 fits 8000; right = search quotes depth 60 fits 8000 }) tt))

-- what is wanted: the units and coordinates by the order of the derivative on each axis
wanted-is : (s : Shape) (want : Want) → s.axes ≤ 3 → Askable s want → (e : Expression) (N x : Place)
    → Value e (λ a. unit_of (order_on want a) (N a)) (λ a. coordinate_of (order_on want a) (N a) (x a))
    ≡ value_at (wanted_of want e) N (λ a. pos (x a))
unfolding Askable wanted_of order_on unit_of coordinate_of IsDerivative
wanted-is s dose n3 can e N x = refl
wanted-is s (derivative_along order l) n3 can e N x =
    let used : l < s.axes = can.0 in
    let smooth : order < orders s = can.1 in
    let most = (orders-range s.degree).1 in
    derivative-is e order (omega arith) l (omega arith) N x

-- no derivative on an unused axis
order-unused : (s : Shape) (want : Want) → Askable s want → (a : ℕ) → s.axes ≤ a → order_on want a ≡ 0
unfolding Askable order_on
order-unused s dose can a h = refl
order-unused s (derivative_along order l) can a h = pick-false (eqb a l) order 0 (ne_eqb a l apart)
  where
    apart : a ≡ l → ⊥
    apart e = omega (arith, can.0)

-- ---- the exact interpolant

-- at the point x, which has coordinate 0 on an unused axis
module _ (s : Shape) (xs : List ℤ) (e : Expression) (want : Want) (N cell u x : Place) (n3 : s.axes ≤ 3) (straight : Straight s xs e)
    (can : Askable s want) (here : Accepted s cell) (inside : (a : ℕ) → a < s.axes → u a ≤ N a)
    (point : (a : ℕ) → a < s.axes → x a ≡ N a * cell a + u a) (none : (a : ℕ) → s.axes ≤ a → x a ≡ 0) where
  abbrev q : Ask
  q = ask_of s want N cell u

  abbrev m : ℕ
  m = orders s

  abbrev order : ℕ → ℕ
  order = order_on want

  -- estimation and the stage along an axis
  both : ℕ → Rule
  both a y = stage_on q a (estimate m (count s a) y)

  unit : Place
  unit a = unit_of (order a) (N a)

  coordinate : Place
  coordinate a = coordinate_of (order a) (N a) (x a)

  abbrev Node : ℕ → ℕ → Type 0
  Node = OnAxis s.axes (λ a i. i < count s a)

  straightens : (a : ℕ) → a < s.axes → Straightens (both a) (Node a) (unit a) (coordinate a) (N a) (divisor_on q a)
  unfolding both unit coordinate stage_on divisor_on
  straightens a l = record {
    multiple = λ z y j.
        ap (λ (f : ℕ → ℤ). stage_on q a f j) (fun_ext (λ i. linear-multiple (estimate-linear m (count s a)) z y i))
        ∙ linear-multiple (stage-linear (order a) m (N a) (cell a) (u a)) z (estimate m (count s a) y) j;
    is = λ A B y j line.
        stage-line (order a) m (N a) (cell a) (u a) (order-smooth want a m (permitted s want can)) (orders-range s.degree).0
        (orders-range s.degree).1 (inside a l) A B (estimate m (count s a) y)
        (λ i o h k. estimate-line (count s a) y A B (two (cell a) (count s a) (here.used a l))
        (λ i h. line i (λ l. h, λ k. absurd (not-both l k))) m i o (in_table (cell a) (count s a) i (here.used a l) k)) j
        ∙ ap (λ (i : ℕ). pos (divisor_on q a) *ℤ (pos (unit a) *ℤ A +ℤ pos (coordinate_of (order a) (N a) i) *ℤ B)) (sym (point a l));
  }
    where
      not-both : {n a : ℕ} → a < n → n ≤ a → ⊥
      not-both l k = omega arith

      two : (c n : ℕ) → c + 2 ≤ n → 2 ≤ n
      two c n h = omega arith

      in_table : (c n i : ℕ) → c + 2 ≤ n → i ≤ c + 1 → i < n
      in_table c n i h k = omega arith

  -- the exact sum, by both rules along each axis
  abbrev exact : ℤ
  exact = exact_sum q (table_records s xs)

  by_both : exact ≡ sweep (axes s.axes) both (samples_field s xs) origin
  unfolding both table_records records stage_on
  by_both =
      exact-stages q (axes s.axes) same (table_records s xs)
      ∙ ap (λ (h : Field). h origin)
      (sweep-fuse (axes s.axes) (distinct-axes s.axes) (stage_on q) (λ a. estimate m (count s a))
      (λ a. stage-linear (order a) m (N a) (cell a) (u a)) (λ a. estimate-linear m (count s a)) (samples_field s xs))

  -- over the first axes of the three
  Over : ℕ → Type 0
  Over j = exact *ℤ pos (times (axes j) N) ≡ Value e (moved (axes j) unit ones) (moved (axes j) coordinate origin) *ℤ pos (exact_divisor q)

  over-used : Over s.axes
  unfolding Over exact_divisor
  over-used =
      ap (λ z. z *ℤ pos (times (axes s.axes) N)) by_both
      ∙ straight-sweep (Value e) Node both unit coordinate N (divisor_on q) (samples_field s xs) (λ p h. straight p (on-used h))
      (axes s.axes) (distinct-axes s.axes)
      (each-axes s.axes (Works (Value e) Node both unit coordinate N (divisor_on q) (samples_field s xs) (λ p h. straight p (on-used h)))
      (λ a l. (value-linear e a (omega arith), straightens a l)))
      origin (λ b f. (λ l. absurd (used s.axes b l f), λ l. refl))

  over-more : (j : ℕ) → s.axes ≤ j → j < 3 → Over j → Over (suc j)
  unfolding Over axes times unit coordinate unit_of coordinate_of
  over-more j h k before =
      *ℤ-left-comm exact (pos (N j)) (pos (times (axes j) N))
      ∙ ap (λ z. pos (N j) *ℤ z) before
      ∙ sym (*ℤ-assoc (pos (N j)) (Value e (moved (axes j) unit ones) (moved (axes j) coordinate origin)) (pos (exact_divisor q)))
      ∙ ap (λ (i : ℕ). pos i *ℤ Value e (moved (axes j) unit ones) (moved (axes j) coordinate origin) *ℤ pos (exact_divisor q))
      (sym (ap (λ (o : ℕ). unit_of o (N j)) (order-unused s want can j h)))
      ∙ ap (λ z. z *ℤ pos (exact_divisor q))
      (sym (unused (Value e) (axes j) unit coordinate j (fresh-axes j j (omega arith)) (value-linear e j k)
      (ap (λ (o : ℕ). coordinate_of o (N j) (x j)) (order-unused s want can j h) ∙ none j h)))

  over-all : (d : ℕ) → s.axes + d ≤ 3 → Over (s.axes + d)
  over-all zero h = subst Over (sym (add-zero s.axes)) over-used
  over-all (suc d) h =
      subst Over (sym (add-suc s.axes d)) (over-more (s.axes + d) (omega arith) (omega arith) (over-all d (omega arith)))

  pub exact-at : exact *ℤ pos (N 0 * N 1 * N 2) ≡ value_at (wanted_of want e) N (λ a. pos (x a)) *ℤ pos (exact_divisor q)
  unfolding Over axes times moved put pick unit coordinate
  exact-at =
      let all : s.axes + (3 - s.axes) ≡ 3 = omega arith in
      let steps : N 0 * N 1 * N 2 ≡ N 2 * (N 1 * (N 0 * 1)) = omega arith in
      ap (λ (k : ℕ). exact *ℤ pos k) steps
      ∙ subst Over all (over-all (3 - s.axes) (omega arith))
      ∙ ap (λ z. z *ℤ pos (exact_divisor q)) (wanted-is s want n3 can e N x)

  -- whatever the rounding, the answer is near it
  pub near-at : (round : Rounding) → Sound round → Shaped s → ((a : ℕ) → a < s.axes → 0 < N a)
      → WithinDistance (allowed_distance (order_wanted want) s.axes) (answer_by round q (table_records s xs))
      (value_at (wanted_of want e) N (λ a. pos (x a))) (N 0 * N 1 * N 2)
  unfolding exact_divisor divisor_on
  near-at round sound ok stepped =
      same-fraction (allowed_distance (order_wanted want) s.axes) (answer_by round q (table_records s xs)) exact
      (value_at (wanted_of want e) N (λ a. pos (x a))) (exact_divisor q) (N 0 * N 1 * N 2)
      (times-used s.axes (divisor_on q) (λ a l. divisor-some (order a) m (N a) (stepped a l))) exact-at
      (distance round sound q (proper s want N cell u ok can stepped inside) (table_records s xs))

-- ---- the theorems

pub exactly-straight : ExactlyStraight
exactly-straight s xs e want N cell u ok straight can here inside =
    exact-at s xs e want N cell u (λ a. N a * cell a + u a) ok.axes-high straight can here inside.used (λ a l. refl)
    (λ a l. ap₂ (λ (c i : ℕ). N a * c + i) (here.unused a l) (inside.unused a l) ∙ omega arith)

pub nearly-straight : NearlyStraight
nearly-straight t xs old e want q v straight h =
    subst (λ z. WithinDistance (allowed_distance (order_wanted want) s.axes) z (value_at (wanted_of want e) N (point_of t q))
    (N 0 * N 1 * N 2))
    (sym k.is)
    (subst (λ (p : Position). WithinDistance (allowed_distance (order_wanted want) s.axes)
    (answer_by (rounding_in t) (asked t want q) (table_records s xs)) (value_at (wanted_of want e) N p) (N 0 * N 1 * N 2))
    (fun_ext (λ a. back a (dec_lt a s.axes)))
    (near-at s xs e want N (cell_read t q) (step_read t q) (λ a. nat_abs (point_of t q a)) ok.axes-high straight k.can
    r.accepted r.contains.upto (λ a l. ap nat_abs (point a l)) (λ a l. ap nat_abs (r.point.unused a l))
    (rounding_in t) (edition-sound t.second_edition) ok (steps-some t (full t xs old k.table))))
  where
    s : Shape
    s = t.shape

    N : Place
    N = steps_on t

    k : Taken t xs old want q v
    k = taken t xs old want q v h

    ok : Shaped s
    ok = (known t xs old k.table).shape

    r : Reads t q
    r = third-reads t xs old want q v h

    point : (a : ℕ) → a < s.axes → point_of t q a ≡ pos (N a * cell_read t q a + step_read t q a)
    point a l = sym (rejoined (point_of t q a) (N a * cell_read t q a) (step_read t q a) (r.contains.is a l))

    back : (a : ℕ) → Dec (a < s.axes) → pos (nat_abs (point_of t q a)) ≡ point_of t q a
    back a (yes l) = rw (point a l)
    back a (no l) = rw (r.point.unused a (omega arith))
