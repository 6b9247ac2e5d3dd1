-- An entry of the records by its node and its orders: it is what the passes along z, y and x give. An unused axis is one with a single
-- order, and the order of axes does not matter.
use mathlib.Core.Path.{◌≡◌, refl, sym, ap, subst, ◌∙◌, fun_ext}
use mathlib.Core.Logic.{⊎_elim}
use mathlib.Core.List.{List, [], ◌∷◌}
use Prim.Native.Nat.{ℕ, zero, suc, ◌+◌, ◌*◌, ◌/◌, ◌%◌, ◌^◌, ◌≤◌, ◌<◌}
use native.Mathlib.Nat.{add_comm, mod-one, div-one, zero-mod, zero-div, mod-lt, mod-eq_of_lt, mul-zero, eq-or-lt_of_le}
use native.Mathlib.Decide.{dec_lt}
use native.Mathlib.Omega.{arith}
use lib.Dec.{ltb, lit<}
use lib.IntN.{ℤ}
use borrow.Author.Tests.{lt-ltb, le-ltb}
use Rattle.arith.specs.Choice.{pick}
use Rattle.arith.proofs.Choices.{pick_true, pick-false, on-pick, by_n}
use Rattle.lattice.specs.declared.Shape.{Shape}
use Rattle.lattice.specs.Buffer.{at}
use Rattle.lattice.specs.Digits.{digit}
use Rattle.lattice.specs.Shape.{count, orders, entries, Shaped}
use Rattle.lattice.specs.Axes.{Place, Field, Rule, put, along, sweep, axes}
use Rattle.lattice.specs.Records.{samples_field, entry_place}
use Rattle.lattice.proofs.Along.{each-axes, Linear, sweep-rules, Reordered, under, swapped, and_then, sweep-order, put_same}
use Rattle.lattice.proofs.DigitsLaws.{digit-below, span-power, digit-beyond, digit-same, high-below, high_digit, low_digit}
use Rattle.lattice.proofs.ShapeLaws.{orders-range, pow-one, pow-two, pow-three, entries-pos}
use Rattle.lattice.proofs.RecordsLaws.{node-is}
use Rattle.estimate.specs.declared.Grid.{Grid}
use Rattle.estimate.specs.Estimate.{by_order, estimate, records, table_records}
use Rattle.estimate.specs.Passes.{grouped, orders_at, orders_on, grid_of, OrderCount, row_start, row_z, row_yz, row_of, row_on, record_size}
use Rattle.estimate.proofs.EstimateLaws.{estimate-linear}
use Rattle.estimate.proofs.PassesLaws.{group_of, member_of}

-- ---- a single order

-- the rule of a single order leaves a field as it is
single : (a c : ℕ) (g : Field) → along a (estimate 1 c) g ≡ g
unfolding estimate by_order
single a c g = fun_ext (λ p. rw (mod-one (p a), div-one (p a)) (ap g (put_same a p)))

module _ (s : Shape) where
  pub orders-used : (a : ℕ) → a < s.axes → orders_on s a ≡ orders s
  unfolding orders_on
  orders-used a l = pick_true (ltb a s.axes) (orders s) 1 (lt-ltb a s.axes l)

  pub orders-unused : (a : ℕ) → s.axes ≤ a → orders_on s a ≡ 1
  unfolding orders_on
  orders-unused a l = pick-false (ltb a s.axes) (orders s) 1 (le-ltb a s.axes l)

  abbrev rules : ℕ → Rule
  rules a = estimate (orders_on s a) (count s a)

  -- on the used axes, and on any further ones
  module _ (g : Field) where
    on-used : sweep (axes s.axes) rules g ≡ records (orders s) s.axes (count s) g
    unfolding records
    on-used =
        sweep-rules (axes s.axes) rules (λ a. estimate (orders s) (count s a)) g
        (each-axes s.axes (λ a. rules a ≡ estimate (orders s) (count s a))
        (λ a i. ap (λ (m : ℕ). estimate m (count s a)) (orders-used a i)))

    on-all : (k : ℕ) → s.axes ≤ k → sweep (axes k) rules g ≡ records (orders s) s.axes (count s) g
    unfolding sweep axes
    on-all zero l = let e : s.axes ≡ 0 = omega arith in
        subst (λ (k : ℕ). sweep (axes k) rules g ≡ records (orders s) s.axes (count s) g) e on-used
    on-all (suc k) l =
        ⊎_elim (λ (e : s.axes ≡ suc k). subst (λ (k : ℕ). sweep (axes k) rules g ≡ records (orders s) s.axes (count s) g) e on-used)
        (λ (h : s.axes < suc k). ap (λ (m : ℕ). along k (estimate m (count s k)) (sweep (axes k) rules g)) (orders-unused k (omega arith))
        ∙ single k (count s k) (sweep (axes k) rules g) ∙ on-all k (omega arith))
        (eq-or-lt_of_le l)

  -- x last
  reversed : Reordered (axes 3) (0 ∷ 1 ∷ 2 ∷ [])
  unfolding axes
  reversed = and_then (under (swapped (apart 0 1 (lit< tt))))
      (and_then (swapped (apart 0 2 (lit< tt))) (under (swapped (apart 1 2 (lit< tt)))))
    where
      apart : (a b : ℕ) → a < b → b ≡ a → ⊥
      apart a b l e = omega arith

  pub x-last : s.axes ≤ 3 → (xs : List ℤ)
      → table_records s xs ≡ along 0 (rules 0) (along 1 (rules 1) (along 2 (rules 2) (samples_field s xs)))
  unfolding table_records sweep
  x-last l xs = sym (on-all (samples_field s xs) 3 l) ∙ sweep-order reversed rules (λ a. linear a) (samples_field s xs)
    where
      linear : (a : ℕ) → Linear (rules a)
      linear a = estimate-linear (orders_on s a) (count s a)

-- ---- an entry by its node and its orders

module _ (s : Shape) (xs : List ℤ) where
  sample : ℕ → ℕ → ℕ → ℤ
  sample x y z = at xs (count s 0 * (y + count s 1 * z) + x)

  along-z : ℕ → ℕ → ℕ → ℕ → ℤ
  along-z c x y z = orders_at (count s 2) (λ v. sample x y v) z c

  along-y : ℕ → ℕ → ℕ → ℕ → ℕ → ℤ
  along-y b c x y z = orders_at (count s 1) (λ v. along-z c x v z) y b

  along-x : ℕ → ℕ → ℕ → ℕ → ℕ → ℕ → ℤ
  along-x a b c x y z = orders_at (count s 0) (λ v. along-y b c v y z) x a

  -- the definition
  defined : s.axes ≤ 3 → (p : Place)
      → table_records s xs p ≡ along-x (p 0 % orders_on s 0) (p 1 % orders_on s 1) (p 2 % orders_on s 2) (p 0 / orders_on s 0)
      (p 1 / orders_on s 1) (p 2 / orders_on s 2)
  unfolding samples_field estimate put pick sample along-z along-y along-x
  defined l p =
      ap (λ (f : Field). f p) (x-last s l xs)
      ∙ ap (λ (g : Field). along 0 (rules s 0) (along 1 (rules s 1) (along 2 (rules s 2) g)) p)
      (fun_ext (λ q. ap (at xs) (node-is s q ∙ add_comm (q 0) (count s 0 * (q 1 + count s 1 * q 2)))))

  -- the passes
  abbrev g : Grid
  g = grid_of s

  module _ (some : (a : ℕ) → 0 < orders_on s a) where
    passed-z : (x y z c : ℕ) → c < g.z.orders → row_z g xs y z (g.z.orders * x + c) ≡ along-z c x y z
    unfolding row_z grouped row_start grid_of along-z sample
    passed-z x y z c l = rw (high_digit (orders_on s 2) x c l, low_digit (orders_on s 2) x c l)

    passed-y : (x y z h : ℕ) → h < g.y.orders * g.z.orders → row_yz g xs y z (g.y.orders * g.z.orders * x + h) ≡ along-y (h % g.y.orders)
        (h / g.y.orders) x y z
    unfolding row_yz grouped grid_of along-y
    passed-y x y z h l =
        let k : h / orders_on s 1 < orders_on s 2 = high-below (some 1) l in
        rw (group_of (some 1) (orders_on s 2) x h, member_of (orders_on s 1) (orders_on s 2) x h)
        (ap (λ (f : ℕ → ℤ). orders_at (count s 1) f y (h % orders_on s 1)) (fun_ext (λ v. passed-z x v z (h / orders_on s 1) k)))

    passed : (x y z e : ℕ) → e < record_size g
        → row_on g (row_yz g xs y z) (record_size g * x + e) ≡ along-x (e % g.x.orders) (e / g.x.orders % g.y.orders)
        (e / g.x.orders / g.y.orders) x y z
    unfolding row_of grouped grid_of along-x
    passed x y z e l =
        let k : e / orders_on s 0 < orders_on s 1 * orders_on s 2 = high-below (some 0) l in
        rw (
          group_of (some 0) (orders_on s 1 * orders_on s 2) x e,
          member_of (orders_on s 0) (orders_on s 1 * orders_on s 2) x e,
          high_digit (orders_on s 1 * orders_on s 2) x (e / orders_on s 0) k,
          low_digit (orders_on s 1 * orders_on s 2) x (e / orders_on s 0) k,
        )
        (ap (λ (f : ℕ → ℤ). orders_at (count s 0) f x (e % orders_on s 0)) (fun_ext (λ v. passed-y v y z (e / orders_on s 0) k)))

-- ---- the index of an entry

some-order : (s : Shape) → 0 < orders s
some-order s = let h = (orders-range s.degree).0 in omega arith

pub order-count : (s : Shape) (a : ℕ) → OrderCount (orders_on s a)
unfolding orders_on
order-count s a = on-pick OrderCount (ltb a s.axes) (orders s) 1 (λ e. (some-order s, (orders-range s.degree).1))
    (λ e. (omega arith, omega arith))

module _ (s : Shape) (ok : Shaped s) where
  orders-some : (a : ℕ) → 0 < orders_on s a
  orders-some a = (order-count s a).0

  pub record-size : record_size (grid_of s) ≡ entries s
  unfolding grid_of entries
  record-size =
      by_n (λ n. s.axes ≡ n → orders_on s 0 * (orders_on s 1 * orders_on s 2) ≡ orders s ^ n)
      (λ e. rw (orders-used s 0 (omega arith), orders-unused s 1 (omega arith), orders-unused s 2 (omega arith), pow-one) (omega arith))
      (λ e. rw (orders-used s 0 (omega arith), orders-used s 1 (omega arith), orders-unused s 2 (omega arith), pow-two) (omega arith))
      (λ e. rw (orders-used s 0 (omega arith), orders-used s 1 (omega arith), orders-used s 2 (omega arith), pow-three) (omega arith))
      s.axes ok.axes-low ok.axes-high refl

  module _ (i : ℕ) where
    -- the node's number, and the entry's in its record
    abbrev v : ℕ
    v = i / record_size (grid_of s)

    abbrev e : ℕ
    e = i % record_size (grid_of s)

    below : e < record_size (grid_of s)
    unfolding grid_of
    below = rw record-size (mod-lt i (entries-pos s))

    place_is : (a : ℕ) → entry_place s i a ≡ orders s * digit (count s) v a + digit (λ b. orders s) e a
    unfolding entry_place
    place_is a = rw record-size

    place-on : (a : ℕ) → a < 3 → (entry_place s i a / orders_on s a ≡ digit (count s) v a)
        × (entry_place s i a % orders_on s a ≡ digit (orders_on s) e a)
    unfolding entries
    place-on a l3 = go (dec_lt a s.axes)
      where
        o : ℕ
        o = digit (λ b. orders s) e a

        go : Dec (a < s.axes) → (entry_place s i a / orders_on s a ≡ digit (count s) v a)
            × (entry_place s i a % orders_on s a ≡ digit (orders_on s) e a)
        go (yes k) =
            let h : o < orders s = digit-below (λ b. orders s) e a (some-order s) in
            rw (place_is a, orders-used s a k) (
              high_digit (orders s) (digit (count s) v a) o h,
              low_digit (orders s) (digit (count s) v a) o h
                  ∙ digit-same (λ b. orders s) (orders_on s) e a (λ b h. sym (orders-used s b (omega arith))),
            )
        go (no k) =
            let u : s.axes ≤ a = omega (arith, k) in
            let n : digit (count s) v a ≡ 0 = omega (arith, digit-below (count s) v a (ok.low a l3), ok.unused a l3 u) in
            let d : digit (orders_on s) e a ≡ 0 = omega (arith, digit-below (orders_on s) e a (orders-some a), orders-unused s a u) in
            let z : o ≡ 0 = digit-beyond s.axes (λ b. orders s) e (rw (span-power (orders s) s.axes, ← record-size) below) a u in
            rw (place_is a, n, d, z, mul-zero (orders s)) (zero-div (orders_on s a), zero-mod (orders_on s a))

    -- the entry at its index is what the passes give
    pub entry-is : (xs : List ℤ) → let g : Grid = grid_of s in
        table_records s xs (entry_place s i) ≡ row_on g (row_yz g xs (v / g.x.count % g.y.count) (v / g.x.count / g.y.count % g.z.count))
        (record_size g * (v % g.x.count) + e)
    unfolding digit grid_of
    entry-is xs =
        let k : e / orders_on s 0 / orders_on s 1 < orders_on s 2 = high-below (orders-some 1) (high-below (orders-some 0) below) in
        let x = place-on 0 (lit< tt) in
        let y = place-on 1 (lit< tt) in
        let z = place-on 2 (lit< tt) in
        defined s xs ok.axes-high (entry_place s i)
        ∙ rw (x.0, y.0, z.0, x.1, y.1, z.1, mod-eq_of_lt k)
        (sym (passed s xs orders-some (v % count s 0) (v / count s 0 % count s 1) (v / count s 0 / count s 1 % count s 2) e below))
