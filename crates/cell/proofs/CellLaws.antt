-- Where the numbers of a cell stand in the records, by its layout; what the tests of a cell and its corners say.
use mathlib.Core.Path.{◌≡◌, refl, sym, ap, ◌∙◌, fun_ext}
use mathlib.Core.Bool.{Bool, true}
use mathlib.Core.List.{List, [], ◌∷◌}
use Prim.Native.Nat.{ℕ, ◌+◌, ◌*◌, ◌/◌, ◌%◌, ◌^◌, ◌≤◌, ◌<◌}
use native.Mathlib.Nat.{le_refl, le_of_lt, mul-le-mul, mul-add-div, mul-add-mod_self_left, mul-zero, zero-div, zero-mod, pow-zero, le_trans, div-lt_iff_lt-mul}
use native.Mathlib.Decide.{dec_lt}
use native.Mathlib.Omega.{arith}
use lib.Dec.{leb, ltb, eqb, lit<, lit≤}
use lib.ListN.{get_or}
use borrow.Author.Tests.{leb-true, eqb-true, lt-ltb, le-ltb, le-leb, eq-eqb}
use Rattle.arith.specs.Choice.{pick}
use Rattle.arith.proofs.Choices.{pick_true, pick-false, by_n, from-3}
use Rattle.lattice.specs.declared.Shape.{Shape}
use Rattle.lattice.specs.Outcome.{Check, done, refuse_unless, first_of}
use Rattle.lattice.specs.Digits.{number}
use Rattle.lattice.specs.Shape.{count, orders, entries, size, Shaped}
use Rattle.lattice.specs.Axes.{Place, OnUsed}
use Rattle.lattice.specs.Records.{node_number, entry_number, entry_index}
use Rattle.lattice.proofs.OutcomeLaws.{refuse-done, passes, first_of-each, first_of-passes}
use Rattle.lattice.proofs.ShapeLaws.{orders-range, entries-high, nodes-high, pow-one, pow-two}
use Rattle.lattice.proofs.RecordsLaws.{InTable, in_table, node-is, node-below, index_below}
use Rattle.cell.specs.Cell.{place_at, cell_outcome, Accepted, Laid, Small, base, node_stride, order_stride, offset}
use Rattle.cell.specs.declared.Layout.{Layout}

-- ---- refusal 14

pub place-beyond : (xs : List ℕ) (a : ℕ) → 3 ≤ a → place_at xs a ≡ 0
unfolding place_at
place-beyond xs a l = pick-false (ltb a 3) (get_or xs a 0) 0 (le-ltb a 3 l)

-- the place of three numbers
pub three : (x y z : ℕ) (f : Place) → x ≡ f 0 → y ≡ f 1 → z ≡ f 2 → ((a : ℕ) → 3 ≤ a → f a ≡ 0) → place_at (x ∷ y ∷ z ∷ []) ≡ f
unfolding place_at pick
three x y z f i j k none =
    fun_ext (from-3 (λ a. place_at (x ∷ y ∷ z ∷ []) a ≡ f a) i j k (λ a l. place-beyond (x ∷ y ∷ z ∷ []) a l ∙ sym (none a l)))

-- and of three numbers one by one
pub indices : (xs : List ℕ) → place_at (get_or xs 0 0 ∷ get_or xs 1 0 ∷ get_or xs 2 0 ∷ []) ≡ place_at xs
unfolding place_at pick
indices xs = three (get_or xs 0 0) (get_or xs 1 0) (get_or xs 2 0) (place_at xs) refl refl refl (place-beyond xs)

-- tests of three numbers: what `test` says on a used axis, 0 on an unused one
module _ (n number : ℕ) (test : ℕ → ℕ → Bool) where
  abbrev tests : Place → ℕ → Check
  tests p a = refuse_unless (pick (ltb a n) (test a (p a)) (eqb (p a) 0)) number a

  module _ (p : Place) (h : first_of 3 (tests p) ≡ done tt) where
    one-passed : (a : ℕ) → a < 3 → pick (ltb a n) (test a (p a)) (eqb (p a) 0) ≡ true
    one-passed a l = refuse-done (pick (ltb a n) (test a (p a)) (eqb (p a) 0)) number a (first_of-each 3 (tests p) h a l)

    pub used-passed : n ≤ 3 → (a : ℕ) → a < n → test a (p a) ≡ true
    used-passed high a l = sym (pick_true (ltb a n) (test a (p a)) (eqb (p a) 0) (lt-ltb a n l)) ∙ one-passed a (omega arith)

    unused-passed : (a : ℕ) → a < 3 → n ≤ a → p a ≡ 0
    unused-passed a l k = eqb-true (p a) 0 (sym (pick-false (ltb a n) (test a (p a)) (eqb (p a) 0) (le-ltb a n k)) ∙ one-passed a l)

  module _ (X : ℕ → ℕ → Type 0) where
    pub all-passed : ((a i : ℕ) → test a i ≡ true → X a i) → (xs : List ℕ) → n ≤ 3 → first_of 3 (tests (place_at xs)) ≡ done tt
        → OnUsed n X (place_at xs)
    all-passed f xs high h = record
        { used = λ a l. f a (place_at xs a) (used-passed (place_at xs) h high a l); unused = λ a k. other a k (dec_lt a 3) }
      where
        other : (a : ℕ) → n ≤ a → Dec (a < 3) → place_at xs a ≡ 0
        other a k (yes l) = unused-passed (place_at xs) h a l k
        other a k (no l) = place-beyond xs a (omega (arith, l))

    pub all_pass : ((a i : ℕ) → X a i → test a i ≡ true) → (p : Place) → ((a : ℕ) → a < n → X a (p a))
        → ((a : ℕ) → a < 3 → n ≤ a → p a ≡ 0) → first_of 3 (tests p) ≡ done tt
    all_pass f p used unused =
        first_of-passes 3 (tests p) (λ a l. passes (pick (ltb a n) (test a (p a)) (eqb (p a) 0)) number a (go a l (dec_lt a n)))
      where
        go : (a : ℕ) → a < 3 → Dec (a < n) → pick (ltb a n) (test a (p a)) (eqb (p a) 0) ≡ true
        go a l (yes k) = pick_true (ltb a n) (test a (p a)) (eqb (p a) 0) (lt-ltb a n k) ∙ f a (p a) (used a k)
        go a l (no k) = pick-false (ltb a n) (test a (p a)) (eqb (p a) 0) (le-ltb a n (omega arith))
            ∙ eq-eqb (p a) 0 (unused a l (omega arith))

-- a cell that is not refused 14, and back
pub accepted : (s : Shape) (xs : List ℕ) → s.axes ≤ 3 → cell_outcome s (place_at xs) ≡ done tt → Accepted s (place_at xs)
unfolding cell_outcome
accepted s = all-passed s.axes 14 (λ a i. leb (i + 2) (count s a)) (λ a i. i + 2 ≤ count s a) (λ a i. leb-true (i + 2) (count s a))

pub cell-passes : (s : Shape) (cell : Place) → ((a : ℕ) → a < s.axes → cell a + 2 ≤ count s a)
    → ((a : ℕ) → a < 3 → s.axes ≤ a → cell a ≡ 0) → cell_outcome s cell ≡ done tt
unfolding cell_outcome
cell-passes s = all_pass s.axes 14 (λ a i. leb (i + 2) (count s a)) (λ a i. i + 2 ≤ count s a) (λ a i. le-leb (i + 2) (count s a))

-- ---- the numbers of a cell

-- a number along each used axis, 0 along an unused one
pub record Numbers (s : Shape) (t : Place) : Type 0 where
  pub used : (a : ℕ) → a < s.axes → t a < 2 * orders s
  pub unused : (a : ℕ) → s.axes ≤ a → t a ≡ 0

-- number t of a cell, as a place of the records
abbrev pub placed : Shape → Place → Place → Place
placed s cell t a = orders s * cell a + t a

-- orders by number: a + m·(b + m·c), with 0 on unused axes
pub number_is : (m n : ℕ) (o : Place) → 1 ≤ n → n ≤ 3 → ((a : ℕ) → n ≤ a → o a ≡ 0) → number n (λ a. m) o ≡ o 0 + (o 1 * m + o 2 * (m * m))
unfolding number
number_is m n o low high none =
    by_n (λ (n : ℕ). ((a : ℕ) → n ≤ a → o a ≡ 0) → number n (λ a. m) o ≡ o 0 + (o 1 * m + o 2 * (m * m)))
    (λ h. let y = h 1 (lit≤ tt) in let z = h 2 (lit≤ tt) in rw (y, z) (omega arith))
    (λ h. let z = h 2 (lit≤ tt) in rw z (omega arith)) (λ h. omega arith) n low high none

-- the node's number and the entry's, apart
regroup : (x y z e f g k l E m o p q : ℕ) → (x + e + k * ((y + f) + l * (z + g))) * E + (o + (p * m + q * (m * m)))
    ≡ (x + k * (y + l * z)) * E + ((e * E + o * 1) + ((f * (k * E) + p * m) + (g * (l * (k * E)) + q * (m * m))))
regroup x y z e f g k l E m o p q = omega arith

module _ (s : Shape) (ok : Shaped s) (cell : Place) (here : Accepted s cell) (t : Place) (num : Numbers s t) where
  some : 0 < orders s
  some = let h = (orders-range s.degree).0 in omega arith

  placed-node : (a : ℕ) → placed s cell t a / orders s ≡ cell a + t a / orders s
  placed-node a = mul-add-div some (cell a) (t a)

  placed-order : (a : ℕ) → placed s cell t a % orders s ≡ t a % orders s
  placed-order a = mul-add-mod_self_left (orders s) (cell a) (t a)

  end_below : (a : ℕ) → a < s.axes → t a / orders s < 2
  end_below a l = (div-lt_iff_lt-mul some).1 (num.used a l)

  pub placed-none : (a : ℕ) → s.axes ≤ a → placed s cell t a ≡ 0
  placed-none a l = rw (here.unused a l, num.unused a l, mul-zero (orders s)) refl

  pub placed-in : InTable s (λ a. placed s cell t a / orders s)
  placed-in =
      in_table s (λ a. placed s cell t a / orders s) ok
      (λ a l. let e = placed-node a in let f = end_below a l in let g = here.used a l in omega arith)
      (λ a l. ap (λ (k : ℕ). k / orders s) (placed-none a l) ∙ zero-div (orders s))

  -- the index of a number of the cell
  pub entry_at : entry_index s (placed s cell t) ≡ base s cell + (offset s 0 (t 0) + (offset s 1 (t 1) + offset s 2 (t 2)))
  unfolding entry_index base offset node_stride order_stride entry_number
  entry_at =
      ap (λ (k : ℕ). k * entries s + number s.axes (λ a. orders s) (λ a. placed s cell t a % orders s))
      (node-is s (λ a. placed s cell t a / orders s))
      ∙ ap (λ (p : Place). (p 0 + count s 0 * (p 1 + count s 1 * p 2)) * entries s + number s.axes (λ a. orders s)
      (λ a. placed s cell t a % orders s)) (fun_ext placed-node)
      ∙ ap (λ (k : ℕ). node * entries s + k) order
      ∙ regroup (cell 0) (cell 1) (cell 2) (t 0 / orders s) (t 1 / orders s) (t 2 / orders s) (count s 0) (count s 1) (entries s)
      (orders s) (t 0 % orders s) (t 1 % orders s) (t 2 % orders s)
      ∙ ap (λ (k : ℕ). k * entries s + steps) (sym (node-is s cell))
      ∙ ap (λ (k : ℕ). node_number s cell * entries s + ((t 0 / orders s * entries s + t 0 % orders s * k) + rest))
      (sym (pow-zero (orders s)))
      ∙ ap (λ (k : ℕ). node_number s cell * entries
      s + (first_step + ((t 1 / orders s * (count s 0 * entries s) + t 1 % orders s * k)
      + (t 2 / orders s * (count s 1 * (count s 0 * entries s)) + t 2 % orders s * (orders s * orders s))))) (sym (pow-one (orders s)))
      ∙ ap (λ (k : ℕ). node_number s cell * entries
      s + (first_step + ((t 1 / orders s * (count s 0 * entries s) + t 1 % orders s * orders s ^ 1)
      + (t 2 / orders s * (count s 1 * (count s 0 * entries s)) + t 2 % orders s * k)))) (sym (pow-two (orders s)))
    where
      node : ℕ
      node = cell 0 + t 0 / orders s + count s 0 * ((cell 1 + t 1 / orders s) + count s 1 * (cell 2 + t 2 / orders s))

      rest : ℕ
      rest = (t 1 / orders s * (count s 0 * entries s) + t 1 % orders s * orders s)
          + (t 2 / orders s * (count s 1 * (count s 0 * entries s)) + t 2 % orders s * (orders s * orders s))

      steps : ℕ
      steps = (t 0 / orders s * entries s + t 0 % orders s * 1) + rest

      first_step : ℕ
      first_step = t 0 / orders s * entries s + t 0 % orders s * orders s ^ 0

      order : number s.axes (λ a. orders s)
          (λ a. placed s cell t a % orders s) ≡ t 0 % orders s + (t 1 % orders s * orders s + t 2 % orders s * (orders s * orders s))
      order =
          ap (λ (p : Place). number s.axes (λ a. orders s) p) (fun_ext placed-order)
          ∙ number_is (orders s) s.axes (λ a. t a % orders s) ok.axes-low ok.axes-high
          (λ a l. ap (λ (k : ℕ). k % orders s) (num.unused a l) ∙ zero-mod (orders s))

  pub entry-below : entry_index s (placed s cell t) < size s
  entry-below = index_below s (placed s cell t) placed-in placed-none

-- ---- the strides are small

far-high : (s : Shape) → Shaped s → (node_stride s 0 ≤ 27) × (node_stride s 1 ≤ 64 * 27) × (node_stride s 2 ≤ 64 * (64 * 27))
unfolding node_stride
far-high s ok =
    let x = entries-high s ok in
    let y = mul-le-mul {m₂ = 27} (ok.high 0 (lit< tt)) x in
    (x, y, mul-le-mul {m₂ = 1728} (ok.high 1 (lit< tt)) y)

pub base-in : (s : Shape) (cell : Place) → Shaped s → Accepted s cell → base s cell ≤ size s
unfolding base size
base-in s cell ok here = mul-le-mul (le_of_lt (node-below s cell within)) (le_refl (entries s))
  where
    within : InTable s cell
    within = in_table s cell ok (λ a l. let h = here.used a l in omega arith) here.unused

base-high : (s : Shape) (cell : Place) → Shaped s → Accepted s cell → base s cell ≤ 7077888
unfolding size
base-high s cell ok here = le_trans (base-in s cell ok here) (mul-le-mul (nodes-high s ok) (entries-high s ok))

pub laid-small : (s : Shape) (cell : Place) (l : Layout) → Shaped s → Accepted s cell → Laid s cell l → Small l
laid-small s cell l ok here laid =
    let f = far-high s ok in
    let b = base-high s cell ok here in
    let h = laid.base-is in
    let x = laid.stride-x in
    let y = laid.stride-y in
    let z = laid.stride-z in
    record { base-low = omega arith; x-low = omega arith; y-low = omega arith; z-low = omega arith }

-- and so are the steps from the low corner to corner c
pub record Steps (l : Layout) (c : ℕ) : Type 0 where
  pub x-step : c % 2 * get_or l.strides 0 0 ≤ 8 * 2 ^ 32
  pub y-step : c / 2 % 2 * get_or l.strides 1 0 ≤ 8 * 2 ^ 32
  pub z-step : c / 2 / 2 * get_or l.strides 2 0 ≤ 8 * 2 ^ 32

pub small-steps : (l : Layout) (c : ℕ) → (c < 8) × Small l → Steps l c
small-steps l c h =
    let q = h.0 in
    record {
      x-step = small (c % 2) (get_or l.strides 0 0) (omega arith) h.1.x-low;
      y-step = small (c / 2 % 2) (get_or l.strides 1 0) (omega arith) h.1.y-low;
      z-step = small (c / 2 / 2) (get_or l.strides 2 0) (omega arith) h.1.z-low;
    }
  where
    -- a digit below 8 times a stride
    small : (d f : ℕ) → d < 8 → f ≤ 2 ^ 32 → d * f ≤ 8 * 2 ^ 32
    small d f h k = mul-le-mul (le_of_lt h) k
