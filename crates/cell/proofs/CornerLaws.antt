-- The corners of a cell: where each entry stands and its limit, and what the limit test says of each.
use mathlib.Core.Path.{◌≡◌, refl, sym, ap, subst, ◌∙◌, fun_ext}
use mathlib.Core.List.{List}
use Prim.Native.Nat.{ℕ, ◌+◌, ◌*◌, ◌/◌, ◌%◌, ◌^◌, ◌≤◌, ◌<◌}
use native.Mathlib.Nat.{mul_comm, mod-lt, div-lt_iff_lt-mul, div-add-mod, mul-add-mod_self_left, mul-zero, pow-zero}
use native.Mathlib.Decide.{dec_lt}
use native.Mathlib.Omega.{arith}
use lib.Dec.{leb, ltb, lit<}
use lib.IntN.{ℤ, nat_abs}
use borrow.Author.Tests.{leb-true, le-leb, lt-ltb, le-ltb}
use Rattle.arith.specs.Sum.{total}
use Rattle.arith.specs.Choice.{pick}
use Rattle.arith.proofs.Choices.{pick_true, pick-false, by-m, by_n}
use Rattle.arith.proofs.Sums.{total_ext}
use Rattle.lattice.specs.declared.Shape.{Shape}
use Rattle.lattice.specs.Outcome.{Check, done, refuse_unless, first_of}
use Rattle.lattice.specs.Buffer.{at}
use Rattle.lattice.specs.Digits.{digit, span}
use Rattle.lattice.specs.Shape.{orders, entries, size, Shaped}
use Rattle.lattice.specs.Axes.{Place}
use Rattle.lattice.specs.Records.{entry_index, records_field, total_order, sample_limit, entry_limit}
use Rattle.lattice.proofs.OutcomeLaws.{refuse-done, passes, first_of-each, first_of-passes, first_of-same, first_of-rows}
use Rattle.lattice.proofs.DigitsLaws.{digit-below, digit-beyond, number-digit, span-power, high_digit, low_digit, pair-in, Digits}
use Rattle.lattice.proofs.ShapeLaws.{orders-range, entries-pos, pow-one, pow-two}
use Rattle.cell.specs.Cell.{corner_place, corner_entries, entry_outcome, corners_outcome, Accepted, base, node_stride, order_stride, offset, corner_start, limit_of, record_outcome, InCorners}
use Rattle.cell.specs.Coefficients.{coefficient_count}
use Rattle.cell.specs.Corners.{corner_numbers, corner_entry}
use Rattle.cell.proofs.CellLaws.{Numbers, placed, placed-none, entry_at, entry-below, number_is}
use Rattle.cell.proofs.NumberLaws.{count-split, numbers-in, entry_in, numbers-entry}

-- the orders of an entry
pub digits-total : (m n e : ℕ) → 2 ≤ m → m ≤ 3 → 1 ≤ n → n ≤ 3 → e < m ^ n → total n (digit (λ b. m) e) ≡ e % m + (e / m % m + e / m / m)
unfolding total digit
digits-total m n e a b low high =
    by-m (λ (m : ℕ). e < m ^ n → total n (digit (λ b. m) e) ≡ e % m + (e / m % m + e / m / m))
    (by_n (λ (n : ℕ). e < 2 ^ n → total n (digit (λ b. 2) e) ≡ e % 2 + (e / 2 % 2 + e / 2 / 2)) (λ h. omega arith) (λ h. omega arith)
    (λ h. omega arith) n low high)
    (by_n (λ (n : ℕ). e < 3 ^ n → total n (digit (λ b. 3) e) ≡ e % 3 + (e / 3 % 3 + e / 3 / 3)) (λ h. omega arith) (λ h. omega arith)
    (λ h. omega arith) n low high) m a b

-- the sums of the ends' and of the orders' steps
gather : (a b c p q r x y z m B : ℕ)
    → B + ((a * x + p * 1) + ((b * y + q * m) + (c * z + r * (m * m)))) ≡ B + (a * x + (b * y + c * z)) + (p + (q * m + r * (m * m)))
gather a b c p q r x y z m B = omega arith

module _ (s : Shape) where
  pub orders-some : 0 < orders s
  orders-some = let h = (orders-range s.degree).0 in omega arith

  module _ (cell : Place) (here : Accepted s cell) where
    -- entry i of the corners, in the table
    pub corner-placed : (i : ℕ) → i < coefficient_count (orders s) s.axes
        → corner_place s cell i ≡ placed s cell (corner_numbers (orders s) s.axes i)
    unfolding corner_place corner_numbers entries
    corner-placed i l = fun_ext (λ a. go a (dec_lt a s.axes))
      where
        end : ℕ → ℕ
        end a = digit (λ b. 2) (i / orders s ^ s.axes) a

        order : ℕ → ℕ
        order a = digit (λ b. orders s) (i % orders s ^ s.axes) a

        split : (m x d o : ℕ) → m * (x + d) + o ≡ m * x + (m * d + o)
        split m x d o = omega arith

        go : (a : ℕ) → Dec (a < s.axes)
            → pick (ltb a s.axes) (orders s * (cell a + end a) + order a) 0 ≡ orders s * cell a + (orders s * end a + order a)
        go a (yes h) =
            pick_true (ltb a s.axes) (orders s * (cell a + end a) + order a) 0 (lt-ltb a s.axes h)
            ∙ split (orders s) (cell a) (end a) (order a)
        go a (no h) =
            let k : s.axes ≤ a = omega (arith, h) in
            pick-false (ltb a s.axes) (orders s * (cell a + end a) + order a) 0 (le-ltb a s.axes k)
            ∙ sym (ap (λ (x : ℕ). orders s * x + (orders s * end a + order a)) (here.unused a k)
            ∙ ap (λ (x : ℕ). orders s * 0 + x) ((numbers-in (orders s) s.axes orders-some i l).unused a k)
            ∙ ap (λ (x : ℕ). x + 0) (mul-zero (orders s)))

    -- the entry of the numbers t
    pub entry-placed : (t : Place) → Digits s.axes (2 * orders s) t
        → corner_place s cell (corner_entry (orders s) s.axes t) ≡ placed s cell t
    entry-placed t d =
        corner-placed (corner_entry (orders s) s.axes t) (entry_in (orders s) s.axes orders-some t d)
        ∙ ap (placed s cell) (numbers-entry (orders s) s.axes orders-some t d)

module _ (s : Shape) (ok : Shaped s) (cell : Place) (here : Accepted s cell) (c e : ℕ) (hc : c < 2 ^ s.axes) (he : e < entries s) where
  end : Place
  end a = digit (λ b. 2) c a

  order : Place
  order a = digit (λ b. orders s) e a

  both : Place
  both a = orders s * end a + order a

  order-in : e < span s.axes (λ a. orders s)
  unfolding entries
  order-in = rw (span-power (orders s) s.axes) he

  end-in : c < span s.axes (λ a. 2)
  end-in = rw (span-power 2 s.axes) hc

  order-low : (a : ℕ) → order a < orders s
  unfolding order
  order-low a = digit-below (λ b. orders s) e a (let h = (orders-range s.degree).0 in omega arith)

  end_low : (a : ℕ) → end a < 2
  unfolding end
  end_low a = digit-below (λ b. 2) c a (lit< tt)

  t-end : (a : ℕ) → both a / orders s ≡ end a
  unfolding both
  t-end a = high_digit (orders s) (end a) (order a) (order-low a)

  t-order : (a : ℕ) → both a % orders s ≡ order a
  unfolding both
  t-order a = low_digit (orders s) (end a) (order a) (order-low a)

  corner-numbers : Numbers s both
  unfolding both end order
  corner-numbers = record {
    used = λ a l. pair-in (orders s) (end a) (order a) (order-low a) 2 (end_low a);
    unused =
        λ a l. rw
        (digit-beyond s.axes (λ b. 2) c end-in a l, digit-beyond s.axes (λ b. orders s) e order-in a l, mul-zero (orders s)) refl;
  }

  -- the place of the entry
  both-placed : corner_place s cell (entries s * c + e) ≡ placed s cell both
  unfolding corner_numbers both end order entries
  both-placed =
      corner-placed s cell here (entries s * c + e) index-low
      ∙ fun_ext (λ a.
      ap (λ (k : ℕ). orders s * cell a + (orders s * digit (λ b. 2) k a + digit (λ b. orders s) ((entries s * c + e) % entries s) a))
      (high_digit (entries s) c e he)
      ∙ ap (λ (k : ℕ). orders s * cell a + (orders s * end a + digit (λ b. orders s) k a)) (low_digit (entries s) c e he))
    where
      index-low : entries s * c + e < coefficient_count (orders s) s.axes
      index-low = rw (count-split (orders s) s.axes) (pair-in (entries s) c e he (2 ^ s.axes) hc)

  eight : c < 8
  eight = by_n (λ (n : ℕ). c < 2 ^ n → c < 8) (λ h. omega arith) (λ h. omega arith) (λ h. h) s.axes ok.axes-low ok.axes-high hc

  -- the index of the entry in the records
  pub corner-index : entry_index s (corner_place s cell (entries s * c + e)) ≡ corner_start s cell c + e
  unfolding offset order_stride corner_start end order digit
  corner-index =
      ap (entry_index s) both-placed ∙ entry_at s ok cell here both corner-numbers
      ∙ ap (λ (f : Place). offsets f (λ a. both a % orders s) (λ a. orders s ^ a)) (fun_ext t-end)
      ∙ ap (λ (f : Place). offsets end f (λ a. orders s ^ a)) (fun_ext t-order)
      ∙ ap (λ (k : ℕ). steps k (orders s ^ 1) (orders s ^ 2)) (pow-zero (orders s))
      ∙ ap (λ (k : ℕ). steps 1 k (orders s ^ 2)) (pow-one (orders s)) ∙ ap (λ (k : ℕ). steps 1 (orders s) k) (pow-two (orders s))
      ∙ gather (end 0) (end 1) (end 2) (order 0) (order 1) (order 2) (node_stride s 0) (node_stride s 1) (node_stride s 2) (orders s)
      (base s cell)
      ∙ ap (λ (k : ℕ). base s cell + (end 0 * node_stride s 0 + (end 1 * node_stride s 1 + end 2 * node_stride s 2)) + k) entry
      ∙ ap (λ (k : ℕ). base s cell + (end 0 * node_stride s 0 + (end 1 * node_stride s 1 + k * node_stride s 2)) + e) top
    where
      -- by the ends, the orders and what an order counts on each axis
      offsets : Place → Place → Place → ℕ
      offsets e o k =
          base s cell + ((e 0 * node_stride s 0 + o 0 * k 0) + ((e 1 * node_stride s 1 + o 1 * k 1) + (e 2 * node_stride s 2 + o 2 * k 2)))

      steps : ℕ → ℕ → ℕ → ℕ
      steps x y z =
          base s cell
          + ((end 0 * node_stride s 0 + order 0 * x) + ((end 1 * node_stride s 1 + order 1 * y) + (end 2 * node_stride s 2 + order 2 * z)))

      entry : order 0 + (order 1 * orders s + order 2 * (orders s * orders s)) ≡ e
      entry =
          sym (number_is (orders s) s.axes order ok.axes-low ok.axes-high
          (λ a l. digit-beyond s.axes (λ b. orders s) e order-in a l))
          ∙ number-digit s.axes (λ b. orders s) e order-in

      top : c / 2 / 2 % 2 ≡ c / 2 / 2
      top = let h = eight in omega arith

  pub corner-below : corner_start s cell c + e < size s
  corner-below =
      subst (λ (k : ℕ). k < size s) corner-index
      (subst (λ (p : Place). entry_index s p < size s) (sym both-placed) (entry-below s ok cell here both corner-numbers))

  -- its limit
  pub corner-limit : entry_limit (orders s) s.axes (corner_place s cell (entries s * c + e)) ≡ limit_of (orders s) e
  unfolding entry_limit limit_of total_order order entries
  corner-limit =
      ap (λ (p : Place). sample_limit * 2 ^ total s.axes (λ a. p a % orders s)) both-placed
      ∙ ap (λ (k : ℕ). sample_limit * 2 ^ k)
      (total_ext s.axes (λ a. placed s cell both a % orders s) order
      (λ a l. mul-add-mod_self_left (orders s) (cell a) (both a) ∙ t-order a)
      ∙ digits-total (orders s) s.axes e (orders-range s.degree).0 (orders-range s.degree).1 ok.axes-low ok.axes-high he)

-- a corner's entry, as a place of the corners
corner-in : (s : Shape) → Shaped s → (cell : Place) → Accepted s cell → (c e : ℕ) → c < 2 ^ s.axes → e < entries s
    → InCorners (orders s) s.axes cell (corner_place s cell (entries s * c + e))
corner-in s ok cell here c e hc he =
    subst (λ (p : Place). InCorners (orders s) s.axes cell p) (sym (both-placed s ok cell here c e hc he))
    (record {
      used = λ a l. let k = (corner-numbers s ok cell here c e hc he).used a l in record { low = omega arith; high = omega arith };
      unused = placed-none s ok cell here _ (corner-numbers s ok cell here c e hc he);
    })

-- an entry of the corner records is one of a corner
pub corner-inside : (s : Shape) → Shaped s → (cell : Place) → Accepted s cell → (i : ℕ) → i < 2 ^ s.axes * entries s
    → InCorners (orders s) s.axes cell (corner_place s cell i)
corner-inside s ok cell here i l =
    let hc : i / entries s < 2 ^ s.axes = (div-lt_iff_lt-mul (entries-pos s)).1 l in
    let he : i % entries s < entries s = mod-lt i (entries-pos s) in
    subst (λ (k : ℕ). InCorners (orders s) s.axes cell (corner_place s cell k)) (div-add-mod i (entries s))
    (corner-in s ok cell here (i / entries s) (i % entries s) hc he)

-- ---- the limit test of the corners

module _ (s : Shape) (rs : List ℤ) (cell : Place) where
  abbrev tests : ℕ → Check
  tests i = entry_outcome s rs (corner_place s cell i)

  -- passed where every entry of the corners is within its limit
  pub corners-pass : ((p : Place) → InCorners (orders s) s.axes cell p
      → nat_abs (records_field s rs p) ≤ entry_limit (orders s) s.axes p) → Shaped s → Accepted s cell → corners_outcome s rs cell ≡ done tt
  unfolding corners_outcome corner_entries entry_outcome
  corners-pass h ok here =
      first_of-passes (2 ^ s.axes * entries s) tests
      (λ i l. passes (leb (nat_abs (records_field s rs (corner_place s cell i))) (entry_limit (orders s) s.axes (corner_place s cell i))) 5
      (entry_index s (corner_place s cell i))
      (le-leb (nat_abs (records_field s rs (corner_place s cell i))) (entry_limit (orders s) s.axes (corner_place s cell i))
      (h (corner_place s cell i) (corner-inside s ok cell here i l))))

  -- and then every number of the cell is
  pub corners-within : corners_outcome s rs cell ≡ done tt → Shaped s → Accepted s cell → (t : Place) → Numbers s t
      → nat_abs (records_field s rs (placed s cell t)) ≤ entry_limit (orders s) s.axes (placed s cell t)
  unfolding corners_outcome corner_entries entry_outcome entries
  corners-within h ok here t num =
      subst (λ (p : Place). nat_abs (records_field s rs p) ≤ entry_limit (orders s) s.axes p) (entry-placed s cell here t digits)
      (leb-true (nat_abs (records_field s rs (corner_place s cell i))) (entry_limit (orders s) s.axes (corner_place s cell i))
      (refuse-done (leb (nat_abs (records_field s rs (corner_place s cell i))) (entry_limit (orders s) s.axes (corner_place s cell i))) 5
      (entry_index s (corner_place s cell i)) (first_of-each (2 ^ s.axes * entries s) tests h i low)))
    where
      digits : Digits s.axes (2 * orders s) t
      digits = record { used = num.used; unused = num.unused }

      i : ℕ
      i = corner_entry (orders s) s.axes t

      low : i < 2 ^ s.axes * entries s
      low = rw (← count-split (orders s) s.axes) (entry_in (orders s) s.axes (orders-some s) t digits)

  -- the test corner by corner, as the code makes it
  pub corners-rows : Shaped s → Accepted s cell
      → corners_outcome s rs cell ≡ first_of (2 ^ s.axes) (λ c. record_outcome (limit_of (orders s)) (entries s) rs (corner_start s cell c))
  unfolding corners_outcome corner_entries record_outcome entry_outcome records_field
  corners-rows ok here =
      ap (λ (k : ℕ). first_of k tests) (mul_comm (2 ^ s.axes) (entries s)) ∙ first_of-rows (entries s) (2 ^ s.axes) tests
      ∙ first_of-same (2 ^ s.axes) (λ c. first_of (entries s) (λ e. tests (entries s * c + e)))
      (λ c. record_outcome (limit_of (orders s)) (entries s) rs (corner_start s cell c))
      (λ c hc. first_of-same (entries s) (λ e. tests (entries s * c + e))
      (λ e. refuse_unless (leb (nat_abs (at rs (corner_start s cell c + e))) (limit_of (orders s) e)) 5 (corner_start s cell c + e))
      (λ e he. ap (λ (k : ℕ). refuse_unless
      (leb (nat_abs (at rs k)) (entry_limit (orders s) s.axes (corner_place s cell (entries s * c + e)))) 5 k)
      (corner-index s ok cell here c e hc he)
      ∙ ap (λ (k : ℕ). refuse_unless (leb (nat_abs (at rs (corner_start s cell c + e))) k) 5 (corner_start s cell c + e))
      (corner-limit s ok cell here c e hc he)))
