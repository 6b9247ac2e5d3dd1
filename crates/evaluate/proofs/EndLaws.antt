-- The numbers of two ends, by index: what a stage of the code asks for of them, and that it makes of them the number of the definition's
-- stage.
use mathlib.Core.Path.{◌≡◌, refl, sym, ap, ap₂, subst, ◌∙◌}
use mathlib.Core.Bool.{Bool, true, false, ◌&&◌}
use mathlib.Core.List.{List, [], ◌∷◌}
use Prim.Native.Nat.{ℕ, ◌+◌, ◌*◌, ◌-◌, ◌^◌, ◌≤◌, ◌<◌}
use native.Mathlib.Nat.{le_trans, le_of_eq}
use native.Mathlib.Omega.{arith}
use lib.Bits.{bit_or}
use lib.Dec.{ltb, eqb, lit<}
use lib.IntN.{ℤ, pos, ◌+ℤ◌, ◌*ℤ◌, nat_abs}
use lib.ListN.{length, take, drop, length-take, length-drop}
use lib.Seq.{take_all, get_or-drop}
use borrow.Author.Tests.{lt-ltb, le-ltb}
use Rattle.arith.specs.Choice.{pick, all}
use Rattle.arith.specs.Int.{Rounding, divides}
use Rattle.arith.specs.Sum.{sum, total}
use Rattle.arith.proofs.Choices.{pick_true, pick-false, all-ext, all-twice, by-3, by_place}
use Rattle.arith.proofs.Bits.{or-none}
use Rattle.arith.proofs.Sums.{sum-ext, total_ext}
use Rattle.lattice.specs.Buffer.{at}
use Rattle.hermite.specs.declared.Basis.{Basis}
use Rattle.hermite.specs.declared.Ends.{Ends}
use Rattle.hermite.specs.declared.Rounded.{Rounded}
use Rattle.hermite.specs.Hermite.{stage_sum, basis}
use Rattle.hermite.specs.Stage.{weighted, load, shift_of}
use Rattle.hermite.proofs.HermiteLaws.{stage-linear}
use Rattle.hermite.proofs.StageLaws.{end-sum}
use Rattle.evaluate.specs.declared.Axis.{Axis}
use Rattle.evaluate.specs.Stages.{numbers_at, IsEnd, AreEnds, AtBoth, place_of, all_at, sum_at, worked, cleanly, later, after, clean_after, Reported, Prepared, Safe}

-- ---- a stage of the 2m numbers y, wherever they stand

pub stage-of : (k m N c u : ℕ) (x y : ℕ → ℤ) (j : ℕ) → ((t : ℕ) → t < 2 * m → x (m * c + t) ≡ y t)
    → stage_sum k m N c u x j ≡ stage_sum k m N 0 u y 0
unfolding stage-linear
stage-of k m N c u x y j h =
    (stage-linear k m N c u).is x j
    ∙ sum-ext (2 * m) (λ t. basis k m N u t *ℤ x (m * c + t)) (λ t. basis k m N u t *ℤ y (m * 0 + t))
    (λ t l. ap (λ z. basis k m N u t *ℤ z) (h t l ∙ ap y (omega arith)))
    ∙ sym ((stage-linear k m N 0 u).is y 0)

-- ---- numbers by end and order

pub number_at : (m : ℕ) (g : ℕ → ℤ) (p order_stride o : ℕ) → o < m → numbers_at m g p order_stride o ≡ g (p + o * order_stride)
unfolding numbers_at
number_at m g p order_stride o l = pick_true (ltb o m) (g (p + o * order_stride)) (pos 0) (lt-ltb o m l)

pub number-none : (m : ℕ) (g : ℕ → ℤ) (p order_stride o : ℕ) → m ≤ o → numbers_at m g p order_stride o ≡ pos 0
unfolding numbers_at
number-none m g p order_stride o h = pick-false (ltb o m) (g (p + o * order_stride)) (pos 0) (le-ltb o m h)

-- the numbers of an end as an array: two and nothing, or three
module _ (m : ℕ) (g : ℕ → ℤ) (p order_stride : ℕ) (a b : ℤ) (ea : a ≡ g p) (eb : b ≡ g (p + order_stride)) where
  end-numbers : (c : ℤ) → 2 ≤ m → c ≡ numbers_at m g p order_stride 2 → IsEnd m g p order_stride (a ∷ b ∷ c ∷ [])
  end-numbers c h ec =
      by-3 (λ o. at (a ∷ b ∷ c ∷ []) o ≡ numbers_at m g p order_stride o)
      (ea ∙ ap g (omega arith) ∙ sym (number_at m g p order_stride 0 (omega arith)))
      (eb ∙ ap g (omega arith) ∙ sym (number_at m g p order_stride 1 (omega arith))) ec

  pub end-of-two : m ≡ 2 → IsEnd m g p order_stride (a ∷ b ∷ pos 0 ∷ [])
  end-of-two e = end-numbers (pos 0) (omega arith) (sym (number-none m g p order_stride 2 (omega arith)))

  pub end-of-three : m ≡ 3 → (c : ℤ) → c ≡ g (p + 2 * order_stride) → IsEnd m g p order_stride (a ∷ b ∷ c ∷ [])
  end-of-three e c ec = end-numbers c (omega arith) (ec ∙ sym (number_at m g p order_stride 2 (omega arith)))

-- the rests of the numbers of an end, joined
module _ (m : ℕ) (c : ℕ → Bool) (p order_stride a b : ℕ) (ea : eqb a 0 ≡ c p) (eb : eqb b 0 ≡ c (p + order_stride)) where
  low-rest : eqb a 0 ≡ c (p + 0 * order_stride)
  low-rest = ea ∙ ap c (omega arith)

  next-rest : eqb b 0 ≡ c (p + 1 * order_stride)
  next-rest = eb ∙ ap c (omega arith)

  pub rest-of-two : m ≡ 2 → eqb (bit_or b a) 0 ≡ all m (λ o. c (p + o * order_stride))
  unfolding all
  rest-of-two e =
      or-none b a ∙ ap₂ ◌&&◌ next-rest low-rest ∙ last (c (p + 1 * order_stride)) (c (p + 0 * order_stride))
      ∙ ap (λ (n : ℕ). all n (λ o. c (p + o * order_stride))) (sym e)
    where
      last : (x y : Bool) → (x && y) ≡ (x && (y && true))
      last true true = refl
      last true false = refl
      last false y = refl

  pub rest-of-three : m ≡ 3 → (d : ℕ) → eqb d 0 ≡ c (p + 2 * order_stride)
      → eqb (bit_or (bit_or d b) a) 0 ≡ all m (λ o. c (p + o * order_stride))
  unfolding all
  rest-of-three e d ed =
      or-none (bit_or d b) a ∙ ap₂ ◌&&◌ (or-none d b ∙ ap₂ ◌&&◌ ed next-rest) low-rest
      ∙ last (c (p + 2 * order_stride)) (c (p + 1 * order_stride)) (c (p + 0 * order_stride))
      ∙ ap (λ (n : ℕ). all n (λ o. c (p + o * order_stride))) (sym e)
    where
      last : (x y z : Bool) → ((x && y) && z) ≡ (x && (y && (z && true)))
      last true true true = refl
      last true true false = refl
      last true false z = refl
      last false y z = refl

-- ---- numbers read from index p of a list on

module _ (xs : List ℤ) (p : ℕ) where
  abbrev pub part : List ℤ
  part = take (length xs - p) (drop p xs)

  pub part_at : (i : ℕ) → at part i ≡ at xs (p + i)
  part_at i = ap (λ (l : List ℤ). at l i) (take_all (length xs - p) (drop p xs) (le_of_eq (length-drop p xs))) ∙ get_or-drop p xs i (pos 0)

  pub part-index : (i : ℕ) → p + i < length xs → i < length part
  part-index i l = simp (length-take, length-drop) (omega arith)

  pub part_end : (m q order_stride : ℕ) (r : List ℤ) → IsEnd m (at part) q order_stride r → IsEnd m (at xs) (p + q) order_stride r
  unfolding numbers_at
  part_end m q order_stride r h o l = h o l
      ∙ ap (λ z. pick (ltb o m) z (pos 0)) (part_at (q + o * order_stride) ∙ ap (at xs) (assoc p q (o * order_stride)))
    where
      assoc : (p q i : ℕ) → p + (q + i) ≡ p + q + i
      assoc p q i = omega arith

-- ---- a stage of two ends

-- the sizes of all products, where the numbers are equal
load_same : (b : Basis) (low high low' high' : ℕ → ℤ) → ((o : ℕ) → o < 3 → low o ≡ low' o) → ((o : ℕ) → o < 3 → high o ≡ high' o)
    → load b low high ≡ load b low' high'
unfolding load
load_same b low high low' high' e f = ap₂ ◌+◌ (one b.low low low' e) (one b.high high high' f)
  where
    one : (r : List ℤ) (x y : ℕ → ℤ) → ((o : ℕ) → o < 3 → x o ≡ y o)
        → total 3 (λ o. nat_abs (at r o) * nat_abs (x o)) ≡ total 3 (λ o. nat_abs (at r o) * nat_abs (y o))
    one r x y e = total_ext 3 (λ o. nat_abs (at r o) * nat_abs (x o)) (λ o. nat_abs (at r o) * nat_abs (y o))
        (λ o l. ap (λ z. nat_abs (at r o) * nat_abs z) (e o l))

-- two ends that hold the numbers of axis x from p on
module _ {m : ℕ} {x : Axis} {g : ℕ → ℤ} {p : ℕ} {e : Ends} (h : Prepared m x) (ends : AreEnds m g p x.order x.node e) where
  -- what a stage asks for
  pub stage-asks : (k : ℕ) → k ≤ 44
      → load x.basis (numbers_at m g p x.order) (numbers_at m g (p + x.node) x.order) ≤ 2 ^ 63 - 2 ^ 45
      → ((k ≤ 44) × (load x.basis (at e.low) (at e.high) ≤ 2 ^ 63 - 2 ^ 45))
      × (m ≡ 2 → (at e.low 2 ≡ pos 0) × (at e.high 2 ≡ pos 0))
  stage-asks k l s = (
    (l, le_trans (le_of_eq (load_same x.basis _ _ _ _ ends.low ends.high)) s),
    λ two. (
      ends.low 2 (lit< tt) ∙ number-none m g p x.order 2 (omega arith),
      ends.high 2 (lit< tt)
          ∙ number-none m g (p + x.node) x.order 2 (omega arith),
    ),
  )

  -- its sum
  sum-here : weighted x.basis (at e.low) (at e.high) ≡ sum_at x g p
  unfolding sum_at weighted
  sum-here =
      ap₂ ◌+ℤ◌ (one (at x.basis.low) (λ o i l. (h.none o i l).0) (at e.low) p ends.low)
      (one (at x.basis.high) (λ o i l. (h.none o i l).1) (at e.high) (p + x.node) ends.high)
    where
      -- of order m and above nothing counts
      one : (r : ℕ → ℤ) → ((o : ℕ) → m ≤ o → o < 3 → r o ≡ pos 0) → (y : ℕ → ℤ) (p : ℕ)
          → ((o : ℕ) → o < 3 → y o ≡ numbers_at m g p x.order o)
          → sum 3 (λ o. r o *ℤ y o) ≡ sum 3 (λ o. r o *ℤ g (p + o * x.order))
      one r none y p is =
          end-sum m h.m-low h.m-high r y none r (λ o. g (p + o * x.order)) (λ o l. refl)
          (λ o l. is o (let k = h.m-high in omega arith) ∙ number_at m g p x.order o l)
          ∙ sym (end-sum m h.m-low h.m-high r (λ o. g (p + o * x.order)) none r (λ o. g (p + o * x.order)) (λ o l. refl)
          (λ o l. refl))

  -- what it gives
  pub stage-gives : (round : Rounding) (k : ℕ)
      → round (weighted x.basis (at e.low) (at e.high)) (2 ^ (k + 1)) ≡ worked round k x g p
  unfolding worked
  stage-gives round k = ap (λ z. round z (2 ^ (k + 1))) sum-here

  -- and whether it drops anything
  pub stage-cleans : (k : ℕ) (c : ℕ → Bool) → eqb e.rest 0 ≡ all_at m c p x.order x.node
      → (divides (2 ^ (k + 1)) (weighted x.basis (at e.low) (at e.high)) && eqb e.rest 0) ≡ cleanly m k x g c p
  unfolding cleanly
  stage-cleans k c rest = ap₂ (λ z b. divides (2 ^ (k + 1)) z && b) sum-here rest

-- ---- where the numbers of two ends stand

module _ (m order_stride node_stride : ℕ) where
  pub place-low : (o : ℕ) → o < m → place_of m order_stride node_stride o ≡ o * order_stride
  unfolding place_of
  place-low o l = pick_true (ltb o m) (o * order_stride) (node_stride + (o - m) * order_stride) (lt-ltb o m l)

  pub place-high : (o : ℕ) → place_of m order_stride node_stride (m + o) ≡ node_stride + o * order_stride
  unfolding place_of
  place-high o =
      pick-false (ltb (m + o) m) ((m + o) * order_stride) (node_stride + (m + o - m) * order_stride) (le-ltb (m + o) m (omega arith))
      ∙ ap (λ (i : ℕ). node_stride + i * order_stride) (again m o)
    where
      again : (m o : ℕ) → m + o - m ≡ o
      again m o = omega arith

  -- what holds at each number of two ends holds at each place
  pub at_place : (P : ℕ → Type 0) (p : ℕ) → AtBoth m P p order_stride node_stride → (t : ℕ) → t < 2 * m
      → P (p + place_of m order_stride node_stride t)
  at_place P p h =
      by_place m (λ t. P (p + place_of m order_stride node_stride t)) (λ o l. subst (λ (i : ℕ). P (p + i)) (sym (place-low o l)) (h o l).0)
      (λ o l. subst P (assoc p node_stride (o * order_stride) ∙ ap (λ (i : ℕ). p + i) (sym (place-high o))) (h o l).1)
    where
      assoc : (p f k : ℕ) → p + f + k ≡ p + (f + k)
      assoc p f k = omega arith

  -- a test of all numbers of two ends is one of each end
  pub all-ends : (c : ℕ → Bool) (p : ℕ)
      → all_at m c p order_stride node_stride ≡ (all m (λ o. c (p + node_stride + o * order_stride)) && all m
      (λ o. c (p + o * order_stride)))
  all-ends c p =
      all-twice m (λ t. c (p + place_of m order_stride node_stride t))
      ∙ ap₂ ◌&&◌
      (all-ext m (λ o. c (p + place_of m order_stride node_stride (m + o))) (λ o. c (p + node_stride + o * order_stride))
      (λ o l. ap c (ap (λ (i : ℕ). p + i) (place-high o) ∙ assoc p node_stride (o * order_stride))))
      (all-ext m (λ o. c (p + place_of m order_stride node_stride o)) (λ o. c (p + o * order_stride))
      (λ o l. ap (λ (i : ℕ). c (p + i)) (place-low o l)))
    where
      assoc : (p f k : ℕ) → p + (f + k) ≡ p + f + k
      assoc p f k = omega arith

-- what is safe is an index of the records
pub safe-index : (round : Rounding) (m n : ℕ) (xs : List Axis) (g : ℕ → ℤ) (p : ℕ) → 0 < m → Safe round m n xs g p → p < n
safe-index round m n [] g p h s = s
safe-index round m n (x ∷ xs) g p h s = let k = safe-index round m n xs g (p + 0 * x.order) h (s.0 0 h).0 in omega arith

-- what a stage to eighths reports is what follows of the axes with its own
pub reported-tells : (round : Rounding) (m k : ℕ) (x : Axis) (xs : List Axis) (g : ℕ → ℤ) (p : ℕ) (r : Rounded) → Reported round m k x xs
    g p r
    → k ≡ shift_of 0 m (later xs) true → (r.number ≡ after round m (x ∷ xs) g p) × (eqb r.rest 0 ≡ clean_after round m (x ∷ xs) g p)
unfolding after clean_after
reported-tells round m k x xs g p r h e = (
  h.number_is ∙ ap (λ (i : ℕ). worked round i x (after round m xs g) p) e,
  h.rest-is ∙ ap (λ (i : ℕ). cleanly m i x (after round m xs g) (clean_after round m xs g) p) e,
)
