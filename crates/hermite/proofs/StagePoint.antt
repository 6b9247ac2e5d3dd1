-- The table's rows; what a stage takes of an end as a polynomial in the distances; at step 0 and at step N a stage is a number of that end
-- alone: the value for a dose, D for a slope, S for a curvature. So a stage depends on the point and not on the cell.
use mathlib.Core.Path.{◌≡◌, refl, sym, ap, ap₂, subst, ◌∙◌, fun_ext}
use mathlib.Core.List.{[], ◌∷◌}
use Prim.Native.Nat.{ℕ, zero, suc, ◌+◌, ◌*◌, ◌-◌, ◌≤◌, ◌<◌}
use native.Mathlib.Nat.{sub-zero, mul-le-mul_right, not-suc-le-zero, le_refl, add-zero, zero-add, add-suc, suc-add}
use native.Mathlib.Omega.{arith}
use native.Mathlib.Decide.{dec_lt}
use lib.IntN.{ℤ, pos, ◌+ℤ◌, ◌-ℤ◌, ◌*ℤ◌, zero-*ℤ, *ℤ-zero, +ℤ_idl, +ℤ_idr}
use borrow.Author.Tests.{lt-ltb, le-ltb}
use lib.Dec.{ltb}
use Rattle.arith.proofs.Choices.{pick_true, pick-false, by_2, by-3, by_order}
use Rattle.arith.proofs.Laws.{*ℤ-pos-one}
use Rattle.arith.proofs.Quote.{quotes, ring! }
use Rattle.arith.proofs.Sums.{sum-ext, sum-zero, sum_first, sum-ends}
use Rattle.arith.specs.Choice.{pick}
use Rattle.arith.specs.Int.{◌^ℤ◌}
use Rattle.arith.specs.Sum.{sum}
use Rattle.hermite.specs.Hermite.{multiplier, mirrored, share, forward, weight, stage_sum, basis}
use Rattle.hermite.proofs.HermiteLaws.{stage-linear, mirrored-mul, mirrored-none, end_basis, basis-low, basis-high}

-- ---- the table of document 01: f, D, S of the low end, then f, D, S of the high end

module _ (c : ℕ) (x : ℕ → ℤ) where
  abbrev cubic : ℕ → ℤ
  cubic t = x (2 * c + t)

  abbrev quintic : ℕ → ℤ
  quintic t = x (3 * c + t)

  pub cubic-table : (forward 2 c x 0 ≡ pos 2 *ℤ cubic 0) × (forward 2 c x 1 ≡ pos 6 *ℤ cubic 0 +ℤ cubic 1)
      × (forward 2 c x 2 ≡ pos 6 *ℤ cubic 2 -ℤ cubic 3) × (forward 2 c x 3 ≡ pos 2 *ℤ cubic 2)
  unfolding forward sum share multiplier mirrored pick
  cubic-table =
      let ρ = cubic 0 ∷ cubic 1 ∷ cubic 2 ∷ cubic 3 ∷ [] in (
        ring! ρ (search quotes depth 40) tt,
        ring! ρ (search quotes depth 40) tt,
        ring! ρ (search quotes depth 40) tt,
        ring! ρ (search quotes depth 40) tt,
      )

  pub quintic-table : (forward 3 c x 0 ≡ pos 2 *ℤ quintic 0) × (forward 3 c x 1 ≡ pos 10 *ℤ quintic 0 +ℤ quintic 1)
      × (forward 3 c x 2 ≡ pos 20 *ℤ quintic 0 +ℤ pos 4 *ℤ quintic 1 +ℤ quintic 2)
      × (forward 3 c x 3 ≡ pos 20 *ℤ quintic 3 -ℤ pos 4 *ℤ quintic 4 +ℤ quintic 5)
      × (forward 3 c x 4 ≡ pos 10 *ℤ quintic 3 -ℤ quintic 4) × (forward 3 c x 5 ≡ pos 2 *ℤ quintic 3)
  unfolding forward sum share multiplier mirrored pick
  quintic-table =
      let ρ = quintic 0 ∷ quintic 1 ∷ quintic 2 ∷ quintic 3 ∷ quintic 4 ∷ quintic 5 ∷ [] in (
        ring! ρ (search quotes depth 40) tt,
        ring! ρ (search quotes depth 40) tt,
        ring! ρ (search quotes depth 40) tt,
        ring! ρ (search quotes depth 40) tt,
        ring! ρ (search quotes depth 40) tt,
        ring! ρ (search quotes depth 40) tt,
      )

-- ---- an end's part by powers

-- what power j takes of a number of order o: the multipliers, then those of each derivative, whose powers are one less
unfoldable pub row : ℕ → ℕ → ℕ → ℕ → ℤ
row zero m j o = pick (ltb j m) (multiplier m j o) (pos 0)
row (suc k) m j o = pos (suc j) *ℤ row k m (suc j) o -ℤ pos (2 * m - 1 - k - j) *ℤ row k m j o

unfoldable pub top : ℕ → ℕ → ℕ
top k m = 2 * m - 1 - k

row-none : (k m j o : ℕ) → m ≤ j → row k m j o ≡ pos 0
unfolding row
row-none zero m j o h = pick-false (ltb j m) (multiplier m j o) (pos 0) (le-ltb j m h)
row-none (suc k) m j o h =
    ap₂ (λ x y. pos (suc j) *ℤ x -ℤ pos (2 * m - 1 - k - j) *ℤ y) (row-none k m (suc j) o (omega arith)) (row-none k m j o h)
    ∙ ap₂ ◌-ℤ◌ (*ℤ-zero (pos (suc j))) (*ℤ-zero (pos (2 * m - 1 - k - j)))

-- a sum of differences, by the numbers that they share
by_parts : (d : ℕ) (M W : ℕ → ℤ) (m : ℕ)
    → sum m (λ i. M i *ℤ (pos i *ℤ W (i - 1) -ℤ pos (d - i) *ℤ W i)) +ℤ pos m *ℤ M m *ℤ W (m - 1) ≡ sum m
    (λ j. (pos (suc j) *ℤ M (suc j) -ℤ pos (d - j) *ℤ M j) *ℤ W j)
unfolding sum
by_parts d M W zero = ap (λ z. pos 0 +ℤ z *ℤ W (0 - 1)) (zero-*ℤ (M 0)) ∙ ap (λ z. pos 0 +ℤ z) (zero-*ℤ (W (0 - 1)))
by_parts d M W (suc m) =
    let e : suc m - 1 ≡ m = omega arith in
    ap (λ (i : ℕ). sum m S +ℤ M m *ℤ (pos m *ℤ W (m - 1) -ℤ pos (d - m) *ℤ W m) +ℤ pos (suc m) *ℤ M (suc m) *ℤ W i) e
    ∙ regroup (sum m S) (M m) (M (suc m)) (pos m) (pos (suc m)) (pos (d - m)) (W (m - 1)) (W m)
    ∙ ap (λ z. z +ℤ (pos (suc m) *ℤ M (suc m) -ℤ pos (d - m) *ℤ M m) *ℤ W m) (by_parts d M W m)
  where
    S : ℕ → ℤ
    S i = M i *ℤ (pos i *ℤ W (i - 1) -ℤ pos (d - i) *ℤ W i)

    regroup : (s x y i j e v w : ℤ) → s +ℤ x *ℤ (i *ℤ v -ℤ e *ℤ w) +ℤ j *ℤ y *ℤ w ≡ s +ℤ i *ℤ x *ℤ v +ℤ (j *ℤ y -ℤ e *ℤ x) *ℤ w
    regroup s x y i j e v w = ring! (s ∷ x ∷ y ∷ i ∷ j ∷ e ∷ v ∷ w ∷ []) (search quotes depth 60) tt

-- rows by weights: each derivative of the weights goes over to the rows
rows-by : (k e m o : ℕ) (a b : ℤ)
    → sum m (λ i. row e m i o *ℤ weight k a b (2 * m - 1 - e) i) ≡ sum m (λ j. row (e + k) m j o *ℤ (a ^ℤ (top (e + k) m - j) *ℤ b ^ℤ j))
unfolding weight top row
rows-by zero e m o a b = ap (λ (i : ℕ). sum m (λ j. row i m j o *ℤ (a ^ℤ (2 * m - 1 - i - j) *ℤ b ^ℤ j))) (sym (add-zero e))
rows-by (suc k) e m o a b =
    sym (+ℤ_idr (sum m (λ i. row e m i o *ℤ weight (suc k) a b (2 * m - 1 - e) i)))
    ∙ ap (λ z. sum m (λ i. row e m i o *ℤ weight (suc k) a b (2 * m - 1 - e) i) +ℤ z)
    (sym (ap (λ z. pos m *ℤ z *ℤ W (m - 1)) (row-none e m m o (le_refl m)) ∙ ap (λ z. z *ℤ W (m - 1)) (*ℤ-zero (pos m))
    ∙ zero-*ℤ (W (m - 1))))
    ∙ by_parts (2 * m - 1 - e) (λ i. row e m i o) W m
    ∙ ap (λ (i : ℕ). sum m (λ j. row (suc e) m j o *ℤ weight k a b i j)) (one_less (2 * m - 1) e)
    ∙ rows-by k (suc e) m o a b
    ∙ ap (λ (i : ℕ). sum m (λ j. row i m j o *ℤ (a ^ℤ (2 * m - 1 - i - j) *ℤ b ^ℤ j))) (suc-add e k ∙ sym (add-suc e k))
  where
    W : ℕ → ℤ
    W = weight k a b (2 * m - 1 - e - 1)

    one_less : (d e : ℕ) → d - e - 1 ≡ d - suc e
    one_less d e = omega arith

pub end-form : (k m : ℕ) (a b : ℤ) (o : ℕ) → end_basis k m a b o ≡ sum m (λ j. row k m j o *ℤ (a ^ℤ (top k m - j) *ℤ b ^ℤ j))
unfolding end_basis row
end-form k m a b o =
    sum-ext m (λ i. multiplier m i o *ℤ weight k a b (2 * m - 1) i) (λ i. row 0 m i o *ℤ weight k a b (2 * m - 1 - 0) i)
    (λ i l. ap₂ (λ (x : ℤ) (d : ℕ). x *ℤ weight k a b d i) (sym (pick_true (ltb i m) (multiplier m i o) (pos 0) (lt-ltb i m l)))
    (sym (sub-zero (2 * m - 1))))
    ∙ rows-by k 0 m o a b ∙ ap (λ (i : ℕ). sum m (λ j. row i m j o *ℤ (a ^ℤ (top i m - j) *ℤ b ^ℤ j))) (zero-add k)

-- the weights of a slope, as document 01 writes them
pub slope-weight : (a b : ℤ) (d i : ℕ) → i ≤ d
    → weight 1 a b d i ≡ pos i *ℤ (a ^ℤ (d - i) *ℤ b ^ℤ (i - 1)) -ℤ pos (d - i) *ℤ (a ^ℤ (d - i - 1) *ℤ b ^ℤ i)
unfolding weight
slope-weight a b d zero h =
    ap₂ ◌-ℤ◌ (zero-*ℤ (a ^ℤ (d - 1 - (0 - 1)) *ℤ b ^ℤ (0 - 1)) ∙ sym (zero-*ℤ (a ^ℤ (d - 0) *ℤ b ^ℤ (0 - 1))))
    (ap (λ (n : ℕ). pos (d - 0) *ℤ (a ^ℤ n *ℤ b ^ℤ 0)) (swapped d 0))
  where
    swapped : (d i : ℕ) → d - 1 - i ≡ d - i - 1
    swapped d i = omega arith
slope-weight a b d (suc i) h =
    ap₂ (λ (n k : ℕ). pos (suc i) *ℤ (a ^ℤ n *ℤ b ^ℤ (suc i - 1)) -ℤ pos (d - suc i) *ℤ (a ^ℤ k *ℤ b ^ℤ suc i)) (same d i)
    (swapped d (suc i))
  where
    same : (d i : ℕ) → d - 1 - (suc i - 1) ≡ d - suc i
    same d i = omega arith

    swapped : (d i : ℕ) → d - 1 - i ≡ d - i - 1
    swapped d i = omega arith

-- ---- an end's part where one of the distances is nothing

zero-power : (n : ℕ) → 0 < n → pos 0 ^ℤ n ≡ pos 0
zero-power zero h = absurd (not-suc-le-zero h)
zero-power (suc n) h = zero-*ℤ (pos 0 ^ℤ n)

-- the first row is the same from both ends
first-row : (m : ℕ) → 2 ≤ m → m ≤ 3 → (k : ℕ) → k < m → (o : ℕ) → o < m → mirrored (o + k) (row k m 0 o) ≡ row k m 0 o
unfolding mirrored row multiplier pick
first-row =
    by_order (λ m k. (o : ℕ) → o < m → mirrored (o + k) (row k m 0 o) ≡ row k m 0 o)
    (by_2 (λ o. mirrored (o + 0) (row 0 2 0 o) ≡ row 0 2 0 o) refl refl)
    (by_2 (λ o. mirrored (o + 1) (row 1 2 0 o) ≡ row 1 2 0 o) refl refl)
    (by-3 (λ o. mirrored (o + 0) (row 0 3 0 o) ≡ row 0 3 0 o) refl refl refl)
    (by-3 (λ o. mirrored (o + 1) (row 1 3 0 o) ≡ row 1 3 0 o) refl refl refl)
    (by-3 (λ o. mirrored (o + 2) (row 2 3 0 o) ≡ row 2 3 0 o) refl refl refl)

module _ (k m : ℕ) (km : k < m) (o : ℕ) where
  nearest : (a : ℤ) → end_basis k m a (pos 0) o ≡ row k m 0 o *ℤ a ^ℤ top k m
  nearest a =
      end-form k m a (pos 0) o
      ∙ sum_first m (omega arith) (λ j. row k m j o *ℤ (a ^ℤ (top k m - j) *ℤ pos 0 ^ℤ j))
      (λ j p q. ap (λ z. row k m j o *ℤ (a ^ℤ (top k m - j) *ℤ z)) (zero-power j p)
      ∙ ap (λ z. row k m j o *ℤ z) (*ℤ-zero (a ^ℤ (top k m - j))) ∙ *ℤ-zero (row k m j o))
      ∙ ap (λ z. row k m 0 o *ℤ z) (*ℤ-pos-one (a ^ℤ (top k m - 0)) ∙ ap (λ (i : ℕ). a ^ℤ i) (sub-zero (top k m)))

  farthest : (b : ℤ) → end_basis k m (pos 0) b o ≡ pos 0
  unfolding top
  farthest b =
      end-form k m (pos 0) b o
      ∙ sum-zero m (λ j. row k m j o *ℤ (pos 0 ^ℤ (top k m - j) *ℤ b ^ℤ j))
      (λ j p. ap (λ z. row k m j o *ℤ (z *ℤ b ^ℤ j)) (zero-power (top k m - j) (omega arith))
      ∙ ap (λ z. row k m j o *ℤ z) (zero-*ℤ (b ^ℤ j)) ∙ *ℤ-zero (row k m j o))

-- ---- a stage at the ends

-- by the two ends' parts
pub by-ends : (k m N c u : ℕ) → 2 ≤ m → m ≤ 3 → (x : ℕ → ℤ) (j : ℕ)
    → stage_sum k m N c u x j ≡ sum m (λ o. basis k m N u o *ℤ x (m * c + o)) +ℤ sum m (λ o. basis k m N u (m + o) *ℤ x (m * c + (m + o)))
unfolding stage-linear
by-ends k m N c u m2 m3 x j = (stage-linear k m N c u).is x j ∙ sum-ends m m2 m3 (λ t. basis k m N u t *ℤ x (m * c + t))

-- a number of one end, times N to a power
at_end : ℕ → ℕ → ℕ → (ℕ → ℤ) → ℤ
at_end k m N y = sum m (λ o. row k m 0 o *ℤ pos N ^ℤ top k m *ℤ y o)

module _ (k m N c : ℕ) (m2 : 2 ≤ m) (m3 : m ≤ 3) (km : k < m) (x : ℕ → ℤ) (j : ℕ) where
  stage-low : stage_sum k m N c 0 x j ≡ at_end k m N (λ o. x (m * c + o))
  unfolding at_end
  stage-low =
      by-ends k m N c 0 m2 m3 x j
      ∙ ap₂ ◌+ℤ◌
      (sum-ext m (λ o. basis k m N 0 o *ℤ x (m * c + o)) (λ o. row k m 0 o *ℤ pos N ^ℤ top k m *ℤ x (m * c + o))
      (λ o l. ap (λ z. z *ℤ x (m * c + o))
      (basis-low k m N 0 m2 m3 o l ∙ nearest k m km o (pos (N - 0)) ∙ ap (λ (i : ℕ). row k m 0 o *ℤ pos i ^ℤ top k m) (sub-zero N))))
      (sum-zero m (λ o. basis k m N 0 (m + o) *ℤ x (m * c + (m + o)))
      (λ o l. ap (λ z. z *ℤ x (m * c + (m + o)))
      (basis-high k m N 0 m2 m3 o l ∙ ap (mirrored (o + k)) (farthest k m km o (pos (N - 0))) ∙ mirrored-none (o + k))
      ∙ zero-*ℤ (x (m * c + (m + o)))))
      ∙ +ℤ_idr (sum m (λ o. row k m 0 o *ℤ pos N ^ℤ top k m *ℤ x (m * c + o)))

  stage-high : stage_sum k m N c N x j ≡ at_end k m N (λ o. x (m * c + (m + o)))
  unfolding at_end
  stage-high =
      by-ends k m N c N m2 m3 x j
      ∙ ap₂ ◌+ℤ◌
      (sum-zero m (λ o. basis k m N N o *ℤ x (m * c + o))
      (λ o l. ap (λ z. z *ℤ x (m * c + o))
      (basis-low k m N N m2 m3 o l ∙ ap (λ (i : ℕ). end_basis k m (pos i) (pos N) o) (all N) ∙ farthest k m km o (pos N))
      ∙ zero-*ℤ (x (m * c + o))))
      (sum-ext m (λ o. basis k m N N (m + o) *ℤ x (m * c + (m + o))) (λ o. row k m 0 o *ℤ pos N ^ℤ top k m *ℤ x (m * c + (m + o)))
      (λ o l.
      ap (λ z. z *ℤ x (m * c + (m + o)))
      (basis-high k m N N m2 m3 o l ∙ ap (λ (i : ℕ). mirrored (o + k) (end_basis k m (pos N) (pos i) o)) (all N)
      ∙ ap (mirrored (o + k)) (nearest k m km o (pos N)) ∙ out o l)))
      ∙ +ℤ_idl (sum m (λ o. row k m 0 o *ℤ pos N ^ℤ top k m *ℤ x (m * c + (m + o))))
    where
      all : (N : ℕ) → N - N ≡ 0
      all N = omega arith

      out : (o : ℕ) → o < m → mirrored (o + k) (row k m 0 o *ℤ pos N ^ℤ top k m) ≡ row k m 0 o *ℤ pos N ^ℤ top k m
      out o l = sym (mirrored-mul (o + k) (row k m 0 o) (pos N ^ℤ top k m)) ∙ ap (λ z. z *ℤ pos N ^ℤ top k m) (first-row m m2 m3 k km o l)

-- the last step of a cell is the first of the next
pub stage-shared : (k m N c : ℕ) → 2 ≤ m → m ≤ 3 → k < m → stage_sum k m N c N ≡ stage_sum k m N (suc c) 0
stage-shared k m N c m2 m3 km =
    fun_ext (λ x. fun_ext (λ j. stage-high k m N c m2 m3 km x j ∙ ap (at_end k m N) (fun_ext (λ o. ap x (next m c o)))
    ∙ sym (stage-low k m N (suc c) m2 m3 km x j)))
  where
    next : (m c o : ℕ) → m * c + (m + o) ≡ m * suc c + o
    next m c o = omega arith

-- two cells that contain a point: the same, or neighbours
one_way : (k m N c c' u u' : ℕ) → 2 ≤ m → m ≤ 3 → k < m → u ≤ N → 0 < N → c < c' → N * c + u ≡ N * c' + u'
    → stage_sum k m N c u ≡ stage_sum k m N c' u'
one_way k m N c c' u u' a b km hu hN l e =
    let f = step (c' - suc c) (sym (gap c c' l)) in
    ap (λ (i : ℕ). stage_sum k m N c i) f.0 ∙ stage-shared k m N c a b km
    ∙ sym (ap (λ (i : ℕ). stage_sum k m N c' i) f.1 ∙ ap (λ (i : ℕ). stage_sum k m N i 0) f.2)
  where
    gap : (c c' : ℕ) → c < c' → suc c + (c' - suc c) ≡ c'
    gap c c' l = omega arith

    step : (g : ℕ) → c' ≡ suc c + g → (u ≡ N) × (u' ≡ 0) × (c' ≡ suc c)
    step g p =
        let h : N * c + u ≡ N * (suc c + g) + u' = subst (λ (i : ℕ). N * c + u ≡ N * i + u') p e in
        let s : 1 * g ≤ N * g = mul-le-mul_right g hN in
        (omega arith, omega arith, omega arith)

-- a stage depends on the point N·c + u, not on the cell
pub stage-point : (k m N c c' u u' : ℕ) → 2 ≤ m → m ≤ 3 → k < m → 0 < N → u ≤ N → u' ≤ N → N * c + u ≡ N * c' + u'
    → stage_sum k m N c u ≡ stage_sum k m N c' u'
stage-point k m N c c' u u' a b km hN hu hu' e = go (dec_lt c c') (dec_lt c' c)
  where
    equal : (c c' : ℕ) → (c < c' → ⊥) → (c' < c → ⊥) → c ≡ c'
    equal c c' p q = omega arith

    cancel : (z u u' : ℕ) → z + u ≡ z + u' → u ≡ u'
    cancel z u u' e = omega arith

    go : Dec (c < c') → Dec (c' < c) → stage_sum k m N c u ≡ stage_sum k m N c' u'
    go (yes l) d = one_way k m N c c' u u' a b km hu hN l e
    go (no p) (yes l) = sym (one_way k m N c' c u' u a b km hu' hN l (sym e))
    go (no p) (no q) =
        let f = equal c c' p q in
        ap (λ (i : ℕ). stage_sum k m N i u) f
        ∙ ap (λ (i : ℕ). stage_sum k m N c' i) (cancel (N * c') u u' (subst (λ (i : ℕ). N * i + u ≡ N * c' + u') f e))
