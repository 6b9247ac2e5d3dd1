-- One axis: the multiplier table, coefficients and back, weights, a stage. m is 2 for degree 3 and 3 for degree 5, so the degree is 2m − 1.
-- Along an axis, order o at node i stands at place m·i + o; the 2m numbers of a cell are numbered t = m·end + order. N is the number of
-- steps of a cell.
use Rattle.std.specs.Prelude.{ℕ, zero, suc, ◌+◌, ◌*◌, ◌-◌, ◌^◌, Bool, List, [], ◌∷◌, ltb, get_or, ℤ, pos, neg_ℤ, ◌-ℤ◌, ◌*ℤ◌}
use Rattle.arith.specs.Int.{◌^ℤ◌}
use Rattle.arith.specs.Sum.{sum}
use Rattle.arith.specs.Choice.{pick}
use Rattle.lattice.specs.Axes.{Rule}

-- ---- the table of document 01

-- the multipliers by order: of the first m coefficients of degree 3, then of degree 5
abbrev pub rows : List (List ℤ)
rows =
    (pos 2 ∷ pos 0 ∷ pos 0 ∷ [])
    ∷ (pos 6 ∷ pos 1 ∷ pos 0 ∷ [])
    ∷ (pos 0 ∷ pos 0 ∷ pos 0 ∷ [])
    ∷ (pos 2 ∷ pos 0 ∷ pos 0 ∷ [])
    ∷ (pos 10 ∷ pos 1 ∷ pos 0 ∷ [])
    ∷ (pos 20 ∷ pos 4 ∷ pos 1 ∷ [])
    ∷ []

-- what coefficient k, counted from an end, takes of that end's number of order o
unfoldable pub multiplier : ℕ → ℕ → ℕ → ℤ
multiplier m k o = get_or (get_or rows (3 * (m - 2) + k) []) o (pos 0)

-- a number of order o at the high end: order 1 is subtracted
unfoldable pub mirrored : ℕ → ℤ → ℤ
mirrored zero z = z
mirrored (suc zero) z = neg_ℤ z
mirrored (suc (suc o)) z = mirrored o z

-- what coefficient i takes of number t: a low coefficient of the low end, a high one of the high end
unfoldable pub share : ℕ → ℕ → ℕ → ℤ
share m i t =
    pick (ltb i m) (pick (ltb t m) (multiplier m i t) (pos 0))
    (pick (ltb t m) (pos 0) (mirrored (t - m) (multiplier m (2 * m - 1 - i) (t - m))))

-- ---- coefficients, and back

-- doubled coefficient i of cell c
unfoldable pub forward : ℕ → ℕ → Rule
forward m c x i = sum (2 * m) (λ t. share m i t *ℤ x (m * c + t))

-- twice an end's number of order o, from the coefficients counted from that end
unfoldable pub solved : ℕ → (ℕ → ℤ) → ℕ → ℤ
solved m y zero = y 0
solved m y (suc zero) = pos 2 *ℤ y 1 -ℤ multiplier m 1 0 *ℤ y 0
solved m y (suc (suc o)) = pos 2 *ℤ y 2 -ℤ multiplier m 2 0 *ℤ y 0 -ℤ multiplier m 2 1 *ℤ (pos 2 *ℤ y 1 -ℤ multiplier m 1 0 *ℤ y 0)

-- twice number t of a cell, from its doubled coefficients
unfoldable pub backward : ℕ → Rule
backward m c t = pick (ltb t m) (solved m c t) (mirrored (t - m) (solved m (λ k. c (2 * m - 1 - k)) (t - m)))

-- by the rows of the low end: its coefficients from its numbers; back, twice its numbers from these
unfoldable pub end_rule : Bool → ℕ → Rule
end_rule back m x k = pick back (solved m x k) (sum m (λ o. multiplier m k o *ℤ x o))

-- ---- weights and stages

-- the number of steps of a cell on each axis that the stages work on
abbrev pub steps : ℕ
steps = 256

-- weight i of degree d, where a = N − u and b = u, and its derivatives: order 0 for a dose, order 1 along the axis of a slope, order 2
-- along that of a curvature
unfoldable pub weight : ℕ → ℤ → ℤ → ℕ → ℕ → ℤ
weight zero a b d i = a ^ℤ (d - i) *ℤ b ^ℤ i
weight (suc order) a b d i = pos i *ℤ weight order a b (d - 1) (i - 1) -ℤ pos (d - i) *ℤ weight order a b (d - 1) i

unfoldable pub weight_at : ℕ → ℕ → ℕ → ℕ → ℕ → ℤ
weight_at order m N u i = weight order (pos (N - u)) (pos u) (2 * m - 1) i

-- 2·N^d for a dose, 2·N^(d−1) for a slope, 2·N^(d−2) for a curvature
unfoldable pub divisor : ℕ → ℕ → ℕ → ℕ
divisor order m N = 2 * N ^ (2 * m - 1 - order)

-- the numbers of cell c by the table, summed with the weights of step u, not yet divided
unfoldable pub stage_sum : ℕ → ℕ → ℕ → ℕ → ℕ → Rule
stage_sum order m N c u x j = sum (2 * m) (λ i. forward m c x i *ℤ weight_at order m N u i)

-- what a stage takes of number t: the table folded into the weights
unfoldable pub basis : ℕ → ℕ → ℕ → ℕ → ℕ → ℤ
basis order m N u t = sum (2 * m) (λ i. share m i t *ℤ weight_at order m N u i)
