-- Pooling: two lattices of the same ink, measured on different days, are pooled by weight.
use Rattle.std.specs.Prelude.{◌≡◌, ℕ, ◌+◌, ◌*◌, ◌≤◌, ◌<◌, Bool, ◌&&◌, ◌||◌, List, ◌⊎◌, leb, ltb, eqb, ℤ, pos, ◌+ℤ◌, ◌-ℤ◌, ◌*ℤ◌, nat_abs, length, ◌≤ℤ◌}
use Rattle.std.specs.Bool.{beq}
use Rattle.arith.specs.Int.{round_half_up}
use Rattle.lattice.specs.declared.FullShape.{FullShape}
use Rattle.pool.specs.declared.Measured.{Measured}
use Rattle.lattice.specs.Outcome.{Check, done, refuse_unless, first, when_done}
use Rattle.lattice.specs.Buffer.{at, tabulate, overwrite}
use Rattle.lattice.specs.Shape.{count, steps_on, nodes, axes_outcome, degree_outcome, counts_outcome, step_numbers_outcome}
use Rattle.lattice.specs.Records.{sample_limit, limit_outcome}

-- (a·v + b·w)/(v + w), rounded to the nearest, halves up
unfoldable pub pooled : ℤ → ℕ → ℤ → ℕ → ℤ
pooled a v b w = round_half_up (a *ℤ pos v +ℤ b *ℤ pos w) (v + w)

-- ---- refusals

-- a test of the first, then of the second
abbrev pub in_turn : {A : Type 0} → (A → Check) → A → A → Check
in_turn test a b = first (test a) (test b)

-- 1, 2, 3, 26: under each number the first shape is tested before the second
unfoldable pub shapes_outcome : FullShape → FullShape → Check
shapes_outcome a b =
    first (in_turn (λ t. axes_outcome t.shape.axes) a b)
    (first (in_turn (λ t. degree_outcome t.shape.degree) a b)
    (first (in_turn (λ t. counts_outcome t.shape.axes (count t.shape)) a b)
    (in_turn (λ t. step_numbers_outcome t.shape.axes (steps_on t)) a b)))

-- equal on all three axes
unfoldable pub alike : (ℕ → ℕ) → (ℕ → ℕ) → Bool
alike f g = eqb (f 0) (g 0) && (eqb (f 1) (g 1) && eqb (f 2) (g 2))

-- the same axis number, degree, node counts, step numbers and edition
unfoldable pub same_shape : FullShape → FullShape → Bool
same_shape a b =
    eqb a.shape.axes b.shape.axes && (eqb a.shape.degree b.shape.degree
    && (alike (count a.shape) (count b.shape) && (alike (steps_on a) (steps_on b)
    && beq a.second_edition b.second_edition)))

-- 0 to 10,000, not both 0
unfoldable pub weights_allowed : ℕ → ℕ → Bool
weights_allowed v w = leb v 10000 && (leb w 10000 && (ltb 0 v || ltb 0 w))

-- a lattice's shape, samples and weight
pub record Measurement : Type 0 where
  pub shape : FullShape
  pub samples : List ℤ
  pub weight : ℕ

abbrev pub measured : FullShape → List ℤ → ℕ → Measurement
measured shape samples weight = record { shape = shape; samples = samples; weight = weight }

-- as the code is given it
abbrev pub measurement_of : Measured → Measurement
measurement_of a = measured a.shape a.samples.now a.weight

-- the number of its nodes
abbrev pub nodes_of : Measurement → ℕ
nodes_of m = nodes m.shape.shape

-- 4
unfoldable pub length_outcome : Measurement → Check
length_outcome m = refuse_unless (eqb (length m.samples) (nodes_of m)) 4 0

-- 1, 2, 3, 26, then 27, 28, then 4, 9, 5
unfoldable pub pool_outcome : Measurement → Measurement → ℕ → Check
pool_outcome a b room =
    first (shapes_outcome a.shape b.shape)
    (first (refuse_unless (same_shape a.shape b.shape) 27 0)
    (first (refuse_unless (weights_allowed a.weight b.weight) 28 0)
    (first (in_turn length_outcome a b)
    (first (refuse_unless (leb (nodes_of a) room) 9 0) (in_turn (λ m. limit_outcome 5 sample_limit m.samples) a b)))))

-- ---- the samples

-- sample i of both, pooled
abbrev pub pooled_at : List ℤ → ℕ → List ℤ → ℕ → ℕ → ℤ
pooled_at xs v ys w i = pooled (at xs i) v (at ys i) w

-- in node order
unfoldable pub pooled_samples : Measurement → Measurement → List ℤ
pooled_samples a b = tabulate (nodes_of a) (pooled_at a.samples a.weight b.samples b.weight)

-- what the lent slice holds afterwards
unfoldable pub pool_writes : Measurement → Measurement → List ℤ → List ℤ
pool_writes a b old = when_done (pool_outcome a b (length old)) (overwrite (pooled_samples a b) old) old

-- ---- what is promised

-- q is within 1/2 of the exact mean (a·v + b·w)/(v + w), and between its two parents
pub record Mean (a : ℤ) (v : ℕ) (b : ℤ) (w : ℕ) (q : ℤ) : Type 0 where
  pub near : 2 * nat_abs (q *ℤ pos (v + w) -ℤ (a *ℤ pos v +ℤ b *ℤ pos w)) ≤ v + w
  pub between : ((a ≤ℤ q) × (q ≤ℤ b)) ⊎ ((b ≤ℤ q) × (q ≤ℤ a))

-- so is every pooled sample of a call that is not refused, and it is within ±32768
abbrev pub Means : Type 0
Means =
    (a b : Measurement) (old : List ℤ) → pool_outcome a b (length old) ≡ done tt → (i : ℕ) → i < nodes_of a
    → Mean (at a.samples i) a.weight (at b.samples i) b.weight (at (pool_writes a b old) i)
    × (nat_abs (at (pool_writes a b old) i) ≤ sample_limit)

-- a limit that holds of a sample of both holds of the pooled one
abbrev pub WithinLimits : Type 0
WithinLimits =
    (a b : Measurement) (old : List ℤ) (limit : ℕ) → pool_outcome a b (length old) ≡ done tt → (i : ℕ) → i < nodes_of a
    → nat_abs (at a.samples i) ≤ limit → nat_abs (at b.samples i) ≤ limit → nat_abs (at (pool_writes a b old) i) ≤ limit

-- weight 0 gives the other lattice
abbrev pub WeightNought : Type 0
WeightNought =
    (a b : Measurement) (old : List ℤ) → pool_outcome a b (length old) ≡ done tt
    → (a.weight ≡ 0 → pool_writes a b old ≡ overwrite b.samples old) × (b.weight ≡ 0 → pool_writes a b old ≡ overwrite a.samples old)

-- a lattice pooled with itself is given back
abbrev pub WithItself : Type 0
WithItself =
    (a b : Measurement) (old : List ℤ) → pool_outcome a b (length old) ≡ done tt → a.samples ≡ b.samples
    → pool_writes a b old ≡ overwrite a.samples old
