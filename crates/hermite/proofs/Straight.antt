-- A stage of straight numbers is on the line, for both degrees and every number of steps.
use mathlib.Core.Path.{◌≡◌, refl, sym, ap, ap₂, ◌∙◌}
use mathlib.Core.List.{[], ◌∷◌}
use Prim.Native.Nat.{ℕ, zero, suc, ◌+◌, ◌*◌, ◌-◌, ◌^◌, ◌≤◌, ◌<◌}
use native.Mathlib.Nat.{pow-suc}
use native.Mathlib.Omega.{arith}
use lib.IntN.{ℤ, pos, ◌+ℤ◌, ◌*ℤ◌}
use Rattle.arith.specs.Int.{◌^ℤ◌}
use Rattle.arith.specs.Sum.{sum}
use Rattle.arith.proofs.Choices.{by-m, by_order}
use Rattle.arith.proofs.Round.{pos-power}
use Rattle.arith.proofs.Quote.{quotes, ring! }
use Rattle.arith.proofs.Sums.{sum-ext, sum-ends}
use Rattle.lattice.proofs.Straight.{line-next, on_line}
use Rattle.hermite.specs.Hermite.{multiplier, mirrored, weight, divisor, stage_sum, basis}
use Rattle.hermite.specs.Stage.{Smooth}
use Rattle.hermite.proofs.HermiteLaws.{stage-linear, end_basis, basis-low, basis-high}

-- the numbers of both ends by their basis
ends : ℕ → ℕ → ℤ → ℤ → ℤ → ℤ → ℤ
ends k m a b F B =
    sum m (λ o. end_basis k m a b o *ℤ on_line F B o) +ℤ sum m (λ o. mirrored (o + k) (end_basis k m b a o) *ℤ on_line (F +ℤ B) B o)

-- what is then left: the value at step u of N, the rise, or nothing
rest : ℕ → ℤ → ℤ → ℤ → ℤ → ℤ
rest zero N u F B = N *ℤ F +ℤ u *ℤ B
rest (suc zero) N u F B = B
rest (suc (suc k)) N u F B = pos 0

-- both sums by the basis, for each order of each degree
by-ends : (m : ℕ) → 2 ≤ m → m ≤ 3 → (k : ℕ) → Smooth k m → (a b F B : ℤ)
    → ends k m a b F B ≡ pos 2 *ℤ (a +ℤ b) ^ℤ (2 * m - 2) *ℤ rest k (a +ℤ b) b F B
unfolding ends rest end_basis sum multiplier weight mirrored on_line
by-ends =
    by_order (λ m k. (a b F B : ℤ) → ends k m a b F B ≡ pos 2 *ℤ (a +ℤ b) ^ℤ (2 * m - 2) *ℤ rest k (a +ℤ b) b F B)
    (λ a b F B.
    ring! (a ∷ b ∷ F ∷ B ∷ []) (record { left = search quotes depth 60 fits 8000; right = search quotes depth 60 fits 8000 }) tt)
    (λ a b F B.
    ring! (a ∷ b ∷ F ∷ B ∷ []) (record { left = search quotes depth 60 fits 8000; right = search quotes depth 60 fits 8000 }) tt)
    (λ a b F B.
    ring! (a ∷ b ∷ F ∷ B ∷ []) (record { left = search quotes depth 60 fits 8000; right = search quotes depth 60 fits 8000 }) tt)
    (λ a b F B.
    ring! (a ∷ b ∷ F ∷ B ∷ []) (record { left = search quotes depth 60 fits 8000; right = search quotes depth 60 fits 8000 }) tt)
    (λ a b F B.
    ring! (a ∷ b ∷ F ∷ B ∷ []) (record { left = search quotes depth 60 fits 8000; right = search quotes depth 60 fits 8000 }) tt)

-- the unit and the coordinate of the point x, counted in steps: of the value, of the rise, or of nothing
unfoldable pub unit_of : ℕ → ℕ → ℕ
unit_of zero N = N
unit_of (suc k) N = 0

unfoldable pub coordinate_of : ℕ → ℕ → ℕ → ℕ
coordinate_of zero N x = x
coordinate_of (suc zero) N x = N
coordinate_of (suc (suc k)) N x = 0

-- a constant's numbers have the value alone
first-only : (m : ℕ) → 2 ≤ m → m ≤ 3 → (E : ℕ → ℤ) → sum m (λ o. E o *ℤ on_line (pos 1) (pos 0) o) ≡ E 0
unfolding sum on_line
first-only =
    by-m (λ m. (E : ℕ → ℤ) → sum m (λ o. E o *ℤ on_line (pos 1) (pos 0) o) ≡ E 0)
    (λ E. ring! (E 0 ∷ E 1 ∷ []) (record { left = search quotes depth 40; right = search quotes depth 40 }) tt)
    (λ E. ring! (E 0 ∷ E 1 ∷ E 2 ∷ []) (record { left = search quotes depth 40; right = search quotes depth 40 }) tt)

rest-one : (k : ℕ) (N : ℕ) (u : ℤ) → rest k (pos N) u (pos 1) (pos 0) ≡ pos (unit_of k N)
unfolding rest unit_of
rest-one zero N u = ring! (pos N ∷ u ∷ []) (record { left = search quotes depth 40; right = search quotes depth 40 }) tt
rest-one (suc zero) N u = refl
rest-one (suc (suc k)) N u = refl

-- what a stage takes of the values of both ends, which depends on no step
pub both-values : (k m N u : ℕ) → Smooth k m → 2 ≤ m → m ≤ 3 → u ≤ N
    → basis k m N u 0 +ℤ basis k m N u m ≡ pos 2 *ℤ pos (N ^ (2 * m - 2)) *ℤ pos (unit_of k N)
unfolding ends
both-values k m N u smooth m2 m3 h =
    let whole : N - u + u ≡ N = omega arith in
    let first : m ≡ m + 0 = omega arith in
    let E = end_basis k m (pos (N - u)) (pos u) in
    let F : ℕ → ℤ = (λ o. mirrored (o + k) (end_basis k m (pos u) (pos (N - u)) o)) in
    ap₂ ◌+ℤ◌ (basis-low k m N u m2 m3 0 (omega arith)) (ap (basis k m N u) first ∙ basis-high k m N u m2 m3 0 (omega arith))
    ∙ sym (ap₂ ◌+ℤ◌ (first-only m m2 m3 E) (first-only m m2 m3 F))
    ∙ by-ends m m2 m3 k smooth (pos (N - u)) (pos u) (pos 1) (pos 0)
    ∙ ap (λ (i : ℕ). pos 2 *ℤ pos i ^ℤ (2 * m - 2) *ℤ rest k (pos i) (pos u) (pos 1) (pos 0)) whole
    ∙ ap₂ (λ y z. pos 2 *ℤ y *ℤ z) (pos-power N (2 * m - 2)) (rest-one k N (pos u))

-- times N: the divisor times the value at step u of cell c, times the rise, or times nothing
scaled : (k m N c u : ℕ) (A B : ℤ) → 2 ≤ m
    → pos 2 *ℤ pos (N ^ (2 * m - 2)) *ℤ rest k (pos N) (pos u) (A +ℤ pos c *ℤ B) B *ℤ pos N
    ≡ pos (divisor k m N) *ℤ (pos (unit_of k N) *ℤ A +ℤ pos (coordinate_of k N (N * c + u)) *ℤ B)
unfolding divisor unit_of coordinate_of rest
scaled zero m N c u A B m2 =
    let e : 2 * m - 1 - 0 ≡ suc (2 * m - 2) = omega arith in
    go (pos (N ^ (2 * m - 2))) (pos N) (pos c) (pos u) A B
    ∙ ap (λ (P : ℕ). pos 2 *ℤ pos P *ℤ (pos N *ℤ A +ℤ (pos N *ℤ pos c +ℤ pos u) *ℤ B))
    (sym (ap (λ (i : ℕ). N ^ i) e ∙ pow-suc N (2 * m - 2)))
  where
    go : (P N c u A B : ℤ) → pos 2 *ℤ P *ℤ (N *ℤ (A +ℤ c *ℤ B) +ℤ u *ℤ B) *ℤ N ≡ pos 2 *ℤ (P *ℤ N) *ℤ (N *ℤ A +ℤ (N *ℤ c +ℤ u) *ℤ B)
    go P N c u A B = ring! (P ∷ N ∷ c ∷ u ∷ A ∷ B ∷ []) (search quotes depth 60) tt
scaled (suc zero) m N c u A B m2 =
    let e : 2 * m - 1 - 1 ≡ 2 * m - 2 = omega arith in
    go (pos (N ^ (2 * m - 2))) (pos N) A B ∙ ap (λ (i : ℕ). pos 2 *ℤ pos (N ^ i) *ℤ (pos 0 *ℤ A +ℤ pos N *ℤ B)) (sym e)
  where
    go : (P N A B : ℤ) → pos 2 *ℤ P *ℤ B *ℤ N ≡ pos 2 *ℤ P *ℤ (pos 0 *ℤ A +ℤ N *ℤ B)
    go P N A B = ring! (P ∷ N ∷ A ∷ B ∷ []) (search quotes depth 60) tt
scaled (suc (suc k)) m N c u A B m2 = go (pos (N ^ (2 * m - 2))) (pos (2 * N ^ (2 * m - 1 - suc (suc k)))) (pos N) A B
  where
    go : (P D N A B : ℤ) → pos 2 *ℤ P *ℤ pos 0 *ℤ N ≡ D *ℤ (pos 0 *ℤ A +ℤ pos 0 *ℤ B)
    go P D N A B = ring! (P ∷ D ∷ N ∷ A ∷ B ∷ []) (record { left = search quotes depth 60; right = search quotes depth 60 }) tt

module _ (k m N c u : ℕ) (smooth : Smooth k m) (m2 : 2 ≤ m) (m3 : m ≤ 3) (h : u ≤ N) (A B : ℤ) (y : ℕ → ℤ)
    (line : (i o : ℕ) → c ≤ i → i ≤ c + 1 → o < m → y (m * i + o) ≡ on_line (A +ℤ pos i *ℤ B) B o) where
  abbrev here : ℤ
  here = A +ℤ pos c *ℤ B

  low : (o : ℕ) → o < m → basis k m N u o *ℤ y (m * c + o) ≡ end_basis k m (pos (N - u)) (pos u) o *ℤ on_line here B o
  low o l = ap₂ ◌*ℤ◌ (basis-low k m N u m2 m3 o l) (line c o (omega arith) (omega arith) l)

  high : (o : ℕ) → o < m
      → basis k m N u (m + o) *ℤ y (m * c + (m + o)) ≡ mirrored (o + k) (end_basis k m (pos u) (pos (N - u)) o) *ℤ on_line (here +ℤ B) B o
  high o l =
      let e : m * c + (m + o) ≡ m * suc c + o = omega arith in
      ap₂ ◌*ℤ◌ (basis-high k m N u m2 m3 o l)
      (ap y e ∙ line (suc c) o (omega arith) (omega arith) l ∙ ap (λ f. on_line f B o) (line-next A B c))

  pub stage-line : (j : ℕ) → stage_sum k m N c u y j *ℤ pos N
      ≡ pos (divisor k m N) *ℤ (pos (unit_of k N) *ℤ A +ℤ pos (coordinate_of k N (N * c + u)) *ℤ B)
  unfolding stage-linear ends
  stage-line j =
      ap (λ z. z *ℤ pos N)
      ((stage-linear k m N c u).is y j ∙ sum-ends m m2 m3 (λ t. basis k m N u t *ℤ y (m * c + t))
      ∙ ap₂ ◌+ℤ◌ (sum-ext m (λ o. basis k m N u o *ℤ y (m * c + o)) (λ o. end_basis k m (pos (N - u)) (pos u) o *ℤ on_line here B o) low)
      (sum-ext m (λ o. basis k m N u (m + o) *ℤ y (m * c + (m + o)))
      (λ o. mirrored (o + k) (end_basis k m (pos u) (pos (N - u)) o) *ℤ on_line (here +ℤ B) B o) high)
      ∙ by-ends m m2 m3 k smooth (pos (N - u)) (pos u) here B
      ∙ ap (λ (i : ℕ). pos 2 *ℤ pos i ^ℤ (2 * m - 2) *ℤ rest k (pos i) (pos u) here B) whole
      ∙ ap (λ z. pos 2 *ℤ z *ℤ rest k (pos N) (pos u) here B) (pos-power N (2 * m - 2)))
      ∙ scaled k m N c u A B m2
    where
      whole : N - u + u ≡ N
      whole = omega arith
