-- Coefficients of permitted corner records lie within ±2^30: each axis takes at most 32 times the numbers, doubled with each order, that it
-- is given.
use mathlib.Core.Path.{◌≡◌, refl, sym, ap, subst, ◌∙◌}
use mathlib.Core.List.{List, [], ◌∷◌}
use Prim.Native.Nat.{ℕ, zero, suc, ◌+◌, ◌*◌, ◌%◌, ◌^◌, ◌≤◌, ◌<◌}
use native.Mathlib.Nat.{le_trans, le_of_eq, pow-zero, pow-suc, mul-le-mul, pow-le-pow_right}
use native.Mathlib.Omega.{arith}
use native.Mathlib.Decide.{ℕ_discrete, dec_lt}
use lib.Dec.{lit≤, lit<}
use lib.Pow.{pow-add}
use lib.IntN.{ℤ, nat_abs}
use lib.ListN.{length}
use Rattle.arith.specs.Sum.{total, times}
use Rattle.lattice.specs.Axes.{Place, Field, origin, put, sweep, axes}
use Rattle.lattice.specs.Records.{total_order, sample_limit, entry_limit}
use Rattle.lattice.proofs.Along.{put-at, put-off, Fresh, Distinct, distinct-axes, length-axes, fresh-axes}
use Rattle.lattice.proofs.DigitsLaws.{Digits}
use Rattle.hermite.specs.Hermite.{forward}
use Rattle.hermite.proofs.BackLaws.{forward-size}
use Rattle.cell.specs.Coefficients.{coefficients, coefficient_count}
use Rattle.cell.specs.Corners.{corner_numbers, corner_entry}
use Rattle.cell.proofs.NumberLaws.{entry_in, numbers-entry}

module _ (m : ℕ) (m2 : 2 ≤ m) (m3 : m ≤ 3) where
  low-put : (a t : ℕ) (p : Place) → t < 2 * m → ((b : ℕ) → p b < 2 * m) → (b : ℕ) → put a t p b < 2 * m
  low-put a t p l h b = go (ℕ_discrete b a)
    where
      go : Dec (b ≡ a) → put a t p b < 2 * m
      go (yes e) = subst (λ (i : ℕ). put a t p i < 2 * m) (sym e) (rw (put-at a t p) l)
      go (no k) = rw (put-off a t b p k) (h b)

  -- numbers within B, doubled with each order along the axes of a list
  sweep-size : (ls : List ℕ) → Distinct ls → (B : ℕ) (g : Field) (p : Place) → ((b : ℕ) → p b < 2 * m)
      → ((q : Place) → ((b : ℕ) → q b < 2 * m) → ((b : ℕ) → Fresh b ls → q b ≡ p b) → nat_abs (g q) ≤ B * times ls (λ a. 2 ^ (q a % m)))
      → nat_abs (sweep ls (λ a. forward m 0) g p) ≤ 32 ^ length ls * B
  unfolding sweep times
  sweep-size [] d B g p low h = let z = h p low (λ b f. refl) in omega (arith, pow-zero 32)
  sweep-size (a ∷ ls) d B g p low h =
      le_trans
      (forward-size m m2 m3 (32 ^ length ls * B) 0 (λ t. sweep ls (λ a. forward m 0) g (put a t p))
      (λ t l. along-axis t (nat_abs (sweep ls (λ a. forward m 0) g (put a (m * 0 + t) p)))
      (sweep-size ls d.1 (B * 2 ^ (t % m)) g (put a (m * 0 + t) p) (low-put a (m * 0 + t) p (omega arith) low)
      (λ q k f. subst (λ (i : ℕ). nat_abs (g q) ≤ B * 2 ^ (i % m) * times ls (λ a. 2 ^ (q a % m)))
      (f a d.0 ∙ put-at a (m * 0 + t) p ∙ (omega arith))
      (split B (2 ^ (q a % m)) (times ls (λ a. 2 ^ (q a % m))) (nat_abs (g q))
      (h q k (λ b r. f b r.1 ∙ put-off a (m * 0 + t) b p r.0))))))
      (p a) (low a))
      (le_of_eq (more (32 ^ length ls) B (32 ^ suc (length ls)) (pow-suc 32 (length ls))))
    where
      more : (k B z : ℕ) → z ≡ k * 32 → 32 * (k * B) ≡ z * B
      more k B z e = rw e (omega arith)

      along-axis : (t z : ℕ) → z ≤ 32 ^ length ls * (B * 2 ^ (t % m)) → z ≤ 32 ^ length ls * B * 2 ^ (t % m)
      along-axis t z h = omega arith

      split : (B x y z : ℕ) → z ≤ B * (x * y) → z ≤ B * x * y
      split B x y z h = omega arith

  limit_is : (n : ℕ) (p : Place) → times (axes n) (λ a. 2 ^ (p a % m)) ≡ 2 ^ total_order m n p
  unfolding times axes total_order total
  limit_is zero p = sym (pow-zero 2)
  limit_is (suc n) p = ap (λ (k : ℕ). 2 ^ (p n % m) * k) (limit_is n p) ∙ sym (pow-add 2 (p n % m) (total_order m n p))
      ∙ ap (λ (k : ℕ). 2 ^ k) (turn (p n % m) (total_order m n p))
    where
      turn : (a b : ℕ) → a + b ≡ b + a
      turn a b = omega arith

  -- of a field within the limits of the entries
  pub field-size : (n : ℕ) (g : Field) → ((q : Place) → Digits n (2 * m) q → nat_abs (g q) ≤ entry_limit m n q) → (p : Place)
      → Digits n (2 * m) p → nat_abs (coefficients m n origin g p) ≤ 32 ^ n * sample_limit
  unfolding coefficients entry_limit
  field-size n g h p d =
      subst (λ (k : ℕ). nat_abs (sweep (axes n) (λ a. forward m 0) g p) ≤ 32 ^ k * sample_limit) (length-axes n)
      (sweep-size (axes n) (distinct-axes n) sample_limit g p low
      (λ q k f. rw (limit_is n q) (h q (record { used = λ a l. k a; unused = λ a l. f a (fresh-axes n a l) ∙ d.unused a l }))))
    where
      low : (b : ℕ) → p b < 2 * m
      low b = go (dec_lt b n)
        where
          go : Dec (b < n) → p b < 2 * m
          go (yes l) = d.used b l
          go (no k) = rw (d.unused b (omega (arith, k))) (omega arith)

  -- of corner records within their limits: three axes give 2^30
  pub coefficient-within : (n : ℕ) → n ≤ 3 → (r : ℕ → ℤ)
      → ((i : ℕ) → i < coefficient_count m n → nat_abs (r i) ≤ entry_limit m n (corner_numbers m n i)) → (p : Place) → Digits n (2 * m) p
      → nat_abs (coefficients m n origin (λ t. r (corner_entry m n t)) p) ≤ 2 ^ 30
  coefficient-within n few r within p d =
      le_trans (field-size n (λ t. r (corner_entry m n t))
      (λ q e. subst (λ (t : Place). nat_abs (r (corner_entry m n q)) ≤ entry_limit m n t) (numbers-entry m n (omega arith) q e)
      (within _ (entry_in m n (omega arith) q e))) p d)
      (mul-le-mul {m₂ = 32768} (pow-le-pow_right {n = 32} (lit< tt) {j = 3} few) (lit≤ tt))
