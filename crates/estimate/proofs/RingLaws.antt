-- Rows that are worked off along z, where they stand: one is added to the ring, the others stay, and three of them make a row worked off
-- along y.
use mathlib.Core.Path.{◌≡◌, sym, ap, subst, ◌∙◌}
use mathlib.Core.Logic.{⊎_elim}
use mathlib.Core.List.{List}
use Prim.Native.Nat.{ℕ, suc, ◌+◌, ◌*◌, ◌/◌, ◌%◌, ◌≤◌, ◌<◌}
use native.Mathlib.Nat.{le_trans, one-mul, mul-zero, mul-le-mul, eq-or-lt_of_le}
use native.Mathlib.Omega.{arith}
use lib.Dec.{ltb}
use lib.IntN.{ℤ}
use lib.ListN.{length}
use borrow.Author.Tests.{ltb-false}
use Rattle.arith.proofs.Choices.{on-pick}
use Rattle.lattice.specs.Buffer.{at}
use Rattle.lattice.proofs.DigitsLaws.{high-below, high_digit}
use Rattle.estimate.specs.declared.Grid.{Grid}
use Rattle.estimate.specs.Estimate.{NextTo}
use Rattle.estimate.specs.Passes.{placed, since, grouped, before, behind, at_border, pass_of, row_start, row_z, row_yz, Read, Samples, RowStands, Ring}
use Rattle.estimate.proofs.EstimateLaws.{near_before, near-behind}
use Rattle.estimate.proofs.PlacedLaws.{placed-length, placed_off, placed_at, placed-front}
use Rattle.estimate.proofs.PassesLaws.{row_read, row-z-high, row-z-size, one-order, pass-is}

behind-top : {count i v : ℕ} → NextTo count i v → v ≤ behind count i
unfolding behind
behind-top {count} {i} {v} near =
    on-pick (λ k. v ≤ k) (ltb (suc i) count) (suc i) i (λ e. omega (arith, near.high))
    (λ e. omega (arith, near.there, ltb-false (suc i) count e))

-- rows u, y and v stand in a list
pub record Three (g : Grid) (xs : List ℤ) (u y v z : ℕ) (b : List ℤ) (low mid high : ℕ) : Type 0 where
  pub below : RowStands g xs u z b low
  pub here : RowStands g xs y z b mid
  pub above : RowStands g xs v z b high

module _ {g : Grid} {xs : List ℤ} (ok : Samples g xs) where
  abbrev w : ℕ
  w = g.z.orders * g.x.count

  abbrev slot : ℕ → ℕ
  slot v = w * (v % 3)

  -- a row of samples that have no orders along z
  plain : g.z.orders ≡ 1 → (v z : ℕ) → v < g.y.count → z < g.z.count → RowStands g xs v z xs (row_start g v z)
  unfolding row_z row_start
  plain e v z i l =
      record {
        inside = rw (e, one-mul g.x.count) (row_read g xs v z ok i l).inside;
        same = λ t h. sym (one-order g.z.orders e g.z.count (λ k. since xs (row_start g v k)) z t);
      }

  -- ---- a row is added to the ring

  pub slot-in : (v : ℕ) → slot v + w ≤ 576
  slot-in v = let s : v % 3 + 1 ≤ 3 = omega arith in omega (arith, mul-le-mul (row-z-high g ok.grid) s)

  module _ (v z : ℕ) (b next : List ℤ) (long : length b ≡ 576) (e : next ≡ placed (slot v) w (row_z g xs v z) b) where
    added : RowStands g xs v z next (slot v)
    added =
        let l : slot v + w ≤ length b = omega (arith, slot-in v) in
        rw e (record { inside = rw placed-length l; same = λ t i. placed_at (slot v) w (row_z g xs v z) b t i l })

    kept : (u : ℕ) → u < v → v ≤ u + 2 → RowStands g xs u z b (slot u) → RowStands g xs u z next (slot u)
    kept u l h s =
        rw e
        (record {
          inside = rw placed-length s.inside;
          same = λ t i. placed_off (slot v) w (row_z g xs v z) b (slot u + t)
              (λ j k d. apart (sym (high_digit w (u % 3) t i) ∙ ap (λ (n : ℕ). n / w) d ∙ high_digit w (v % 3) j k)) ∙ s.same t i;
        })
      where
        apart : u % 3 ≡ v % 3 → ⊥
        apart d = omega arith

  -- the first row of a plane
  pub ring-first : (z : ℕ) (b next : List ℤ) → length b ≡ 576 → next ≡ placed 0 w (row_z g xs 0 z) b → Ring g xs 0 z next
  ring-first z b next long e v l h i =
      let d : v ≡ 0 = omega arith in
      rw d (added 0 z b next long (subst (λ (k : ℕ). next ≡ placed k w (row_z g xs 0 z) b) (sym (mul-zero w)) e))

  -- ---- row y and its neighbours

  read : {i z k : ℕ} {b : List ℤ} → RowStands g xs i z b k → Read b k w
  read {i} {z} s = record { inside = s.inside; small = λ t l. rw (s.same t l) (le_trans (row-z-size g xs i z t ok) (omega arith)) }

  pub reads : {u y v z low mid high : ℕ} {b : List ℤ} → Three g xs u y v z b low mid high → Read b low w × Read b mid w × Read b high w
  reads s = (read s.below, read s.here, read s.above)

  -- they stand in samples that have no orders along z
  pub plain-three : (u y v z : ℕ) → u < g.y.count → y < g.y.count → v < g.y.count → z < g.z.count → g.z.orders ≡ 1
      → Three g xs u y v z xs (row_start g u z) (row_start g y z) (row_start g v z)
  plain-three u y v z in-u in-y in-v in-z e =
      record { below = plain e u z in-u in-z; here = plain e y z in-y in-z; above = plain e v z in-v in-z }

  module _ (u y v : ℕ) {z : ℕ} (low-is : u ≡ before y) (high_is : v ≡ behind g.y.count y) where
    -- a pass along y over the three
    pub made : {low mid high : ℕ} {b next : List ℤ} → Three g xs u y v z b low mid high → (r : List ℤ) → g.y.orders * w ≤ length r
        → next ≡ placed 0 (g.y.orders * w) (pass_of (at_border g.y.count y) g.y.orders (since b low) (since b mid) (since b high)) r
        → (t : ℕ) → t < g.y.orders * w → at next t ≡ row_yz g xs y z t
    unfolding row_yz grouped
    made {low} {mid} {high} {b} s r room e t i =
        let q : t / g.y.orders < w = high-below ok.grid.my.0 i in
        ap (λ (b : List ℤ). at b t) e
        ∙ placed-front (g.y.orders * w) (pass_of (at_border g.y.count y) g.y.orders (since b low) (since b mid) (since b high)) r t i room
        ∙ rw (s.below.same (t / g.y.orders) q, s.here.same (t / g.y.orders) q, s.above.same (t / g.y.orders) q, low-is, high_is)
        (pass-is g.y.orders g.y.count y ok.grid.y-used (λ v. row_z g xs v z) t)

    -- in the ring they stand once the upper one is added
    module _ (in-y : y < g.y.count) {b next : List ℤ} (long : length b ≡ 576) (ring : Ring g xs y z b)
        (e : next ≡ placed (slot v) w (row_z g xs v z) b) where
      stand : (i : ℕ) → NextTo g.y.count y i → RowStands g xs i z next (slot i)
      stand i near =
          let h = rw (← high_is) at (near-behind g.y.count y in-y) in
          ⊎_elim (λ (d : i ≡ v). rw d (added v z b next long e))
          (λ (d : i < v). kept v z b next long e i d (omega (arith, h.high, near.low))
          (ring i near.low (omega (arith, h.high)) near.there))
          (eq-or-lt_of_le (rw high_is (behind-top near)))

      pub ring-three : Three g xs u y v z next (slot u) (slot y) (slot v)
      ring-three =
          record {
            below = stand u (rw low-is (near_before g.y.count y in-y));
            here = stand y (record { low = omega arith; high = omega arith; there = in-y });
            above = stand v (rw high_is (near-behind g.y.count y in-y));
          }

      pub ring-next : Ring g xs (y + 1) z next
      ring-next j l h i = stand j (record { low = omega arith; high = h; there = i })
