-- `hermite::basis_at` meets its contract: the low end's part, the high end's from the same with the distances exchanged, and its value's
-- from
-- both values.
use lib.Dec.{lit<}
use native.Mathlib.Nat.{le_trans, le_of_eq, lt_of_le_of_lt}
use Rattle.arith.proofs.Abs.{abs-minus, sfits-abs}
use Rattle.arith.proofs.Machine.{is-nat, kept}
use Rattle.hermite.proofs.HermiteLaws.{mirrored-size}
use Rattle.lattice.specs.Buffer.{at}
use Rattle.hermite.proofs.BasisLaws.{part-size, folds, folds-value}
use mathlib.Core.Path.{◌≡◌, ap, ap₂, ◌∙◌}
use Prim.Native.Nat.{ℕ, ◌≤◌, ◌<◌, ◌-◌, ◌^◌}
use native.Mathlib.Omega.{arith}
use lib.IntN.{ℤ, pos, nat_abs, ◌-ℤ◌}
use mir.Syntax.{w64}
use mir.Val.{SFits, to_z, of_z}
use mir.Facts.{to_z-of_z}
use Rattle.hermite.proofs.basis_at.Goals as goal

-- a distance as the machine holds it
module _ (n : ℕ) (h : n ≤ 256) where
  distance : to_z w64 n ≡ pos n
  distance = is-nat w64 n 256 h (lit< tt)

  distance-size : nat_abs (to_z w64 n) ≤ 256
  distance-size = le_trans (le_of_eq (ap nat_abs distance)) h

pub end_basis-requires : goal.end_basis-requires
end_basis-requires c =
    (c.requires.0, distance-size c.args.u c.requires.1, distance-size (256 - c.args.u) (omega arith))

pub mirror-high-requires : goal.mirror-high-requires
mirror-high-requires c =
    let s = c.before in (
      omega (arith, s.requires.0, s.args.m.bounds.1),
      λ o l. le_trans (le_of_eq (ap nat_abs (c.end_basis.ensures o l)))
          (part-size s.args.order s.args.m.count s.requires.0 s.args.m.bounds.0 s.args.m.bounds.1 (to_z w64 s.args.u)
          (to_z w64 (256 - s.args.u))
          (distance-size s.args.u s.requires.1) (distance-size (256 - s.args.u) (omega arith)) o l),
    )

pub end_basis-low-requires : goal.end_basis-low-requires
end_basis-low-requires c = let s = c.before.before in
    (s.requires.0, distance-size (256 - s.args.u) (omega arith), distance-size s.args.u s.requires.1)

-- the difference of two numbers as the machine holds them
module _ (b l : ℤ) (hb : nat_abs b ≤ 2 ^ 41) (hl : nat_abs l ≤ 2 ^ 62) where
  difference-fits : SFits w64 (to_z w64 (of_z w64 b) -ℤ to_z w64 (of_z w64 l))
  difference-fits = rw (kept b (2 ^ 41) hb (lit< tt), kept l (2 ^ 62) hl (lit< tt))
      (sfits-abs (b -ℤ l) (lt_of_le_of_lt (abs-minus b l) (omega arith)))

  difference : to_z w64 (of_z w64 (to_z w64 (of_z w64 b) -ℤ to_z w64 (of_z w64 l))) ≡ b -ℤ l
  difference = to_z-of_z difference-fits ∙ ap₂ ◌-ℤ◌ (kept b (2 ^ 41) hb (lit< tt)) (kept l (2 ^ 62) hl (lit< tt))

pub overflow_sub-result : goal.overflow_sub-result
overflow_sub-result c =
    let s = c.args in
    let r = c.requires in
    difference-fits c.both_values.result (at c.end_basis-low.result 0) c.both_values.ensures.1
    (le_trans (le_of_eq (ap nat_abs (c.end_basis-low.ensures 0 (lit< tt))))
    (part-size s.order s.m.count r.0 s.m.bounds.0 s.m.bounds.1 (to_z w64 (256 - s.u)) (to_z w64 s.u)
    (distance-size (256 - s.u) (omega arith))
    (distance-size s.u r.1) 0 (lit< tt)))

pub returns : goal.returns
returns c =
    let s = c.args in
    let r = c.requires in
    let on = distance-size s.u r.1 in
    let back : nat_abs (to_z w64 (256 - s.u)) ≤ 256 = distance-size (256 - s.u) (omega arith) in
    let low = c.end_basis-low.result in
    let high = c.mirror-high.result in
    let low-size : nat_abs (at low 0) ≤ 2 ^ 62 =
    le_trans (le_of_eq (ap nat_abs (c.end_basis-low.ensures 0 (lit< tt))))
    (part-size s.order s.m.count r.0 s.m.bounds.0 s.m.bounds.1 (to_z w64 (256 - s.u)) (to_z w64 s.u) back on 0 (lit< tt)) in
    let high-size : (o : ℕ) → o < 3 → nat_abs (at high o) ≤ 2 ^ 62 =
    (λ o l. le_trans (le_of_eq (ap nat_abs (c.mirror-high.ensures o l) ∙ mirrored-size _ _))
    (le_trans (le_of_eq (ap nat_abs (c.end_basis.ensures o l)))
    (part-size s.order s.m.count r.0 s.m.bounds.0 s.m.bounds.1 (to_z w64 s.u) (to_z w64 (256 - s.u)) on back o l))) in
    folds-value s.order s.m.count s.u low high _ _ _ c.both_values.result
    (folds s.order s.m.count s.u (record { low = low; high = high }) r.0 s.m.bounds.0 s.m.bounds.1 r.1
    (to_z w64 (256 - s.u)) (to_z w64 s.u) (distance (256 - s.u) (omega arith)) (distance s.u r.1)
    (at c.end_basis.result) c.end_basis-low.ensures c.end_basis.ensures c.mirror-high.ensures)
    (c.both_values.ensures.0 s.u r.1)
    (difference c.both_values.result (at low 0) c.both_values.ensures.1 low-size)
    (kept (at high 1) (2 ^ 62) (high-size 1 (lit< tt)) (lit< tt)) (kept (at high 2) (2 ^ 62) (high-size 2 (lit< tt)) (lit< tt))
