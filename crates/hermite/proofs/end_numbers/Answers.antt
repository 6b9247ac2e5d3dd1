-- `hermite::end_numbers` meets its contract: multipliers and coefficients are small, so that nothing overflows.
use mathlib.Core.Path.{◌≡◌, ◌∙◌}
use lib.Dec.{lit<}
use Prim.Native.Nat.{ℕ, ◌<◌, ◌≤◌, ◌^◌}
use lib.IntN.{ℤ, nat_abs}
use Rattle.arith.proofs.Choices.{by-3}
use Rattle.arith.proofs.Machine.{kept, kept_low}
use Rattle.lattice.specs.Buffer.{at}
use Rattle.hermite.specs.Hermite.{multiplier, solved}
use Rattle.hermite.proofs.DotLaws.{held}
use Rattle.hermite.proofs.BasisLaws.{multiplier-read, multiplier-size}
use Rattle.hermite.proofs.EndLaws.{Solves, solves-fit}
use Rattle.hermite.proofs.end_numbers.Goals as goal
use Rattle.hermite.proofs.end_numbers.Goals.{After-result-3-1, After-row-c, Start}

abbrev row2-before : After-result-3-1 → After-row-c
row2-before c = c.before.before.before.before.before.before

module _ (s : Start) where
  -- a coefficient, and a multiplier, as read
  size : (i : ℕ) → i < 3 → nat_abs (held (at s.args.y i)) ≤ 2 ^ 50
  size i l = kept_low (at s.args.y i) (2 ^ 50) (s.requires i l) (lit< tt)

  read : (i : ℕ) → i < 3 → held (at s.args.y i) ≡ at s.args.y i
  read i l = kept (at s.args.y i) (2 ^ 50) (s.requires i l) (lit< tt)

  factor : (k : ℕ) → k < 3 → (o : ℕ) → o < 3 → (z : ℤ) → z ≡ multiplier s.args.m.count k o → held z ≡ multiplier s.args.m.count k o
  factor k lk o lo z e = multiplier-read s.args.m.count s.args.m.bounds.0 s.args.m.bounds.1 k lk o lo z e

  small : (k : ℕ) → k < 3 → (o : ℕ) → o < 3 → (z : ℤ) → z ≡ multiplier s.args.m.count k o → nat_abs (held z) ≤ 20
  small k lk o lo z e = rw (factor k lk o lo z e) (multiplier-size s.args.m.count s.args.m.bounds.0 s.args.m.bounds.1 k lk o lo)

module _ (q : After-row-c) where
  abbrev start : Start
  start = q.before.before

  -- by the rows as read
  solved-by : Solves (held (at q.row-b.result 0)) (held (at q.row-c.result 0)) (held (at q.row-c.result 1))
      (held (at start.args.y 0)) (held (at start.args.y 1)) (held (at start.args.y 2))
  solved-by =
      solves-fit (held (at q.row-b.result 0)) (held (at q.row-c.result 0)) (held (at q.row-c.result 1))
      (held (at start.args.y 0)) (held (at start.args.y 1)) (held (at start.args.y 2))
      (small start 1 (lit< tt) 0 (lit< tt) _ (q.row-b.ensures 0)) (small start 2 (lit< tt) 0 (lit< tt) _ (q.row-c.ensures 0))
      (small start 2 (lit< tt) 1 (lit< tt) _ (q.row-c.ensures 1))
      (size start 0 (lit< tt)) (size start 1 (lit< tt)) (size start 2 (lit< tt))

pub returns : goal.returns
unfolding solved
returns c =
    let q = row2-before c in
    let s = q.before.before in
    let x = factor s 1 (lit< tt) 0 (lit< tt) _ (q.row-b.ensures 0) in
    let y = factor s 2 (lit< tt) 0 (lit< tt) _ (q.row-c.ensures 0) in
    let z = factor s 2 (lit< tt) 1 (lit< tt) _ (q.row-c.ensures 1) in
    by-3 _ (read s 0 (lit< tt)) ((solved-by q).second ∙ rw (x, read s 0 (lit< tt), read s 1 (lit< tt)))
    ((solved-by q).third ∙ rw (x, y, z, read s 0 (lit< tt), read s 1 (lit< tt), read s 2 (lit< tt)))

pub overflow_mul-d : goal.overflow_mul-d
overflow_mul-d c = (solved-by c.before.before).yy

pub overflow_mul-d-2 : goal.overflow_mul-d-2
overflow_mul-d-2 c = (solved-by c.before.before.before).px

pub overflow_sub-d : goal.overflow_sub-d
overflow_sub-d c = (solved-by c.before.before.before).d

pub overflow_mul-result : goal.overflow_mul-result
overflow_mul-result c = (solved-by c.before.before.before.before).zz

pub overflow_mul-result-2 : goal.overflow_mul-result-2
overflow_mul-result-2 c = (solved-by c.before.before.before.before.before).qx

pub overflow_sub-result : goal.overflow_sub-result
overflow_sub-result c = (solved-by c.before.before.before.before.before).less-qx

pub overflow_mul-result-3 : goal.overflow_mul-result-3
overflow_mul-result-3 c = (solved-by (row2-before c)).rd

pub overflow_sub-result-2 : goal.overflow_sub-result-2
overflow_sub-result-2 c = (solved-by (row2-before c)).less-rd
