-- `totals::Rows::row_sum` meets its contract. The invariant: the sum of the first i records.
use mathlib.Core.Path.{◌≡◌, refl, sym, ap, ◌∙◌}
use Prim.Native.Nat.{ℕ, ◌+◌, ◌*◌, ◌/◌, ◌^◌, ◌≤◌, ◌<◌}
use native.Mathlib.Nat.{le_trans, not-suc-le-zero, mul-le-mul_right}
use native.Mathlib.Omega.{arith}
use lib.Dec.{lit<, lit≤}
use lib.IntN.{ℤ, nat_abs}
use lib.ListN.{length, get_or}
use mir.Syntax.{w64}
use mir.Val.{to_z}
use Rattle.arith.specs.Sum.{sum}
use Rattle.lattice.specs.Buffer.{at}
use Rattle.lattice.proofs.DigitsLaws.{group-room}
use Rattle.totals.specs.declared.Rows.{Rows}
use Rattle.totals.specs.Parts.{taken_at, record_sum, row_sum}
use Rattle.totals.proofs.RowLaws.{record-of, groups-nine}
use Rattle.totals.proofs.SumLaws.{more-fits, more-sum, more-within, record_same}
use Rattle.totals.proofs.TakenLaws.{factors-light}
use Rattle.totals.proofs.Rows.row_sum.Goals as goal
use Rattle.totals.proofs.Rows.row_sum.Goals.{After-record_sum-sum}

pub loop-i-init : goal.loop-i-init
unfolding sum
loop-i-init c = (refl, λ i h. absurd (not-suc-le-zero h))

-- the entries of a record, of the records of a row
parts : (s : Rows) (k : ℕ) → k ≡ s.layout.entries / s.layout.orders → s.layout.entries ≡ s.layout.orders * k
parts s k e = s.walk.entries-are ∙ ap (λ (g : ℕ). s.layout.orders * g) (sym e)

room : (s : Rows) (n i : ℕ) → n ≡ s.layout.entries * (get_or s.cells 0 0 + 1) → i < get_or s.cells 0 0 + 1
    → s.layout.entries * i + s.layout.entries ≤ n
room s n i e l = rw e (group-room s.layout.entries i (get_or s.cells 0 0 + 1) l)

pub overflow_add-i-end : goal.overflow_add-i-end
overflow_add-i-end c = let h = c.args.self.now.walk.cells-few 0 (lit< tt) in omega arith

pub overflow_mul-entries : goal.overflow_mul-entries
overflow_mul-entries c =
    let h = room c.args.self.now (length c.args.row.now) c.loop-i.i c.requires.long.1 c.loop-i-test.true in
    omega arith

pub record_sum-sum-requires-clause-long : goal.record_sum-sum-requires-clause-long
record_sum-sum-requires-clause-long c =
    let s = c.args.self.now in
    let e = c.requires.long.0 in
    let h = groups-nine s.layout.orders (s.layout.entries / s.layout.orders) s.walk.orders-high s.walk.groups-few in
    let k = room s (length c.args.row.now) c.loop-i.i c.requires.long.1 c.loop-i-test.true in
    let p = parts s (length c.args.ys.now) e in
    (omega arith, omega arith)

pub record_sum-sum-requires-clause-light : goal.record_sum-sum-requires-clause-light
record_sum-sum-requires-clause-light c = (
  factors-light c.args.self.now.layout.orders (get_or c.args.self.now.cells 0 0) c.loop-i.i (at c.factors-x.result)
      c.args.self.now.walk.orders-low c.args.self.now.walk.orders-high c.factors-x.ensures,
  c.requires.light,
)

-- the records up to the one at hand
module _ (c : After-record_sum-sum) where
  abbrev k : ℕ
  k = c.loop-i.i

  abbrev one : ℕ → ℤ
  one = record-of c.args.self.now.layout.orders (length c.args.ys.now) (get_or c.args.self.now.cells 0 0) c.args.ys.now c.args.row.now

  is : c.record_sum-sum.result ≡ one k
  is =
      let a = c.args in
      let m = a.self.now.layout.orders in
      let g = length a.ys.now in
      let e : a.self.now.layout.entries * k ≡ 0 + m * g * k =
      (let q = ap (λ (j : ℕ). j * k) (parts a.self.now (length a.ys.now) c.requires.long.0) in omega arith) in
      c.record_sum-sum.ensures.value
      ∙ record_same m g (at c.factors-x.result) (taken_at m (get_or a.self.now.cells 0 0) k) (at a.ys.now) (at a.ys.now) a.row.now
      (a.self.now.layout.entries * k) c.factors-x.ensures (λ g l. refl)
      ∙ ap (record_sum m g (taken_at m (get_or a.self.now.cells 0 0) k) (at a.ys.now) a.row.now) e

  low : (i : ℕ) → i < k + 1 → nat_abs (one i) ≤ 2 ^ 52
  low = more-within one (2 ^ 52) k c.loop-i.invariant.1 (rw (sym is) c.record_sum-sum.ensures.low)

  fits : (k + 1) * 2 ^ 52 ≤ 2 ^ 61
  fits = le_trans (mul-le-mul_right (2 ^ 52)
      (let h : k + 1 ≤ 64 = (let b = c.loop-i-test.true in let l = c.args.self.now.walk.cells-few 0 (lit< tt) in omega arith) in h))
      (lit≤ tt)

pub overflow_add-sum : goal.overflow_add-sum
overflow_add-sum c =
    more-fits (k c + 1) (one c) (2 ^ 52) (low c) (fits c) (lit< tt) (k c) (omega arith) (to_z w64 c.loop-i.sum-bits)
    c.record_sum-sum.result c.loop-i.invariant.0 (is c)

pub loop-i-preserved : goal.loop-i-preserved
loop-i-preserved c = (
  more-sum (k c + 1) (one c) (2 ^ 52) (low c) (fits c) (lit< tt) (k c) (omega arith) (to_z w64 c.loop-i.sum-bits)
      c.record_sum-sum.result c.loop-i.invariant.0 (is c),
  low c,
)

pub returns : goal.returns
unfolding row_sum
returns c =
    let a = c.args in
    let e : c.loop-i.i ≡ get_or a.self.now.cells 0 0 + 1 = omega arith in
    c.loop-i.invariant.0
    ∙ ap (λ (i : ℕ). sum i (record-of a.self.now.layout.orders (length a.ys.now) (get_or a.self.now.cells 0 0) a.ys.now a.row.now)) e
