-- `totals::Rows::sum` meets its contract. The invariant: the sum of the first r rows.
use mathlib.Core.Path.{◌≡◌, refl, ap, subst, ◌∙◌}
use Prim.Native.Nat.{ℕ, ◌+◌, ◌*◌, ◌/◌, ◌^◌, ◌≤◌, ◌<◌}
use native.Mathlib.Nat.{mul-le-mul_right, le_trans}
use native.Mathlib.Omega.{arith}
use lib.Dec.{lit<, lit≤}
use lib.IntN.{ℤ, nat_abs}
use lib.ListN.{get_or}
use mir.Syntax.{w64}
use mir.Val.{to_z}
use Rattle.arith.specs.Sum.{sum}
use Rattle.totals.specs.declared.Rows.{Rows}
use Rattle.totals.specs.Parts.{row_count, row_start, across, row_sum, rows_sum, EntriesWithin}
use Rattle.totals.proofs.SumLaws.{more-fits, more-sum}
use Rattle.totals.proofs.RowLaws.{rows_few, across-light, row_within, groups-nine, first-light, row-is}
use Rattle.totals.proofs.Rows.sum.Goals as goal
use Rattle.totals.proofs.Rows.sum.Goals.{After-row_sum-sum}

-- the rows
module _ (s : Rows) (within : (r : ℕ) → r < row_count s.cells
    → EntriesWithin (2 ^ 21) s.records.now (row_start s.layout s.cells r) (s.layout.entries * (get_or s.cells 0 0 + 1))) where
  abbrev m : ℕ
  m = s.layout.orders

  abbrev k : ℕ
  k = s.layout.entries / m

  abbrev one : ℕ → ℤ
  one r = row_sum m k (get_or s.cells 0 0) (across m s.cells r) s.records.now (row_start s.layout s.cells r)

  one-low : (r : ℕ) → r < row_count s.cells → nat_abs (one r) ≤ 2 ^ 48
  one-low r h = row_within m k (get_or s.cells 0 0) (across m s.cells r) s.records.now (row_start s.layout s.cells r)
      s.walk.orders-low s.walk.orders-high (s.walk.cells-few 0 (lit< tt))
      (across-light m k s.cells r s.walk.orders-low s.walk.orders-high s.walk.groups-few)
      (subst (λ (e : ℕ). EntriesWithin (2 ^ 21) s.records.now (row_start s.layout s.cells r) (e * (get_or s.cells 0 0 + 1)))
      s.walk.entries-are (within r h))

  all-low : row_count s.cells * 2 ^ 48 ≤ 2 ^ 61
  all-low = le_trans (mul-le-mul_right (2 ^ 48) (rows_few s.cells s.walk.cells-few)) (lit≤ tt)

pub loop-r-init : goal.loop-r-init
unfolding sum
loop-r-init c = refl

pub row_sum-sum-requires-clause-light : goal.row_sum-sum-requires-clause-light
row_sum-sum-requires-clause-light c =
    let s = c.args.self.now in
    let i = s.walk.inside c.loop-r.r (let e = c.count-r-end.ensures.0 in omega (arith, c.loop-r-test.true)) in
    let f = groups-nine (m s c.requires) (k s c.requires) s.walk.orders-high s.walk.groups-few in
    first-light (m s c.requires) (k s c.requires) (get_or s.cells 0 0) s.layout.entries c.start-start.result c.across-ys.result
    s.records.now
    (across (m s c.requires) s.cells c.loop-r.r) (omega arith) s.walk.entries-are c.across-ys.ensures
    (let e = c.start-start.ensures in omega arith)
    (across-light (m s c.requires) (k s c.requires) s.cells c.loop-r.r s.walk.orders-low s.walk.orders-high s.walk.groups-few)

-- the row at hand
is : (c : After-row_sum-sum) → c.row_sum-sum.result ≡ one c.args.self.now c.requires c.loop-r.r
is c =
    let s = c.args.self.now in
    let i = s.walk.inside c.loop-r.r (let e = c.count-r-end.ensures.0 in omega (arith, c.loop-r-test.true)) in
    let f = groups-nine (m s c.requires) (k s c.requires) s.walk.orders-high s.walk.groups-few in
    c.row_sum-sum.ensures
    ∙ row-is (m s c.requires) (k s c.requires) (get_or s.cells 0 0) s.layout.entries c.start-start.result c.across-ys.result s.records.now
    (across (m s c.requires) s.cells c.loop-r.r) (omega arith) s.walk.entries-are c.across-ys.ensures
    (let e = c.start-start.ensures in omega arith) (row_start s.layout s.cells c.loop-r.r) c.start-start.ensures

pub overflow_add-sum : goal.overflow_add-sum
overflow_add-sum c =
    let s = c.args.self.now in
    more-fits (row_count s.cells) (one s c.requires) (2 ^ 48) (one-low s c.requires) (all-low s c.requires) (lit< tt) c.loop-r.r
    (let e = c.count-r-end.ensures.0 in omega (arith, c.loop-r-test.true)) (to_z w64 c.loop-r.sum-bits) c.row_sum-sum.result
    c.loop-r.invariant (is c)

pub loop-r-preserved : goal.loop-r-preserved
loop-r-preserved c =
    let s = c.args.self.now in
    more-sum (row_count s.cells) (one s c.requires) (2 ^ 48) (one-low s c.requires) (all-low s c.requires) (lit< tt) c.loop-r.r
    (let e = c.count-r-end.ensures.0 in omega (arith, c.loop-r-test.true)) (to_z w64 c.loop-r.sum-bits) c.row_sum-sum.result
    c.loop-r.invariant (is c)

pub returns : goal.returns
unfolding rows_sum
returns c =
    let s = c.args.self.now in
    let e : c.loop-r.r ≡ row_count s.cells = (let h = c.count-r-end.ensures.0 in omega arith) in
    c.loop-r.invariant ∙ ap (λ (n : ℕ). sum n (one s c.requires)) e
