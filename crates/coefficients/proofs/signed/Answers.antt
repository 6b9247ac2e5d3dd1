-- `coefficients::signed` meets its contract: row after row, each number by the sign of its orders.
use mathlib.Core.Path.{◌≡◌, sym, ap, subst, ◌∙◌}
use mathlib.Core.List.{List}
use Prim.Native.Nat.{ℕ, ◌+◌, ◌^◌, ◌*◌}
use native.Mathlib.Nat.{mul-zero}
use native.Mathlib.Omega.{arith}
use lib.IntN.{ℤ, ◌*ℤ◌}
use lib.ListN.{length}
use Rattle.lattice.specs.Buffer.{at}
use Rattle.lattice.proofs.DigitsLaws.{next-group}
use Rattle.coefficients.specs.Blocks.{RowOf, block_sign, scatter}
use Rattle.coefficients.proofs.BlockLaws.{orders-some, entries-low, corner-low, row_room, first-row, row-low, rows_few}
use Rattle.coefficients.proofs.SignLaws.{row_number}
use Rattle.coefficients.proofs.SpotLaws.{scatter-length, scatter-at, scatter-add, scatter-same}
use Rattle.coefficients.proofs.signed.Goals as goal

pub loop-g-init : goal.loop-g-init
unfolding scatter
loop-g-init c = (
  first-row c.args.b.orders.count (orders-some c.args.b.sizes),
  ap (λ (k : ℕ). scatter k (λ j. j) (λ j. block_sign c.args.b.orders.count c.args.c j *ℤ at c.args.xs.now j) c.args.zs.now)
      (sym (mul-zero c.args.b.orders.count)),
)

pub row_sign-s-requires : goal.row_sign-s-requires
row_sign-s-requires c =
    let b = c.args.b in
    let low = row-low b.orders c.loop-g.g b.rows c.loop-g.o c.loop-g-test.true (rows_few b.sizes) c.loop-g.invariant.0 in
    (corner-low b.sizes c.args.c c.requires.0, low.0, low.1)

pub overflow_mul-b : goal.overflow_mul-b
overflow_mul-b c =
    let h = row_room c.args.b.sizes c.loop-g.g c.loop-g-test.true in let e = entries-low c.args.b.sizes in omega arith

pub sign_row-requires-clause-m_bound : goal.sign_row-requires-clause-m_bound
sign_row-requires-clause-m_bound c =
    let h = row_room c.args.b.sizes c.loop-g.g c.loop-g-test.true in
    let e = entries-low c.args.b.sizes in
    (omega arith, λ o l. c.requires.1 (c.args.b.orders.count * c.loop-g.g + o) (omega arith))

pub next_row-o-requires : goal.next_row-o-requires
next_row-o-requires c =
    let b = c.args.b in
    let low = row-low b.orders c.loop-g.g b.rows c.loop-g.o c.loop-g-test.true (rows_few b.sizes) c.loop-g.invariant.0 in
    (b.orders.bounds.1, c.loop-g.invariant.0.low, low.1)

pub loop-g-preserved : goal.loop-g-preserved
loop-g-preserved c =
    let m = c.args.b.orders.count in
    let w = c.loop-g in
    let ok = c.args.b.sizes in
    let before = m * w.g in
    let f : ℕ → ℤ = λ k. block_sign m c.args.c k *ℤ at c.args.xs.now k in (
      subst (λ (k : ℕ). RowOf m k c.next_row-o.result) (ap (λ (k : ℕ). k + 1) (sym w.invariant.0.number_is)) c.next_row-o.ensures,
      c.sign_row.ensures
          ∙ scatter-same (λ o. before + o) _ (λ o. f (before + o)) w.zs m
          (λ o l. ap (λ z. z *ℤ at c.args.xs.now (before + o))
          (row_number m c.args.c w.g w.o c.args.b.orders.bounds.1 (corner-low c.args.b.sizes c.args.c c.requires.0) w.invariant.0
          (row-low c.args.b.orders w.g c.args.b.rows w.o c.loop-g-test.true (rows_few ok) w.invariant.0).2
          c.row_sign-s.result c.sign-x.result c.row_sign-s.ensures c.sign-x.ensures o l))
          ∙ ap (λ (xs : List ℤ). scatter m (λ o. before + o) (λ o. f (before + o)) xs) w.invariant.1
          ∙ scatter-add (λ k. k) f c.args.zs.now before m
          ∙ ap (λ (k : ℕ). scatter k (λ k. k) f c.args.zs.now) (next-group m w.g),
    )

pub returns : goal.returns
returns c =
    let m = c.args.b.orders.count in
    let n = c.args.b.axes in
    let w = c.loop-g in
    let ok = c.args.b.sizes in
    let f : ℕ → ℤ = λ k. block_sign m c.args.c k *ℤ at c.args.xs.now k in
    let e : w.g ≡ c.args.b.rows = omega arith in
    let long : length c.args.zs.now ≡ 27 = omega arith in
    let all = w.invariant.1 ∙ ap (λ (k : ℕ). scatter k (λ j. j) f c.args.zs.now) (ap (λ (k : ℕ). m * k) e ∙ ok.groups-are) in
    record {
      long = ap length all ∙ scatter-length (λ j. j) f c.args.zs.now (m ^ n) ∙ long;
      is = λ k l. ap (λ (xs : List ℤ). at xs k) all
          ∙ scatter-at (λ j. j) f c.args.zs.now k (m ^ n) l (let h = entries-low ok in omega arith) (λ j q p. p);
    }
