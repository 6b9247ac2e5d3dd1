-- `corners::corner_records` meets its contract: corner after corner the tests are passed and the entries stand in order.
use mathlib.Core.Path.{◌≡◌, refl, sym, ap, subst, ◌∙◌}
use mathlib.Core.Bool.{true}
use mathlib.Core.List.{List}
use Prim.Native.Nat.{ℕ, ◌≤◌, ◌<◌, ◌+◌, ◌^◌, ◌*◌, ◌%◌}
use native.Mathlib.Nat.{le_trans, le_of_eq}
use native.Mathlib.Omega.{arith}
use lib.IntN.{ℤ, pos, ◌*ℤ◌, nat_abs}
use Rattle.arith.specs.Int.{floor_div}
use lib.ListN.{length}
use Rattle.arith.proofs.Machine.{shifted}
use Rattle.lattice.specs.Outcome.{done, first_of}
use Rattle.lattice.specs.Buffer.{at}
use Rattle.lattice.proofs.DigitsLaws.{no-group}
use Rattle.lattice.proofs.OutcomeLaws.{first_of-stops, first_of-more, at_once}
use Rattle.cell.specs.Cell.{limit_of}
use Rattle.coefficients.specs.declared.block.Block.{Block}
use Rattle.coefficients.specs.Blocks.{StartsWith, AllWithin, block_sign, solved_block, scatter}
use Rattle.coefficients.proofs.BlockLaws.{count_low}
use Rattle.coefficients.proofs.SignLaws.{block-sign-size}
use Rattle.coefficients.proofs.SpotLaws.{scatter-length}
use Rattle.corners.specs.Back.{Gathers, block_test, entry_of}
use Rattle.corners.proofs.BackLaws.{tests-are, filled, count-is, rows}
use Rattle.corners.proofs.corner_records.Invariants.{row}
use Rattle.corners.proofs.corner_records.Goals as goal

-- the turn of a corner
corner : (b : Block) (c : ℕ) → c < 1 * 2 ^ b.axes % 18446744073709551616 → c < 2 ^ b.axes
corner b c h = rw (shifted b.axes b.sizes.axes-high) at h

-- the block of corner k: gathered, solved back and signed
module _ (b : Block) (cs : List ℤ) (k : ℕ) (inside : k < 2 ^ b.axes) (limits : List ℤ)
    (table : (e : ℕ) → e < b.orders.count ^ 3 → at limits e ≡ pos (limit_of b.orders.count e)) (xs plain zs : List ℤ)
    (gathered : Gathers b.orders.count k (b.orders.count ^ b.axes) cs xs)
    (solved : StartsWith (b.orders.count ^ b.axes) (solved_block true b.orders.count b.axes (at xs)) plain)
    (small : AllWithin (2 ^ 50) (b.orders.count ^ b.axes) (at plain))
    (signed : StartsWith (b.orders.count ^ b.axes) (λ j. block_sign b.orders.count k j *ℤ at plain j) zs) where
  abbrev m : ℕ
  m = b.orders.count

  abbrev n : ℕ
  n = b.axes

  number_is : (j : ℕ) → j < m ^ n → at zs j ≡ block_sign m k j *ℤ solved_block true m n (at xs) j
  number_is j h = signed.is j h ∙ ap (λ z. block_sign m k j *ℤ z) (solved.is j h)

  number-low : (j : ℕ) → j < m ^ n → nat_abs (at zs j) ≤ 2 ^ 50
  number-low j h = rw (signed.is j h) (le_trans (le_of_eq (block-sign-size m k j (at plain j))) (small j h))

  -- its tests
  tested : first_of (m ^ n) (block_test n limits (at zs)) ≡ row m n cs k
  tested = tests-are b.sizes limits table cs k inside (at xs) (at zs) gathered.is number_is

  -- its entries
  entries : (old : List ℤ) → length old ≡ 216 → ((i : ℕ) → i < m ^ n * k → at old i ≡ entry_of m n cs i)
      → (j : ℕ) → j < m ^ n * (k + 1)
      → at (scatter (m ^ n) (λ j. m ^ n * k + j) (λ j. floor_div (at zs j) (2 ^ n)) old) j ≡ entry_of m n cs j
  entries old long before j h =
      filled b.sizes limits table cs k inside (at xs) (at zs) gathered.is number_is old (rw long (count_low b.sizes)) before j h

pub loop-c-init : goal.loop-c-init
unfolding first_of
loop-c-init c =
    let long : length c.args.out.now ≡ 216 = omega arith in
    (long, refl, λ i l. absurd (no-group (c.args.b.orders.count ^ c.args.b.axes) i l))

pub store-requires : goal.store-requires
store-requires c =
    let inside = corner c.args.b c.loop-c.c c.loop-c-test.true in (
      inside,
      number-low c.args.b c.args.cs.now c.loop-c.c inside c.entry_limits-limits.result.limits c.entry_limits-limits.ensures
          c.gather.new.xs c.solve.new.zs c.signed.new.zs c.gather.ensures c.solve.ensures.starts_with
          c.solve.ensures.within c.signed.ensures,
    )

pub returns-in_err-store-clause-result_value : goal.returns-in_err-store-clause-result_value
returns-in_err-store-clause-result_value c =
    let a = c.args in
    let inside = corner a.b c.loop-c.c c.loop-c-test.true in
    at_once _ _ _ c.from_residual.ensures
    (sym (rows a.b.orders.count a.b.axes a.cs.now
    ∙ first_of-stops (2 ^ a.b.axes) c.loop-c.c (row a.b.orders.count a.b.axes a.cs.now) _ _ inside c.loop-c.invariant.1
    (sym (c.in_err-store.ensures.result_value
    ∙ tested a.b a.cs.now c.loop-c.c inside c.entry_limits-limits.result.limits c.entry_limits-limits.ensures c.gather.new.xs
    c.solve.new.zs c.signed.new.zs c.gather.ensures c.solve.ensures.starts_with c.solve.ensures.within
    c.signed.ensures))))

pub loop-c-preserved : goal.loop-c-preserved
loop-c-preserved c =
    let a = c.args in
    let l = c.loop-c in
    let inside = corner a.b l.c c.loop-c-test.true in
    let stored = c.in_ok-store.ensures.out_after refl in (
      ap length stored ∙ scatter-length _ _ _ _ ∙ l.invariant.0,
      first_of-more l.c (row a.b.orders.count a.b.axes a.cs.now) l.invariant.1
          (sym (c.in_ok-store.ensures.result_value
          ∙ tested a.b a.cs.now l.c inside c.entry_limits-limits.result.limits c.entry_limits-limits.ensures c.gather.new.xs
          c.solve.new.zs c.signed.new.zs c.gather.ensures c.solve.ensures.starts_with c.solve.ensures.within
          c.signed.ensures)),
      λ i h. ap (λ (ys : List ℤ). at ys i) stored
          ∙ entries a.b a.cs.now l.c inside c.entry_limits-limits.result.limits c.entry_limits-limits.ensures c.gather.new.xs
          c.solve.new.zs c.signed.new.zs c.gather.ensures c.solve.ensures.starts_with c.solve.ensures.within
          c.signed.ensures l.out l.invariant.0 l.invariant.2 i h,
    )

-- all corners
ends : (b : Block) (c corners : ℕ) → corners ≤ c → c ≤ corners → corners ≡ 2 ^ b.axes → c ≡ 2 ^ b.axes
ends b c corners f l e = omega arith

pub returns-clause-result_value : goal.returns-clause-result_value
returns-clause-result_value c =
    let a = c.args in
    let e : c.loop-c.c ≡ 2 ^ a.b.axes =
    ends a.b c.loop-c.c _ c.loop-c-test.false c.loop-c.auto.c-end (shifted a.b.axes a.b.sizes.axes-high) in
    sym (rows a.b.orders.count a.b.axes a.cs.now
    ∙ subst (λ (k : ℕ). first_of k (row a.b.orders.count a.b.axes a.cs.now) ≡ done tt) e c.loop-c.invariant.1)

pub returns-clause-i_after : goal.returns-clause-i_after
returns-clause-i_after c passed j q =
    let a = c.args in
    let e : c.loop-c.c ≡ 2 ^ a.b.axes =
    ends a.b c.loop-c.c _ c.loop-c-test.false c.loop-c.auto.c-end (shifted a.b.axes a.b.sizes.axes-high) in
    c.loop-c.invariant.2 j (rw (e, sym (count-is a.b.orders.count a.b.axes)) q)
