-- `coefficients::first_axis` meets its contract: row after row is signed and converted, and each row of the results is filled by one number
-- more.
use mathlib.Core.Path.{◌≡◌, sym, ap, subst, ◌∙◌}
use mathlib.Core.Bool.{false}
use mathlib.Core.List.{List}
use Prim.Native.Nat.{ℕ, ◌+◌, ◌-◌, ◌*◌, ◌/◌, ◌%◌, ◌^◌, ◌≤◌, ◌<◌}
use native.Mathlib.Nat.{not-suc-le-zero}
use native.Mathlib.Decide.{dec_lt}
use native.Mathlib.Omega.{arith}
use lib.Dec.{eqb}
use lib.IntN.{ℤ, ◌*ℤ◌, nat_abs}
use lib.ListN.{length}
use Rattle.arith.specs.Choice.{pick}
use Rattle.arith.specs.Int.{◌^ℤ◌}
use Rattle.lattice.specs.declared.order_count.Orders.{Orders}
use Rattle.lattice.specs.Buffer.{at}
use Rattle.lattice.specs.Flat.{pass}
use Rattle.lattice.proofs.DigitsLaws.{no-group}
use Rattle.hermite.specs.Hermite.{end_rule}
use Rattle.hermite.proofs.DotLaws.{held}
use Rattle.hermite.proofs.EndLaws.{end-depends}
use Rattle.coefficients.specs.declared.Row.{Row}
use Rattle.coefficients.specs.Blocks.{RowOf, end_sign, block_sign, AllWithin}
use Rattle.coefficients.proofs.BlockLaws.{first-row, row-low, rows_more, rows_all}
use Rattle.coefficients.proofs.SignLaws.{row_number}
use Rattle.coefficients.proofs.SpotLaws.{scatter-length}
use Rattle.coefficients.proofs.first_axis.Goals as goal

-- number k of the record of corner c by its sign
abbrev entry : ℕ → ℕ → List ℤ → ℕ → ℤ
entry m c numbers k = block_sign m c k *ℤ at numbers k

-- the numbers of one row more are small
more-within : (m c g : ℕ) (numbers row : List ℤ) → m ≤ 3 → ((t : ℕ) → t < m → at row t ≡ entry m c numbers (m * g + t))
    → AllWithin (2 ^ 31) 3 (at row) → AllWithin (2 ^ 31) (m * g) (entry m c numbers) → AllWithin (2 ^ 31) (m * (g + 1)) (entry m c numbers)
more-within m c g numbers row m3 is low before j l = go (dec_lt j (m * g))
  where
    go : Dec (j < m * g) → nat_abs (entry m c numbers j) ≤ 2 ^ 31
    go (yes h) = before j h
    go (no h) =
        let t : ℕ = j - m * g in
        let e : m * g + t ≡ j = omega (arith, h) in
        let q : t < m = omega (arith, h) in
        subst (λ (k : ℕ). nat_abs (entry m c numbers k) ≤ 2 ^ 31) e (rw (← is t q) (low t (omega arith)))

-- the row as it is read
module _ (m : Orders) (c g : ℕ) (few : c < 8) (o : Row) (of_row : RowOf m.count g o) (z-low : o.z < m.count) (row along : ℤ)
    (row_is : (row ≡ end_sign (c / 2 / 2) ^ℤ o.z *ℤ end_sign (c / 2 % 2) ^ℤ o.y) × (nat_abs row ≡ 1))
    (along-is : (along ≡ end_sign (c % 2) ^ℤ 1) × (nat_abs along ≡ 1)) (numbers read : List ℤ)
    (reads : (t : ℕ) → t < m.count
    → at read t ≡ pick (eqb t 1) (held (held row *ℤ held along)) (held row) *ℤ at numbers (m.count * g + t)) where
  number_is : (t : ℕ) → t < m.count → at read t ≡ entry m.count c numbers (m.count * g + t)
  number_is t l =
      reads t l
      ∙ ap (λ z. z *ℤ at numbers (m.count * g + t)) (row_number m.count c g o m.bounds.1 few of_row z-low row along row_is along-is t l)

pub loop-g-init : goal.loop-g-init
loop-g-init c =
    let m2 = c.args.m.bounds.0 in
    let long : length c.args.zs.now ≡ 27 = omega arith in (
      first-row c.args.m.count (omega arith),
      long,
      λ k j l q. absurd (not-suc-le-zero q),
      λ j l. absurd (no-group c.args.m.count j l),
    )

pub row_sign-s-requires : goal.row_sign-s-requires
row_sign-s-requires c =
    let low = row-low c.args.m c.loop-g.g c.args.r c.loop-g.o c.loop-g-test.true c.requires.2 c.loop-g.invariant.0 in
    (c.requires.0, low.0, low.1)

pub next_row-o-requires : goal.next_row-o-requires
next_row-o-requires c =
    let low = row-low c.args.m c.loop-g.g c.args.r c.loop-g.o c.loop-g-test.true c.requires.2 c.loop-g.invariant.0 in
    (c.args.m.bounds.1, c.loop-g.invariant.0.low, low.1)

pub loop-g-preserved : goal.loop-g-preserved
loop-g-preserved c =
    let m = c.args.m in
    let w = c.loop-g in
    let numbers = c.args.numbers.now in
    let long = w.invariant.1 in
    let room = c.requires.1 in
    let is : (t : ℕ) → t < m.count → at c.row_at.result t ≡ entry m.count c.args.c numbers (m.count * w.g + t) =
    number_is m c.args.c w.g c.requires.0 w.o w.invariant.0
    (row-low m w.g c.args.r w.o c.loop-g-test.true c.requires.2 w.invariant.0).2 c.row_sign-s.result c.sign-along_x.result
    c.row_sign-s.ensures c.sign-along_x.ensures numbers c.row_at.result c.row_at.ensures.0 in (
      subst (λ (k : ℕ). RowOf m.count k c.next_row-o.result) (ap (λ (k : ℕ). k + 1) (sym w.invariant.0.number_is)) c.next_row-o.ensures,
      ap length c.put_group.ensures ∙ scatter-length _ _ _ _ ∙ w.invariant.1,
      rw c.put_group.ensures
          (rows_more m.count c.args.r (λ k j. end_rule false m.count (λ t. entry m.count c.args.c numbers (m.count * j + t)) k) w.g
          c.loop-g-test.true (at c.convert_end-z.result)
          (λ k l. c.convert_end-z.ensures k (let m3 = m.bounds.1 in omega arith)
          ∙ end-depends false m.count m.bounds.0 m.bounds.1 (at c.row_at.result) (λ t. entry m.count c.args.c numbers (m.count * w.g + t))
          k l is)
          w.zs (omega arith) w.invariant.2),
      more-within m.count c.args.c w.g numbers c.row_at.result m.bounds.1 is c.row_at.ensures.1 w.invariant.3,
    )

pub returns-clause-starts_with : goal.returns-clause-starts_with
unfolding pass
returns-clause-starts_with c =
    let m = c.args.m.count in
    let w = c.loop-g in
    let e : w.g ≡ c.args.r = omega arith in
    record {
      long = w.invariant.1;
      is =
          rows_all m c.args.r (λ k j. end_rule false m (λ t. entry m c.args.c c.args.numbers.now (m * j + t)) k) w.zs
          (λ k j l q. w.invariant.2 k j l (omega arith));
    }

pub returns-clause-all_within : goal.returns-clause-all_within
returns-clause-all_within c =
    let e : c.loop-g.g ≡ c.args.r = omega arith in
    λ j l. c.loop-g.invariant.3 j (rw e l)
