-- `totals::group_sum` meets its contract: two or three products, none of which is large.
use mathlib.Core.List.{List}
use mathlib.Core.Path.{◌≡◌, sym, ap, ◌∙◌}
use Prim.Native.Nat.{ℕ, ◌+◌, ◌≤◌, ◌^◌}
use native.Mathlib.Nat.{le_trans}
use native.Mathlib.Omega.{arith}
use lib.Dec.{lit<}
use lib.IntN.{ℤ, nat_abs}
use Rattle.arith.specs.Sum.{total}
use Rattle.arith.proofs.Machine.{widen-fits, kept}
use Rattle.arith.proofs.Sums.{total-part}
use Rattle.lattice.specs.Buffer.{at}
use Rattle.totals.specs.Parts.{group_sum}
use Rattle.totals.proofs.SumLaws.{term-low, one-asks, two-asks, two, three-asks, three-is, two-near, three-near, group-low}
use Rattle.totals.proofs.group_sum.Goals as goal

-- two factors, a third one
light-two : (m : ℕ) (x : List ℤ) → 2 ≤ m → total m (λ o. nat_abs (at x o)) ≤ 128 → total 2 (λ o. nat_abs (at x o)) ≤ 128
light-two m x h light = le_trans (total-part 2 m (λ o. nat_abs (at x o)) h) light

third : (m : ℕ) (x : List ℤ) → 3 ≤ m → total m (λ o. nat_abs (at x o)) ≤ 128 → nat_abs (at x 2) ≤ 128
third m x h light = le_trans (term-low m (λ o. nat_abs (at x o)) 2 h) light

pub overflow_cast-records : goal.overflow_cast-records
overflow_cast-records c = widen-fits (at c.args.records.now c.args.p) c.added-arg-2-1.given

pub added-value-requires : goal.added-value-requires
added-value-requires c =
    let a = c.args in
    one-asks a.x a.records.now a.p (light-two a.m.count a.x a.m.bounds.0 c.requires.1) c.added-arg-2-1.given

pub overflow_cast-records-2 : goal.overflow_cast-records-2
overflow_cast-records-2 c = widen-fits (at c.args.records.now (c.args.p + 1)) c.added-arg-4-1.given

pub added-two-requires : goal.added-two-requires
added-two-requires c =
    let a = c.args in
    two-asks a.x a.records.now a.p (light-two a.m.count a.x a.m.bounds.0 c.requires.1) c.added-arg-2-1.given c.added-arg-4-1.given
    c.added-value.result c.added-value.ensures

pub returns-then-m-eq2 : goal.returns-then-m-eq2
returns-then-m-eq2 c =
    let a = c.args in
    let t = two a.x a.records.now a.p (light-two a.m.count a.x a.m.bounds.0 c.requires.1) c.added-arg-2-1.given c.added-arg-4-1.given
    c.added-value.result c.added-value.ensures c.added-two.result c.added-two.ensures in
    let v = kept c.added-two.result (2 ^ 40) t.two-low (lit< tt) ∙ t.two_is
    ∙ ap (λ (m : ℕ). group_sum m (at a.x) a.records.now a.p) (sym c.if-m-eq2.true) in
    record {
      value = v;
      low = rw v (group-low a.m.count a.x a.records.now a.p c.requires.1
          (rw c.if-m-eq2.true (two-near a.records.now a.p c.added-arg-2-1.given c.added-arg-4-1.given)));
    }

pub overflow_cast-records-3 : goal.overflow_cast-records-3
overflow_cast-records-3 c = widen-fits (at c.args.records.now (c.args.p + 2)) c.added-arg-6-1.given

pub added-requires : goal.added-requires
added-requires c =
    let a = c.args in
    let h = a.m.bounds in
    let t = two a.x a.records.now a.p (light-two a.m.count a.x a.m.bounds.0 c.requires.1) c.added-arg-2-1.given c.added-arg-4-1.given
    c.added-value.result c.added-value.ensures c.added-two.result c.added-two.ensures in
    three-asks a.x a.records.now a.p (third a.m.count a.x (omega arith) c.requires.1) c.added-arg-6-1.given c.added-value.result
    c.added-two.result t

pub returns : goal.returns
returns c =
    let a = c.args in
    let h = a.m.bounds in
    let e : a.m.count ≡ 3 = omega arith in
    let t = two a.x a.records.now a.p (light-two a.m.count a.x a.m.bounds.0 c.requires.1) c.added-arg-2-1.given c.added-arg-4-1.given
    c.added-value.result c.added-value.ensures c.added-two.result c.added-two.ensures in
    let v = three-is a.x a.records.now a.p (third a.m.count a.x (omega arith) c.requires.1) c.added-arg-6-1.given c.added-value.result
    c.added-two.result t c.added.result c.added.ensures
    ∙ ap (λ (m : ℕ). group_sum m (at a.x) a.records.now a.p) (sym e) in
    record {
      value = v;
      low = rw v (group-low a.m.count a.x a.records.now a.p c.requires.1
          (rw e (three-near a.records.now a.p c.added-arg-2-1.given c.added-arg-4-1.given c.added-arg-6-1.given)));
    }
