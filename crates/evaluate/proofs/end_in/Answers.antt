-- `evaluate::end_in` meets its contract: each number is an entry of the records, the third 0 where there is none.
use mathlib.Core.Path.{◌≡◌, ◌∙◌}
use Prim.Native.Nat.{◌<◌, ◌+◌, ◌*◌}
use native.Mathlib.Omega.{arith}
use lib.ListN.{length}
use Rattle.arith.proofs.Machine.{read}
use Rattle.lattice.specs.Buffer.{at}
use Rattle.evaluate.proofs.EndLaws.{end-of-two, end-of-three}
use Rattle.evaluate.proofs.end_in.Goals as goal
use Rattle.evaluate.proofs.end_in.Goals.{Start}

-- the first, the second and the third number
module _ (c : Start) where
  low : c.args.p < length c.args.records.now
  low = let h = c.requires 0 (omega arith) in omega arith

  next : c.args.p + c.args.order < length c.args.records.now
  next = let h = c.requires 1 (omega arith) in omega arith

  third : (c.args.m.count ≡ 2 → ⊥) → c.args.p + 2 * c.args.order < length c.args.records.now
  third n = let h = c.requires 2 (omega arith) in omega arith

pub returns-then-m-eq2 : goal.returns-then-m-eq2
returns-then-m-eq2 c =
    let s = c in
    let a = c.entry-a in
    let b = c.entry-b in
    end-of-two s.args.m.count (at s.args.records.now) s.args.p s.args.order _ _ (read a.result a.type_inv ∙ a.ensures)
    (read b.result b.type_inv ∙ b.ensures)
    c.if-m-eq2.true

pub returns : goal.returns
returns c =
    let s = c in
    let a = c.entry-a in
    let b = c.entry-b in
    let d = c.entry in
    let n = c.if-m-eq2.false in
    end-of-three s.args.m.count (at s.args.records.now) s.args.p s.args.order _ _ (read a.result a.type_inv ∙ a.ensures)
    (read b.result b.type_inv ∙ b.ensures)
    (omega (arith, c.args.m.bounds.0, c.args.m.bounds.1, n)) _ (read d.result d.type_inv ∙ d.ensures)

pub entry-a-requires : goal.entry-a-requires
entry-a-requires c = low c

pub overflow_add-p : goal.overflow_add-p
overflow_add-p c = let h = next c.before in omega arith

pub entry-b-requires : goal.entry-b-requires
entry-b-requires c = next c.before

pub overflow_mul-order : goal.overflow_mul-order
overflow_mul-order c = let h = third c.before.before.before.before c.if-m-eq2.false in omega arith

pub overflow_add-p-2 : goal.overflow_add-p-2
overflow_add-p-2 c = let h = third c.before.before.before.before c.if-m-eq2.false in omega arith

pub entry-requires : goal.entry-requires
entry-requires c = third c.before.before.before.before c.if-m-eq2.false
