-- `query::check_asked` meets its contract: 2 and 3, then 4, then 12, then 21.
use mathlib.Core.Path.{◌≡◌, refl, sym, ap, ◌∙◌}
use mathlib.Core.Bool.{Bool}
use mathlib.Core.List.{List}
use Prim.Native.Nat.{ℕ, ◌≤◌}
use lib.Dec.{ltb, eqb}
use lib.IntN.{ℤ}
use lib.ListN.{length}
use borrow.Author.Tests.{lt-ltb}
use Rattle.lattice.specs.Outcome.{Check, done, refused, refuse_unless, first}
use Rattle.lattice.specs.declared.Shape.{Shape}
use Rattle.lattice.specs.Shape.{count, orders, size, degree_outcome, counts_outcome, shape_outcome, full_outcome}
use Rattle.lattice.proofs.ShapeLaws.{orders-range, shaped, table-shape}
use Rattle.lattice.proofs.StepLaws.{finest-outcome}
use Rattle.lattice.proofs.OutcomeLaws.{passes, stopped, went-on}
use Rattle.evaluate.specs.Wants.{want_of}
use Rattle.evaluate.proofs.AnswerLaws.{want-some}
use Rattle.query.specs.Parts.{finest}
use Rattle.query.specs.Queries.{want_outcome, asked_outcome}
use Rattle.query.proofs.check_asked.Goals as goal

module _ (s : Shape) {n : ℕ} (h : (1 ≤ n) × (n ≤ 3) × (n ≡ s.axes)) where
  -- 2 and 3 are the tests of the shape
  table_is : first (degree_outcome s.degree) (counts_outcome s.axes (count s)) ≡ shape_outcome s
  table_is = let e = h.2 in table-shape s (rw (← e) h.0) (rw (← e) h.1)

  -- with 26, which does not refuse 256 steps
  full_is : (even : Bool) → first (degree_outcome s.degree) (counts_outcome s.axes (count s)) ≡ full_outcome (finest s even)
  full_is even = table_is ∙ sym (finest-outcome s even)

-- refusal 4 of records of the length given
long-is : (s : Shape) {given k : ℕ} (rs : List ℤ) → length rs ≡ given → k ≡ size s
    → refuse_unless (eqb given k) 4 0 ≡ refuse_unless (eqb (length rs) (size s)) 4 0
long-is s rs e f = rw (f, ← e) refl

-- a slope's order is below m
alone : (c : Check) (s : Shape) → c ≡ first c (refuse_unless (ltb 1 (orders s)) 21 0)
alone c s =
    nothing c
    ∙ ap (λ (k : Check). first c k) (sym (passes (ltb 1 (orders s)) 21 0 (lt-ltb 1 (orders s) (orders-range s.degree).0)))
  where
    nothing : (c : Check) → c ≡ first c (done tt)
    nothing (done u) = refl
    nothing (refused n p) = refl

pub returns-in_err-check_table : goal.returns-in_err-check_table
unfolding asked_outcome
returns-in_err-check_table c = λ even rs e. stopped _ _ _ _ c.from_residual.ensures
    (c.in_err-check_table.ensures ∙ full_is c.args.s c.requires even)

pub table_entries-requires : goal.table_entries-requires
table_entries-requires c = shaped _ (sym (c.in_ok-check_table.ensures ∙ table_is c.args.s c.requires))

pub returns-in_err-refuse_unless : goal.returns-in_err-refuse_unless
unfolding asked_outcome
returns-in_err-refuse_unless c = λ even rs e. went-on _ _ _ (c.in_ok-check_table.ensures ∙ full_is c.args.s c.requires even)
    (stopped _ _ _ _ c.from_residual-in_err-refuse_unless.ensures
    (c.in_err-refuse_unless.ensures ∙ long-is c.args.s rs e c.table_entries.ensures))

pub returns-then-d-eq0 : goal.returns-then-d-eq0
unfolding asked_outcome want_outcome
returns-then-d-eq0 c = λ even rs e. went-on _ _ _ (c.in_ok-check_table.ensures ∙ full_is c.args.s c.requires even)
    (went-on _ _ _ (c.in_ok-refuse_unless.ensures ∙ long-is c.args.s rs e c.table_entries.ensures)
    (sym (ap (λ (o : ℕ). want_outcome c.args.s (want_of o c.args.d.axis)) c.if-d-eq0.true)))

pub returns-then-d-eq1 : goal.returns-then-d-eq1
unfolding asked_outcome want_outcome
returns-then-d-eq1 c = λ even rs e. went-on _ _ _ (c.in_ok-check_table.ensures ∙ full_is c.args.s c.requires even)
    (went-on _ _ _ (c.in_ok-refuse_unless.ensures ∙ long-is c.args.s rs e c.table_entries.ensures)
    (c.refuse_unless-then-d-eq1.ensures ∙ ap (λ (n : ℕ). refuse_unless (ltb c.args.d.axis n) 12 0) c.requires.2 ∙ alone _ c.args.s
    ∙ sym (ap (λ (o : ℕ). want_outcome c.args.s (want_of o c.args.d.axis)) c.if-d-eq1.true)))

pub returns : goal.returns
unfolding asked_outcome
returns c = λ even rs e. went-on _ _ _ (c.in_ok-check_table.ensures ∙ full_is c.args.s c.requires even)
    (went-on _ _ _ (c.in_ok-refuse_unless.ensures ∙ long-is c.args.s rs e c.table_entries.ensures)
    (c.check_derivative.ensures ∙ sym (ap (want_outcome c.args.s) (want-some c.args.d.order c.args.d.axis c.if-d-eq0.false))))
