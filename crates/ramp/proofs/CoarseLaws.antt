-- A list of positions in finer steps: its queries in the table of 256 steps are those of the positions themselves in the table.
use mathlib.Core.Path.{◌≡◌, refl, sym, ap, ◌∙◌}
use mathlib.Core.Bool.{true}
use mathlib.Core.List.{List, [], ◌∷◌}
use Prim.Native.Nat.{ℕ, ◌+◌, ◌*◌, ◌/◌, ◌%◌, ◌≤◌, ◌<◌}
use native.Mathlib.Omega.{arith}
use lib.IntN.{ℤ, pos, nat_abs}
use lib.ListN.{length, take, get_or}
use lib.Seq.{length-take-le, get_or-take}
use Rattle.arith.specs.Choice.{pick}
use Rattle.arith.proofs.Choices.{clash, by-3}
use Rattle.lattice.specs.declared.Shape.{Shape}
use Rattle.lattice.specs.declared.FullShape.{FullShape}
use Rattle.lattice.specs.Outcome.{Outcome, Check, done, refused, first, first_of, passed}
use Rattle.lattice.specs.Buffer.{at}
use Rattle.lattice.specs.Shape.{steps_on, finest_on, full_outcome}
use Rattle.lattice.proofs.OutcomeLaws.{first_passes, first-after, first_of-same, first_of-each}
use Rattle.evaluate.specs.Evaluate.{dose}
use Rattle.query.specs.Parts.{finest, factor_on, scaled_position}
use Rattle.query.specs.Queries.{asked_outcome, reading, position_at, position_outcome, position_cell, position_step, by_position}
use Rattle.query.proofs.Coarse.{factor-one, scaled-positions, position-one, position-beyond, cells_same, by-position-scaled}
use Rattle.query.proofs.CoarseCalls.{Factor, factor-told}
use Rattle.ramp.specs.Ramp.{queries, query_at, own_call, in_list, answer_of, fetches, queries_outcome}
use Rattle.ramp.specs.Parts.{Listed, Finer}
use Rattle.ramp.proofs.NewCells.{fetches-same}

in-passed : (i : ℕ) (o : Outcome ℤ) → in_list i o ≡ done tt → passed o ≡ true
in-passed i (done v) h = refl
in-passed i (refused n p) h = clash (cc)

module _ (t : FullShape) (same : full_outcome (finest t.shape t.second_edition) ≡ full_outcome t) (full : full_outcome t ≡ done tt)
    (rs ps qs : List ℤ) (number : queries qs ≡ queries ps)
    (is : (i : ℕ) → i < queries ps → (a : ℕ) → a < 3 → query_at qs i a ≡ scaled_position (factor_on t a) (query_at ps i a)) where
  abbrev fine : FullShape
  fine = finest t.shape t.second_edition

  none : (i a : ℕ) → 3 ≤ a → (nat_abs (query_at ps i a) ≡ 0) × (nat_abs (query_at qs i a) ≡ 0)
  unfolding query_at
  none i a l = (ap nat_abs (position-beyond _ a l), ap nat_abs (position-beyond _ a l))

  pub own_same : (i : ℕ) → i < queries ps → own_call fine rs qs i ≡ own_call t rs ps i
  own_same i l = by-position-scaled t same rs dose (query_at ps i) (query_at qs i)
      (λ e. scaled-positions t (query_at ps i) (query_at qs i) (is i l)) (none i)

  -- the cell of a query that is answered
  cell_same : (i : ℕ) → i < queries ps → in_list i (own_call t rs ps i) ≡ done tt
      → position_cell fine (query_at qs i) ≡ position_cell t (query_at ps i)
  unfolding by_position
  cell_same i l h =
      let p = query_at ps i in
      let read = reading t rs dose (position_cell t p) (position_step t p) in
      let a = first_passes (asked_outcome t rs dose) (first (first_of 3 (position_outcome t p)) read) (in-passed i (own_call t rs ps i) h)
      in
      cells_same t same rs dose p (query_at qs i) (λ e. scaled-positions t p (query_at qs i) (is i l)) (none i) full
      (first_passes (first_of 3 (position_outcome t p)) read a.1).0

  pub queries-same : queries_outcome fine rs qs ≡ queries_outcome t rs ps
  unfolding queries_outcome
  queries-same =
      ap (λ (n : ℕ). first (first_of n (λ i. in_list i (own_call fine rs qs i)))
      (done (fetches (λ i. position_cell fine (query_at qs i)) n))) number
      ∙ ap (λ (c : Check). first c (done (fetches (λ i. position_cell fine (query_at qs i)) (queries ps))))
      (first_of-same (queries ps) (λ i. in_list i (own_call fine rs qs i)) (λ i. in_list i (own_call t rs ps i))
      (λ i l. ap (in_list i) (own_same i l)))
      ∙ first-after (first_of (queries ps) (λ i. in_list i (own_call t rs ps i)))
      (done (fetches (λ i. position_cell fine (query_at qs i)) (queries ps)))
      (done (fetches (λ i. position_cell t (query_at ps i)) (queries ps)))
      (λ h. ap done (fetches-same (λ i. position_cell fine (query_at qs i)) (λ i. position_cell t (query_at ps i)) (queries ps)
      (λ i l. cell_same i l (first_of-each (queries ps) (λ i. in_list i (own_call t rs ps i)) h i l))))

-- ---- as the code has it

-- what the queries of the list in finer steps say is what those of the list say
pub told_same : (t : FullShape) (same : full_outcome (finest t.shape t.second_edition) ≡ full_outcome t)
    (full : full_outcome t ≡ done tt)
    (rs ps qs found : List ℤ) (number : queries qs ≡ queries ps)
    (is : (i : ℕ) → i < queries ps → (a : ℕ) → a < 3 → query_at qs i a ≡ scaled_position (factor_on t a) (query_at ps i a)) (o : Outcome ℕ)
    → let fine = finest t.shape t.second_edition in
    (o ≡ queries_outcome fine rs qs)
    × ((k : ℕ) → o ≡ done k → (i : ℕ) → i < queries qs → at found i ≡ answer_of (own_call fine rs qs i))
    → (o ≡ queries_outcome t rs ps) × ((k : ℕ) → o ≡ done k → (i : ℕ) → i < queries ps → at found i ≡ answer_of (own_call t rs ps i))
told_same t same full rs ps qs found number is o h = (
  h.0 ∙ queries-same t same full rs ps qs number is,
  λ k e i l. h.1 k e i (rw number l) ∙ ap answer_of (own_same t same full rs ps qs number is i l),
)

-- a table of 256 steps has the list itself
pub itself : (t : FullShape) → ((a : ℕ) → a < 3 → steps_on t a ≡ finest_on t.shape.axes a) → (ps : List ℤ)
    → (i : ℕ) → i < queries ps → (a : ℕ) → a < 3 → query_at ps i a ≡ scaled_position (factor_on t a) (query_at ps i a)
itself t fine ps i l a h =
    sym (ap (λ (k : ℕ). scaled_position k (query_at ps i a)) (factor-one t fine a h) ∙ position-one (query_at ps i a))

-- a list has at most 768 numbers
pub at-most : (s : Shape) (rs ps : List ℤ) → Listed s rs ps → length ps ≤ 768
at-most s rs ps h = let l = h.few in let e = h.whole in omega arith

-- query i of the scaled list, whose front is lent
module _ (t : FullShape) (full : full_outcome t ≡ done tt) (x y z : ℕ) (fx : Factor t 0 x) (fy : Factor t 1 y)
    (fz : Factor t 2 z) (ps held : List ℤ) (f : Finer (x ∷ y ∷ z ∷ []) ps held) (few : length ps ≤ 768)
    (whole : length ps ≡ 3 * queries ps) where
  abbrev lent : List ℤ
  lent = take (length ps) held

  pub lent-long : length lent ≡ length ps
  lent-long = length-take-le (length ps) held (let e = f.long in omega arith)

  pub lent-queries : queries lent ≡ queries ps
  lent-queries = ap (λ (n : ℕ). n / 3) lent-long

  one : (j : ℕ) → j < length ps → at lent j ≡ scaled_position (get_or (x ∷ y ∷ z ∷ []) (j % 3) 0) (at ps j)
  one j l = get_or-take (length ps) held j (pos 0) l ∙ f.is j l

  pub lent-scaled : (i : ℕ) → i < queries ps → (a : ℕ) → a < 3
      → query_at lent i a ≡ scaled_position (factor_on t a) (query_at ps i a)
  unfolding query_at position_at pick
  lent-scaled i l =
      by-3 (λ (a : ℕ). query_at lent i a ≡ scaled_position (factor_on t a) (query_at ps i a))
      (one (3 * i) (omega arith) ∙ ap (λ (k : ℕ). scaled_position k (at ps (3 * i)))
      (row (3 * i) 0 (omega arith) ∙ factor-told t full 0 (omega arith) x fx))
      (one (3 * i + 1) (omega arith)
      ∙ ap (λ (k : ℕ). scaled_position k (at ps (3 * i + 1))) (row (3 * i + 1) 1 (omega arith) ∙ factor-told t full 1 (omega arith) y fy))
      (one (3 * i + 2) (omega arith)
      ∙ ap (λ (k : ℕ). scaled_position k (at ps (3 * i + 2))) (row (3 * i + 2) 2 (omega arith) ∙ factor-told t full 2 (omega arith) z fz))
    where
      row : (j a : ℕ) → j % 3 ≡ a → get_or (x ∷ y ∷ z ∷ []) (j % 3) 0 ≡ get_or (x ∷ y ∷ z ∷ []) a 0
      row j a e = ap (λ (k : ℕ). get_or (x ∷ y ∷ z ∷ []) k 0) e

  pub lent-listed : (s : Shape) (rs : List ℤ) → Listed s rs ps → Listed s rs lent
  lent-listed s rs l = record {
    shape = l.shape;
    long = l.long;
    whole = lent-long ∙ whole ∙ ap (λ (n : ℕ). 3 * n) (sym lent-queries);
    few = rw lent-queries l.few;
  }
