-- Each answer equals that of its own call; the list is refused where a query is, by the first whose own call is refused.
use mathlib.Core.Path.{◌≡◌, refl, sym, ap, ap₂, ◌∙◌}
use mathlib.Core.Bool.{true}
use mathlib.Core.List.{List}
use mathlib.Core.Logic.{◌↔◌}
use Prim.Native.Nat.{ℕ, zero, suc, ◌<◌}
use native.Mathlib.Omega.{arith}
use lib.IntN.{ℤ, pos}
use lib.ListN.{length, get_or-append}
use Rattle.arith.proofs.Choices.{clash}
use Rattle.lattice.specs.declared.FullShape.{FullShape}
use Rattle.lattice.specs.Outcome.{Outcome, Check, done, refused, first, first_of, passed}
use Rattle.lattice.specs.Buffer.{at, tabulate, overwrite}
use Rattle.lattice.proofs.BufferLaws.{length-tabulate, get_d_tabulate}
use Rattle.lattice.proofs.OutcomeLaws.{first_done, first-passed, refused-first, when-done, first_of-each, first_of-passes, first_of-stops}
use Rattle.query.specs.Queries.{position_cell}
use Rattle.ramp.specs.Ramp.{queries, query_at, own_call, in_list, answer_of, fetches, list_outcome, queries_outcome, ramp_outcome, ramp_writes, FirstRefused}

-- ---- one query in the list

in-done : (i : ℕ) (o : Outcome ℤ) → in_list i o ≡ done tt → o ≡ done (answer_of o)
in-done i (done v) h = refl
in-done i (refused n p) h = clash (cc)

in-passed : (i : ℕ) (o : Outcome ℤ) → passed o ≡ true → in_list i o ≡ done tt
in-passed i (done v) h = refl
in-passed i (refused n p) h = clash (cc)

refused-same : {A : Type 0} (a b c d : ℕ) → ◌≡◌ {A = Outcome A} (refused a b) (refused c d) → (a ≡ c) × (b ≡ d)
refused-same a b c d e = (cc, cc)

-- ---- the list

module _ (t : FullShape) (rs ps : List ℤ) where
  abbrev own : ℕ → Outcome ℤ
  own = own_call t rs ps

  abbrev test : ℕ → Check
  test i = in_list i (own i)

  abbrev told : Outcome ℕ
  told = done (fetches (λ i. position_cell t (query_at ps i)) (queries ps))

  -- a refusal of the first m queries
  record At (m n p : ℕ) : Type 0 where
    inside : p < m
    before : (j : ℕ) → j < p → passed (own j) ≡ true
    place : ℕ
    is : own p ≡ refused n place

  -- the query after m that are not refused
  next : (m n p : ℕ) → first_of m test ≡ done tt → (o : Outcome ℤ) → own m ≡ o → in_list m o ≡ refused n p → At (suc m) n p
  next m n p e (done v) q h = clash (cc)
  next m n p e (refused k r) q h =
      let f = refused-same k m n p h in
      record {
        inside = omega (arith, f.1);
        before = λ j l. ap passed (in-done j (own j) (first_of-each m test e j (omega (arith, f.1))));
        place = r;
        is = ap own (sym f.1) ∙ q ∙ ap (λ (i : ℕ). refused i r) f.0;
      }

  found : (m n p : ℕ) → first_of m test ≡ refused n p → At m n p
  unfolding first_of
  found zero n p h = clash (cc)
  found (suc m) n p h = go (found m n p) (first_of m test) refl h
    where
      go : (first_of m test ≡ refused n p → At m n p) → (o : Check) → first_of m test ≡ o → first o (test m) ≡ refused n p → At (suc m) n p
      go f (done tt) e h = next m n p e (own m) refl h
      go f (refused k q) e h =
          let a = f (e ∙ h) in
          record { inside = let l = a.inside in omega arith; before = a.before; place = a.place; is = a.is }

  -- each answer equals that of its own call
  pub each-answer : (old : List ℤ) (k : ℕ) → ramp_outcome t rs ps (length old) ≡ done k → (i : ℕ) → i < queries ps
      → own_call t rs ps i ≡ done (at (ramp_writes t rs ps old) i)
  unfolding ramp_outcome queries_outcome ramp_writes
  each-answer old k h i l =
      let f = first_done (list_outcome t (length rs) (length ps) (length old)) (queries_outcome t rs ps) k h in
      let g = first_done (first_of (queries ps) test) told k f.1 in
      let answers = tabulate (queries ps) (λ i. answer_of (own i)) in
      in-done i (own i) (first_of-each (queries ps) test g.0 i l)
      ∙ ap done (sym (ap (λ (xs : List ℤ). at xs i) (sym (when-done (overwrite answers old) old h))
      ∙ get_or-append answers _ (pos 0) i (rw (length-tabulate (queries ps) (λ i. answer_of (own i))) l)
      ∙ get_d_tabulate (queries ps) (λ i. answer_of (own i)) i (pos 0) l))

  module _ (room : ℕ) where
    abbrev lengths : Check
    lengths = list_outcome t (length rs) (length ps) room

    -- where the lengths are not refused, the list is refused by the first query whose own call is, with its number and the query's index
    pub first-refused : lengths ≡ done tt → (n i : ℕ) → (ramp_outcome t rs ps room ≡ refused n i) ↔ FirstRefused t rs ps n i
    unfolding ramp_outcome queries_outcome
    first-refused e n i = (
      λ h.
          let a = found (queries ps) n i
          (first-of (first_of (queries ps) test) told refl (sym (first-passed lengths (queries_outcome t rs ps) e) ∙ h)) in
          record { inside = a.inside; before = a.before; place = a.place; own = a.is },
      λ f.
          first-passed lengths (queries_outcome t rs ps) e
          ∙ refused-first told (first_of-stops (queries ps) i test n i f.inside
          (first_of-passes i test (λ j l. in-passed j (own j) (f.before j l))) (ap (in_list i) f.own)),
    )
      where
        first-of : (a : Check) (o : Outcome ℕ) → {k : ℕ} → o ≡ done k → first a o ≡ refused n i → a ≡ refused n i
        first-of (done tt) o q h = clash (cc)
        first-of (refused m p) o q h = let f = refused-same m p n i h in ap₂ refused f.0 f.1

    -- the list is answered if and only if its lengths are not refused and no query's own call is
    pub answered : (passed (ramp_outcome t rs ps room) ≡ true) ↔
        ((lengths ≡ done tt) × ((i : ℕ) → i < queries ps → passed (own_call t rs ps i) ≡ true))
    unfolding ramp_outcome queries_outcome
    answered = (
      λ h.
          let f = both lengths (queries_outcome t rs ps) h in
          let g = both (first_of (queries ps) test) told f.1 in
          (f.0, λ i l. ap passed (in-done i (own i) (first_of-each (queries ps) test g.0 i l))),
      λ f. ap passed
          (first-passed lengths (queries_outcome t rs ps) f.0
          ∙ first-passed (first_of (queries ps) test) told (first_of-passes (queries ps) test (λ i l. in-passed i (own i) (f.1 i l)))),
    )
      where
        both : (a : Check) (o : Outcome ℕ) → passed (first a o) ≡ true → (a ≡ done tt) × (passed o ≡ true)
        both (done tt) o h = (refl, h)
        both (refused n p) o h = clash (cc)
