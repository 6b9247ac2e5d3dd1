-- The queries one after the other: what is known before query i, and what follows where it is refused, where it is answered, and at the
-- end.
use mathlib.Core.Path.{◌≡◌, refl, sym, ap, ap₂, subst, ◌∙◌, fun_ext}
use mathlib.Core.Bool.{Bool, true, false}
use mathlib.Core.List.{List}
use Prim.Native.Nat.{ℕ, zero, suc, ◌+◌, ◌≤◌, ◌<◌}
use native.Mathlib.Nat.{not-suc-le-zero}
use native.Mathlib.Numerals.{add-one}
use native.Mathlib.Omega.{arith}
use Rattle.std.specs.Prelude.{Option, Some, None, MatchOption}
use lib.IntN.{ℤ, pos}
use lib.ListN.{length, set, length-set}
use borrow.Author.Count.{below_more}
use lib.Seq.{get_or-set_same, get_or-set_other}
use Rattle.arith.specs.Choice.{pick}
use Rattle.arith.proofs.Choices.{clash, from-3}
use Rattle.lattice.specs.declared.Shape.{Shape}
use Rattle.lattice.specs.Outcome.{Outcome, Check, done, refused, first_of}
use Rattle.lattice.specs.Buffer.{at}
use Rattle.lattice.specs.Axes.{Place}
use Rattle.lattice.proofs.OutcomeLaws.{first-passed, refused-first, first_of-passes, first_of-stops}
use Rattle.cell.specs.Cell.{place_at, corners_outcome}
use Rattle.cell.proofs.CellLaws.{place-beyond}
use Rattle.query.specs.Parts.{finest}
use Rattle.query.specs.Queries.{position_cell}
use Rattle.ramp.specs.Ramp.{queries, query_at, own_call, in_list, answer_of, differ, fetches, queries_outcome}
use Rattle.ramp.specs.Parts.{Held}
use Rattle.ramp.proofs.NewCells.{differ-not, fetches-none, fetches-first, fetches-more, fetches-few}

-- places of three indices are the same where these are
place_same : (c d : List ℕ) → (place_at c 0 ≡ place_at d 0) × (place_at c 1 ≡ place_at d 1) × (place_at c 2 ≡ place_at d 2)
    → place_at c ≡ place_at d
place_same c d h =
    fun_ext (from-3 (λ a. place_at c a ≡ place_at d a) h.0 h.1 h.2 (λ a l. place-beyond c a l ∙ sym (place-beyond d a l)))

-- whether a cell is new after the last one
abbrev pub New : Option (List ℕ) → List ℕ → Bool → Type 0
New last here new = MatchOption last (new ≡ true) (λ c. new ≡ differ (place_at c) (place_at here))

module _ (s : Shape) (even : Bool) (rs ps : List ℤ) where
  abbrev own : ℕ → Outcome ℤ
  own = own_call (finest s even) rs ps

  abbrev cell : ℕ → Place
  cell i = position_cell (finest s even) (query_at ps i)

  abbrev test : ℕ → Check
  test i = in_list i (own i)

  -- the cell of query k is `last`, and its corner records are held and within their limits
  pub record Kept (k : ℕ) (held : List ℤ) (last : Option (List ℕ)) : Type 0 where
    pub here : List ℕ
    pub is : last ≡ Some here
    pub held_is : Held s rs (place_at here) held
    pub within : corners_outcome s rs (place_at here) ≡ done tt
    pub at_cell : place_at here ≡ cell k

  -- before query i: `found` holds the answers, `held` the corner records of the cell before
  pub record Before (i : ℕ) (found held : List ℤ) (last : Option (List ℕ)) (fetched : ℕ) : Type 0 where
    pub found-long : length found ≡ 256
    pub answers : (j : ℕ) → j < i → own j ≡ done (at found j)
    pub count : fetched ≡ fetches cell i
    pub none : i ≡ 0 → last ≡ None
    pub kept : (k : ℕ) → i ≡ suc k → Kept k held last

  pub before-none : (found held : List ℤ) → length found ≡ 256 → Before 0 found held None 0
  unfolding fetches
  before-none found held f = record {
    found-long = f;
    answers = λ j l. absurd (not-suc-le-zero l);
    count = refl;
    none = λ e. refl;
    kept = λ k e. absurd (later k e);
  }
    where
      later : (k : ℕ) → 0 ≡ suc k → ⊥
      later k e = omega arith

  module _ (i : ℕ) (found held : List ℤ) (last : Option (List ℕ)) (fetched : ℕ) (b : Before i found held last fetched) where
    pub few : fetched ≤ i
    few = let h = fetches-few cell i in let e = b.count in omega arith

    passed-before : first_of i test ≡ done tt
    passed-before = first_of-passes i test (λ j l. ap (in_list j) (b.answers j l))

    -- a refused query refuses the list
    pub stops : i < queries ps → {n p : ℕ} → own i ≡ refused n p → refused n i ≡ queries_outcome (finest s even) rs ps
    unfolding queries_outcome
    stops l {n} e =
        sym (refused-first _ (first_of-stops (queries ps) i test n i l passed-before (ap (in_list i) e)))

    -- the cell of query i
    module _ (here : List ℕ) (new : Bool) (is : New last here new) where
      at-first : i ≡ 0 → new ≡ true
      at-first e = subst (λ (o : Option (List ℕ)). New o here new) (b.none e) is

      after-one : (k : ℕ) (e : i ≡ suc k) → new ≡ differ (place_at (b.kept k e).here) (place_at here)
      after-one k e = subst (λ (o : Option (List ℕ)). New o here new) (b.kept k e).is is

      -- a cell that is not new is the one before
      pub known : new ≡ false → Held s rs (place_at here) held × (corners_outcome s rs (place_at here) ≡ done tt)
      known e = go i refl
        where
          go : (n : ℕ) → i ≡ n → Held s rs (place_at here) held × (corners_outcome s rs (place_at here) ≡ done tt)
          go zero z = let f = at-first z in clash (cc)
          go (suc k) z =
              let f = b.kept k z in
              let same = place_same f.here here (differ-not (place_at f.here) (place_at here) (sym (after-one k z) ∙ e)) in
              subst (λ (p : Place). Held s rs p held × (corners_outcome s rs p ≡ done tt)) same (f.held_is, f.within)

      -- one fetch more where it is new
      counts : place_at here ≡ cell i → fetched + pick new 1 0 ≡ fetches cell (suc i)
      unfolding pick
      counts at_here = go i refl
        where
          go : (n : ℕ) → i ≡ n → fetched + pick new 1 0 ≡ fetches cell (suc i)
          go zero z =
              ap₂ (λ (k : ℕ) (t : Bool). k + pick t 1 0) (b.count ∙ ap (fetches cell) z ∙ fetches-none cell) (at-first z)
              ∙ sym (ap (λ (n : ℕ). fetches cell (suc n)) z ∙ fetches-first cell)
          go (suc k) z =
              ap₂ (λ (n : ℕ) (t : Bool). n + pick t 1 0) (b.count ∙ ap (fetches cell) z)
              (after-one k z ∙ ap₂ differ (b.kept k z).at_cell (at_here ∙ ap cell z))
              ∙ fetches-more cell k ∙ ap (λ (n : ℕ). fetches cell (suc n)) (sym z)

      -- an answered query
      pub more : place_at here ≡ cell i → (held' : List ℤ) → Held s rs (place_at here) held' → corners_outcome s rs (place_at here) ≡ done
          tt
          → (v : ℤ) → i < 256 → own i ≡ done v → Before (i + 1) (set found i v) held' (Some here) (fetched + pick new 1 0)
      more at_here held' h within v l e =
          record {
            found-long = simp length-set b.found-long;
            answers = below_more (λ j. own j ≡ done (at (set found i v) j)) i
                (λ j q. b.answers j q ∙ ap done (sym (get_or-set_other found i j v (pos 0) (λ z. apart j i q z))))
                (e ∙ ap done (sym (get_or-set_same found i v (pos 0) (let n = b.found-long in omega arith))));
            count = counts at_here ∙ ap (fetches cell) (sym (add-one i));
            none = λ z. absurd (first z);
            kept = λ k q. record { here = here; is = refl; held_is = h; within = within; at_cell = at_here ∙ ap cell (back k q) };
          }
        where
          first : i + 1 ≡ 0 → ⊥
          first z = omega arith

          apart : (j i : ℕ) → j < i → j ≡ i → ⊥
          apart j i q z = omega arith

          back : (k : ℕ) → i + 1 ≡ suc k → i ≡ k
          back k q = omega arith

  -- at the end
  pub ends : (i : ℕ) (found held : List ℤ) (last : Option (List ℕ)) (fetched : ℕ) → Before i found held last fetched → i ≡ queries ps
      → (done fetched ≡ queries_outcome (finest s even) rs ps)
      × ((k : ℕ) → Outcome.done fetched ≡ done k → (j : ℕ) → j < queries ps → at found j ≡ answer_of (own j))
  unfolding queries_outcome
  ends i found held last fetched b e = (
    sym (first-passed (first_of (queries ps) test) (done (fetches cell (queries ps)))
        (subst (λ (n : ℕ). first_of n test ≡ done tt) e (passed-before i found held last fetched b))
        ∙ sym (ap done (b.count ∙ ap (fetches cell) e))),
    λ k q j l. sym (ap answer_of (b.answers j (omega arith))),
  )
