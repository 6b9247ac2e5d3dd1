-- The third demand, from what the two calls give: the stages' number from the records of the rules, for an accepted table and a query whose
-- tests are passed.
use mathlib.Core.Path.{◌≡◌, refl, sym, ap, subst, ◌∙◌}
use mathlib.Core.List.{List}
use mathlib.Core.Option.{none, some}
use Prim.Native.Nat.{ℕ, ◌*◌, ◌≤◌, ◌<◌}
use lib.Dec.{ltb, eqb}
use lib.ListN.{length, take}
use lib.IntN.{ℤ}
use borrow.Author.Tests.{lt-ltb, eq-eqb}
use Rattle.arith.proofs.Order.{pos_inj}
use Rattle.arith.proofs.Editions.{edition-sound}
use Rattle.lattice.specs.declared.Shape.{Shape}
use Rattle.lattice.specs.declared.FullShape.{FullShape}
use Rattle.lattice.specs.Outcome.{Outcome, Check, done, refused, refuse_unless, first}
use Rattle.lattice.specs.Shape.{rounding_in, steps_on, orders, size, full_outcome, Shaped}
use Rattle.lattice.specs.Axes.{Place}
use Rattle.lattice.proofs.OutcomeLaws.{first_done, first-passed, first-after, refused-first, done-same, passes}
use Rattle.lattice.proofs.ShapeLaws.{orders-range}
use Rattle.estimate.specs.Estimate.{Estimable, table_records, records_of, estimate_outcome, estimate_writes}
use Rattle.estimate.proofs.CallLaws.{estimated, estimated-full, records-length}
use Rattle.hermite.specs.Stage.{Smooth}
use Rattle.evaluate.specs.Evaluate.{Want, dose, derivative_along, order_wanted, last_axis, exact_sum, exact_divisor, answer_by, ask_of}
use Rattle.query.specs.Queries.{want_outcome, asked_outcome, reading}
use Rattle.query.proofs.QueryLaws.{want-parts, last-used, want-smooth, asked-facts, asked-passes}
use Rattle.float_query.specs.Answers.{FloatValue, as_dose, as_slope, in_float}
use Rattle.claims.specs.Third.{Query, queried, cell_read, step_read, Reads, AcceptedTable, both_calls, asked, allowed_distance, WithinDistance, Distance, Agreement, recounted, resized, Locality, Askable, NoGap, Claimed, ThirdDemand}
use Rattle.claims.proofs.General.{rejoined, steps-some}
use Rattle.claims.proofs.Distance.{Proper, distance}
use Rattle.claims.proofs.Agree.{agreement}
use Rattle.estimated.proofs.Estimated.{lent, reading-is}
use Rattle.claims.proofs.Block.{block-local}
use Rattle.claims.proofs.Gates.{gate, by-gate, gated, gate-passes, gate_same, step_same}

-- ---- a derivative of a permitted order along a used axis

askable : (s : Shape) (want : Want) → want_outcome s want ≡ done tt → Askable s want
unfolding want_outcome Askable
askable s dose h = tt
askable s (derivative_along order l) h = want-parts s order l h

want-passes : (s : Shape) (want : Want) → Askable s want → want_outcome s want ≡ done tt
unfolding want_outcome Askable
want-passes s dose h = refl
want-passes s (derivative_along order l) h =
    first-passed (refuse_unless (ltb l s.axes) 12 0) (refuse_unless (ltb order (orders s)) 21 0)
    (passes (ltb l s.axes) 12 0 (lt-ltb l s.axes h.0))
    ∙ passes (ltb order (orders s)) 21 0 (lt-ltb order (orders s) h.1)

want-same : (s : Shape) (counts : List ℕ) (want : Want) → want_outcome s want ≡ want_outcome (recounted s counts) want
unfolding want_outcome
want-same s counts dose = refl
want-same s counts (derivative_along order l) = refl

pub used-last : (s : Shape) (want : Want) → 1 ≤ s.axes → Askable s want → last_axis s.axes want < s.axes
used-last s want l h = last-used s want l (want-passes s want h)

pub permitted : (s : Shape) (want : Want) → Askable s want → Smooth (order_wanted want) (orders s)
permitted s want h = want-smooth s want (want-passes s want h)

pub asked-known : (t : FullShape) (rs : List ℤ) (want : Want) → asked_outcome t rs want ≡ done tt → Askable t.shape want
asked-known t rs want h = askable t.shape want (asked-facts t rs want h).wanted

-- ---- what the two calls give

-- what a query reads of the records that estimation wrote
abbrev pub read_here : FullShape → List ℤ → Want → Query → Outcome ℤ
read_here t xs want q = reading t (records_of t.shape xs) want (cell_read t q) (step_read t q)

-- the stages' number
abbrev pub answer_here : FullShape → List ℤ → Want → Query → ℤ
answer_here t xs want q = answer_by (rounding_in t) (asked t want q) (table_records t.shape xs)

module _ (t : FullShape) (xs old : List ℤ) (taken : AcceptedTable t xs old) where
  abbrev s : Shape
  s = t.shape

  pub full : full_outcome t ≡ done tt
  full = estimated-full t xs (length old) taken

  pub known : Estimable s xs (length old)
  known = estimated t xs (length old) taken

  -- the tests of the query, then what it reads
  pub both_is : (want : Want) (q : Query)
      → both_calls t xs old want q ≡ first (asked_outcome t (records_of s xs) want) (first (gate t q) (read_here t xs want q))
  unfolding both_calls
  both_is want q =
      first-passed (estimate_outcome t xs (length old)) (queried t _ want q) taken
      ∙ ap (λ (rs : List ℤ). queried t rs want q) (lent t xs old taken) ∙ by-gate t (records_of s xs) want q

  -- of the tests before the query's own, the derivative's axis and order alone can be refused
  asked_is : (want : Want) → asked_outcome t (records_of s xs) want ≡ want_outcome s want
  unfolding asked_outcome
  asked_is want =
      first-passed (full_outcome t) _ full
      ∙ first-passed (refuse_unless (eqb (length (records_of s xs)) (size s)) 4 0) (want_outcome s want)
      (passes _ 4 0 (eq-eqb _ _ (records-length s xs)))

  askable-passes : (want : Want) → Askable s want → asked_outcome t (records_of s xs) want ≡ done tt
  askable-passes want a = asked-passes t (records_of s xs) want (records-length s xs) full (want-passes s want a)

  -- what a query whose tests are passed reads
  pub read_is : (want : Want) (q : Query) → Askable s want → gate t q ≡ done tt → read_here t xs want q ≡ done (answer_here t xs want q)
  read_is want q a h =
      reading-is t xs (length old) known (cell_read t q) (gated t full q h).accepted want (step_read t q)
      (used-last s want known.shape.axes-low a)

  both-done : (want : Want) (q : Query) → Askable s want → gate t q ≡ done tt → both_calls t xs old want q ≡ done (answer_here t xs want q)
  both-done want q a h =
      both_is want q ∙ first-passed (asked_outcome t (records_of s xs) want) (first (gate t q) (read_here t xs want q))
      (askable-passes want a)
      ∙ first-passed (gate t q) (read_here t xs want q) h ∙ read_is want q a h

-- the facts behind a dose or derivative that is taken: neither call is refused
pub record Taken (t : FullShape) (xs old : List ℤ) (want : Want) (q : Query) (v : ℤ) : Type 0 where
  pub table : AcceptedTable t xs old
  pub can : Askable t.shape want
  pub passed : gate t q ≡ done tt
  pub is : v ≡ answer_here t xs want q

pub taken : (t : FullShape) (xs old : List ℤ) (want : Want) (q : Query) (v : ℤ) → both_calls t xs old want q ≡ done v
    → Taken t xs old want q v
unfolding both_calls
taken t xs old want q v h =
    let s = t.shape in
    let e = (first_done (estimate_outcome t xs (length old)) (queried t _ want q) v h).0 in
    let f = first_done (asked_outcome t (records_of s xs) want) (first (gate t q) (read_here t xs want q)) v
    (sym (both_is t xs old e want q) ∙ h) in
    let g = first_done (gate t q) (read_here t xs want q) v f.1 in
    let a = asked-known t (records_of s xs) want f.0 in
    record { table = e; can = a; passed = g.0; is = done-same v _ (sym g.1 ∙ read_is t xs old e want q a g.0) }

-- what is asked of a table of an accepted shape, for every number of steps
pub proper : (s : Shape) (want : Want) (N cell u : Place) → Shaped s → Askable s want → ((a : ℕ) → a < s.axes → 0 < N a)
    → ((a : ℕ) → a < s.axes → u a ≤ N a) → Proper (ask_of s want N cell u)
proper s want N cell u ok a stepped inside = record {
  m-low = (orders-range s.degree).0;
  m-high = (orders-range s.degree).1;
  smooth = permitted s want a;
  n-high = ok.axes-high;
  some = stepped;
  last = used-last s want ok.axes-low a;
  inside = inside;
}

-- ---- the parts of the demand

module _ (t : FullShape) (xs old : List ℤ) (want : Want) (q : Query) where
  abbrev shape : Shape
  shape = t.shape

  pub third-reads : (v : ℤ) → both_calls t xs old want q ≡ done v → Reads t q
  third-reads v h = let k = taken t xs old want q v h in gated t (full t xs old k.table) q k.passed

  is-proper : (v : ℤ) → both_calls t xs old want q ≡ done v → Proper (asked t want q)
  is-proper v h =
      let k = taken t xs old want q v h in
      proper shape want (steps_on t) (cell_read t q) (step_read t q) (known t xs old k.table).shape k.can
      (steps-some t (full t xs old k.table))
      (third-reads v h).contains.upto

  pub third-distance : Distance t xs want q (both_calls t xs old want q)
  third-distance v h =
      subst (λ z. WithinDistance (allowed_distance (order_wanted want) shape.axes) z
      (exact_sum (asked t want q) (table_records shape xs))
      (exact_divisor (asked t want q)))
      (sym (taken t xs old want q v h).is)
      (distance (rounding_in t) (edition-sound t.second_edition) (asked t want q) (is-proper v h) (table_records shape xs))

  pub third-agreement : Agreement t xs want q (both_calls t xs old want q)
  third-agreement new r p v w c d h k =
      (taken t xs old want q v h).is
      ∙ agreement (rounding_in t) (asked t want q) (is-proper v h) (cell_read t r) (step_read t r) d.upto
      (λ a l. pos_inj (rejoined (p a) (steps_on t a * cell_read t q a) (step_read t q a) (c.is a l)
      ∙ sym (rejoined (p a) (steps_on t a * cell_read t r a) (step_read t r a) (d.is a l)))) (table_records shape xs)
      ∙ sym (taken t xs new want r w k).is

  pub third-locality : Locality t xs old want q (both_calls t xs old want q)
  unfolding steps_on
  third-locality counts ys new e u same c =
      both_is t xs old e want q
      ∙ ap (λ (c : Check). first c (first (gate t q) (read_here t xs want q))) asked-same
      ∙ ap (λ (c : Check). first (asked_outcome other (records_of r ys) want) (first c (read_here t xs want q))) gates
      ∙ first-after (asked_outcome other (records_of r ys) want) (first (gate other q) (read_here t xs want q))
      (first (gate other q) (read_here other ys want q))
      (λ f. first-after (gate other q) (read_here t xs want q) (read_here other ys want q)
      (λ g. let a = asked-known other (records_of r ys) want f in
      let h : Askable shape want = asked-known t (records_of shape xs) want (asked-same ∙ f) in
      let p = gates ∙ g in
      read_is t xs old e want q h p
      ∙ ap done (block-local shape xs (cell_read t q)
      (gated t (full t xs old e) q p).accepted (steps_on t) (rounding_in t) counts ys same want (step_read t q)
      (used-last shape want (known t xs old e).shape.axes-low h)
      ∙ ap (λ (c : Place). answer_by (rounding_in t) (ask_of r want (steps_on t) c (step_read t q)) (table_records r ys)) (sym c)
      ∙ ap (λ (i : Place). answer_by (rounding_in t) (ask_of r want (steps_on t) (cell_read other q) i) (table_records r ys))
      (sym (step_same t (full t xs old e) counts (known other ys new u).shape q c)))
      ∙ sym (read_is other ys new u want q a g)))
      ∙ sym (both_is other ys new u want q)
    where
      r : Shape
      r = recounted shape counts

      other : FullShape
      other = resized t counts

      asked-same : asked_outcome t (records_of shape xs) want ≡ asked_outcome other (records_of r ys) want
      asked-same = asked_is t xs old e want ∙ want-same shape counts want ∙ sym (asked_is other ys new u want)

      gates : gate t q ≡ gate other q
      gates = gate_same t (full t xs old e) counts (known other ys new u).shape q xs ys same c

  pub third-no-gap : NoGap t xs old want q (both_calls t xs old want q)
  third-no-gap e a i = (_, both-done t xs old e want q a (gate-passes t (full t xs old e) q i))

-- for all tables and all queries
pub third-demand : ThirdDemand
third-demand t xs old want q = record {
  reads = third-reads t xs old want q;
  distance = third-distance t xs old want q;
  agreement = third-agreement t xs old want q;
  locality = third-locality t xs old want q;
  no_gap = third-no-gap t xs old want q;
}

-- ---- for a function that makes the two calls

-- the outcome of what is told
outcome_of : Outcome FloatValue → Outcome ℤ
outcome_of (done (as_dose (some v))) = done v
outcome_of (done (as_slope (some v))) = done v
outcome_of (done (as_dose none)) = refused 0 0
outcome_of (done (as_slope none)) = refused 0 0
outcome_of (refused n p) = refused n p

outcome-of : (want : Want) (o : Outcome ℤ) → outcome_of (in_float want o) ≡ o
unfolding outcome_of
outcome-of dose (done v) = refl
outcome-of (derivative_along order l) (done v) = refl
outcome-of want (refused n p) = refl

same-held : (want : Want) (o p : Outcome ℤ) → in_float want o ≡ in_float want p → o ≡ p
same-held want o p e = sym (outcome-of want o) ∙ ap outcome_of e ∙ outcome-of want p

module _ (t : FullShape) (xs old : List ℤ) (want : Want) (q : Query) where
  -- the query of the records that estimation wrote
  abbrev pub query : Outcome ℤ
  query = queried t (take (size t.shape) (estimate_writes t xs old)) want q

  pub both-refused : {n k : ℕ} → estimate_outcome t xs (length old) ≡ refused n k → refused n k ≡ both_calls t xs old want q
  unfolding both_calls
  both-refused e = sym (refused-first query e)

  pub both-asked : AcceptedTable t xs old → query ≡ both_calls t xs old want q
  unfolding both_calls
  both-asked e = sym (first-passed (estimate_outcome t xs (length old)) query e)

  -- what the two calls give, told as a float or as a whole number
  pub claimed-told : (told : Outcome FloatValue) → told ≡ in_float want (both_calls t xs old want q) → (outcome : Outcome ℤ)
      → told ≡ in_float want outcome → Claimed t xs old want q outcome
  claimed-told told e outcome h = rw (same-held want outcome (both_calls t xs old want q) (sym h ∙ e)) (third-demand t xs old want q)
