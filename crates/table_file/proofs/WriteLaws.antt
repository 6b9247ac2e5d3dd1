-- Numbers written one after the other are the file; what writing tests.
use mathlib.Core.Path.{◌≡◌, refl, sym, ap, ◌∙◌}
use mathlib.Core.Bool.{Bool, true, false}
use mathlib.Core.List.{List, [], ◌∷◌, ◌++◌, map}
use Prim.Native.Nat.{ℕ, ◌+◌, ◌*◌, ◌≤◌, ◌<◌}
use native.Mathlib.Numerals.{add-one}
use native.Mathlib.Omega.{arith}
use borrow.Author.Tests.{eqb-true, leb-true, le-leb, eq-eqb}
use lib.Dec.{leb, eqb}
use lib.IntN.{ℤ, pos}
use lib.ListN.{length, get_or, take, length-append, length-map, get_or-map}
use lib.Seq.{sets, take-suc, length-take-le}
use Rattle.arith.specs.Choice.{pick}
use Rattle.std.specs.Prelude.{Result, Ok, Err, IsErr}
use Rattle.std.specs.Result.{IsErrAnd}
use Rattle.lattice.specs.Answers.{number_of}
use Rattle.lattice.specs.declared.refusal.Refusal.{Refusal}
use Rattle.table_file.specs.Answers.{outcome_of_header}
use Rattle.table_file.specs.declared.Header.{Header as Read}
use Rattle.lattice.specs.Outcome.{Outcome, Check, done, refused, refuse_unless, first, when_done}
use Rattle.lattice.specs.Buffer.{at, overwrite}
use Rattle.lattice.specs.Shape.{shape_of, count, nodes, axes_outcome, degree_outcome, counts_outcome, shape_outcome, full_shape, steps_on, step_numbers_outcome, full_outcome, Shaped}
use Rattle.lattice.specs.declared.Shape.{Shape}
use Rattle.lattice.specs.declared.FullShape.{FullShape}
use Rattle.lattice.specs.Records.{sample_limit, limit_outcome}
use Rattle.lattice.proofs.OutcomeLaws.{first_done, first-passed, first-after, first-assoc, refuse-done, when-done, when-refused}
use Rattle.arith.specs.Int.{unsigned_of}
use Rattle.table_file.specs.Numbers.{bytes_of, bytes_of_all}
use Rattle.table_file.specs.File.{Header, file_header, section_one, section_two, section_three, file_of, count_of, step_of, nodes_of, write_check, write_outcome, as_read, PermittedTable}
use Rattle.lattice.proofs.BufferLaws.{sets-append, sets-front}
use Rattle.lattice.proofs.ShapeLaws.{shaped, nodes-high}
use Rattle.lattice.proofs.StepLaws.{full-shape, finest-done}
use Rattle.table_file.proofs.NumberLaws.{length-all, all_append, all_one}

-- ---- the answer of a call, and what it leaves in a slice

module _ {A B : Type 0} (o : Outcome A) (new old : B) where
  abbrev pub Answered : Outcome A → B → Type 0
  Answered given now = (given ≡ o) × (now ≡ when_done o new old)

  pub answered-refused : (k p : ℕ) → o ≡ refused k p → Answered (refused k p) old
  answered-refused k p e = (sym e, when-refused new old e)

  pub answered-done : (v : A) (now : B) → o ≡ done v → now ≡ new → Answered (done v) now
  answered-done v now e h = (sym e, h ∙ when-done new old e)

-- a refusal that reading hands on
pub read-stopped : (r : Result Read Refusal) (e : Refusal) → IsErr r × IsErrAnd r (λ x. x ≡ e)
    → outcome_of_header r ≡ refused (number_of e.reason) e.place
read-stopped (Ok h) e is = let f = is.0 in cc
read-stopped (Err x) e is = ap (λ (y : Refusal). refused (number_of y.reason) y.place) is.1

-- ---- runs of numbers

-- numbers vs from byte `at` on, then ws after them
sets-all : (vs ws l : List ℕ) (at : ℕ)
    → sets (sets l at (bytes_of_all vs)) (at + 4 * length vs) (bytes_of_all ws) ≡ sets l at (bytes_of_all (vs ++ ws))
sets-all vs ws l at =
    ap (λ (k : ℕ). sets (sets l at (bytes_of_all vs)) (at + k) (bytes_of_all ws)) (sym (length-all vs))
    ∙ sym (sets-append (bytes_of_all vs) (bytes_of_all ws) l at)
    ∙ ap (λ (m : List ℕ). sets l at m) (sym (all_append vs ws))

-- a run of numbers after another
pub put-after : (vs ws l : List ℕ) (at k : ℕ) {m now : List ℕ} → k ≡ at + 4 * length vs → m ≡ sets l at (bytes_of_all vs)
    → now ≡ sets m k (bytes_of_all ws) → now ≡ sets l at (bytes_of_all (vs ++ ws))
put-after vs ws l at k e p q = rw (q, p, e) (sets-all vs ws l at)

-- one number, then others after it
pub put_first : (v : ℕ) (vs l : List ℕ) (at k : ℕ) {m now : List ℕ} → k ≡ at + 4 → m ≡ sets l at (bytes_of v)
    → now ≡ sets m k (bytes_of_all vs) → now ≡ sets l at (bytes_of_all (v ∷ vs))
put_first v vs l at k e p q = rw (q, p, e, ← all_one v) (sets-all (v ∷ []) vs l at)

-- one number more of a list
pub put_next : (vs l : List ℕ) (at i k v : ℕ) {m now : List ℕ} → i < length vs → k ≡ at + 4 * i → v ≡ get_or vs i 0
    → m ≡ sets l at (bytes_of_all (take i vs)) → now ≡ sets m k (bytes_of v) → now ≡ sets l at (bytes_of_all (take (i + 1) vs))
put_next vs l at i k v h e f p q =
    let g : k ≡ at + 4 * length (take i vs) = omega (arith, length-take-le i vs (omega arith)) in
    rw (q, p, f, g, ← all_one (get_or vs i 0), add-one i, take-suc vs i 0 h) (sets-all (take i vs) (get_or vs i 0 ∷ []) l at)

-- sample i as a number
pub sample-number : (xs : List ℤ) (i : ℕ) → get_or (map unsigned_of xs) i 0 ≡ unsigned_of (at xs i)
unfolding unsigned_of
sample-number xs i = get_or-map unsigned_of xs i (pos 0)

-- ---- the file

-- sections one and two
module _ (n : ℕ) (cs : List ℕ) (xs : List ℤ) (few : n ≤ length cs) where
  abbrev pub numbers : List ℕ
  numbers = section_one n cs ++ section_two xs

  length-one : length (section_one n cs) ≡ 1 + n
  unfolding section_one
  length-one = omega (arith, length-take-le n cs few)

  length_two : length (section_two xs) ≡ 1 + length xs
  unfolding section_two
  length_two = omega (arith, length-map xs unsigned_of)

  pub length-numbers : length numbers ≡ 2 + n + length xs
  length-numbers = omega (arith, length-append (section_one n cs) (section_two xs), length-one, length_two)

-- all sections
module _ (h : Header) (xs : List ℤ) (few : h.axes ≤ length h.counts) where
  abbrev pub size : ℕ
  size = 4 * (2 + h.axes + length xs + length (section_three h.second))

  pub length-file : length (file_of h xs) ≡ size
  unfolding file_of
  length-file =
      length-all (numbers h.axes h.counts xs few ++ section_three h.second)
      ∙ omega (
        arith,
        length-append (numbers h.axes h.counts xs few) (section_three h.second),
        length-numbers h.axes h.counts xs few,
      )

  -- section two after section one, section three after both
  pub file-put : (l : List ℕ) {m₁ m₂ m₃ : List ℕ} → size ≤ length l → m₁ ≡ sets l 0 (bytes_of_all (section_one h.axes h.counts))
      → m₂ ≡ sets m₁ (4 * (1 + h.axes)) (bytes_of_all (section_two xs))
      → m₃ ≡ sets m₂ (4 * (2 + h.axes + length xs)) (bytes_of_all (section_three h.second)) → m₃ ≡ overwrite (file_of h xs) l
  unfolding file_of
  file-put l r e f g =
      put-after (numbers h.axes h.counts xs few) (section_three h.second) l 0 _
      (omega (arith, length-numbers h.axes h.counts xs few))
      (put-after (section_one h.axes h.counts) (section_two xs) l 0 _ (omega (arith, length-one h.axes h.counts xs few)) e f) g
      ∙ sets-front (file_of h xs) l (omega (arith, length-file))

-- section three from number k on
module _ (second : Bool) (k : ℕ) (l : List ℕ) where
  pub two-room : second ≡ true → 4 * (k + length (section_three second)) ≤ length l → 4 * (k + 2) ≤ length l
  unfolding section_three pick
  two-room t h = rw t at h

  pub two-put : {m now : List ℕ} → second ≡ true → m ≡ sets l (4 * k) (bytes_of 1) → now ≡ sets m (4 * (1 + k)) (bytes_of 2)
      → now ≡ sets l (4 * k) (bytes_of_all (section_three second))
  unfolding section_three pick
  two-put t p q = rw t (put_first 1 (2 ∷ []) l (4 * k) (4 * (1 + k)) (omega arith) p (rw (all_one 2) q))

  pub one-put : second ≡ false → l ≡ sets l (4 * k) (bytes_of_all (section_three second))
  unfolding section_three pick bytes_of_all
  one-put t = rw t refl

-- ---- the tests

-- of degree 3: both degrees have the same nodes
abbrev pub cubic : Header → Shape
cubic h = shape_of h.axes 3 h.counts

abbrev pub full : Header → FullShape
full h = full_shape (cubic h) h.steps h.second

pub shape-tests : (h : Header) → shape_outcome (cubic h) ≡ first (axes_outcome h.axes) (counts_outcome h.axes (count_of h))
unfolding shape_outcome degree_outcome count count_of
shape-tests h = refl

full-tests : (h : Header) → full_outcome (full h)
    ≡ first (axes_outcome h.axes) (first (counts_outcome h.axes (count_of h)) (step_numbers_outcome h.axes (step_of h)))
unfolding full_outcome steps_on step_of
full-tests h =
    ap (λ (c : Check). first c (step_numbers_outcome h.axes (step_of h))) (shape-tests h)
    ∙ first-assoc (axes_outcome h.axes) (counts_outcome h.axes (count_of h)) (step_numbers_outcome h.axes (step_of h))

pub shaped_of : (h : Header) → axes_outcome h.axes ≡ done tt → counts_outcome h.axes (count_of h) ≡ done tt → Shaped (cubic h)
shaped_of h e f = shaped (cubic h) (shape-tests h ∙ first-passed (axes_outcome h.axes) _ e ∙ f)

-- 4, 9 and 5, of a table with `many` nodes and a file of `needed` bytes
abbrev pub rest_check : List ℤ → ℕ → ℕ → ℕ → Check
rest_check xs many needed room =
    first (refuse_unless (eqb (length xs) many) 4 0) (first (refuse_unless (leb needed room) 9 0) (limit_outcome 5 sample_limit xs))

-- what holds where the shape is not refused, with the number of nodes and of section three's numbers as the code finds them
pub record AfterShape (h : Header) (xs : List ℤ) (room many third : ℕ) : Type 0 where
  pub few : h.axes ≤ 3
  pub most : many ≤ 262144
  pub rest : rest_check xs many (4 * (2 + h.axes + many + third)) room ≡ write_check h xs room

module _ (h : Header) (xs : List ℤ) (room : ℕ) where
  pub write-is : write_check h xs room ≡ first (full_outcome (full h)) (rest_check xs (nodes_of h) (length (file_of h xs)) room)
  unfolding write_check
  write-is =
      let steps = step_numbers_outcome h.axes (step_of h) in
      sym (rw (full-tests h)
      (first-assoc (axes_outcome h.axes) (first (counts_outcome h.axes (count_of h)) steps) _
      ∙ ap (λ (c : Check). first (axes_outcome h.axes) c) (first-assoc (counts_outcome h.axes (count_of h)) steps _)))

  pub after-shape : (many third : ℕ) → length h.counts ≡ 3 → full_outcome (full h) ≡ done tt → many ≡ nodes (cubic h)
      → third ≡ length (section_three h.second) → AfterShape h xs room many third
  unfolding nodes nodes_of count count_of
  after-shape many third three e many_is third-is =
      let s = shaped (cubic h) (full-shape (full h) e) in
      record {
        few = s.axes-high;
        most = omega (arith, many_is, nodes-high (cubic h) s);
        rest = first-after (refuse_unless (eqb (length xs) many) 4 0) _ _ (λ t.
            let same : length xs ≡ many = eqb-true (length xs) many (refuse-done (eqb (length xs) many) 4 0 t) in
            let bytes = length-file h xs (omega (arith, s.axes-high)) in
            let needed : 4 * (2 + h.axes + many + third) ≡ length (file_of h xs) = omega arith in
            ap (λ (k : ℕ). first (refuse_unless (leb k room) 9 0) (limit_outcome 5 sample_limit xs)) needed)
            ∙ ap (λ (k : ℕ). rest_check xs k (length (file_of h xs)) room) many_is
            ∙ sym (write-is ∙ first-passed (full_outcome (full h)) _ e);
      }

  -- writing takes permitted tables that have room
  pub fit : length h.counts ≡ 3 → write_check h xs room ≡ done tt → PermittedTable h xs × (length (file_of h xs) ≤ room)
  unfolding write_check
  fit three e =
      let size = length (file_of h xs) in
      let f = first_done (axes_outcome h.axes) _ tt e in
      let g = first_done (counts_outcome h.axes (count_of h)) _ tt f.1 in
      let steps = first_done (step_numbers_outcome h.axes (step_of h)) _ tt g.1 in
      let k = first_done (refuse_unless (eqb (length xs) (nodes_of h)) 4 0) _ tt steps.1 in
      let l = first_done (refuse_unless (leb size room) 9 0) (limit_outcome 5 sample_limit xs) tt k.1 in
      let counted = eqb-true (length xs) (nodes_of h) (refuse-done (eqb (length xs) (nodes_of h)) 4 0 k.0) in (
        record { three = three; axes-ok = f.0; counts-ok = g.0; steps-ok = steps.0; counted = counted; limited = l.1 },
        leb-true size room (refuse-done (leb size room) 9 0 l.0),
      )

  pub fit-writes : PermittedTable h xs → length (file_of h xs) ≤ room → write_outcome h xs room ≡ done (length (file_of h xs))
  unfolding write_outcome write_check
  fit-writes t r = rw (
    t.axes-ok,
    t.counts-ok,
    t.steps-ok,
    eq-eqb (length xs) (nodes_of h) t.counted,
    le-leb (length (file_of h xs)) room r,
    t.limited,
  ) refl

-- sizes that the machine holds
pub fit-size : (h : Header) (xs : List ℤ) → PermittedTable h xs → (h.axes ≤ 3) × (length xs ≤ 262144)
    × (length (file_of h xs) ≡ 4 * (2 + h.axes + length xs + length (section_three h.second)))
unfolding nodes_of count_of nodes count
fit-size h xs t =
    let s = shaped_of h t.axes-ok t.counts-ok in
    let few = s.axes-high in
    (few, omega (arith, t.counted, nodes-high (cubic h) s), length-file h xs (omega (arith, few, t.three)))

-- a table as it is read is permitted
pub finest-ok : (n : ℕ) (counts : List ℕ) (second : Bool) → step_numbers_outcome n (step_of (file_header n counts second)) ≡ done tt
unfolding step_of steps_on
finest-ok n counts second = finest-done (shape_of n 3 counts) second

pub read-permitted : (h : Header) (xs : List ℤ) → PermittedTable h xs → PermittedTable (as_read h) xs
unfolding count_of nodes_of
read-permitted h xs t = record {
  three = t.three;
  axes-ok = t.axes-ok;
  counts-ok = t.counts-ok;
  steps-ok = finest-ok h.axes h.counts h.second;
  counted = t.counted;
  limited = t.limited;
}
