-- What the tests of reading say of a file, section by section, and what passes them.
use mathlib.Core.Path.{◌≡◌, refl, sym, ap, subst, ◌∙◌}
use mathlib.Core.Bool.{Bool, true, false}
use mathlib.Core.List.{List, [], ◌∷◌}
use Prim.Native.Nat.{ℕ, ◌+◌, ◌*◌, ◌-◌, ◌≤◌, ◌<◌}
use native.Mathlib.Omega.{arith}
use borrow.Author.Tests.{le-leb, leb-true, lt-ltb, le-ltb, ltb-true, ltb-false, eq-eqb, eqb-true}
use lib.Dec.{leb, ltb, eqb}
use lib.IntN.{pos}
use lib.ListN.{length, get_or, take, drop, length-drop, length-map}
use lib.Seq.{length-take-le, get_or-take, get_or-drop}
use Rattle.std.proofs.lemmas.List.{get_or-map}
use Rattle.std.specs.Simd.{first_chunks}
use Rattle.table_file.proofs.NumberLaws.{chunk-number}
use Rattle.arith.specs.Choice.{pick}
use Rattle.arith.proofs.Choices.{pick_true, pick-false, split}
use Rattle.lattice.specs.Outcome.{Check, done, refuse_unless, first, first_of}
use Rattle.lattice.specs.Buffer.{at, tabulate}
use Rattle.lattice.specs.Digits.{span}
use Rattle.lattice.specs.Shape.{shape_of, count, nodes, axes_outcome, count_allowed, counts_outcome, Shaped}
use Rattle.lattice.specs.Records.{sample_limit, limit_outcome}
use Rattle.lattice.specs.declared.Shape.{Shape}
use Rattle.lattice.proofs.OutcomeLaws.{first_done, first-passed, refuse-done, passes, first_of-each, first_of-passes}
use Rattle.lattice.proofs.ShapeLaws.{axes-range, counts_each, nodes-high, allowed-unused}
use Rattle.lattice.proofs.BufferLaws.{length-tabulate, get_d_tabulate, tabulate-get_or, tabulate-same}
use Rattle.table_file.specs.Numbers.{number_at, signed_of}
use Rattle.table_file.specs.File.{file_header, section_three, header_in, count_of, file_number, complete, axes_in, count_in, nodes_in, samples_in, start_of_three, second_in, count_outcome, one_outcome, nothing_after, two_outcome, three_outcome}
use Rattle.table_file.specs.Parser.{samples_of, samples_from, shape_in, rest_outcome, AfterOne}
use Rattle.table_file.proofs.WriteLaws.{shaped_of}

-- ---- samples as they stand in the file

pub length-of : (numbers : List (List ℕ)) → length (samples_of numbers) ≡ length numbers
length-of numbers = length-map numbers (λ b. signed_of (number_at b 0))

pub sample-of : (numbers : List (List ℕ)) (i : ℕ) (d : List ℕ) → i < length numbers
    → at (samples_of numbers) i ≡ signed_of (number_at (get_or numbers i d) 0)
sample-of numbers i d l = get_or-map (λ b. signed_of (number_at b 0)) numbers i d (pos 0) l

-- those from number `start` on
pub samples-chunks : (bytes : List ℕ) (start count m : ℕ) (numbers : List (List ℕ)) → numbers ≡ first_chunks 4 m bytes → length numbers ≡ m
    → start + count ≤ m → samples_of (take (start + count - start) (drop start numbers)) ≡ samples_from bytes start count
unfolding samples_from
samples-chunks bytes start count m numbers e f room =
    let part = take (start + count - start) (drop start numbers) in
    let some : length part ≡ count = omega (
      arith,
      length-take-le (start + count - start)
          (drop start numbers),
      length-drop start numbers,
    ) in
    sym (tabulate-get_or (samples_of part) count (pos 0) (length-of part ∙ some))
    ∙ tabulate-same count (at (samples_of part)) (λ i. signed_of (file_number bytes (start + i))) (λ i l.
    sample-of part i [] (omega arith)
    ∙ ap (λ (b : List ℕ). signed_of (number_at b 0))
    (get_or-take (start + count - start) (drop start numbers) i [] (omega arith) ∙ get_or-drop start numbers i []
    ∙ ap (λ (bs : List (List ℕ)). get_or bs (start + i) []) e)
    ∙ ap signed_of (chunk-number m (start + i) bytes [] (omega arith)))

-- what section three of a file is in either edition, and that nothing comes after it
pub record Third (bytes : List ℕ) (second : Bool) : Type 0 where
  pub ends : length bytes ≡ 4 * (start_of_three bytes + length (section_three second))
  pub numbers : tabulate (length (section_three second)) (λ i. file_number bytes (start_of_three bytes + i)) ≡ section_three second

module _ (bytes : List ℕ) where
  -- ---- k numbers are complete

  pub complete-holds : (k : ℕ) → complete bytes k ≡ done tt → 4 * k ≤ length bytes
  unfolding complete
  complete-holds k e = leb-true (4 * k) (length bytes) (refuse-done (leb (4 * k) (length bytes)) 6 (length bytes) e)

  complete-passes : (k : ℕ) → 4 * k ≤ length bytes → complete bytes k ≡ done tt
  unfolding complete
  complete-passes k h = passes (leb (4 * k) (length bytes)) 6 (length bytes) (le-leb (4 * k) (length bytes) h)

  -- ---- a node count

  pub count-read : (a : ℕ) → a < axes_in bytes → count_in bytes a ≡ file_number bytes (1 + a)
  unfolding count_in
  count-read a l = pick_true (ltb a (axes_in bytes)) (file_number bytes (1 + a)) 1 (lt-ltb a (axes_in bytes) l)

  pub count-absent : (a : ℕ) → axes_in bytes ≤ a → count_in bytes a ≡ 1
  unfolding count_in
  count-absent a l = pick-false (ltb a (axes_in bytes)) (file_number bytes (1 + a)) 1 (le-ltb a (axes_in bytes) l)

  -- 3 once 6 is passed
  pub count-tested : (n a v : ℕ) → n ≡ axes_in bytes → a < n → v ≡ file_number bytes (1 + a) → complete bytes (2 + a) ≡ done tt
      → refuse_unless (count_allowed n v a) 3 a ≡ count_outcome bytes a
  unfolding count_outcome
  count-tested n a v e l f h = rw (e, f ∙ sym (count-read a (omega arith))) (sym (first-passed (complete bytes (2 + a)) _ h))

  -- ---- section one

  pub one-facts : one_outcome bytes ≡ done tt → (axes_outcome (axes_in bytes) ≡ done tt)
      × (counts_outcome (axes_in bytes) (count_in bytes) ≡ done tt) × (4 * axes_in bytes + 4 ≤ length bytes)
  unfolding one_outcome counts_outcome count_outcome
  one-facts h =
      let n = axes_in bytes in
      let f = first_done (complete bytes 1) _ tt h in
      let g = first_done (axes_outcome n) _ tt f.1 in
      let low = (axes-range n g.0).0 in
      let test : ℕ → Check = λ a. refuse_unless (count_allowed n (count_in bytes a) a) 3 a in
      let used : (a : ℕ) → a < n → (complete bytes (2 + a) ≡ done tt) × (test a ≡ done tt) =
      λ a l. first_done (complete bytes (2 + a)) (test a) tt (first_of-each n (count_outcome bytes) g.1 a l) in (
        g.0,
        first_of-passes 3 test (λ a l. split (ltb a n) (λ t. (used a (ltb-true a n t)).1)
            (λ t. passes (count_allowed n (count_in bytes a) a) 3 a
            (allowed-unused n (count_in bytes a) a (ltb-false a n t) (count-absent a (ltb-false a n t))))),
        omega (arith, complete-holds (2 + (n - 1)) (used (n - 1) (omega arith)).0),
      )

  -- what the code needs of the node counts that it reads
  pub one-sizes : one_outcome bytes ≡ done tt → (n : ℕ) → n ≡ axes_in bytes → (n ≡ axes_in bytes) × (n ≤ 3) × (4 * n + 4 ≤ length bytes)
  one-sizes h n e = let f = one-facts h in (e, omega (arith, (axes-range (axes_in bytes) f.0).1), omega (arith, f.2))

  pub one_passes : 4 * (2 + axes_in bytes) ≤ length bytes → axes_outcome (axes_in bytes) ≡ done tt
      → counts_outcome (axes_in bytes) (count_in bytes) ≡ done tt → one_outcome bytes ≡ done tt
  unfolding one_outcome count_outcome
  one_passes h e f =
      let n = axes_in bytes in
      let r = axes-range n e in
      first-passed (complete bytes 1) _ (complete-passes 1 (omega arith))
      ∙ first-passed (axes_outcome n) _ e
      ∙ first_of-passes n (count_outcome bytes) (λ a l.
      first-passed (complete bytes (2 + a)) _ (complete-passes (2 + a) (omega arith))
      ∙ passes (count_allowed n (count_in bytes a) a) 3 a (counts_each n (count_in bytes) f a (omega (arith, r.1))))

  -- the shape that it gives
  pub shape_is : {n x y z : ℕ} → n ≡ axes_in bytes → x ≡ count_in bytes 0 → y ≡ count_in bytes 1 → z ≡ count_in bytes 2
      → shape_of n 3 (x ∷ y ∷ z ∷ []) ≡ shape_in bytes
  unfolding tabulate
  shape_is e f g h = rw (e, f, g, h) refl

  pub shaped_in : one_outcome bytes ≡ done tt → Shaped (shape_in bytes)
  unfolding header_in counts_outcome first_of tabulate count_of
  shaped_in h = let f = one-facts h in shaped_of (header_in bytes) f.0 f.1

  nodes-in : nodes (shape_in bytes) ≡ nodes_in bytes
  unfolding nodes nodes_in span count tabulate
  nodes-in = refl

  pub header_is : (s : Shape) (second : Bool) → s ≡ shape_in bytes → second ≡ second_in bytes
      → header_in bytes ≡ file_header s.axes s.counts second
  unfolding header_in tabulate
  header_is s second e f = rw (e, f) refl

  pub after_one : one_outcome bytes ≡ done tt → (s : Shape) → s ≡ shape_in bytes → (k : ℕ) → k ≡ nodes s → AfterOne bytes s.axes k
  after_one h s e k f =
      let g : k ≡ nodes (shape_in bytes) = f ∙ ap nodes e in
      record {
        axes-is = ap (λ (t : Shape). t.axes) e;
        few = omega (arith, ap (λ (t : Shape). t.axes) e, (shaped_in h).axes-high);
        nodes-is = g ∙ nodes-in;
        small = omega (arith, g, nodes-high (shape_in bytes) (shaped_in h));
      }

  -- ---- section two

  pub two_facts : two_outcome bytes ≡ done tt
      → (file_number bytes (1 + axes_in bytes) ≡ nodes_in bytes) × (4 * start_of_three bytes ≤ length bytes)
  unfolding two_outcome
  two_facts h =
      let many = file_number bytes (1 + axes_in bytes) in
      let f = first_done (complete bytes (2 + axes_in bytes)) _ tt h in
      let g = first_done (refuse_unless (eqb many (nodes_in bytes)) 8 0) (complete bytes (start_of_three bytes)) tt f.1 in
      (eqb-true many (nodes_in bytes) (refuse-done (eqb many (nodes_in bytes)) 8 0 g.0), complete-holds (start_of_three bytes) g.1)

  pub two-passes : file_number bytes (1 + axes_in bytes) ≡ nodes_in bytes → 4 * start_of_three bytes ≤ length bytes → two_outcome bytes ≡
      done tt
  unfolding two_outcome start_of_three
  two-passes e f =
      rw (
        complete-passes (2 + axes_in bytes) (omega arith),
        eq-eqb (file_number bytes (1 + axes_in bytes)) (nodes_in bytes) e,
      )
      (complete-passes (start_of_three bytes) f)

  -- ---- section three

  -- edition two
  module _ (two : second_in bytes ≡ true) where
    -- its tests, with the number that it begins at as the code holds it
    pub three-tests : (k : ℕ) → k ≡ start_of_three bytes → three_outcome bytes
        ≡ first (complete bytes (2 + k))
        (first (refuse_unless (eqb (file_number bytes k) 1) 25 0)
        (first (refuse_unless (eqb (file_number bytes (1 + k)) 2) 25 0)
        (refuse_unless (leb (length bytes) (4 * (2 + k))) 7 (4 * (2 + k)))))
    unfolding three_outcome nothing_after
    three-tests k e = rw e (pick_true (second_in bytes) _ (done tt) two)

    two-third : three_outcome bytes ≡ done tt → Third bytes true
    unfolding section_three pick tabulate
    two-third h =
        let k = start_of_three bytes in
        let f = first_done (complete bytes (2 + k)) _ tt (sym (three-tests k refl) ∙ h) in
        let g = first_done (refuse_unless (eqb (file_number bytes k) 1) 25 0) _ tt f.1 in
        let i = first_done (refuse_unless (eqb (file_number bytes (1 + k)) 2) 25 0) _ tt g.1 in
        let low = complete-holds (2 + k) f.0 in
        let high = leb-true (length bytes) (4 * (2 + k)) (refuse-done (leb (length bytes) (4 * (2 + k))) 7 (4 * (2 + k)) i.1) in
        let count = eqb-true (file_number bytes k) 1 (refuse-done (eqb (file_number bytes k) 1) 25 0 g.0) in
        let number = eqb-true (file_number bytes (1 + k)) 2 (refuse-done (eqb (file_number bytes (1 + k)) 2) 25 0 i.0) in
        let e₀ : k + 0 ≡ k = omega arith in
        let e₁ : k + 1 ≡ 1 + k = omega arith in
        record { ends = omega arith; numbers = rw (e₀, e₁, count, number) refl }

    two-three-passes : Third bytes true → three_outcome bytes ≡ done tt
    unfolding section_three pick tabulate
    two-three-passes t =
        let k = start_of_three bytes in
        let e₀ : k ≡ k + 0 = omega arith in
        let e₁ : 1 + k ≡ k + 1 = omega arith in
        let count : file_number bytes k ≡ 1 = ap (file_number bytes) e₀ ∙ ap (λ (l : List ℕ). get_or l 0 0) t.numbers in
        let number : file_number bytes (1 + k) ≡ 2 = ap (file_number bytes) e₁ ∙ ap (λ (l : List ℕ). get_or l 1 0) t.numbers in
        three-tests k refl
        ∙ rw (
          complete-passes (2 + k) (omega (arith, t.ends)),
          eq-eqb (file_number bytes k) 1 count,
          eq-eqb (file_number bytes (1 + k)) 2 number,
        )
        (passes (leb (length bytes) (4 * (2 + k))) 7 (4 * (2 + k)) (le-leb (length bytes) (4 * (2 + k)) (omega (arith, t.ends))))

  -- edition one
  module _ (one : second_in bytes ≡ false) where
    pub three-absent : three_outcome bytes ≡ done tt
    unfolding three_outcome
    three-absent = pick-false (second_in bytes) _ (done tt) one

    one-third : 4 * start_of_three bytes ≤ length bytes → Third bytes false
    unfolding section_three pick tabulate second_in
    one-third low = record { ends = omega (arith, low, ltb-false (4 * start_of_three bytes) (length bytes) one); numbers = refl }

  pub three-facts : 4 * start_of_three bytes ≤ length bytes → three_outcome bytes ≡ done tt → Third bytes (second_in bytes)
  three-facts low h = split (second_in bytes) (λ t. subst (Third bytes) (sym t) (two-third t h))
      (λ t. subst (Third bytes) (sym t) (one-third t low))

  pub three-passes : Third bytes (second_in bytes) → three_outcome bytes ≡ done tt
  three-passes h = split (second_in bytes) (λ t. two-three-passes t (subst (Third bytes) t h)) three-absent

  -- ---- the samples, and what comes after the sections

  module _ (start many : ℕ) where
    pub length-samples : length (samples_from bytes start many) ≡ many
    unfolding samples_from
    length-samples = length-tabulate many (λ i. signed_of (file_number bytes (start + i)))

    pub sample-is : (i : ℕ) → i < many → at (samples_from bytes start many) i ≡ signed_of (file_number bytes (start + i))
    unfolding samples_from
    sample-is i l = get_d_tabulate many (λ i. signed_of (file_number bytes (start + i))) i (pos 0) l

  pub samples-length : length (samples_in bytes) ≡ nodes_in bytes
  unfolding samples_in samples_from
  samples-length = length-samples (2 + axes_in bytes) (nodes_in bytes)

  pub samples-get : (i : ℕ) → i < nodes_in bytes → at (samples_in bytes) i ≡ signed_of (file_number bytes (2 + axes_in bytes + i))
  unfolding samples_in samples_from
  samples-get = sample-is (2 + axes_in bytes) (nodes_in bytes)

  -- with n and the number of nodes as the code holds them
  module _ (axes nodes : ℕ) (p : AfterOne bytes axes nodes) where
    pub two_is : two_outcome bytes
        ≡ first (complete bytes (2 + axes))
        (first (refuse_unless (eqb (file_number bytes (1 + axes)) nodes) 8 0) (complete bytes (2 + axes + nodes)))
    unfolding two_outcome start_of_three
    two_is = rw (p.axes-is, p.nodes-is) refl

    -- where section three begins
    pub start_is : (2 + axes + nodes ≡ start_of_three bytes) × (2 + axes + nodes ≤ 262149)
    unfolding start_of_three
    start_is = (rw (p.axes-is, p.nodes-is) refl, omega (arith, p.few, p.small))

    pub samples-are : samples_from bytes (2 + axes) nodes ≡ samples_in bytes
    unfolding samples_from samples_in
    samples-are = rw (p.axes-is, p.nodes-is) refl

    pub rest-is : (room : ℕ) → rest_outcome bytes room
        ≡ first (two_outcome bytes)
        (first (three_outcome bytes)
        (first (refuse_unless (leb nodes room) 9 0) (limit_outcome 5 sample_limit (samples_from bytes (2 + axes) nodes))))
    unfolding rest_outcome
    rest-is room = rw (samples-are, p.nodes-is) refl

  -- what the tests after section one say
  pub record Rest (room : ℕ) : Type 0 where
    pub two : two_outcome bytes ≡ done tt
    pub three : three_outcome bytes ≡ done tt
    pub roomy : nodes_in bytes ≤ room
    pub limited : limit_outcome 5 sample_limit (samples_in bytes) ≡ done tt

  module _ (room : ℕ) where
    pub rest-facts : rest_outcome bytes room ≡ done tt → Rest room
    unfolding rest_outcome
    rest-facts h =
        let f = first_done (two_outcome bytes) _ tt h in
        let k = first_done (three_outcome bytes) _ tt f.1 in
        let g = first_done (refuse_unless (leb (nodes_in bytes) room) 9 0) _ tt k.1 in
        record {
          two = f.0;
          three = k.0;
          roomy = leb-true (nodes_in bytes) room (refuse-done (leb (nodes_in bytes) room) 9 0 g.0);
          limited = g.1;
        }

    pub rest-passes : Rest room → rest_outcome bytes room ≡ done tt
    unfolding rest_outcome
    rest-passes r = rw (r.two, r.three, le-leb (nodes_in bytes) room r.roomy) r.limited
