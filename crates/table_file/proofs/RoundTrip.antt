-- Reading and writing undo each other, by the numbers of a file and their places.
use mathlib.Core.Path.{◌≡◌, refl, sym, ap, ap₂, subst, fun_ext, ◌∙◌}
use mathlib.Core.Bool.{Bool, true, false}
use mathlib.Core.List.{List, ◌∷◌, ◌++◌, map}
use Prim.Native.Nat.{ℕ, zero, suc, ◌+◌, ◌*◌, ◌-◌, ◌≤◌, ◌<◌}
use native.Mathlib.Omega.{arith}
use borrow.Author.Tests.{lt-ltb, le-ltb, ltb-true, ltb-false}
use lib.Dec.{ltb, lit<}
use lib.IntN.{ℤ, pos}
use mir.Syntax.{w32}
use mir.Val.{SFits}
use Rattle.arith.proofs.Abs.{sfits-abs}
use lib.ListN.{length, get_or, take, get_or-append}
use lib.Seq.{ext_get_or, take_all, get_or_at, get_or-append-add, get_or-take, length-take-le}
use Rattle.lattice.specs.Outcome.{done}
use Rattle.lattice.specs.Digits.{span}
use Rattle.lattice.proofs.ShapeLaws.{axes-range, counts_each, count-range, count-unused}
use Rattle.lattice.proofs.RecordsLaws.{limit-each}
use Rattle.lattice.specs.Buffer.{at, tabulate}
use Rattle.lattice.specs.Shape.{count_allowed}
use Rattle.lattice.specs.Records.{sample_limit}
use Rattle.lattice.proofs.BufferLaws.{length-tabulate, get_d_tabulate, tabulate-get_or}
use Rattle.arith.specs.Int.{unsigned_of}
use Rattle.table_file.specs.Numbers.{number_at, bytes_of_all, signed_of}
use Rattle.table_file.specs.File.{Header, file_header, section_one, section_two, section_three, file_of, axes_in, count_in, header_in, nodes_in, samples_in, start_of_three, second_in, count_of, nodes_of, write_outcome, AreBytes, as_read, PermittedTable}
use Rattle.arith.specs.Choice.{pick}
use Rattle.arith.proofs.Choices.{split}
use Rattle.arith.proofs.Twos.{unsigned-below}
use Rattle.table_file.proofs.Twos.{unsigned_signed, signed-unsigned}
use Rattle.table_file.proofs.NumberLaws.{number-of-all, number-below, tabulate-add, all-numbers}
use Rattle.table_file.proofs.ReadLaws.{Third, count-read, count-absent, samples-length, samples-get}
use Rattle.table_file.proofs.TakenLaws.{Taken}
use Rattle.table_file.proofs.WriteLaws.{sample-number, numbers, length-numbers, length-file, fit-size, fit-writes, read-permitted}

-- ---- the numbers of a file, by their places

-- place 0, places 1 to n, place n + 1, and p places from n + 2 on
by_place : (n p : ℕ) (P : ℕ → Type 0) → P 0 → ((a : ℕ) → a < n → P (1 + a)) → P (1 + n) → ((i : ℕ) → i < p → P (2 + n + i)) → (k : ℕ)
    → k < 2 + n + p → P k
by_place n p P first counts many samples k h =
    split (ltb k 1) (λ t. let e : 0 ≡ k = omega (arith, ltb-true k 1 t) in subst P e first)
    (λ t. let l = ltb-false k 1 t in split (ltb k (1 + n))
    (λ u. let e : 1 + (k - 1) ≡ k = omega arith in subst P e (counts (k - 1) (omega (arith, ltb-true k (1 + n) u))))
    (λ u. let m = ltb-false k (1 + n) u in split (ltb k (2 + n))
    (λ v. let e : 1 + n ≡ k = omega (arith, ltb-true k (2 + n) v) in subst P e many)
    (λ v. let o = ltb-false k (2 + n) v in let e : 2 + n + (k - (2 + n)) ≡ k = omega arith in
    subst P e (samples (k - (2 + n)) (omega arith)))))

module _ (n : ℕ) (cs : List ℕ) (xs : List ℤ) (few : n ≤ length cs) where
  number-axes : get_or (numbers n cs xs few) 0 0 ≡ n
  unfolding section_one
  number-axes = refl

  number-count : (a : ℕ) → a < n → get_or (numbers n cs xs few) (1 + a) 0 ≡ get_or cs a 0
  unfolding section_one
  number-count a l =
      let e : 1 + a ≡ suc a = omega arith in
      ap (λ (k : ℕ). get_or (numbers n cs xs few) k 0) e
      ∙ get_or-append (take n cs) (section_two xs) 0 a (omega (arith, length-take-le n cs few))
      ∙ get_or-take n cs a 0 l

  number-many : get_or (numbers n cs xs few) (1 + n) 0 ≡ length xs
  unfolding section_one section_two
  number-many =
      let e : 1 + n ≡ suc n = omega arith in
      ap (λ (k : ℕ). get_or (numbers n cs xs few) k 0) e ∙ get_or_at (take n cs) (length xs) (map unsigned_of xs) 0 n
      (length-take-le n cs few)

  number-sample : (i : ℕ) → get_or (numbers n cs xs few) (2 + n + i) 0 ≡ unsigned_of (at xs i)
  unfolding section_one section_two
  number-sample i =
      let e : 2 + n + i ≡ suc (length (take n cs) + suc i) = omega (arith, length-take-le n cs few) in
      ap (λ (k : ℕ). get_or (numbers n cs xs few) k 0) e
      ∙ get_or-append-add (take n cs) (length xs ∷ map unsigned_of xs) (suc i) 0 ∙ sample-number xs i

-- section three has small numbers, and its length tells the edition
third-below : (second : Bool) (i : ℕ) → get_or (section_three second) i 0 < 4294967296
unfolding section_three pick
third-below true zero = lit< tt
third-below true (suc zero) = lit< tt
third-below true (suc (suc i)) = lit< tt
third-below false i = lit< tt

edition-told : (second : Bool) (k : ℕ) → ltb (4 * k) (4 * (k + length (section_three second))) ≡ second
unfolding section_three pick
edition-told true k = lt-ltb (4 * k) (4 * (k + 2)) (omega arith)
edition-told false k = le-ltb (4 * k) (4 * (k + 0)) (omega arith)

-- ---- a file that was read is written again

module _ (bytes : List ℕ) (room : ℕ) (small : AreBytes bytes) (t : Taken bytes room) where
  abbrev n : ℕ
  n = axes_in bytes

  abbrev counts : List ℕ
  counts = tabulate 3 (count_in bytes)

  abbrev three : List ℕ
  three = section_three (second_in bytes)

  few : n ≤ length counts
  unfolding header_in
  few = omega (arith, (axes-range n t.permitted.axes-ok).1, length-tabulate 3 (count_in bytes))

  -- its numbers are those of the sections
  numbers-are : numbers n counts (samples_in bytes) few ≡ tabulate (start_of_three bytes) (λ k. number_at bytes (4 * k))
  unfolding start_of_three
  numbers-are =
      ext_get_or 0 (numbers n counts (samples_in bytes) few) (tabulate (2 + n + nodes_in bytes) (λ k. number_at bytes (4 * k)))
      (length-numbers n counts (samples_in bytes) few ∙ ap (λ (p : ℕ). 2 + n + p) (samples-length bytes)
      ∙ sym (length-tabulate (2 + n + nodes_in bytes) (λ k. number_at bytes (4 * k))))
      (λ k h.
      let l : k < 2 + n + nodes_in bytes = omega (arith, length-numbers n counts (samples_in bytes) few, samples-length bytes) in
      number-is-k k l ∙ sym (get_d_tabulate (2 + n + nodes_in bytes) (λ k. number_at bytes (4 * k)) k 0 l))
    where
      number-is-k : (k : ℕ) → k < 2 + n + nodes_in bytes → get_or (numbers n counts (samples_in bytes) few) k 0 ≡ number_at bytes (4 * k)
      number-is-k = by_place n (nodes_in bytes) (λ k. get_or (numbers n counts (samples_in bytes) few) k 0 ≡ number_at bytes (4 * k))
          (number-axes n counts (samples_in bytes) few)
          (λ a l. number-count n counts (samples_in bytes) few a l
          ∙ get_d_tabulate 3 (count_in bytes) a 0 (omega (arith, few, length-tabulate 3 (count_in bytes))) ∙ count-read bytes a l)
          (number-many n counts (samples_in bytes) few ∙ samples-length bytes ∙ sym t.counted)
          (λ i l. number-sample n counts (samples_in bytes) few i ∙ ap unsigned_of (samples-get bytes i l)
          ∙ unsigned_signed (number_at bytes (4 * (2 + n + i))) (number-below bytes small (4 * (2 + n + i))))

  pub written : file_of (header_in bytes) (samples_in bytes) ≡ bytes
  unfolding file_of header_in
  written =
      let all = start_of_three bytes + length three in
      ap bytes_of_all (ap₂ ◌++◌ numbers-are (sym t.third.numbers)
      ∙ sym (tabulate-add (start_of_three bytes) (length three) (λ k. number_at bytes (4 * k))))
      ∙ all-numbers bytes small all (omega (arith, t.third.ends))
      ∙ take_all (4 * all) bytes (omega (arith, t.third.ends))

  -- writing takes it
  pub writes : (space : ℕ) → length bytes ≤ space → write_outcome (header_in bytes) (samples_in bytes) space ≡ done (length bytes)
  writes space h = rw written at (fit-writes (header_in bytes) (samples_in bytes) space t.permitted (rw written h))

-- ---- a table that was written is read again

module _ (h : Header) (xs : List ℤ) (ok : PermittedTable h xs) where
  abbrev m : ℕ
  m = h.axes

  abbrev file : List ℕ
  file = file_of h xs

  axes-few : m ≤ 3
  axes-few = (axes-range m ok.axes-ok).1

  within : m ≤ length h.counts
  within = omega (arith, axes-few, ok.three)

  -- the numbers of sections one and two, and all of them
  abbrev front : List ℕ
  front = numbers m h.counts xs within

  abbrev last : List ℕ
  last = section_three h.second

  front_length : length front ≡ 2 + m + length xs
  front_length = length-numbers m h.counts xs within

  front-get : (k : ℕ) → k < 2 + m + length xs → get_or (front ++ last) k 0 ≡ get_or front k 0
  front-get k l = get_or-append front last 0 k (omega (arith, front_length))

  last_get : (i : ℕ) → get_or (front ++ last) (2 + m + length xs + i) 0 ≡ get_or last i 0
  last_get i = ap (λ (k : ℕ). get_or (front ++ last) (k + i) 0) (sym front_length) ∙ get_or-append-add front last i 0

  allowed : (a : ℕ) → a < 3 → count_allowed m (count_of h a) a ≡ true
  allowed = counts_each m (count_of h) ok.counts-ok

  fits : (i : ℕ) → SFits w32 (at xs i)
  fits i = sfits-abs {w = w32} (at xs i) (omega (arith, limit-each 5 sample_limit xs ok.limited i))

  few-samples : length xs ≤ 262144
  few-samples = (fit-size h xs ok).1

  -- every number has 4 bytes
  front_below : (k : ℕ) → k < 2 + m + length xs → get_or front k 0 < 4294967296
  unfolding count_of
  front_below = by_place m (length xs) (λ k. get_or front k 0 < 4294967296)
      (omega (arith, number-axes m h.counts xs within, axes-few))
      (λ a l. omega (
        arith,
        number-count m h.counts xs within a l,
        (count-range m (count_of h a) a (allowed a (omega (arith, axes-few)))).1,
      ))
      (omega (arith, number-many m h.counts xs within, few-samples))
      (λ i l. omega (arith, number-sample m h.counts xs within i, unsigned-below (at xs i) (fits i)))

  numbers-below : (k : ℕ) → get_or (front ++ last) k 0 < 4294967296
  numbers-below k =
      split (ltb k (2 + m + length xs))
      (λ t. let l = ltb-true k (2 + m + length xs) t in omega (arith, front-get k l, front_below k l))
      (λ t. let i = k - (2 + m + length xs) in
      let e : 2 + m + length xs + i ≡ k = omega (arith, ltb-false k (2 + m + length xs) t) in
      subst (λ (k : ℕ). get_or (front ++ last) k 0 < 4294967296) e (omega (arith, last_get i, third-below h.second i)))

  file-number : (k : ℕ) → number_at file (4 * k) ≡ get_or (front ++ last) k 0
  unfolding file_of
  file-number k = number-of-all (front ++ last) numbers-below k

  file-front : (k : ℕ) → k < 2 + m + length xs → number_at file (4 * k) ≡ get_or front k 0
  file-front k l = file-number k ∙ front-get k l

  axes-again : axes_in file ≡ m
  axes-again = file-front 0 (omega arith) ∙ number-axes m h.counts xs within

  count-again : (a : ℕ) → a < 3 → count_in file a ≡ count_of h a
  unfolding count_of
  count-again a l =
      split (ltb a m)
      (λ t.
      let u = ltb-true a m t in
      count-read file a (omega (arith, axes-again)) ∙ file-front (1 + a) (omega arith) ∙ number-count m h.counts xs within a u)
      (λ t.
      let u = ltb-false a m t in
      count-absent file a (omega (arith, axes-again)) ∙ sym (count-unused m (count_of h a) a (allowed a l) u))

  nodes-again : nodes_in file ≡ length xs
  unfolding nodes_in nodes_of span
  nodes-again = rw (count-again 0 (lit< tt), count-again 1 (lit< tt), count-again 2 (lit< tt)) (sym ok.counted)

  start-again : start_of_three file ≡ 2 + m + length xs
  unfolding start_of_three
  start-again = omega (arith, axes-again, nodes-again)

  second-again : second_in file ≡ h.second
  unfolding second_in
  second-again = rw (start-again, length-file h xs within) (edition-told h.second (2 + m + length xs))

  pub header-again : header_in file ≡ as_read h
  unfolding header_in count_of tabulate
  header-again =
      rw (axes-again, second-again, count-again 0 (lit< tt), count-again 1 (lit< tt), count-again 2 (lit< tt))
      (ap (λ (cs : List ℕ). file_header m cs h.second) (tabulate-get_or h.counts 3 0 ok.three))

  pub samples-again : samples_in file ≡ xs
  samples-again =
      ext_get_or (pos 0) (samples_in file) xs (samples-length file ∙ nodes-again) (λ i l.
      samples-get file i (omega (arith, samples-length file))
      ∙ ap signed_of (ap (λ (k : ℕ). number_at file (4 * (2 + k + i))) axes-again
      ∙ file-front (2 + m + i) (omega (arith, samples-length file, nodes-again)) ∙ number-sample m h.counts xs within i)
      ∙ signed-unsigned (at xs i) (fits i))

  third-again : Third file h.second
  third-again = record {
    ends = omega (arith, length-file h xs within, start-again);
    numbers = rw start-again (ap (tabulate (length last)) (fun_ext (λ i. file-number (2 + m + length xs + i) ∙ last_get i))
        ∙ tabulate-get_or last (length last) 0 refl);
  }

  pub taken-again : (room : ℕ) → length xs ≤ room → Taken file room
  taken-again room r = record {
    permitted = rw (header-again, samples-again) (read-permitted h xs ok);
    counted = ap (λ (k : ℕ). number_at file (4 * (1 + k))) axes-again ∙ file-front (1 + m) (omega arith)
        ∙ number-many m h.counts xs within ∙ sym nodes-again;
    third = rw second-again third-again;
    roomy = omega (arith, nodes-again);
  }
