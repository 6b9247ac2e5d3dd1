-- A file that reading takes: the facts of its sections, from the outcome of reading and back.
use mathlib.Core.Path.{◌≡◌, refl, sym, ◌∙◌}
use mathlib.Core.List.{List}
use Prim.Native.Nat.{ℕ, ◌+◌, ◌≤◌}
use native.Mathlib.Omega.{arith}
use Rattle.lattice.specs.Outcome.{done, first, first_of}
use Rattle.lattice.specs.Buffer.{tabulate}
use Rattle.lattice.specs.Digits.{span}
use Rattle.lattice.specs.Shape.{counts_outcome}
use Rattle.lattice.proofs.OutcomeLaws.{first_done, first-passed, done-same, first-assoc}
use Rattle.table_file.specs.File.{Header, file_number, axes_in, count_in, header_in, nodes_in, samples_in, start_of_three, second_in, one_outcome, read_check, read_outcome, count_of, nodes_of, PermittedTable}
use Rattle.table_file.specs.Parser.{rest_outcome}
use Rattle.table_file.proofs.WriteLaws.{finest-ok}
use Rattle.table_file.proofs.ReadLaws.{Third, Rest, one-facts, one_passes, two_facts, two-passes, three-facts, three-passes, rest-facts, rest-passes, samples-length}

-- a file that reading takes
pub record Taken (bytes : List ℕ) (room : ℕ) : Type 0 where
  pub permitted : PermittedTable (header_in bytes) (samples_in bytes)
  pub counted : file_number bytes (1 + axes_in bytes) ≡ nodes_in bytes
  pub third : Third bytes (second_in bytes)
  pub roomy : nodes_in bytes ≤ room

module _ (bytes : List ℕ) (room : ℕ) where
  pub read_is : read_outcome bytes room ≡ first (one_outcome bytes) (first (rest_outcome bytes room) (done (header_in bytes)))
  unfolding read_outcome read_check rest_outcome
  read_is = first-assoc (one_outcome bytes) (rest_outcome bytes room) (done (header_in bytes))

  pub taken : (h : Header) → read_outcome bytes room ≡ done h → Taken bytes room × (header_in bytes ≡ h)
  unfolding header_in counts_outcome first_of count_of nodes_in nodes_of span tabulate
  taken h e =
      let f = first_done (one_outcome bytes) _ h (sym read_is ∙ e) in
      let g = first_done (rest_outcome bytes room) (done (header_in bytes)) h f.1 in
      let one = one-facts bytes f.0 in
      let rest = rest-facts bytes room g.0 in
      let two = two_facts bytes rest.two in
      let may : PermittedTable (header_in bytes) (samples_in bytes) =
      record {
        three = refl;
        axes-ok = one.0;
        counts-ok = one.1;
        steps-ok = finest-ok (axes_in bytes) (tabulate 3 (count_in bytes)) (second_in bytes);
        counted = samples-length bytes;
        limited = rest.limited;
      } in (
        record { permitted = may; counted = two.0; third = three-facts bytes two.1 rest.three; roomy = rest.roomy },
        done-same (header_in bytes) h g.1,
      )

  pub reads : Taken bytes room → read_outcome bytes room ≡ done (header_in bytes)
  unfolding header_in counts_outcome first_of count_of tabulate start_of_three
  reads t =
      let rest : Rest bytes room =
      record {
        two = two-passes bytes t.counted (omega (arith, t.third.ends));
        three = three-passes bytes t.third;
        roomy = t.roomy;
        limited = t.permitted.limited;
      } in
      read_is
      ∙ first-passed (one_outcome bytes) _
      (one_passes bytes (omega (arith, t.third.ends)) t.permitted.axes-ok t.permitted.counts-ok)
      ∙ first-passed (rest_outcome bytes room) _ (rest-passes bytes room rest)
