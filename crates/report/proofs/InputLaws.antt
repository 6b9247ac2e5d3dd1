-- The text by what reading the input gives, and the table that a read input holds.
use mathlib.Core.Path.{◌≡◌, sym, ap, subst, ◌∙◌}
use mathlib.Core.List.{List}
use Prim.Native.Nat.{ℕ, ◌≤◌}
use native.Mathlib.Nat.{le_trans, le_of_eq}
use lib.Dec.{leb}
use lib.IntN.{ℤ}
use lib.ListN.{length, take, drop}
use lib.Seq.{take_at}
use Rattle.arith.proofs.Choices.{clash}
use Rattle.std.specs.Prelude.{Result, Ok, Err, IsErr}
use Rattle.std.specs.Result.{IsErrAnd}
use Rattle.lattice.specs.declared.refusal.Refusal.{Refusal}
use Rattle.lattice.specs.Outcome.{Outcome, done, refused, refuse_unless, when_done}
use Rattle.lattice.specs.Buffer.{overwrite}
use Rattle.lattice.specs.Shape.{nodes, Shaped}
use Rattle.lattice.proofs.OutcomeLaws.{first-passed, refused-first, when-done}
use Rattle.table_file.specs.File.{Header, samples_in, read_outcome}
use Rattle.table_file.proofs.ReadLaws.{samples-length}
use Rattle.table_file.proofs.TakenLaws.{taken}
use Rattle.text.specs.Lines.{refused_line}
use Rattle.report.specs.Report.{held_nodes, held_bytes, with_degree, input_outcome, text_of, report_text}
use Rattle.report.specs.Parts.{HeldTable}
use Rattle.report.proofs.TableLaws.{nodes-are, cubic-shaped}

-- what is said of a refusal that `?` hands on
pub on-err : {A : Type 0} (P : Result A Refusal → Type 0) (r : Result A Refusal) (e : Refusal) → IsErr r × IsErrAnd r (λ x. x ≡ e) → P
    (Err e)
    → P r
on-err P (Ok a) e h p = let f = h.0 in clash (cc)
on-err P (Err x) e h p = subst (λ (y : Refusal). P (Err y)) (sym h.1) p

module _ (input : List ℕ) where
  -- a longer input
  pub too_long : {n p : ℕ} → refused n p ≡ refuse_unless (leb (length input) held_bytes) 9 0 → report_text input ≡ refused_line n
  unfolding report_text input_outcome text_of
  too_long e = ap (λ (o : Outcome Header). text_of o (samples_in input)) (refused-first (read_outcome input held_nodes) (sym e))

  module _ (short : done tt ≡ refuse_unless (leb (length input) held_bytes) 9 0) where
    outcome : input_outcome input ≡ read_outcome input held_nodes
    unfolding input_outcome
    outcome = first-passed (refuse_unless (leb (length input) held_bytes) 9 0) (read_outcome input held_nodes) (sym short)

    pub read-refused : {n p : ℕ} → read_outcome input held_nodes ≡ refused n p → report_text input ≡ refused_line n
    unfolding report_text text_of
    read-refused e = ap (λ (o : Outcome Header). text_of o (samples_in input)) (outcome ∙ e)

    pub read_done : (h : Header) → read_outcome input held_nodes ≡ done h → report_text input ≡ text_of (done h) (samples_in input)
    unfolding report_text
    read_done h e = ap (λ (o : Outcome Header). text_of o (samples_in input)) (outcome ∙ e)

  module _ (h : Header) (e : read_outcome input held_nodes ≡ done h) where
    pub held : HeldTable h (samples_in input)
    held =
        let f = taken input held_nodes h e in
        subst (λ (g : Header). HeldTable g (samples_in input)) f.1
        (record { permitted = f.0.permitted; few = le_trans (le_of_eq (samples-length input)) f.0.roomy })

    pub shape : Shaped (with_degree h 3)
    shape = cubic-shaped h (samples_in input) held

    -- the samples stand at the front of the slice
    pub front : (n : ℕ) (old : List ℤ) → n ≡ nodes (with_degree h 3)
        → take n (when_done (read_outcome input held_nodes) (overwrite (samples_in input) old) old) ≡ samples_in input
    front n old k =
        ap (take n) (sym (when-done (overwrite (samples_in input) old) old e))
        ∙ take_at (samples_in input) (drop (length (samples_in input)) old) n (sym (k ∙ nodes-are h (samples_in input) held 3))

    pub few-nodes : (n : ℕ) → n ≡ nodes (with_degree h 3) → n ≤ held_nodes
    few-nodes n k = le_trans (le_of_eq (k ∙ nodes-are h (samples_in input) held 3)) held.few
