-- What the tests of a token and of a text give, test by test.
use mathlib.Core.Path.{◌≡◌, refl, sym, ap, ap₂, ◌∙◌}
use mathlib.Core.Bool.{Bool, true}
use mathlib.Core.List.{List}
use Prim.Native.Nat.{ℕ, ◌≤◌, ◌<◌}
use native.Mathlib.Omega.{arith}
use borrow.Author.Tests.{leb-true, lt-leb, eqb-true}
use lib.Dec.{leb, eqb}
use lib.IntN.{ℤ, pos, neg_ℤ, nat_abs}
use lib.ListN.{length}
use Rattle.arith.proofs.Abs.{abs_neg}
use Rattle.arith.proofs.Choices.{on-pick}
use Rattle.lattice.specs.declared.Shape.{Shape}
use Rattle.lattice.specs.declared.FullShape.{FullShape}
use Rattle.lattice.specs.Outcome.{Check, done, refuse_unless, first, first_of}
use Rattle.lattice.specs.Shape.{nodes, full_outcome}
use Rattle.lattice.specs.Records.{sample_limit}
use Rattle.lattice.proofs.OutcomeLaws.{first_done, refuse-done, first_of-each}
use Rattle.import.specs.declared.Sum.{Sum}
use Rattle.import.specs.Tokens.{token_count}
use Rattle.import.specs.Grammar.{Number, number_in, fits}
use Rattle.import.specs.Value.{is_whole, units, sample_of}
use Rattle.import.specs.Import.{sample_in, token_outcome, sample_outcome, import_outcome}
use Rattle.import.specs.Parts.{capped, Measured, Taken}
use Rattle.import.proofs.SumLaws.{capped-or, capped_small}
use Rattle.import.proofs.ScanLaws.{token}

-- ---- a sample and its size

pub sample-size : (n : Number) → nat_abs (sample_of n) ≡ units n
unfolding sample_of
sample-size n =
    on-pick (λ (x : ℤ). nat_abs x ≡ units n) n.negative (neg_ℤ (pos (units n))) (pos (units n)) (λ _. abs_neg (pos (units n)))
    (λ _. refl)

limit-same : (v : ℕ) → leb (capped v) sample_limit ≡ leb v sample_limit
limit-same v = capped-or v
    (λ e. ap (λ (k : ℕ). leb k sample_limit) e)
    (λ e l. lt-leb (capped v) sample_limit (omega (arith, e)) ∙ sym (lt-leb v sample_limit (omega arith)))

-- ---- the tests of a token

module _ (token : List ℕ) (start k : ℕ) where
  abbrev pub short : Check
  short = refuse_unless (leb (length token) 64) 16 start

  abbrev pub fitting : Check
  fitting = refuse_unless (fits token) 17 start

  abbrev pub valued : Check
  valued = first (refuse_unless (is_whole (number_in token)) 18 start) (refuse_unless (leb (nat_abs (sample_in token)) sample_limit) 5 k)

  pub token-is : first short (first fitting valued) ≡ token_outcome token start k
  unfolding token_outcome
  token-is = refl

  pub short-passed : short ≡ done tt → length token ≤ 64
  short-passed e = leb-true (length token) 64 (refuse-done (leb (length token) 64) 16 start e)

  -- the same of the units that are measured
  pub measured-is : (s : Sum) → Measured (number_in token) s
      → first short (first fitting (first (refuse_unless s.whole 18 start) (refuse_unless (leb s.value sample_limit) 5 k)))
      ≡ token_outcome token start k
  measured-is s m =
      ap (λ (o : Check). first short (first fitting o))
      (ap₂ (λ (x y : Bool). first (refuse_unless x 18 start) (refuse_unless y 5 k)) m.is-whole
      (ap (λ (v : ℕ). leb v sample_limit) m.size ∙ limit-same (units (number_in token))
      ∙ ap (λ (v : ℕ). leb v sample_limit) (sym (sample-size (number_in token)))))
      ∙ token-is

  -- what holds of a token that is not refused
  pub token-facts : token_outcome token start k ≡ done tt
      → (length token ≤ 64) × (fits token ≡ true) × (is_whole (number_in token) ≡ true) × (nat_abs (sample_in token) ≤ sample_limit)
  unfolding token_outcome
  token-facts e =
      let f = first_done short (first fitting valued) tt e in
      let g = first_done fitting valued tt f.1 in
      let h = first_done (refuse_unless (is_whole (number_in token)) 18 start) _ tt g.1 in (
        short-passed f.0,
        refuse-done (fits token) 17 start g.0,
        refuse-done (is_whole (number_in token)) 18 start h.0,
        leb-true (nat_abs (sample_in token)) sample_limit (refuse-done (leb (nat_abs (sample_in token)) sample_limit) 5 k h.1),
      )

  pub token-taken : token_outcome token start k ≡ done tt → Taken token
  token-taken e = let f = token-facts e in record { short = f.0; small = omega (arith, f.3, sample-size (number_in token)) }

-- a size within the limit is held whole
pub taken-size : (token : List ℕ) (s : Sum) → Taken token → Measured (number_in token) s → s.value ≡ units (number_in token)
taken-size token s t m = m.size ∙ capped_small (units (number_in token)) (omega (arith, t.small))

-- ---- the tests of a text

module _ (text : List ℕ) (k : ℕ) {x : ℕ × List ℕ} (e : x ≡ token text k) where
  -- of token k
  pub tested : {n : ℕ} → n ≡ k → token_outcome x.1 x.0 n ≡ sample_outcome text k
  unfolding sample_outcome
  tested f = ap₂ (λ (y : ℕ × List ℕ) (n : ℕ). token_outcome y.1 y.0 n) e f

  pub taken-here : k < token_count text → first_of (token_count text) (sample_outcome text) ≡ done tt → Taken x.1
  taken-here l f = token-taken x.1 x.0 k (tested refl ∙ first_of-each (token_count text) (sample_outcome text) f k l)

-- 4, 9, and the tests of all tokens
abbrev pub counted : Shape → List ℕ → Check
counted s text = refuse_unless (eqb (token_count text) (nodes s)) 4 0

abbrev pub roomy : Shape → ℕ → Check
roomy s room = refuse_unless (leb (nodes s) room) 9 0

abbrev tokens : List ℕ → Check
tokens text = first_of (token_count text) (sample_outcome text)

module _ (t : FullShape) (text : List ℕ) (room : ℕ) where
  abbrev s : Shape
  s = t.shape

  pub import-is : import_outcome t text room ≡ first (full_outcome t) (first (counted s text) (first (roomy s room) (tokens text)))
  unfolding import_outcome
  import-is = refl

  -- what a text that is taken has
  pub import-facts : import_outcome t text room ≡ done tt → (token_count text ≤ room) × (tokens text ≡ done tt)
  import-facts e =
      let f = first_done (full_outcome t) (first (counted s text) (first (roomy s room) (tokens text))) tt (sym import-is ∙ e) in
      let g = first_done (counted s text) (first (roomy s room) (tokens text)) tt f.1 in
      let h = first_done (roomy s room) (tokens text) tt g.1 in
      let m = eqb-true (token_count text) (nodes s) (refuse-done (eqb (token_count text) (nodes s)) 4 0 g.0) in
      let r = leb-true (nodes s) room (refuse-done (leb (nodes s) room) 9 0 h.0) in
      (omega arith, h.1)
