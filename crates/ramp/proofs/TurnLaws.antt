-- A turn of the loop over the queries: its position is a chunk of the list, and what the tests of its cell say of the query.
use mathlib.Core.Path.{◌≡◌, refl, sym, ap, ap₂, subst, ◌∙◌}
use mathlib.Core.Bool.{Bool, true, false}
use mathlib.Core.List.{List, [], ◌∷◌, ◌++◌}
use Prim.Native.Nat.{ℕ, ◌+◌, ◌*◌, ◌≤◌, ◌<◌}
use native.Mathlib.Omega.{arith}
use lib.IntN.{ℤ, pos}
use lib.ListN.{length, drop}
use mir.Val.{bool_byte}
use Rattle.arith.specs.Choice.{pick}
use Rattle.arith.proofs.Choices.{clash}
use Rattle.lattice.specs.declared.Shape.{Shape}
use Rattle.std.specs.Prelude.{Result, IsErr}
use Rattle.std.specs.Result.{IsErrAnd}
use Rattle.lattice.specs.declared.refusal.Refusal.{Refusal}
use Rattle.lattice.specs.Answers.{number_of, outcome_of}
use Rattle.lattice.specs.Outcome.{Outcome, refused, refuse_unless}
use Rattle.lattice.proofs.OutcomeLaws.{handed_on}
use Rattle.lattice.specs.Buffer.{at, tabulate}
use Rattle.lattice.proofs.BufferLaws.{tabulate-get_or}
use Rattle.query.specs.Parts.{finest}
use Rattle.query.specs.Queries.{position_at}
use Rattle.ramp.specs.declared.Spot.{Spot}
use Rattle.ramp.specs.Ramp.{queries, query_at}
use Rattle.ramp.specs.Parts.{Listed, Stands}
use Rattle.ramp.proofs.ChunkLaws.{chunk-at, chunk-below}

-- the position of query i is chunk i of three numbers
query-chunk : (ps position : List ℤ) (i : ℕ) → length position ≡ 3 → ((a : ℕ) → a < 3 → at position a ≡ at ps (3 * i + a))
    → position_at position ≡ query_at ps i
unfolding query_at tabulate
query-chunk ps position i long is =
    let e : 3 * i + 0 ≡ 3 * i = omega arith in
    ap position_at (sym (tabulate-get_or position 3 (pos 0) long)
    ∙ ap₂ (λ (x y : ℤ). x ∷ y ∷ at position 2 ∷ []) (is 0 (omega arith) ∙ ap (at ps) e) (is 1 (omega arith))
    ∙ ap (λ (z : ℤ). at ps (3 * i) ∷ at ps (3 * i + 1) ∷ z ∷ []) (is 2 (omega arith)))

-- a turn for query i
pub record Turn (s : Shape) (even : Bool) (ps : List ℤ) (i : ℕ) (spot : Spot) : Type 0 where
  pub inside : i < queries ps
  pub small : i < 256
  pub stands : Stands (finest s even) (query_at ps i) spot

pub turn : (s : Shape) (even : Bool) (rs ps rest after position : List ℤ) (i : ℕ) (spot : Spot) → Listed s rs ps → rest ≡ drop (3 * i) ps
    → rest ≡ position ++ after → length position ≡ 3 → Stands (finest s even) (position_at position) spot → Turn s even ps i spot
turn s even rs ps rest after position i spot ok left cut long stands =
    let l = chunk-below ps rest after position 3 i left cut long (queries ps) (omega arith) ok.whole in
    record {
      inside = l;
      small = let f = ok.few in omega arith;
      stands = subst (λ p. Stands (finest s even) p spot)
          (query-chunk ps position i long (λ a h. chunk-at ps rest after position 3 i left cut long (pos 0) a h)) stands;
    }

-- a refusal that is handed on: its test is not passed
pub refused-test : (t : Bool) (n i : ℕ) (r : Result ℕ Refusal) (e : Refusal) (o : Outcome ℕ) → IsErr r × IsErrAnd r (λ x. x ≡ e)
    → refused (number_of e.reason) e.place ≡ refuse_unless t n i → (t ≡ false → refused n i ≡ o) → outcome_of r ≡ o
refused-test true n i r e o h is f = clash (cc)
refused-test false n i r e o h is f =
    let number : number_of e.reason ≡ n = cc in
    let place : e.place ≡ i = cc in
    handed_on r e h ∙ ap₂ (λ (a b : ℕ). refused a b) number place ∙ f refl

-- a truth value as a number
pub byte-low : (b : Bool) → bool_byte b ≤ 1
byte-low true = omega arith
byte-low false = omega arith

pub byte-is : (b : Bool) → pick b 1 0 ≡ bool_byte b
unfolding pick
byte-is true = refl
byte-is false = refl
