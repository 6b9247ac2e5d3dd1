-- `cell::entries::entry_limits` meets its contract: the rows of the constant table are the limits, by a computed test.
use mathlib.Core.Bool.{Bool, true, false, ◌&&◌}
use mathlib.Core.List.{List, [], ◌∷◌}
use lib.Dec.{T, eqb, eqb→eq}
use Rattle.arith.specs.Choice.{all}
use Rattle.arith.proofs.Choices.{all-at, and_T}
use Rattle.cell.specs.Cell.{limit_of, Limits}
use mathlib.Core.Path.{◌≡◌, refl, sym, ap, subst, ◌∙◌}
use Prim.Native.Nat.{ℕ, ◌<◌, ◌^◌}
use native.Mathlib.Omega.{arith}
use lib.IntN.{ℤ, pos, negsuc, nat_abs}
use lib.Signed.{non_neg}
use Rattle.lattice.specs.Buffer.{at}
use Rattle.cell.proofs.entries.entry_limits.Goals as goal

cubic : List ℤ
cubic = pos 32768 ∷ pos 65536 ∷ pos 65536 ∷ pos 131072 ∷ pos 65536 ∷ pos 131072 ∷ pos 131072 ∷ pos 262144 ∷ pos 0 ∷ pos 0 ∷ pos 0 ∷ pos
    0 ∷ pos 0 ∷ pos 0 ∷ pos 0 ∷ pos 0 ∷ pos 0 ∷ pos 0 ∷ pos 0 ∷ pos 0 ∷ pos 0 ∷ pos 0 ∷ pos 0 ∷ pos 0 ∷ pos 0 ∷ pos 0 ∷ pos 0 ∷ []

quintic : List ℤ
quintic = pos 32768 ∷ pos 65536 ∷ pos 131072 ∷ pos 65536 ∷ pos 131072 ∷ pos 262144 ∷ pos 131072 ∷ pos 262144 ∷ pos 524288 ∷ pos 65536 ∷ pos
    131072 ∷ pos 262144 ∷ pos 131072 ∷ pos 262144 ∷ pos 524288 ∷ pos 262144 ∷ pos 524288 ∷ pos 1048576 ∷ pos 131072 ∷ pos 262144 ∷ pos
    524288 ∷ pos 262144 ∷ pos 524288 ∷ pos 1048576 ∷ pos 524288 ∷ pos 1048576 ∷ pos 2097152 ∷ []

right : ℕ → List ℤ → ℕ → Bool
right m row e = non_neg (at row e) && eqb (nat_abs (at row e)) (limit_of m e)

-- the rule at each entry, from a test over the row
by-test : (m n : ℕ) (row : List ℤ) (e : ℕ) → e < n → T (all n (right m row)) → at row e ≡ pos (limit_of m e)
unfolding right
by-test m n row e l t =
    let h = and_T (non_neg (at row e)) (eqb (nat_abs (at row e)) (limit_of m e)) (all-at n (right m row) t e l) in
    whole (at row e) h.0 ∙ ap pos (eqb→eq (nat_abs (at row e)) (limit_of m e) h.1)
  where
    whole : (z : ℤ) → T (non_neg z) → z ≡ pos (nat_abs z)
    whole (pos n) h = refl
    whole (negsuc n) h = absurd h

-- no limit of a row is negative
whole : (row : List ℤ) → T (all 27 (λ e. non_neg (at row e))) → Limits 27 row
whole row t e l = true-of (non_neg (at row e)) (all-at 27 (λ i. non_neg (at row i)) t e l)
  where
    true-of : (b : Bool) → T b → b ≡ true
    true-of true h = refl
    true-of false h = absurd h

pub invariant_of-result : goal.invariant_of-result
unfolding all cubic
invariant_of-result c = record { not_negative = whole cubic tt }

pub invariant_of-result-2 : goal.invariant_of-result-2
unfolding all quintic
invariant_of-result-2 c = record { not_negative = whole quintic tt }

pub returns-then-m-eq2 : goal.returns-then-m-eq2
unfolding right all limit_of cubic quintic
returns-then-m-eq2 c = λ e l. by-test 2 8 cubic e (subst (λ (m : ℕ). e < m ^ 3) c.if-m-eq2.true l) tt
    ∙ ap (λ (m : ℕ). pos (limit_of m e)) (sym c.if-m-eq2.true)

pub returns : goal.returns
unfolding right all limit_of cubic quintic
returns c = λ e l.
    let three : c.args.m.count ≡ 3 = let low = c.args.m.bounds.0 in let high = c.args.m.bounds.1 in omega (arith, c.if-m-eq2.false) in
    by-test 3 27 quintic e (subst (λ (m : ℕ). e < m ^ 3) three l) tt ∙ ap (λ (m : ℕ). pos (limit_of m e)) (sym three)
