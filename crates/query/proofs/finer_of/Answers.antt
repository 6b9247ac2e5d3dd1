-- `query::finer_of` meets its contract: scaled by the factors of three axes, none of which is 0 where the shape was not tested.
use mathlib.Core.Path.{◌≡◌, sym}
use mathlib.Core.List.{[], ◌∷◌}
use mathlib.Core.Logic.{inl, inr}
use Prim.Native.Nat.{ℕ}
use lib.ListN.{get_or}
use Rattle.arith.proofs.Choices.{by-3}
use Rattle.lattice.specs.Shape.{steps_on}
use Rattle.query.specs.Parts.{scaled}
use Rattle.query.proofs.CoarseCalls.{Factor, in-factors}
use Rattle.query.proofs.finer_of.Goals as goal
use Rattle.query.proofs.finer_of.Goals.{then-f-eq0+in_ok-check_full, else-f-eq0+else-g-eq0+else-h-eq0}

pub returns : goal.returns
unfolding steps_on
returns c =
    let a = c.args in
    let factor : ℕ → ℕ = (λ i. get_or (c.factor_on-f.result ∷ c.factor_on-g.result ∷ c.factor_on-h.result ∷ []) i 0) in
    let to = c.scaled.result ∷ c.scaled-2.result ∷ c.scaled-3.result ∷ [] in
    in-factors a.t factor
    (by-3 (λ (i : ℕ). Factor a.t i (factor i)) c.factor_on-f.ensures c.factor_on-g.ensures c.factor_on-h.ensures)
    a.step to
    (by-3 (λ (i : ℕ). get_or to i 0 ≡ scaled (factor i) (get_or a.step i 0)) c.scaled.ensures c.scaled-2.ensures c.scaled-3.ensures)
    (elim c.if-f-eq0.branch [
      | then-f-eq0+in_ok-check_full w ↦ inl (sym w.in_ok-check_full.ensures)
      | else-f-eq0+else-g-eq0+else-h-eq0 w ↦ inr (by-3 (λ (i : ℕ). factor i ≡ 0 → ⊥) w.if-f-eq0.false w.if-g-eq0.false w.if-h-eq0.false)
    ])
