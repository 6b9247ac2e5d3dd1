-- `evaluate::third` meets its contract: the second stage gives the numbers of both ends.
use mathlib.Core.Path.{◌≡◌, refl, ◌∙◌}
use mathlib.Core.List.{[], ◌∷◌}
use Prim.Native.Nat.{ℕ, ◌<◌}
use native.Mathlib.Omega.{arith}
use borrow.Author.Rules.{rules}
use lib.Dec.{eqb}
use lib.ListN.{length}
use Rattle.arith.specs.Int.{rounding_of}
use Rattle.lattice.specs.Buffer.{at}
use Rattle.evaluate.specs.Stages.{AreEnds, all_at, after, clean_after, Safe}
use Rattle.evaluate.proofs.EndLaws.{stage-asks, stage-gives, stage-cleans, safe-index, reported-tells}
use Rattle.evaluate.proofs.third.Goals as goal
use Rattle.evaluate.proofs.third.Goals.{After-two_ends-ends, Start}

pub two_ends-ends-requires : goal.two_ends-ends-requires
two_ends-ends-requires c =
    let a = c.args in
    let stands : (i : ℕ) → Safe (rounding_of a.even) a.m.count (length a.records.now) (a.y ∷ a.x ∷ []) (at a.records.now) i → i < length
    a.records.now =
    λ i h. safe-index (rounding_of a.even) a.m.count (length a.records.now) (a.y ∷ a.x ∷ []) (at a.records.now) i
    (omega (arith, a.m.bounds.0)) h in
    record {
      fits = λ o l.
          let h = c.requires.safe.0 o l in
          let low = stands _ h.0 in let high = stands _ h.1 in (search rules, search rules);
      callable = λ o l. let h = c.requires.safe.0 o l in let k = c.requires.all_prepared.0.1 in (search rules, search rules);
    }

module _ (c : After-two_ends-ends) where
  -- the ends hold the numbers after the second stage, and what was dropped of them
  told : AreEnds c.args.m.count (after (rounding_of c.args.even) c.args.m.count (c.args.y ∷ c.args.x ∷ []) (at c.args.records.now)) c.args.p
      c.args.z.order c.args.z.node c.two_ends-ends.result
      × (eqb c.two_ends-ends.result.rest 0 ≡ all_at c.args.m.count
      (clean_after (rounding_of c.args.even) c.args.m.count (c.args.y ∷ c.args.x ∷ []) (at c.args.records.now)) c.args.p c.args.z.order
      c.args.z.node)
  unfolding after clean_after
  told =
      let a = c.args in
      c.two_ends-ends.ensures (after (rounding_of a.even) a.m.count (a.y ∷ a.x ∷ []) (at a.records.now))
      (clean_after (rounding_of a.even) a.m.count (a.y ∷ a.x ∷ []) (at a.records.now))
      (λ o l. (
        λ r e. reported-tells (rounding_of a.even) a.m.count _ a.y (a.x ∷ []) (at a.records.now) _ r (search rules) refl,
        λ r e. reported-tells (rounding_of a.even) a.m.count _ a.y (a.x ∷ []) (at a.records.now) _ r (search rules) refl,
      ))

pub stage-requires : goal.stage-requires
stage-requires c =
    let a = c.args in
    let both = stage-asks c.requires.all_prepared.0.0 (told c.before).0 a.z.shift c.requires.all_prepared.1 c.requires.safe.1 in
    record { k_bound = both.0; low_value = both.1 }

pub returns : goal.returns
returns c =
    let a = c.args in
    let t = told c.before.before in
    let prepared = c.requires.all_prepared.0.0 in
    record {
      number_is = c.stage.ensures.number_value ∙ stage-gives prepared t.0 (rounding_of a.even) a.z.shift;
      rest-is = c.stage.ensures.rest_value
          ∙ stage-cleans prepared t.0 a.z.shift (clean_after (rounding_of a.even) a.m.count (a.y ∷ a.x ∷ []) (at a.records.now)) t.1;
    }
