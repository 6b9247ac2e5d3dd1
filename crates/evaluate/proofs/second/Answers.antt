-- `evaluate::second` meets its contract: the first stage gives the numbers of both ends.
use mathlib.Core.Path.{◌≡◌, sym, subst, ◌∙◌}
use mathlib.Core.Bool.{true}
use mathlib.Core.List.{[], ◌∷◌}
use Prim.Native.Nat.{ℕ, ◌≤◌}
use native.Mathlib.Omega.{arith}
use lib.Dec.{eqb}
use Rattle.arith.specs.Int.{rounding_of}
use Rattle.lattice.specs.Buffer.{at}
use Rattle.hermite.proofs.StageLaws.{shifted}
use Rattle.evaluate.specs.Stages.{AreEnds, all_at, worked, cleanly, after, clean_after}
use Rattle.evaluate.proofs.EndLaws.{stage-asks, stage-gives, stage-cleans}
use Rattle.evaluate.proofs.second.Goals as goal
use Rattle.evaluate.proofs.second.Goals.{After-first_ends-ends, Start}

pub first_ends-ends-requires : goal.first_ends-ends-requires
first_ends-ends-requires c =
    let s = c in
    let h = s.requires.all_prepared.0.1.0 in record {
      prepared = (
        h,
        subst (λ (i : ℕ). i ≤ 44) (sym c.shift-before.ensures)
            (shifted 0 s.args.m.count _ _ (omega (arith, h.m-low)) h.m-low h.m-high).low,
      );
      at_both = s.requires.safe.0;
    }

module _ (c : After-first_ends-ends) where
  abbrev start : Start
  start = c.before.before

  ends : AreEnds start.args.m.count (after (rounding_of start.args.even) start.args.m.count (start.args.x ∷ [])
      (at start.args.records.now))
      start.args.p start.args.y.order start.args.y.node c.first_ends-ends.result
  unfolding after
  ends =
      let a = start.args in
      subst (λ (k : ℕ). AreEnds a.m.count (worked (rounding_of a.even) k a.x (at a.records.now)) a.p a.y.order a.y.node
      c.first_ends-ends.result) c.shift-before.ensures c.first_ends-ends.ensures.are_ends

  cleans : eqb c.first_ends-ends.result.rest 0
      ≡ all_at start.args.m.count (clean_after (rounding_of start.args.even) start.args.m.count (start.args.x ∷ [])
      (at start.args.records.now))
      start.args.p start.args.y.order start.args.y.node
  unfolding after clean_after
  cleans =
      let a = start.args in
      subst (λ (k : ℕ). eqb c.first_ends-ends.result.rest 0
      ≡ all_at a.m.count (cleanly a.m.count k a.x (at a.records.now) (λ i. true)) a.p a.y.order a.y.node)
      c.shift-before.ensures c.first_ends-ends.ensures.rest_value

pub stage-requires : goal.stage-requires
stage-requires c =
    let s = start c.before in let both = stage-asks s.requires.all_prepared.0.0 (ends c.before) s.args.k s.requires.all_prepared.1
    s.requires.safe.1 in
    record { k_bound = both.0; low_value = both.1 }

pub returns : goal.returns
returns c =
    let d = c.before.before in
    let s = start d in
    let a = s.args in
    record {
      number_is = c.stage.ensures.number_value ∙ stage-gives s.requires.all_prepared.0.0 (ends d) (rounding_of a.even) a.k;
      rest-is = c.stage.ensures.rest_value
          ∙ stage-cleans s.requires.all_prepared.0.0 (ends d) a.k (clean_after (rounding_of a.even) a.m.count (a.x ∷ []) (at a.records.now))
          (cleans d);
    }

pub shift-before-requires : goal.shift-before-requires
shift-before-requires c = let h = c.requires.all_prepared.0.0 in omega (arith, h.m-low)
