-- `evaluate::first` meets its contract: both ends are read from the records, from index p on, and the stage is that of the axis.
use mathlib.Core.Path.{sym, subst, ◌∙◌}
use mathlib.Core.Bool.{true}
use mathlib.Core.List.{List, [], ◌∷◌}
use Prim.Native.Nat.{ℕ, ◌+◌, ◌*◌, ◌<◌}
use native.Mathlib.Omega.{arith}
use lib.ListN.{length}
use lib.IntN.{ℤ}
use borrow.Author.Rules.{rules}
use Rattle.arith.specs.Int.{rounding_of}
use Rattle.arith.proofs.Choices.{all_true}
use Rattle.lattice.specs.Buffer.{at}
use Rattle.evaluate.specs.Stages.{IsEnd, AreEnds, after, clean_after}
use Rattle.evaluate.proofs.EndLaws.{part-index, part_end, stage-asks, stage-gives, stage-cleans, safe-index}
use Rattle.evaluate.proofs.first.Goals as goal
use Rattle.evaluate.proofs.first.Goals.{After-end_in-high, Start}

module _ (s : Start) where
  abbrev rs : List ℤ
  rs = s.args.records.now

  index : s.args.p < length rs
  index = let a = s.args in
      safe-index (rounding_of s.args.even) a.m.count (length rs) (a.x ∷ []) (at rs) a.p (let h = s.requires.prepared.0.m-low in omega arith)
      s.requires.safe

module _ (c : After-end_in-high) where
  abbrev start : Start
  start = c.before.before.before

  ends : AreEnds start.args.m.count (at (rs start)) start.args.p start.args.x.order start.args.x.node
      (record { low = c.end_in-low.result; high = c.end_in-high.result; rest = 0 })
  ends =
      let a = start.args in
      record {
        low = subst (λ (i : ℕ). IsEnd a.m.count (at (rs start)) i a.x.order c.end_in-low.result) (omega arith)
            (part_end (rs start) a.p a.m.count 0 a.x.order c.end_in-low.result c.end_in-low.ensures);
        high = part_end (rs start) a.p a.m.count a.x.node a.x.order c.end_in-high.result c.end_in-high.ensures;
      }

pub end_in-low-requires : goal.end_in-low-requires
end_in-low-requires c =
    let s = c.before in
    (λ o l. part-index (rs s) s.args.p (0 + o * s.args.x.order) (let k = (s.requires.safe.0 o l).0 in omega arith))

pub end_in-high-requires : goal.end_in-high-requires
end_in-high-requires c =
    let s = c.before.before in
    λ o l. part-index (rs s) s.args.p (s.args.x.node + o * s.args.x.order) (let k = (s.requires.safe.0 o l).1 in omega arith)

pub stage-requires : goal.stage-requires
unfolding after
stage-requires c =
    let s = start c.before in let both = stage-asks s.requires.prepared.0 (ends c.before) s.args.k s.requires.prepared.1 s.requires.safe.1
    in
    record { k_bound = both.0; low_value = both.1 }

pub returns : goal.returns
unfolding after clean_after
returns c =
    let s = start c.before.before in
    let a = s.args in
    let e = ends c.before.before in
    record {
      number_is = c.stage.ensures.number_value ∙ stage-gives s.requires.prepared.0 e (rounding_of a.even) a.k;
      rest-is = c.stage.ensures.rest_value ∙ stage-cleans s.requires.prepared.0 e a.k (λ i. true) (sym (all_true (2 * a.m.count)));
    }

pub offset_bounds-records-p : goal.offset_bounds-records-p
offset_bounds-records-p c = let h = index c in search rules

pub slice_bounds-here-count : goal.slice_bounds-here-count
slice_bounds-here-count c = let h = index c in search rules

pub slice_bounds-here-start : goal.slice_bounds-here-start
slice_bounds-here-start c = let h = index c in search rules

pub slice_bounds-here-end : goal.slice_bounds-here-end
slice_bounds-here-end c = let h = index c in search rules
