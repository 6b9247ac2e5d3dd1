-- `evaluate::first_ends` meets its contract: the low end stands at p, the high one one node behind it.
use mathlib.Core.Path.{sym, ap₂, ◌∙◌}
use mathlib.Core.Bool.{true, ◌&&◌}
use mathlib.Core.List.{[], ◌∷◌}
use Prim.Native.Nat.{◌+◌, ◌*◌}
use native.Mathlib.Omega.{arith}
use lib.ListN.{length}
use Rattle.arith.specs.Int.{rounding_of}
use Rattle.arith.proofs.Bits.{or-none}
use Rattle.lattice.specs.Buffer.{at}
use Rattle.evaluate.specs.Stages.{cleanly}
use Rattle.evaluate.proofs.EndLaws.{all-ends, safe-index}
use Rattle.evaluate.proofs.first_ends.Goals as goal

-- the high end starts within the records
pub overflow_add-p : goal.overflow_add-p
overflow_add-p c =
    let s = c in
    let a = s.args in
    let m = s.requires.prepared.0.m-low in
    let h = safe-index (rounding_of a.even) a.m.count (length a.records.now) (a.x ∷ []) (at a.records.now)
    (a.p + a.node + 0 * a.order)
    (omega arith) (s.requires.at_both 0 (omega arith)).1 in
    omega arith

pub returns : goal.returns
returns c =
    let d = c in
    let low = d.first_end-low in
    let high = d.first_end-high in
    let a = d.args in record {
      are_ends = record { low = low.ensures.end; high = high.ensures.end };
      rest_value = or-none high.result.rest low.result.rest ∙ ap₂ ◌&&◌ high.ensures.rest_value low.ensures.rest_value
          ∙ sym (all-ends a.m.count a.order a.node (cleanly a.m.count a.k a.x (at a.records.now) (λ i. true)) a.p);
    }

pub first_end-low-requires : goal.first_end-low-requires
first_end-low-requires c = record { prepared = c.requires.prepared; by_index = (λ o l. (c.requires.at_both o l).0) }

pub first_end-high-requires : goal.first_end-high-requires
first_end-high-requires c = let s = c in record { prepared = s.requires.prepared; by_index = (λ o l. (s.requires.at_both o l).1) }
