-- `ramp::Listing::answer_scaled` meets its contract: the queries of the scaled list are those of the list.
use mathlib.Core.List.{[], ◌∷◌}
use Prim.Native.Nat.{ℕ, ◌≤◌}
use native.Mathlib.Omega.{arith}
use lib.ListN.{length, take, get_or}
use Rattle.arith.proofs.Choices.{by-3}
use Rattle.lattice.specs.Shape.{steps_on}
use Rattle.query.proofs.Coarse.{full-same}
use Rattle.ramp.proofs.CoarseLaws.{told_same, lent-queries, lent-scaled, lent-listed, at-most}
use Rattle.ramp.proofs.Listing.answer_scaled.Goals as goal

pub scale_all-requires : goal.scale_all-requires
scale_all-requires c = let a = c.args.self.now in (
  at-most a.table.shape a.records.now a.positions.now a.listed,
  by-3 (λ (a : ℕ). get_or (c.factor_on-x.result ∷ c.factor_on-y.result ∷ c.factor_on-z.result ∷ []) a 0 ≤ 16)
      c.factor_on-x.ensures.2 c.factor_on-y.ensures.2 c.factor_on-z.ensures.2,
)

pub slice_bounds-finer-end : goal.slice_bounds-finer-end
slice_bounds-finer-end c =
    let a = c.args.self.now in
    let e = c.scale_all.ensures.long in
    let l = at-most a.table.shape a.records.now a.positions.now a.listed in
    omega arith

pub invariant_of-scaled : goal.invariant_of-scaled
unfolding steps_on
invariant_of-scaled c = let a = c.args.self.now in record {
  full = a.full;
  listed = lent-listed a.table a.full _ _ _ c.factor_on-x.ensures c.factor_on-y.ensures c.factor_on-z.ensures a.positions.now
      c.scale_all.new.finer c.scale_all.ensures (at-most a.table.shape a.records.now a.positions.now a.listed) a.listed.whole a.table.shape
      a.records.now a.listed;
}

pub returns : goal.returns
unfolding steps_on
returns c =
    let a = c.args.self.now in
    let few = at-most a.table.shape a.records.now a.positions.now a.listed in
    let both = told_same a.table (full-same a.table a.full) a.full a.records.now a.positions.now
    (take (length a.positions.now) c.scale_all.new.finer) c.answer_finest.new.found
    (lent-queries a.table a.full _ _ _ c.factor_on-x.ensures c.factor_on-y.ensures c.factor_on-z.ensures a.positions.now
    c.scale_all.new.finer c.scale_all.ensures few a.listed.whole)
    (lent-scaled a.table a.full _ _ _ c.factor_on-x.ensures c.factor_on-y.ensures c.factor_on-z.ensures a.positions.now
    c.scale_all.new.finer c.scale_all.ensures few a.listed.whole) _
    (c.answer_finest.ensures.result_value, c.answer_finest.ensures.by_index) in
    record { result_value = both.0; by_index = both.1 }
