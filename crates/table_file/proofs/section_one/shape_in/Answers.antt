-- `shape_in` meets its contract: n and the three node counts.
use mathlib.Core.Path.{refl, ◌∙◌}
use native.Mathlib.Omega.{arith}
use Rattle.table_file.proofs.ReadLaws.{one-sizes, shape_is}
use Rattle.table_file.proofs.section_one.shape_in.Goals as goal

pub returns : goal.returns
returns c =
    let d = c.before in
    c.shape_of.ensures
    ∙ shape_is _ d.number_at-axes.ensures d.count_in-x.ensures d.count_in-y.ensures
    d.count_in-z.ensures

pub number_at-axes-requires : goal.number_at-axes-requires
number_at-axes-requires c = omega (arith, (one-sizes _ c.requires _ refl).2)

pub count_in-x-requires : goal.count_in-x-requires
count_in-x-requires c = (one-sizes _ c.requires _ c.number_at-axes.ensures).2

pub count_in-y-requires : goal.count_in-y-requires
count_in-y-requires c = (one-sizes _ c.requires _ c.number_at-axes.ensures).2

pub count_in-z-requires : goal.count_in-z-requires
count_in-z-requires c = (one-sizes _ c.requires _ c.number_at-axes.ensures).2

pub invariant_of-one : goal.invariant_of-one
invariant_of-one c = let h = one-sizes _ c.requires _ c.number_at-axes.ensures in record { known = (h.0, h.1) }
