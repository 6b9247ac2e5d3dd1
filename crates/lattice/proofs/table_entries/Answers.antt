-- `lattice::table_entries` meets its contract: nodes times the entries of a record, which fit.
use Rattle.lattice.specs.Shape.{size}
use Rattle.lattice.proofs.ShapeLaws.{size-high}
use native.Mathlib.Omega.{arith}
use Rattle.lattice.proofs.table_entries.Goals as goal

pub overflow_mul-result : goal.overflow_mul-result
unfolding size
overflow_mul-result c = rw (c.node_count.ensures, c.record_entries.ensures)
    (omega (arith, size-high c.args.s c.requires))

pub returns : goal.returns
unfolding size
returns c = cc
