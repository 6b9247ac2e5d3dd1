-- `pool` meets its contract: where the gate passes, its facts are what the body asks for; where it refuses, nothing is written.
use mathlib.Core.Path.{sym, ap, ◌∙◌}
use Prim.Native.Nat.{ℕ}
use lib.ListN.{length}
use Rattle.lattice.specs.Buffer.{tabulate, overwrite}
use Rattle.lattice.proofs.OutcomeLaws.{at_once, when-done, when-refused}
use Rattle.pool.specs.Pool.{measurement_of, pooled_at, pooled_samples, pool_writes}
use Rattle.pool.proofs.GateLaws.{pool-length, poolable}
use Rattle.pool.proofs.pool.Goals as goal

pub returns-in_err-check_pool : goal.returns-in_err-check_pool
unfolding pool_writes
returns-in_err-check_pool c = record {
  answer = at_once _ _ _ c.from_residual.ensures c.in_err-check_pool.ensures;
  written = when-refused _ c.args.out.now (sym c.in_err-check_pool.ensures);
}

pub fill-requires : goal.fill-requires
fill-requires c = poolable (measurement_of c.args.a) (measurement_of c.args.b) (length c.args.out.now) (sym c.in_ok-check_pool.ensures)

pub returns : goal.returns
unfolding pool_writes pooled_samples
returns c =
    let a = measurement_of c.args.a in
    let b = measurement_of c.args.b in
    let old = c.args.out.now in
    let passes = sym c.in_ok-check_pool.ensures in record {
      answer = c.in_ok-check_pool.ensures;
      written = c.fill.ensures
          ∙ ap (λ (k : ℕ). overwrite (tabulate k (pooled_at a.samples a.weight b.samples b.weight)) old) (pool-length a b
          (length old) passes)
          ∙ when-done _ old passes;
    }
