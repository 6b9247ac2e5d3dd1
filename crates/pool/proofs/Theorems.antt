-- What is promised of the pooled samples of a call that is not refused.
use mathlib.Core.Path.{◌≡◌, sym, ap, subst, ◌∙◌}
use mathlib.Core.List.{List}
use Prim.Native.Nat.{ℕ, ◌+◌, ◌≤◌, ◌<◌}
use native.Mathlib.Omega.{arith}
use lib.IntN.{ℤ, pos, nat_abs}
use lib.ListN.{length, get_or-append}
use Rattle.lattice.specs.Outcome.{done}
use Rattle.lattice.specs.Buffer.{at, tabulate, overwrite}
use Rattle.lattice.specs.Records.{sample_limit}
use Rattle.lattice.proofs.OutcomeLaws.{when-done}
use Rattle.lattice.proofs.BufferLaws.{length-tabulate, get_d_tabulate, tabulate-get_or, tabulate-same}
use Rattle.pool.specs.Pool.{pooled, Measurement, nodes_of, pool_outcome, pooled_at, pooled_samples, pool_writes}
use Rattle.pool.specs.Pool.{Mean, Means, WithinLimits, WeightNought, WithItself}
use Rattle.pool.specs.Parts.{Poolable}
use Rattle.pool.proofs.PoolLaws.{pooled-itself, pooled-nought, pooled-turned, mean-near, mean-between, mean-limit}
use Rattle.pool.proofs.GateLaws.{pool-length, poolable}

module _ (a b : Measurement) (old : List ℤ) (h : pool_outcome a b (length old) ≡ done tt) where
  abbrev f : ℕ → ℤ
  f = pooled_at a.samples a.weight b.samples b.weight

  abbrev some : 0 < a.weight + b.weight
  some = (poolable a b (length old) h).weights.some

  written : pool_writes a b old ≡ overwrite (tabulate (nodes_of a) f) old
  unfolding pool_writes pooled_samples
  written = sym (when-done (overwrite (tabulate (nodes_of a) f) old) old h)

  -- sample i
  at-is : (i : ℕ) → i < nodes_of a → at (pool_writes a b old) i ≡ f i
  at-is i l =
      ap (λ xs. at xs i) written
      ∙ get_or-append (tabulate (nodes_of a) f) _ (pos 0) i (rw (length-tabulate (nodes_of a) f) l)
      ∙ get_d_tabulate (nodes_of a) f i (pos 0) l

  -- where every pooled sample is that of a list of as many
  given_back : (xs : List ℤ) → length xs ≡ nodes_of a → ((i : ℕ) → f i ≡ at xs i) → pool_writes a b old ≡ overwrite xs old
  given_back xs n e =
      written
      ∙ ap (λ (ys : List ℤ). overwrite ys old)
      (tabulate-same (nodes_of a) f (at xs) (λ i l. e i) ∙ tabulate-get_or xs (nodes_of a) (pos 0) n)

pub within-limits : WithinLimits
within-limits a b old limit h i l hx hy =
    subst (λ q. nat_abs q ≤ limit) (sym (at-is a b old h i l))
    (mean-limit (at a.samples i) a.weight (at b.samples i) b.weight (some a b old h) limit hx hy)

pub means : Means
means a b old h i l =
    let x = at a.samples i in
    let y = at b.samples i in
    let v = a.weight in
    let w = b.weight in
    let s = some a b old h in
    let p = poolable a b (length old) h in (
      subst (λ q. Mean x v y w q) (sym (at-is a b old h i l)) (record { near = mean-near x v y w s; between = mean-between x v y w s }),
      within-limits a b old sample_limit h i l (p.first i) (p.second i),
    )

pub weight-nought : WeightNought
weight-nought a b old h = (
  λ e. given_back a b old h b.samples (p.same ∙ n)
      (λ i. ap (λ (v : ℕ). pooled (at a.samples i) v (at b.samples i) b.weight) e
      ∙ pooled-nought (at a.samples i) (at b.samples i) b.weight (left a.weight b.weight p.weights.some e)),
  λ e. given_back a b old h a.samples n
      (λ i. ap (λ (w : ℕ). pooled (at a.samples i) a.weight (at b.samples i) w) e
      ∙ pooled-turned (at a.samples i) a.weight (at b.samples i) 0
      ∙ pooled-nought (at b.samples i) (at a.samples i) a.weight (right a.weight b.weight p.weights.some e)),
)
  where
    p : Poolable a.samples a.weight b.samples b.weight (length old)
    p = poolable a b (length old) h

    n : length a.samples ≡ nodes_of a
    n = pool-length a b (length old) h

    left : (v w : ℕ) → 0 < v + w → v ≡ 0 → 0 < w
    left v w l e = omega arith

    right : (v w : ℕ) → 0 < v + w → w ≡ 0 → 0 < v
    right v w l e = omega arith

pub with_itself : WithItself
with_itself a b old h e =
    given_back a b old h a.samples (pool-length a b (length old) h)
    (λ i. ap (λ (ys : List ℤ). pooled (at a.samples i) a.weight (at ys i) b.weight) (sym e)
    ∙ pooled-itself (at a.samples i) a.weight b.weight (some a b old h))
