-- `hermite::end_coefficients` meets its contract: rows of the table on the numbers, of which a cubic has two.
use mathlib.Core.Path.{refl, ap, ◌∙◌}
use lib.Dec.{lit<}
use lib.IntN.{◌*ℤ◌, zero-*ℤ}
use Rattle.arith.proofs.Sums.{sum-three}
use Rattle.lattice.specs.Buffer.{at}
use Rattle.hermite.specs.Hermite.{multiplier}
use Rattle.hermite.proofs.BasisLaws.{multiplier-small, rows_on, no-order}
use Rattle.hermite.proofs.end_coefficients.Goals as goal

pub by_rows-requires : goal.by_rows-requires
by_rows-requires c =
    let s = c.before.before.before in record {
      by_index = (λ o l. (
        multiplier-small s.args.m.count s.args.m.bounds.0 s.args.m.bounds.1 0 (lit< tt) o l _ (c.row.ensures o),
        multiplier-small s.args.m.count s.args.m.bounds.0 s.args.m.bounds.1 1 (lit< tt) o l _ (c.row-2.ensures o),
        multiplier-small s.args.m.count s.args.m.bounds.0 s.args.m.bounds.1 2 (lit< tt) o l _ (c.row-3.ensures o),
      ));
      by_index_2 = s.requires;
    }

pub returns : goal.returns
returns c k l =
    let s = c.before.before.before.before in
    let m = s.args.m.count in
    let x = at s.args.x in
    rows_on (at c.row.result) (at c.row-2.result) (at c.row-3.result) x
    (at c.by_rows.result) c.by_rows.ensures
    (multiplier m) x (λ i p. c.row.ensures i) (λ i p. c.row-2.ensures i)
    (λ i p. c.row-3.ensures i) (λ i p. refl) k l
    ∙ sum-three m s.args.m.bounds.0 s.args.m.bounds.1 (λ o. multiplier m k o *ℤ x o)
    (λ o g p. ap (λ z. z *ℤ x o) (no-order m s.args.m.bounds.0 s.args.m.bounds.1 o g p k l) ∙ zero-*ℤ (x o))
