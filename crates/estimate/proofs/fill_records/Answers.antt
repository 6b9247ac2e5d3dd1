-- `fill_records` meets its contract: row after row, the records are those of the definition.
use mathlib.Core.List.{List, ◌++◌}
use mathlib.Core.Path.{◌≡◌, refl, sym, ap, subst, ◌∙◌}
use Prim.Native.Nat.{ℕ, ◌*◌, ◌≤◌}
use native.Mathlib.Nat.{le_trans}
use native.Mathlib.Omega.{arith}
use lib.Dec.{lit<, lit≤}
use lib.IntN.{ℤ}
use lib.ListN.{length, take, drop}
use lib.Seq.{length-take-le}
use Rattle.lattice.specs.declared.Shape.{Shape}
use Rattle.lattice.specs.Buffer.{at, overwrite}
use Rattle.lattice.specs.Shape.{size}
use Rattle.lattice.specs.Records.{entry_place}
use Rattle.lattice.proofs.BufferLaws.{filled-all}
use Rattle.estimate.specs.declared.Grid.{Grid}
use Rattle.estimate.specs.Estimate.{table_records, records_of, Estimable}
use Rattle.estimate.specs.Passes.{placed, grid_of, node_size, row_size, row_of, row_on, plane_size, plane_of, planes_of, Rows, Line, Samples}
use Rattle.estimate.proofs.PlacedLaws.{placed_same, placed-filled, placed-head}
use Rattle.estimate.proofs.RowsLaws.{planes-size, planes-are, rows_in, line-rows, sheet-planes}
use Rattle.estimate.proofs.EntryLaws.{orders-unused}
use Rattle.estimate.proofs.CallLaws.{grid-samples}
use Rattle.estimate.proofs.fill_records.Goals as goal

module _ {s : Shape} {xs : List ℤ} (b : List ℤ) (ok : Estimable s xs (length b)) {g : Grid} (is : g ≡ grid_of s) {n : ℕ} (n-is : n
    ≡ size s) where
  samples : Samples g xs
  samples = rw is (grid-samples s xs (length b) ok)

  room : n ≤ length b
  room = omega (arith, ok.fits)

  -- the part of the slice that is written
  part-long : length (take n b) ≡ n
  part-long = length-take-le n b room

  all-size : plane_size g * g.z.count ≡ n
  all-size = rw is (planes-size s ok.shape xs) ∙ sym n-is

  result : {ys : List ℤ} → ys ≡ placed 0 (plane_size g * g.z.count) (planes_of g xs) (take n b)
      → ys ++ drop n b ≡ overwrite (records_of s xs) b
  unfolding records_of
  result {ys} e =
      let h : ℕ → ℤ = λ i. table_records s xs (entry_place s i) in
      let front : ys ++ drop n b ≡ placed 0 n (planes_of g xs) b = placed-head n (planes_of g xs) b ys room (rw all-size at e) in
      front ∙ rw (n-is, is) refl ∙ placed_same 0 (size s) (planes_of (grid_of s) xs) h b (planes-are s ok.shape xs)
      ∙ filled-all h b (size s) (placed 0 (size s) h b) (placed-filled (size s) h b ok.fits)

  -- two axes: the only plane
  module _ (two : s.axes ≡ 2) where
    no-z : (g.z.orders ≡ 1) × (g.z.count ≡ 1)
    unfolding grid_of
    no-z = rw is (orders-unused s 2 (omega arith), ok.shape.unused 2 (lit< tt) (omega arith))

    one-plane : plane_size g * g.z.count ≡ plane_size g
    one-plane = rw no-z.1 (omega arith)

    sheet-ready : Samples g xs × (g.z.orders ≡ 1) × (g.z.count ≡ 1) × (plane_size g ≡ length (take n b))
    sheet-ready = (samples, no-z.0, no-z.1, omega (arith, one-plane, all-size, part-long))

    sheet-result : {ys : List ℤ} → ys ≡ placed 0 (plane_size g) (plane_of g xs 0) (take n b)
        → ys ++ drop n b ≡ overwrite (records_of s xs) b
    sheet-result e =
        result (e ∙ placed_same 0 (plane_size g) (plane_of g xs 0) (planes_of g xs) (take n b) (sheet-planes g xs)
        ∙ ap (λ (k : ℕ). placed 0 k (planes_of g xs) (take n b)) (sym one-plane))

  -- one axis: the samples are the only row
  module _ (one : s.axes ≡ 1) where
    flat : (g.y.orders ≡ 1) × (g.z.orders ≡ 1) × (g.y.count ≡ 1) × (g.z.count ≡ 1)
    unfolding grid_of
    flat = rw is (
      orders-unused s 1 (omega arith),
      orders-unused s 2 (omega arith),
      ok.shape.unused 1 (lit< tt) (omega arith),
      ok.shape.unused 2 (lit< tt) (omega arith),
    )

    numbers : node_size g ≡ 1
    numbers = rw (flat.0, flat.1) refl

    all : plane_size g * g.z.count ≡ row_size g
    all = rw (flat.2, flat.3) (omega arith)

    line-rows-in : Rows g.x.orders 1 g.x.count × (g.x.orders * 1 * g.x.count ≡ length (take n b))
    line-rows-in = (
      subst (λ (k : ℕ). Rows g.x.orders k g.x.count) numbers (rows_in g samples.grid),
      subst (λ (k : ℕ). g.x.orders * k * g.x.count ≡ length (take n b)) numbers (omega (arith, all, all-size, part-long)),
    )

    line-read : Line (1 * g.x.count) xs
    line-read = record {
      long = samples.whole ∙ rw (flat.2, flat.3) (omega arith);
      small = λ t h. le_trans (samples.small t) (lit≤ tt);
    }

    line-result : {ys : List ℤ} → ys ≡ placed 0 (g.x.orders * 1 * g.x.count) (row_of g.x.orders 1 g.x.count (at xs)) (take n b)
        → ys ++ drop n b ≡ overwrite (records_of s xs) b
    line-result {ys} e =
        let run : ys ≡ placed 0 (row_size g) (row_on g (at xs)) (take n b) =
        subst (λ (k : ℕ). ys ≡ placed 0 (g.x.orders * k * g.x.count) (row_of g.x.orders k g.x.count (at xs)) (take n b)) (sym numbers) e in
        result (run ∙ placed_same 0 (row_size g) (row_on g (at xs)) (planes_of g xs) (take n b) (line-rows g xs flat.0 flat.1 samples.grid)
        ∙ ap (λ (k : ℕ). placed 0 k (planes_of g xs) (take n b)) (sym all))

pub fill_row-requires : goal.fill_row-requires
fill_row-requires c =
    let b = c.args.records.now in
    record {
      rows = line-rows-in b c.requires c.grid_of-g.ensures c.table_entries.ensures c.in-1.is;
      read = line-read b c.requires c.grid_of-g.ensures c.table_entries.ensures c.in-1.is;
    }

pub fill_sheet-requires : goal.fill_sheet-requires
fill_sheet-requires c = sheet-ready c.args.records.now c.requires c.grid_of-g.ensures c.table_entries.ensures c.in-2.is

pub fill_planes-requires : goal.fill_planes-requires
fill_planes-requires c =
    let b = c.args.records.now in
    let e = c.grid_of-g.ensures in
    let n = c.table_entries.ensures in
    (samples b c.requires e n, all-size b c.requires e n ∙ sym (part-long b c.requires e n))

pub returns-in-1 : goal.returns-in-1
returns-in-1 c = line-result c.args.records.now c.requires c.grid_of-g.ensures c.table_entries.ensures c.in-1.is c.fill_row.ensures

pub returns-in-2 : goal.returns-in-2
returns-in-2 c = sheet-result c.args.records.now c.requires c.grid_of-g.ensures c.table_entries.ensures c.in-2.is c.fill_sheet.ensures

pub returns-in_default : goal.returns-in_default
returns-in_default c = result c.args.records.now c.requires c.grid_of-g.ensures c.table_entries.ensures c.fill_planes.ensures
