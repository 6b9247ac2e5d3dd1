-- `row_yz` meets its contract: a pass along y over three rows, which stand in the ring.
use mathlib.Core.Bool.{Bool}
use mathlib.Core.List.{List}
use mathlib.Core.Path.{◌≡◌, refl, sym, ap, ◌∙◌}
use Prim.Native.Nat.{ℕ, ◌+◌, ◌-◌, ◌*◌, ◌%◌}
use native.Mathlib.Omega.{arith}
use lib.IntN.{ℤ}
use lib.ListN.{length, take, drop}
use borrow.Rule.Slice.PartMut.{mid_of, put_mid}
use Rattle.estimate.specs.declared.Grid.{Grid}
use Rattle.estimate.specs.Passes.{placed, since, pass_of, row_z, Samples}
use Rattle.estimate.proofs.PlacedLaws.{placed-part, placed-length, part-length}
use Rattle.estimate.proofs.PassesLaws.{Part, part-of, parts-lines, parts-pass}
use Rattle.estimate.proofs.RingLaws.{slot-in, reads, made, ring-three, ring-next}
use Rattle.estimate.proofs.row_yz.Goals as goal

-- the numbers of a row
abbrev w : Grid → ℕ
w g = g.z.orders * g.x.count

-- where row v stands
abbrev slot : Grid → ℕ → ℕ
slot g v = w g * (v % 3)

-- the ring, with row v
module _ {g : Grid} {xs : List ℤ} (ok : Samples g xs) (v z : ℕ) (old new : List ℤ) (whole : length old ≡ 576)
    (e : new ≡ placed 0 (w g) (row_z g xs v z) (mid_of (slot g v) (slot g v + w g - slot g v) old)) where
  abbrev ring : List ℤ
  ring = put_mid (slot g v) (slot g v + w g - slot g v) old new

  added : ring ≡ placed (slot g v) (w g) (row_z g xs v z) old
  added = placed-part (slot g v) (slot g v + w g) (w g) (row_z g xs v z) old new refl (omega (arith, slot-in ok v)) e

  long : length ring ≡ 576
  long = ap length added ∙ placed-length (slot g v) (w g) (row_z g xs v z) old ∙ whole

  -- row u of it
  part : (u : ℕ) → Part ring (slot g u) (w g) (take (slot g u + w g - slot g u) (drop (slot g u) ring))
  part u = part-of ring (slot g u) (w g) (slot g u + w g - slot g u) (omega (arith, slot-in ok u, long)) (omega arith) refl

pub row_z-requires : goal.row_z-requires
row_z-requires c =
    let s = c.requires in
    record {
      samples = s.samples.0;
      y_lt_cy = (
        c.node_behind-above.ensures.1,
        s.samples.2,
        sym (
            let p = slot c.args.g c.node_behind-above.result in
            let k : p + w c.args.g - p ≡ w c.args.g = omega arith in
            rw k (part-length p (w c.args.g) c.args.ring.now (omega (
              arith,
              slot-in s.samples.0 c.node_behind-above.result,
              s.ring_len.0,
            )))),
      );
    }

pub pass-requires : goal.pass-requires
pass-requires c =
    let s = c.requires in
    let ok = s.samples.0 in
    let v = c.node_behind-above.result in
    let u = c.node_before.result in
    let y = c.args.y in
    let ring_part = part ok v c.args.z c.args.ring.now c.row_z.new.out s.ring_len.0 c.row_z.ensures in
    record {
      order_count = (ok.grid.my, ap (λ (n : ℕ). c.args.g.y.orders * n) (ring_part y).long ∙ s.ring_len.1);
      read = parts-lines (ring_part u) (ring_part y) (ring_part v)
          (reads ok (ring-three ok u y v c.node_before.ensures.0 c.node_behind-above.ensures.0 s.samples.1 s.ring_len.0 s.ring_len.2
          (added ok v c.args.z c.args.ring.now c.row_z.new.out s.ring_len.0 c.row_z.ensures)));
    }

pub returns : goal.returns
returns c =
    let g = c.args.g in
    let s = c.requires in
    let ok = s.samples.0 in
    let v = c.node_behind-above.result in
    let u = c.node_before.result in
    let y = c.args.y in
    let z = c.args.z in
    let ring_part = part ok v z c.args.ring.now c.row_z.new.out s.ring_len.0 c.row_z.ensures in
    let e = added ok v z c.args.ring.now c.row_z.new.out s.ring_len.0 c.row_z.ensures in
    let b = ring ok v z c.args.ring.now c.row_z.new.out s.ring_len.0 c.row_z.ensures in
    let old = c.args.row.now in
    record {
      ring = (
        long ok v z c.args.ring.now c.row_z.new.out s.ring_len.0 c.row_z.ensures,
        ring-next ok u y v c.node_before.ensures.0 c.node_behind-above.ensures.0 s.samples.1 s.ring_len.0 s.ring_len.2 e,
      );
      by_index = made ok u y v c.node_before.ensures.0 c.node_behind-above.ensures.0
          (ring-three ok u y v c.node_before.ensures.0 c.node_behind-above.ensures.0 s.samples.1 s.ring_len.0 s.ring_len.2 e)
          old (omega (arith, s.ring_len.1))
          (parts-pass (ring_part u) (ring_part y) (ring_part v) c.at_border.result g.y.orders old ok.grid.my.0 c.pass.ensures
          ∙ ap (λ (t : Bool). placed 0 (g.y.orders * w g) (pass_of t g.y.orders (since b (slot g u)) (since b (slot g y)) (since b
          (slot g v))) old)
          c.at_border.ensures);
    }
