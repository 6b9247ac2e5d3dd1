-- `ramp::corner_entries` meets its contract: 2^n records of m^n entries are the table of one cell.
use mathlib.Core.Path.{sym, ap₂, ◌∙◌}
use Prim.Native.Nat.{ℕ, ◌*◌, ◌^◌, ◌≤◌, ◌%◌}
use native.Mathlib.Nat.{mul-le-mul}
use native.Mathlib.Omega.{arith}
use lib.Pow.{pow_mono}
use Rattle.arith.proofs.Machine.{shifted}
use Rattle.lattice.specs.Shape.{entries, orders}
use Rattle.lattice.proofs.ShapeLaws.{entries-high}
use Rattle.cell.proofs.NumberLaws.{count-split}
use Rattle.cell.proofs.OneCell.{one_size}
use Rattle.ramp.proofs.corner_entries.Goals as goal

low : (a b : ℕ) → a ≤ 8 → b ≤ 27 → a * b ≤ 216
low a b h k = mul-le-mul h k

few : (n : ℕ) → n ≤ 3 → 2 ^ n ≤ 8
few n h = pow_mono h

pub overflow_mul-result : goal.overflow_mul-result
overflow_mul-result c =
    let e = shifted c.args.s.axes c.requires.axes-high in
    let f = few c.args.s.axes c.requires.axes-high in
    let g = entries-high c.args.s c.requires in
    let h = c.record_entries.ensures in
    let l = low (1 * 2 ^ c.args.s.axes % 18446744073709551616) c.record_entries.result (rw e f) (rw h g) in
    record { fits = omega arith }

pub returns : goal.returns
unfolding entries
returns c =
    let e = shifted c.args.s.axes c.requires.axes-high in
    let h = c.record_entries.ensures in (
      ap₂ ◌*◌ e h ∙ sym (one_size c.args.s.axes c.args.s.degree c.requires.axes-low c.requires.axes-high
          ∙ count-split (orders c.args.s) c.args.s.axes),
      low _ c.record_entries.result (rw e (few c.args.s.axes c.requires.axes-high)) (rw h (entries-high c.args.s c.requires)),
    )
