-- `put_cell_line` meets its contract: the indices and two words.
use mathlib.Core.Path.{◌≡◌, ap, ◌∙◌}
use native.Mathlib.Omega.{arith}
use lib.IntN.{ℤ}
use lib.ListN.{length}
use lib.Signed.{mag}
use Prim.Native.Nat.{◌<◌, ◌^◌, ℕ}
use mir.Syntax.{w32, w64}
use mir.Val.{SFits, to_z, of_z}
use Rattle.arith.proofs.Machine.{element, read}
use Rattle.text.specs.Decimal.{signed_decimal}
use Rattle.text.specs.Lines.{word}
use Rattle.text.proofs.LineLaws.{put_as, put_then, cell-is, cell-length}
use Rattle.text.proofs.put_cell_line.Goals as goal

-- the word of a dose as it was lent
same : (x y : ℤ) (b : ℕ) → SFits w32 x → mag y < 2 ^ 63 → y ≡ to_z w32 (of_z w32 x)
    → word (signed_decimal (to_z w64 (of_z w64 y))) b ≡ word (signed_decimal x) b
same x y b f g e = ap (λ (z : ℤ). word (signed_decimal z) b) (read y g ∙ e ∙ element x f.sfits)

pub returns : goal.returns
returns c =
    let a = c.args in
    let l = put_as (cell-is a.cell a.cubic a.quintic)
    (put_then c.put_indices-first.ensures
    (put_then (put_as (same a.cubic _ 32 c.ranges.cubic c.from.type_inv c.from.ensures) c.put_word-second.ensures)
    (put_as (same a.quintic _ 10 c.ranges.quintic c.from-2.type_inv c.from-2.ensures) c.put_word.ensures))) in
    record { value = l.ended; out_after = l.written }

pub put_word-requires : goal.put_word-requires
put_word-requires c =
    let a = c.args in
    omega (
      arith,
      cell-length a.cell a.cubic a.quintic,
      ap length (same a.cubic _ 32 c.ranges.cubic c.from.type_inv c.from.ensures),
      ap length (same a.quintic _ 10 c.ranges.quintic c.from-2.type_inv c.from-2.ensures),
    )

pub put_word-second-requires : goal.put_word-second-requires
put_word-second-requires c =
    let a = c.args in
    omega (
      arith,
      cell-length a.cell a.cubic a.quintic,
      ap length (same a.cubic _ 32 c.ranges.cubic c.from.type_inv c.from.ensures),
    )

pub put_indices-first-requires : goal.put_indices-first-requires
put_indices-first-requires c = omega (arith, cell-length c.args.cell c.args.cubic c.args.quintic)
