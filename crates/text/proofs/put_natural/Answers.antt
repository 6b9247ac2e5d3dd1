-- `put_natural` meets its contract: a word without a sign.
use mathlib.Core.Path.{◌≡◌, ap, ◌∙◌}
use Prim.Native.Nat.{ℕ, ◌<◌, ◌^◌}
use native.Mathlib.Omega.{arith}
use lib.IntN.{ℤ, pos}
use lib.ListN.{length}
use lib.Signed.{mag}
use mir.Syntax.{w64}
use mir.Val.{of_z, to_z}
use Rattle.arith.proofs.Machine.{read}
use Rattle.text.specs.Decimal.{decimal, signed_decimal}
use Rattle.text.specs.Lines.{word}
use Rattle.text.proofs.LineLaws.{put_as}
use Rattle.text.proofs.put_natural.Goals as goal

-- the number as it was lent
same : (n b : ℕ) (y : ℤ) → mag y < 2 ^ 63 → y ≡ pos n → word (signed_decimal (to_z w64 (of_z w64 y))) b ≡ word (decimal n) b
unfolding signed_decimal
same n b y g e = ap (λ (z : ℤ). word (signed_decimal z) b) (read y g ∙ e)

pub returns : goal.returns
returns c = put_as (same c.args.n c.args.after _ c.from.type_inv c.from.ensures) c.put_word.ensures

pub put_word-requires : goal.put_word-requires
put_word-requires c = omega (arith, ap length (same c.args.n c.args.after _ c.from.type_inv c.from.ensures))
