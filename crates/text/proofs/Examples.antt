-- Lines of document 01, computed: `0 0 0 50 50`, one with negative doses, and a refusal.
use mathlib.Core.Path.{◌≡◌, refl}
use mathlib.Core.List.{[], ◌∷◌}
use lib.IntN.{pos, negsuc}
use Rattle.arith.specs.Choice.{pick}
use Rattle.text.specs.Decimal.{digits, decimal, signed_decimal}
use Rattle.text.specs.Lines.{line, cell_line, refused_line}

pub line-examples
    : (cell_line (0 ∷ 0 ∷ 0 ∷ []) (pos 50) (pos 50) ≡ 48 ∷ 32 ∷ 48 ∷ 32 ∷ 48 ∷ 32 ∷ 53 ∷ 48 ∷ 32 ∷ 53 ∷ 48 ∷ 10 ∷ [])
    × (cell_line (62 ∷ 1 ∷ 0 ∷ []) (negsuc 0) (negsuc 99) ≡ 54 ∷ 50 ∷ 32 ∷ 49 ∷ 32 ∷ 48 ∷ 32 ∷ 45 ∷ 49 ∷ 32 ∷ 45 ∷ 49 ∷ 48 ∷ 48 ∷ 10 ∷ [])
    × (refused_line 14 ≡ 114 ∷ 101 ∷ 102 ∷ 117 ∷ 115 ∷ 101 ∷ 100 ∷ 32 ∷ 49 ∷ 52 ∷ 10 ∷ [])
unfolding pick digits decimal signed_decimal line cell_line refused_line
line-examples = (refl, refl, refl)
