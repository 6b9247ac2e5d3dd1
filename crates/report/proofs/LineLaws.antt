-- How long a line is, and the lines of all cells one after the other.
use mathlib.Core.Path.{◌≡◌, refl, sym, ap, ◌∙◌}
use mathlib.Core.List.{List, ◌++◌}
use Prim.Native.Nat.{ℕ, zero, suc, ◌+◌, ◌^◌, ◌≤◌, ◌<◌}
use native.Mathlib.Numerals.{add-one}
use native.Mathlib.Omega.{arith}
use lib.Dec.{lit<}
use lib.IntN.{ℤ, nat_abs}
use lib.ListN.{length, get_or}
use Rattle.text.specs.Decimal.{decimal, signed_decimal}
use Rattle.text.specs.Lines.{Put, cell_line, refused_line}
use Rattle.text.proofs.DecimalLaws.{decimal-short, signed-short}
use Rattle.text.proofs.LineLaws.{put_as, put_then, indices-length, cell-length, length-word, refused-length}
use Rattle.report.specs.Report.{joined}
use Rattle.cell.specs.Cells.{Between}
use Rattle.report.specs.Parts.{line_limit}

pub line-short : (cell : List ℕ) (a b : ℤ) → Between 0 99 cell → nat_abs a ≤ 2 ^ 31 → nat_abs b ≤ 2 ^ 31
    → length (cell_line cell a b) ≤ line_limit
line-short cell a b k h g =
    let x = k.most 0 (lit< tt) in
    let y = k.most 1 (lit< tt) in
    let z = k.most 2 (lit< tt) in
    omega (
      arith,
      cell-length cell a b,
      indices-length cell,
      length-word (decimal (get_or cell 0 0)) 32,
      length-word (decimal (get_or cell 1 0)) 32,
      length-word (decimal (get_or cell 2 0)) 32,
      length-word (signed_decimal a) 32,
      length-word (signed_decimal b) 10,
      decimal-short 1 (get_or cell 0 0) (omega arith),
      decimal-short 1 (get_or cell 1 0) (omega arith),
      decimal-short 1 (get_or cell 2 0) (omega arith),
      signed-short 9 a (omega arith),
      signed-short 9 b (omega arith),
    )

-- the line of a refusal whose number has 32 bits
pub refused-low : (number : ℕ) → number < 2 ^ 32 → length (refused_line number) ≤ 19
refused-low number h = omega (arith, refused-length number, length-word (decimal number) 10, decimal-short 9 number (omega arith))

-- ---- one line more

module _ (f : ℕ → List ℕ) where
  joined-more : (i : ℕ) → joined (i + 1) f ≡ joined i f ++ f i
  unfolding joined
  joined-more i = ap (λ (k : ℕ). joined k f) (add-one i)

  pub lines_none : (old : List ℕ) → Put old 0 (joined 0 f) old 0
  unfolding joined
  lines_none old = record { ended = refl; written = refl }

  pub lines_more : (i : ℕ) {at end : ℕ} {old now next : List ℕ} → Put old 0 (joined i f) now at → Put now at (f i) next end
      → Put old 0 (joined (i + 1) f) next end
  lines_more i p q = put_as (sym (joined-more i)) (put_then p q)

pub joined_same : (n : ℕ) (f g : ℕ → List ℕ) → ((i : ℕ) → f i ≡ g i) → joined n f ≡ joined n g
unfolding joined
joined_same zero f g h = refl
joined_same (suc n) f g h = ap (λ (l : List ℕ). l ++ f n) (joined_same n f g h) ∙ ap (λ (l : List ℕ). joined n g ++ l) (h n)
