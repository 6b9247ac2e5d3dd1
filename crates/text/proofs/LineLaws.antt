-- Texts put one after the other are one text: words make a line. How long a line is.
use mathlib.Core.Path.{◌≡◌, refl, sym, ap, ◌∙◌}
use mathlib.Core.List.{List, [], ◌∷◌, ◌++◌, append_assoc}
use Prim.Native.Nat.{ℕ, ◌+◌, ◌≤◌}
use native.Mathlib.Omega.{arith}
use lib.IntN.{ℤ}
use lib.ListN.{length, get_or, set, take, drop, length-append}
use lib.Seq.{sets, sets-eq, length-sets}
use borrow.Rule.Slice.PartMut.{put_mid}
use Rattle.std.proofs.lemmas.List.{drop-drop}
use Rattle.text.specs.Decimal.{decimal, signed_decimal}
use Rattle.text.specs.Lines.{Put, word, line, indices, cell_line, refused_word, refused_line}
use Rattle.lattice.proofs.BufferLaws.{sets-append}

-- a text written otherwise
pub put_as : {old t u now : List ℕ} {at end : ℕ} → t ≡ u → Put old at t now end → Put old at u now end
put_as {old} {t} {u} {now} {at} {end} e p =
    record { ended = p.ended ∙ ap (λ (w : List ℕ). at + length w) e; written = p.written ∙ ap (λ (w : List ℕ). sets old at w) e }

pub put_then : {old mid now t u : List ℕ} {at m end : ℕ} → Put old at t mid m → Put mid m u now end → Put old at (t ++ u) now end
put_then {old} {mid} {now} {t} {u} {at} {m} {end} p q = record {
  ended = omega (arith, p.ended, q.ended, length-append t u);
  written = q.written ∙ ap (λ (l : List ℕ). sets l m u) p.written ∙ ap (λ (k : ℕ). sets (sets old at t) k u) p.ended
      ∙ sym (sets-append t u old at);
}

pub put-length : {old text now : List ℕ} {at end : ℕ} → Put old at text now end → length now ≡ length old
put-length {old} {text} {now} {at} p = ap length p.written ∙ length-sets old at text

pub put_byte : (old : List ℕ) (at b : ℕ) → Put old at (b ∷ []) (set old at b) (at + 1)
put_byte old at b = record { ended = refl; written = refl }

-- a text copied over a part of a slice
pub part-put : (l new text : List ℕ) (at k : ℕ) → at + length text ≤ length l → k ≡ length text → new ≡ text
    → put_mid at k l new ≡ sets l at text
part-put l new text at k room e f =
    rw (f, e) (ap (λ (m : List ℕ). take at l ++ (text ++ m)) (drop-drop (length text) at l)
    ∙ sym (append_assoc (take at l) text (drop (at + length text) l)) ∙ sym (sets-eq text l at room))

pub length-word : (w : List ℕ) (b : ℕ) → length (word w b) ≡ length w + 1
length-word w b = length-append w (b ∷ [])

-- ---- a cell's line

module _ (cell : List ℕ) where
  abbrev x : List ℕ
  x = word (decimal (get_or cell 0 0)) 32

  abbrev y : List ℕ
  y = word (decimal (get_or cell 1 0)) 32

  abbrev z : List ℕ
  z = word (decimal (get_or cell 2 0)) 32

  pub indices-length : length (indices cell) ≡ length x + length y + length z
  unfolding indices
  indices-length = omega (arith, length-append x (y ++ z), length-append y z)

  module _ (cubic quintic : ℤ) where
    abbrev c : List ℕ
    c = word (signed_decimal cubic) 32

    abbrev q : List ℕ
    q = word (signed_decimal quintic) 10

    pub cell-is : indices cell ++ (c ++ q) ≡ cell_line cell cubic quintic
    unfolding indices cell_line line
    cell-is = append_assoc x (y ++ z) (c ++ q) ∙ ap (λ (l : List ℕ). x ++ l) (append_assoc y z (c ++ q))

    pub cell-length : length (cell_line cell cubic quintic) ≡ length (indices cell) + length c + length q
    cell-length = ap length (sym cell-is) ∙ omega (arith, length-append (indices cell) (c ++ q), length-append c q)

-- ---- the line of a refusal

pub refused-is : (number : ℕ) → word refused_word 32 ++ word (decimal number) 10 ≡ refused_line number
unfolding refused_line line
refused-is number = refl

pub refused-length : (number : ℕ) → length (refused_line number) ≡ 8 + length (word (decimal number) 10)
refused-length number = ap length (sym (refused-is number)) ∙ length-append (word refused_word 32) (word (decimal number) 10)
