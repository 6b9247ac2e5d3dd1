-- Rows of two records, neighbours along x: where each entry stands, and that all rows of a cell fit the array.
use mathlib.Core.Path.{◌≡◌, refl, sym, ap, ◌∙◌}
use Prim.Native.Nat.{ℕ, ◌+◌, ◌*◌, ◌-◌, ◌/◌, ◌%◌, ◌≤◌, ◌<◌}
use native.Mathlib.Nat.{mul-le-mul}
use native.Mathlib.Decide.{dec_lt}
use native.Mathlib.Omega.{arith}
use mathlib.Core.List.{List, ◌++◌}
use lib.Dec.{ltb}
use lib.IntN.{ℤ, pos}
use lib.ListN.{get_or, length, take, drop, length-append}
use borrow.Rule.Slice.PartMut.{put_mid}
use Rattle.std.proofs.lemmas.List.{get_or_append_left, get_or-append_right, get_or-take, get_or-drop, length-take-le, length-drop}
use borrow.Author.Tests.{lt-ltb, le-ltb}
use Rattle.arith.specs.Choice.{pick}
use Rattle.arith.proofs.Choices.{pick_true, pick-false}
use Rattle.lattice.specs.Buffer.{at}
use Rattle.lattice.proofs.DigitsLaws.{high_digit, low_digit}
use Rattle.cell.specs.declared.Layout.{Layout}
use Rattle.cell.specs.Cell.{start_of}
use Rattle.cell.proofs.LayoutLaws.{neighbour}
use Rattle.ramp.specs.Parts.{corner_entry_at, Copied}

-- the rows fit
pub rows_fit : (e r : ℕ) → e ≤ 27 → r + 1 ≤ 4 → 2 * e * r + 2 * e ≤ 216
rows_fit e r h k = let p : e * r ≤ 27 * 3 = mul-le-mul {m₂ = 3} h (omega arith) in omega arith

module _ (l : Layout) (e r d : ℕ) (some : 1 ≤ e) (next : get_or l.strides 0 0 ≡ e) (inside : d < 2 * e) where
  -- entry d of row r
  pub row-entry : start_of l ((2 * e * r + d) / e) + (2 * e * r + d) % e ≡ start_of l (2 * r) + d
  row-entry = go (dec_lt d e)
    where
      low : 2 * e * r + d ≡ e * (2 * r) + d
      low = omega arith

      high : e ≤ d → 2 * e * r + d ≡ e * (2 * r + 1) + (d - e)
      high h = omega arith

      go : Dec (d < e) → start_of l ((2 * e * r + d) / e) + (2 * e * r + d) % e ≡ start_of l (2 * r) + d
      go (yes h) = rw (low, high_digit e (2 * r) d h, low_digit e (2 * r) d h) refl
      go (no n) =
          let h : e ≤ d = omega (arith, n) in
          let k : d - e < e = omega arith in
          rw (high h, high_digit e (2 * r + 1) (d - e) k, low_digit e (2 * r + 1) (d - e) k)
          (ap (λ (i : ℕ). i + (d - e)) (neighbour l r) ∙ last (start_of l (2 * r)) (get_or l.strides 0 0) next h)
        where
          last : (b x : ℕ) → x ≡ e → e ≤ d → b + x + (d - e) ≡ b + d
          last b x eq h = omega arith

-- what stands in front, and behind it a part of the records
unfoldable pub joined : ℕ → List ℤ → List ℤ → ℕ → ℕ → ℤ
joined first old rs start k = pick (ltb k first) (at old k) (at rs (start + (k - first)))

module _ (first : ℕ) (old rs : List ℤ) (start k : ℕ) where
  pub joined-front : k < first → joined first old rs start k ≡ at old k
  unfolding joined
  joined-front h = pick_true (ltb k first) (at old k) (at rs (start + (k - first))) (lt-ltb k first h)

  pub joined-behind : first ≤ k → joined first old rs start k ≡ at rs (start + (k - first))
  unfolding joined
  joined-behind h = pick-false (ltb k first) (at old k) (at rs (start + (k - first))) (le-ltb k first h)

-- one row more of the corner records
pub row_more : (l : Layout) (rs old : List ℤ) (e r : ℕ) → 1 ≤ e → get_or l.strides 0 0 ≡ e
    → ((i : ℕ) → i < 2 * e * r → at old i ≡ corner_entry_at l rs e i)
    → (i : ℕ) → i < 2 * e * (r + 1) → joined (2 * e * r) old rs (start_of l (2 * r)) i ≡ corner_entry_at l rs e i
row_more l rs old e r some next front i h = go (dec_lt i (2 * e * r))
  where
    go : Dec (i < 2 * e * r) → joined (2 * e * r) old rs (start_of l (2 * r)) i ≡ corner_entry_at l rs e i
    go (yes k) = joined-front (2 * e * r) old rs (start_of l (2 * r)) i k ∙ front i k
    go (no n) =
        let k : 2 * e * r ≤ i = omega (arith, n) in
        let d : i - 2 * e * r < 2 * e = omega arith in
        let same : 2 * e * r + (i - 2 * e * r) ≡ i = omega arith in
        joined-behind (2 * e * r) old rs (start_of l (2 * r)) i k
        ∙ ap (at rs) (sym (row-entry l e r (i - 2 * e * r) some next d)
        ∙ ap (λ (j : ℕ). start_of l (j / e) + j % e) same)

-- ---- a part of an array that is written

module _ (a k : ℕ) (xs ys : List ℤ) (room : a + k ≤ length xs) (long : length ys ≡ k) where
  front-long : length (take a xs) ≡ a
  front-long = length-take-le a xs (omega arith)

  pub put-front : (i : ℕ) → i < a → at (put_mid a k xs ys) i ≡ at xs i
  put-front i l =
      get_or_append_left (take a xs) _ (pos 0) i (let e = front-long in omega arith) ∙ get_or-take a xs i (pos 0) l

  pub put-behind : (i : ℕ) → a ≤ i → i < a + k → at (put_mid a k xs ys) i ≡ at ys (i - a)
  put-behind i l h =
      get_or-append_right (take a xs) _ a i (pos 0) front-long l ∙ get_or_append_left ys _ (pos 0) (i - a) (omega arith)

  pub put-long : length (put_mid a k xs ys) ≡ length xs
  put-long =
      let e = length-append (take a xs) (ys ++ drop k (drop a xs)) in
      let f = length-append ys (drop k (drop a xs)) in
      let g = length-drop k (drop a xs) in
      let h = length-drop a xs in
      let i = front-long in
      omega arith

-- row r is written behind the rows before
pub row-copied : (layout : Layout) (rs old row : List ℤ) (e r start : ℕ) → 1 ≤ e → e ≤ 27 → r + 1 ≤ 4 → get_or layout.strides 0 0 ≡ e
    → start ≡ start_of layout (2 * r) → start + 2 * e ≤ length rs → row ≡ take (start + 2 * e - start) (drop start rs)
    → Copied layout rs e (2 * e * r) old → Copied layout rs e (2 * e * (r + 1))
    (put_mid (2 * e * r) (2 * e * r + 2 * e - 2 * e * r) old row)
row-copied layout rs old row e r start some low few next start-is inside row-is before = record {
  long = put-long first long old row room row-long ∙ before.long;
  is = λ i h. stands i h (dec_lt i first) ∙ row_more layout rs old e r some next before.is i h;
}
  where
    first : ℕ
    first = 2 * e * r

    long : ℕ
    long = 2 * e * r + 2 * e - 2 * e * r

    long-is : long ≡ 2 * e
    long-is = omega arith

    room : first + long ≤ length old
    room = let h = rows_fit e r low few in let k = before.long in omega arith

    row-long : length row ≡ long
    row-long =
        let f = ap length row-is ∙ length-take-le (start + 2 * e - start) (drop start rs) (let g = length-drop start rs in omega arith) in
        omega arith

    stands : (i : ℕ) → i < 2 * e * (r + 1) → Dec (i < first) → at (put_mid first long old row) i
        ≡ joined first old rs (start_of layout (2 * r)) i
    stands i h (yes k) = put-front first long old row room row-long i k ∙ sym (joined-front first old rs (start_of layout (2 * r)) i k)
    stands i h (no n) =
        let l : first ≤ i = omega (arith, n) in
        put-behind first long old row room row-long i l (omega arith)
        ∙ ap (λ (ys : List ℤ). at ys (i - first)) row-is
        ∙ get_or-take (start + 2 * e - start) (drop start rs) (i - first) (pos 0) (omega arith) ∙ get_or-drop start rs (i - first) (pos 0)
        ∙ ap (λ (k : ℕ). at rs (k + (i - first))) start-is
        ∙ sym (joined-behind first old rs (start_of layout (2 * r)) i l)
