-- `estimate::fill_row` meets its contract: the first node, the nodes between and the last node, one behind the other.
use mathlib.Core.List.{List, [], ◌++◌}
use mathlib.Core.Path.{◌≡◌, refl, sym, ap, ◌∙◌}
use mathlib.Core.Bool.{Bool, true, false}
use Prim.Native.Nat.{ℕ, suc, ◌≤◌, ◌<◌, ◌+◌, ◌-◌, ◌*◌, ◌/◌, ◌%◌}
use native.Mathlib.Nat.{mul-le-mul, mul-le-mul_left, mod-lt, div-add-mod, mul-add-div, mul-add-mod_self_left}
use native.Mathlib.Omega.{arith}
use lib.IntN.{ℤ}
use lib.ListN.{length, take, drop}
use borrow.Rule.Slice.PartMut.{mid_of, put_mid}
use borrow.Author.Tests.{lt-leb, le-leb}
use Rattle.lattice.specs.Buffer.{at}
use Rattle.estimate.specs.Passes.{placed, since, grouped, before, behind, at_border, pass_of, row_of, Read, Line, Lines, Rows}
use Rattle.lattice.proofs.DigitsLaws.{high-below, high_digit, low_digit}
use Rattle.estimate.proofs.PlacedLaws.{placed_same, placed-next, placed-head, placed-part, placed-length, part-length}
use Rattle.estimate.proofs.EstimateLaws.{orders-near}
use Rattle.estimate.proofs.PassesLaws.{Part, part-of, parts-lines, parts-pass, behind-is, behind-none, first-border}
use Rattle.estimate.proofs.fill_row.Goals as goal

module _ {m size count : ℕ} (ok : Rows m size count) where
  -- the numbers of the nodes between the first and the last
  abbrev inner : ℕ
  inner = size * (count - 2)

  ends : (a n c : ℕ) → c ≡ n + 2 → a + a * n + a ≡ a * c
  ends a n c e = rw e (omega arith)

  numbers : size + inner + size ≡ size * count
  numbers = ends size (count - 2) count (omega (arith, ok.count_low))

  entries : m * size + m * inner + m * size ≡ m * size * count
  entries = omega (arith, ends (m * size) (count - 2) count (omega (arith, ok.count_low)))

  record-high : m * size ≤ 27
  record-high = mul-le-mul ok.orders.1 ok.size-high

  row-high : m * size * count ≤ 1728
  row-high = mul-le-mul record-high ok.count-high

  numbers-high : size + inner + size ≤ 576
  numbers-high = rw numbers (mul-le-mul ok.size-high ok.count-high)

  -- the passes read parts of the row
  module _ {row : List ℤ} (r : Line (size * count) row) where
    read : (low n : ℕ) → low + n ≤ size + inner + size → Read row low n
    read low n l =
        let e = numbers in
        record { inside = omega (arith, r.long); small = λ t i. r.small (low + t) (omega arith) }

    part : (low n k : ℕ) {xs : List ℤ} → low + n ≤ size + inner + size → k ≡ n → xs ≡ take k (drop low row) → Part row low n xs
    part low n k l e is = let d = numbers in part-of row low n k (omega (arith, r.long)) e is

  -- n numbers from `mid` on, with those at the nodes before from `low` and those at the nodes behind from `high` on
  abbrev Near : Bool → ℕ → ℕ → ℕ → ℕ → Type 0
  Near border low mid high n = (q : ℕ) → q < n → let v : ℕ = (mid + q) / size in let h : ℕ = (mid + q) % size in
      (at_border count v ≡ border) × (size * before v + h ≡ low + q) × (size * v + h ≡ mid + q) × (size * behind count v + h ≡ high + q)

  -- number h of node v
  at-node : (border : Bool) (low mid high q v h : ℕ) → mid + q ≡ size * v + h → h < size → at_border count v ≡ border
      → size * before v + h ≡ low + q → size * behind count v + h ≡ high + q
      → (at_border count ((mid + q) / size) ≡ border) × (size * before ((mid + q) / size) + (mid + q) % size ≡ low + q)
      × (size * ((mid + q) / size) + (mid + q) % size ≡ mid + q) × (size * behind count ((mid + q) / size) + (mid + q) % size ≡ high + q)
  at-node border low mid high q v h e l b lo hi =
      let node : (mid + q) / size ≡ v = ap (λ (n : ℕ). n / size) e ∙ high_digit size v h l in
      let number : (mid + q) % size ≡ h = ap (λ (n : ℕ). n % size) e ∙ low_digit size v h l in
      rw (node, number) (b, lo, sym e, hi)

  first-near : Near true 0 0 size size
  unfolding before
  first-near q l =
      at-node true 0 0 size q 0 q (omega arith) l (first-border count 0 refl) (omega arith)
      (rw (← behind-is count 0 ok.count_low) (omega arith))

  inner-near : Near false 0 size (2 * size) inner
  unfolding before at_border
  inner-near q l =
      let i : ℕ = q / size in
      let in-i : i < count - 2 = high-below ok.size_low l in
      let e = div-add-mod q size in
      at-node false 0 size (2 * size) q (suc i) (q % size) (omega arith) (mod-lt q ok.size_low)
      (lt-leb count (suc (suc i)) (omega arith)) (omega arith)
      (rw (← behind-is count (suc i) (omega arith)) (omega arith))

  last-near : Near true inner (inner + size) (inner + size) size
  unfolding before at_border
  last-near q l =
      let v : ℕ = suc (count - 2) in
      let e : count ≤ v + 1 = omega arith in
      at-node true inner (inner + size) (inner + size) q v q (omega arith) l (le-leb count (suc v) (omega arith)) (omega arith)
      (rw (← behind-none count v e) (omega arith))

  -- and give the records one behind the other
  module _ (row : List ℤ) where
    abbrev run : Bool → ℕ → ℕ → ℕ → ℕ → ℤ
    run border low mid high = pass_of border m (since row low) (since row mid) (since row high)

    run_is : (border : Bool) (low mid high n : ℕ) → Near border low mid high n → (j : ℕ) → j < m * n
        → run border low mid high j ≡ row_of m size count (at row) (m * mid + j)
    unfolding row_of grouped
    run_is border low mid high n near j l =
        let q : ℕ = j / m in
        let h = near q (high-below ok.orders.0 l) in
        rw (mul-add-div ok.orders.0 mid j, mul-add-mod_self_left m mid j)
        (sym (orders-near count (λ v. at row (size * v + (mid + q) % size)) ((mid + q) / size) (j % m) ok.count_low
        ∙ rw (h.0, h.1, h.2, h.3)))

    module _ (b b₁ b₂ b₃ : List ℤ) (e₁ : b₁ ≡ placed 0 (m * size) (run true 0 0 size) b)
        (e₂ : b₂ ≡ placed (m * size) (m * inner) (run false 0 size (2 * size)) b₁)
        (e₃ : b₃ ≡ placed (m * size + m * inner) (m * size) (run true inner (inner + size) (inner + size)) b₂) where
      abbrev h : ℕ → ℤ
      h = row_of m size count (at row)

      first : b₁ ≡ placed 0 (m * size) h b
      first =
          e₁ ∙ placed_same 0 (m * size) (run true 0 0 size) h b (λ j l. run_is true 0 0 size size first-near j l ∙ ap h (omega arith))

      between : b₂ ≡ placed 0 (m * size + m * inner) h b
      between =
          placed-next 0 (m * size) (m * inner) (m * size) h (run false 0 size (2 * size)) b b₁ b₂ (omega arith) first e₂
          (run_is false 0 size (2 * size) inner inner-near)

      result : b₃ ≡ placed 0 ((m * size * count)) h b
      result =
          placed-next 0 (m * size + m * inner) (m * size) (m * size + m * inner) h
          (run true inner (inner + size) (inner + size)) b b₂ b₃ (omega arith) between e₃
          (λ j l. run_is true inner (inner + size) (inner + size) size last-near j l ∙ ap h (omega arith))
          ∙ ap (λ (j : ℕ). placed 0 j h b) entries

  -- ---- the parts of the row

  module _ {row : List ℤ} (r : Line (size * count) row) where
    first-part : Part row 0 size (take size row)
    first-part = part r 0 size size (omega arith) refl refl

    second-part : Part row size size (take (2 * size - size) (drop size row))
    second-part = part r size size (2 * size - size) (let l = ok.count_low in let e = numbers in omega (arith, two)) (omega arith) refl
      where
        two : size + size ≤ size * count
        two = let h : size * 2 ≤ size * count = mul-le-mul_left size ok.count_low in omega arith

    below-part : Part row 0 inner (take inner row)
    below-part = part r 0 inner inner (omega arith) refl refl

    here-part : Part row size inner (take (inner + size - size) (drop size row))
    here-part = part r size inner (inner + size - size) (omega arith) (omega arith) refl

    above-part : Part row (2 * size) inner (take (length row - 2 * size) (drop (2 * size) row))
    above-part = part r (2 * size) inner (length row - 2 * size) (omega arith) (let e = numbers in omega (arith, r.long)) refl

    low-part : Part row inner size (take (inner + size - inner) (drop inner row))
    low-part = part r inner size (inner + size - inner) (omega arith) (omega arith) refl

    end-part : Part row (inner + size) size (take (length row - (inner + size)) (drop (inner + size) row))
    end-part = part r (inner + size) size (length row - (inner + size)) (omega arith) (let e = numbers in omega (arith, r.long)) refl

    lines-2 : Lines (take inner row) (take (inner + size - size) (drop size row)) (take (length row - 2 * size) (drop (2 * size) row))
    lines-2 =
        parts-lines below-part here-part above-part
        (read r 0 inner (omega arith), read r size inner (omega arith), read r (2 * size) inner (omega arith))

    lines-3 : Lines (take (inner + size - inner) (drop inner row)) (take (length row - (inner + size)) (drop (inner + size) row))
        (take (length row - (inner + size)) (drop (inner + size) row))
    lines-3 =
        parts-lines low-part end-part end-part
        (read r inner size (omega arith), read r (inner + size) size (omega arith), read r (inner + size) size (omega arith))

    -- ---- the parts of the records, one behind the other

    module _ (out y₁ y₂ y₃ : List ℤ) (room : m * size * count ≡ length out) where
      abbrev p : ℕ
      p = m * size

      abbrev q : ℕ
      q = p + m * inner

      abbrev out₁ : List ℤ
      out₁ = y₁ ++ drop p out

      abbrev out₂ : List ℤ
      out₂ = put_mid p (q - p) out₁ y₂

      module _ (e₁ : y₁ ≡ placed 0 (m * length (take size row)) (pass_of true m (at (take size row)) (at (take size row))
          (at (take (2 * size - size) (drop size row)))) (take p out)) where
        out₁-is : out₁ ≡ placed 0 p (run row true 0 0 size) out
        out₁-is =
            placed-head p (run row true 0 0 size) out y₁ (omega (arith, entries))
            (parts-pass first-part first-part second-part true m (take p out) ok.orders.0 e₁)

        long₁ : length out₁ ≡ length out
        long₁ = ap length out₁-is ∙ placed-length 0 p (run row true 0 0 size) out

        module _ (e₂ : y₂ ≡ placed 0 (m * length (take (inner + size - size) (drop size row))) (pass_of false m (at (take inner row))
            (at (take (inner + size - size) (drop size row))) (at (take (length row - 2 * size) (drop (2 * size) row)))) (mid_of p
            (q - p) out₁)) where
          out₂-is : out₂ ≡ placed p (m * inner) (run row false 0 size (2 * size)) out₁
          out₂-is =
              placed-part p q (m * inner) (run row false 0 size (2 * size)) out₁ y₂ refl (omega (arith, entries, long₁))
              (parts-pass below-part here-part above-part false m (mid_of p (q - p) out₁) ok.orders.0 e₂)

          long₂ : length out₂ ≡ q + p
          long₂ = ap length out₂-is ∙ placed-length p (m * inner) (run row false 0 size (2 * size)) out₁ ∙ omega (arith, entries, long₁)

          last-room : m * length (take (length row - (inner + size)) (drop (inner + size) row)) ≡ length (mid_of q (length out₂ - q) out₂)
          last-room =
              let k : length out₂ - q ≡ p = omega (arith, long₂) in
              ap (λ (n : ℕ). m * n) end-part.long ∙ rw k (sym (part-length q p out₂ (omega (arith, long₂))))

          whole : y₃ ≡ placed 0 (m * length (take (length row - (inner + size)) (drop (inner + size) row)))
              (pass_of true m (at (take (inner + size - inner) (drop inner row))) (at (take (length row - (inner + size)) (drop
              (inner + size) row)))
              (at (take (length row - (inner + size)) (drop (inner + size) row)))) (mid_of q (length out₂ - q) out₂)
              → put_mid q (length out₂ - q) out₂ y₃ ≡ placed 0 (m * size * count) (row_of m size count (at row)) out
          whole e₃ =
              result row out out₁ out₂ _ out₁-is out₂-is
              (placed-part q (length out₂) p (run row true inner (inner + size) (inner + size)) out₂ y₃ long₂ (omega arith)
              (parts-pass low-part end-part end-part true m (mid_of q (length out₂ - q) out₂) ok.orders.0 e₃))

pub pass-requires-2-clause-read : goal.pass-requires-2-clause-read
pass-requires-2-clause-read c = lines-2 c.requires.rows.0 c.requires.read

pub pass-requires-3 : goal.pass-requires-3
pass-requires-3 c =
    let ok = c.requires.rows.0 in
    let r = c.requires.read in
    record {
      order_count = (
        ok.orders,
        last-room ok r c.args.out.now c.pass.new.out c.pass-2.new.out [] c.requires.rows.1 c.pass.ensures c.pass-2.ensures,
      );
      read = lines-3 ok r;
    }

pub returns : goal.returns
returns c =
    whole c.requires.rows.0 c.requires.read c.args.out.now c.pass.new.out c.pass-2.new.out c.pass-3.new.out c.requires.rows.1 c.pass.ensures
    c.pass-2.ensures c.pass-3.ensures
