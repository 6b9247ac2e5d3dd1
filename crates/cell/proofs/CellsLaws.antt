-- The cells of a table whose shape is not refused: how many, and every cell in its turn is an accepted one.
use mathlib.Core.Path.{◌≡◌, sym, ap, ◌∙◌, fun_ext}
use mathlib.Core.List.{List, [], ◌∷◌}
use Prim.Native.Nat.{ℕ, ◌-◌, ◌*◌, ◌≤◌, ◌<◌}
use native.Mathlib.Nat.{mul-one, mul-le-mul}
use native.Mathlib.Decide.{dec_lt}
use native.Mathlib.Omega.{arith}
use borrow.Author.Tests.{ltb-true, lt-ltb, le-ltb}
use lib.Dec.{ltb, lit<}
use lib.ListN.{get_or}
use Rattle.arith.specs.Choice.{pick}
use Rattle.arith.proofs.Choices.{on-pick, pick_true, pick-false}
use Rattle.lattice.specs.declared.Shape.{Shape}
use Rattle.lattice.specs.Buffer.{tabulate}
use Rattle.lattice.specs.Digits.{number, span, digit}
use Rattle.lattice.specs.Shape.{count, nodes, Shaped}
use Rattle.lattice.proofs.BufferLaws.{get_d_tabulate}
use Rattle.lattice.proofs.DigitsLaws.{digit-below, digit-number, number-below}
use Rattle.cell.specs.Cell.{place_at, Accepted}
use Rattle.cell.specs.Cells.{cells_along, cell_count, cell_at, Between}

pub counts-between : (s : Shape) → Shaped s → Between 1 64 s.counts
unfolding count
counts-between s ok = record { least = ok.low; most = ok.high }

module _ (s : Shape) (ok : Shaped s) where
  -- one along an unused axis, one less than the nodes along a used one
  pub along-range : (a : ℕ) → a < 3 → (1 ≤ cells_along s a) × (cells_along s a ≤ count s a) × (cells_along s a ≤ 64)
  unfolding cells_along count
  along-range a l =
      on-pick (λ n. (1 ≤ n) × (n ≤ count s a) × (n ≤ 64)) (ltb a s.axes) (count s a - 1) 1
      (λ t. let i = ok.used a (ltb-true a s.axes t) in let j = ok.high a l in (omega arith, omega arith, omega arith))
      (λ t. let i = ok.low a l in (omega arith, omega arith, omega arith))

  pub cells-between : Between 1 64 (tabulate 3 (cells_along s))
  cells-between = record {
    least = λ a l. let e = get_d_tabulate 3 (cells_along s) a 0 l in let r = (along-range a l).0 in omega arith;
    most = λ a l. let e = get_d_tabulate 3 (cells_along s) a 0 l in let r = (along-range a l).2 in omega arith;
  }

  -- no more cells than nodes
  pub cells-few : cell_count s ≤ nodes s
  unfolding cell_count span nodes
  cells-few = mul-le-mul (along-range 0 (lit< tt)).1
      (mul-le-mul (along-range 1 (lit< tt)).1 (mul-le-mul (along-range 2 (lit< tt)).1 (omega arith)))

  pub cell-digit : (i a : ℕ) → a < 3 → place_at (cell_at s i) a ≡ digit (cells_along s) i a
  unfolding place_at cell_at
  cell-digit i a l = pick_true (ltb a 3) _ _ (lt-ltb a 3 l) ∙ get_d_tabulate 3 (digit (cells_along s) i) a 0 l

  pub cell_below : (i a : ℕ) → a < 3 → place_at (cell_at s i) a < cells_along s a
  cell_below i a l = let e = cell-digit i a l in let k = digit-below (cells_along s) i a (along-range a l).0 in omega arith

  pub used-along : (a : ℕ) → a < s.axes → cells_along s a ≡ count s a - 1
  unfolding cells_along
  used-along a l = pick_true (ltb a s.axes) _ _ (lt-ltb a s.axes l)

  pub unused-along : (a : ℕ) → s.axes ≤ a → cells_along s a ≡ 1
  unfolding cells_along
  unused-along a l = pick-false (ltb a s.axes) _ _ (le-ltb a s.axes l)

  pub cell-accepted : (i : ℕ) → Accepted s (place_at (cell_at s i))
  unfolding place_at
  cell-accepted i = record {
    used = λ a l.
        let k : a < 3 = within a l in
        let e = used-along a l in
        let b = cell_below i a k in
        let g = ok.used a l in
        omega arith;
    unused = λ a l. go a l (dec_lt a 3);
  }
    where
      within : (a : ℕ) → a < s.axes → a < 3
      within a l = let k = ok.axes-high in omega arith

      go : (a : ℕ) → s.axes ≤ a → Dec (a < 3) → place_at (cell_at s i) a ≡ 0
      go a l (yes k) = let e = unused-along a l in let b = cell_below i a k in omega arith
      go a l (no k) = pick-false (ltb a 3) _ _ (le-ltb a 3 (omega arith))

  -- its indices have at most two digits
  pub cell-between : (i : ℕ) → Between 0 99 (cell_at s i)
  unfolding cell_at
  cell-between i = record {
    least = λ a l. omega arith;
    most = λ a l. let e = get_d_tabulate 3 (digit (cells_along s) i) a 0 l in let k = digit-below (cells_along s) i a (along-range a l).0 in
        let m = (along-range a l).2 in omega arith;
  }

-- ---- three at a time

pub three-same : (x y z : ℕ) (f : ℕ → ℕ) → x ≡ f 0 → y ≡ f 1 → z ≡ f 2 → x ∷ y ∷ z ∷ [] ≡ tabulate 3 f
unfolding tabulate
three-same x y z f i j k = cc

-- the cell by the cells along each axis
pub cell-is : (s : Shape) (cells : List ℕ) (i : ℕ) → cells ≡ tabulate 3 (cells_along s)
    → tabulate 3 (digit (λ a. get_or cells a 0) i) ≡ cell_at s i
unfolding cell_at digit tabulate
cell-is s cells i e = ap (λ (cs : List ℕ). tabulate 3 (digit (λ a. get_or cs a 0) i)) e

pub total-is : (s : Shape) (cells : List ℕ) → cells ≡ tabulate 3 (cells_along s)
    → get_or cells 0 0 * (get_or cells 1 0 * get_or cells 2 0) ≡ cell_count s
unfolding cell_count span tabulate
total-is s cells e =
    ap (λ (cs : List ℕ). get_or cs 0 0 * (get_or cs 1 0 * get_or cs 2 0)) e
    ∙ ap (λ (n : ℕ). cells_along s 0 * (cells_along s 1 * n)) (sym (mul-one (cells_along s 2)))

-- every accepted cell has its turn: its number is i + x·(j + y·k), where x, y are the cells along the first two axes
module _ (s : Shape) (ok : Shaped s) (x y z : ℕ) (here : Accepted s (place_at (x ∷ y ∷ z ∷ []))) where
  abbrev place : ℕ → ℕ
  place = place_at (x ∷ y ∷ z ∷ [])

  abbrev turn : ℕ
  turn = number 3 (cells_along s) place

  below : (a : ℕ) → a < 3 → place a < cells_along s a
  below a l = go (dec_lt a s.axes)
    where
      go : Dec (a < s.axes) → place a < cells_along s a
      go (yes k) = let e = used-along s ok a k in let b = here.used a k in omega arith
      go (no k) = let n : s.axes ≤ a = omega arith in let e = unused-along s ok a n in let b = here.unused a n in omega arith

  beyond : (a : ℕ) → 3 ≤ a → place a ≡ 0
  unfolding place_at
  beyond a l = pick-false (ltb a 3) _ _ (le-ltb a 3 l)

  pub turn_below : turn < cell_count s
  unfolding cell_count
  turn_below = number-below 3 (cells_along s) place below

  pub in-its-turn : cell_at s turn ≡ x ∷ y ∷ z ∷ []
  unfolding cell_at place_at tabulate pick
  in-its-turn = ap (λ (f : ℕ → ℕ). tabulate 3 f) (fun_ext (digit-number 3 (cells_along s) place below beyond))
