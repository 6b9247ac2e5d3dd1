-- `coefficients::filled` meets its contract: after any number of corners in turn their coefficients stand and all other numbers are 0.
use mathlib.Core.Path.{◌≡◌, refl, sym, ap, subst, ◌∙◌}
use mathlib.Core.Bool.{false}
use mathlib.Core.List.{List}
use Prim.Native.Nat.{ℕ, ◌≤◌, ◌<◌, ◌+◌, ◌-◌, ◌^◌}
use native.Mathlib.Omega.{arith}
use lib.IntN.{ℤ, pos, ◌*ℤ◌, nat_abs}
use lib.ListN.{take, drop}
use Rattle.std.proofs.lemmas.List.{get_or-take, get_or-drop}
use Rattle.lattice.specs.Buffer.{at}
use Rattle.lattice.proofs.BufferLaws.{noughts, noughts-at}
use Rattle.cell.specs.declared.Layout.{Layout}
use Rattle.cell.specs.Cell.{start_of}
use Rattle.coefficients.specs.declared.block.Block.{Block}
use Rattle.coefficients.specs.Blocks.{block_sign, coefficient_index, cell_coefficient, solved_block, StartsWith, scatter, corner_at, Filled, Gathered}
use Rattle.coefficients.proofs.BlockLaws.{orders-some, corner-low, count_low}
use Rattle.coefficients.proofs.SpotLaws.{filled_none, filled-corner}
use Rattle.coefficients.proofs.FillLaws.{block-is, block-low}
use Rattle.coefficients.proofs.filled.Goals as goal

-- the block of corner d, signed and solved, where `numbers` are its record
module _ (b : Block) (l : Layout) (rs : List ℤ) (many : Gathered b.orders.count b.axes l rs) (d : ℕ) (inside : d < 2 ^ b.axes)
    (numbers : List ℤ)
    (of_record : (j : ℕ) → j < b.orders.count ^ b.axes → at numbers j ≡ at rs (start_of l d + j)) (zs : List ℤ)
    (solved : StartsWith (b.orders.count ^ b.axes) (solved_block false b.orders.count b.axes
    (λ k. block_sign b.orders.count d k *ℤ at numbers k)) zs) where
  abbrev signed : ℕ → ℤ
  signed k = block_sign b.orders.count d k *ℤ at numbers k

  signed-is : (j : ℕ) → j < b.orders.count ^ b.axes → signed j ≡ block_sign b.orders.count d j *ℤ at rs (start_of l d + j)
  signed-is j h = ap (λ z. block_sign b.orders.count d j *ℤ z) (of_record j h)

  low : (j : ℕ) → j < b.orders.count ^ b.axes → nat_abs (at zs j) ≤ 2 ^ 30
  low j h = rw (solved.is j h) (block-low b.sizes l rs many d inside signed signed-is j h)

  abbrev coefficient : ℕ → ℤ
  coefficient = cell_coefficient b.orders.count b.axes l rs

  more : (turn : ℕ) → turn < 2 ^ b.axes → d ≡ corner_at b.axes turn → (out : List ℤ)
      → Filled b.orders.count b.axes coefficient turn out
      → Filled b.orders.count b.axes coefficient (turn + 1)
      (scatter (b.orders.count ^ b.axes) (coefficient_index b.orders.count d) (at zs) out)
  more turn h e out f =
      let ok = b.sizes in
      subst
      (λ (c : ℕ). Filled b.orders.count b.axes coefficient (turn + 1)
      (scatter (b.orders.count ^ b.axes) (coefficient_index b.orders.count c) (at zs) out)) (sym e)
      (filled-corner b.orders.count b.axes (orders-some ok) ok.axes-low ok.axes-high coefficient turn h (at zs) out
      (λ j h. solved.is j h
      ∙ block-is ok l rs many d inside signed signed-is j h
      ∙ ap (λ (c : ℕ). coefficient (coefficient_index b.orders.count c j)) e)
      f (count_low ok))

pub loop-turn-init : goal.loop-turn-init
loop-turn-init c =
    let b = c.of-b.result in
    let ok = b.sizes in
    filled_none b.orders.count b.axes (orders-some ok) ok.axes-low ok.axes-high
    (cell_coefficient b.orders.count b.axes c.args.l c.args.records.now) (noughts 216) refl (noughts-at 216)

-- the corner records by the sizes of the block
many : (n : ℕ) (l : Layout) (rs : List ℤ) → Gathered l.orders n l rs → (b : Block) → (b.orders.count ≡ l.orders) × (b.axes ≡ n)
    → Gathered b.orders.count b.axes l rs
many n l rs g b e = rw (e.0, e.1) g

-- a turn
turn_low : (k n turn : ℕ) → k ≤ 2 ^ n → turn < k → turn < 2 ^ n
turn_low k n turn h l = omega arith

pub corner_start-start-requires : goal.corner_start-start-requires
corner_start-start-requires c =
    (corner-low c.of-b.result.sizes c.corner_at-c.result c.corner_at-c.ensures.1, c.requires.5.small)

-- number j of the record from `start` on
of_record : (rs : List ℤ) (start size s count : ℕ) → start ≡ s → size ≡ count → (j : ℕ) → j < count
    → at (take (start + size - start) (drop start rs)) j ≡ at rs (s + j)
of_record rs start size s count e f j l =
    get_or-take (start + size - start) (drop start rs) j (pos 0) (omega arith) ∙ get_or-drop start rs j (pos 0)
    ∙ ap (λ (k : ℕ). at rs (k + j)) e

pub store-requires : goal.store-requires
store-requires c =
    let a = c.args in
    let b = c.of-b.result in (
      c.corner_at-c.ensures.1,
      low b a.l a.records.now (many a.n a.l a.records.now c.requires.5 b c.of-b.ensures) c.corner_at-c.result c.corner_at-c.ensures.1
          _ (of_record a.records.now c.corner_start-start.result c.size.result _ _ c.corner_start-start.ensures c.size.ensures.0)
          c.block_solve.new.zs c.block_solve.ensures,
    )

pub loop-turn-preserved : goal.loop-turn-preserved
loop-turn-preserved c =
    let a = c.args in
    let b = c.of-b.result in
    let h : a.k ≤ 2 ^ b.axes = rw c.of-b.ensures.1 c.requires.4 in
    rw c.store.ensures
    (more b a.l a.records.now (many a.n a.l a.records.now c.requires.5 b c.of-b.ensures) c.corner_at-c.result c.corner_at-c.ensures.1
    _ (of_record a.records.now c.corner_start-start.result c.size.result _ _ c.corner_start-start.ensures c.size.ensures.0)
    c.block_solve.new.zs c.block_solve.ensures c.loop-turn.turn
    (turn_low a.k b.axes c.loop-turn.turn h c.loop-turn-test.true) c.corner_at-c.ensures.0 c.loop-turn.out c.loop-turn.invariant)
