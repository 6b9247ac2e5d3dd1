-- Two tables that agree on the block of a cell give the same answer in it: the records of its corners depend on the samples of the block.
use mathlib.Core.Path.{◌≡◌, ◌∙◌}
use mathlib.Core.List.{List}
use Prim.Native.Nat.{ℕ, suc, ◌+◌, ◌/◌, ◌≤◌, ◌<◌}
use native.Mathlib.Omega.{arith}
use lib.IntN.{ℤ}
use Rattle.arith.specs.Int.{Rounding}
use Rattle.lattice.specs.declared.Shape.{Shape}
use Rattle.lattice.specs.Shape.{count, orders}
use Rattle.lattice.specs.Axes.{Place}
use Rattle.lattice.specs.Records.{samples_field}
use Rattle.cell.specs.Cell.{Accepted}
use Rattle.estimate.specs.Estimate.{NextTo, table_records}
use Rattle.estimate.proofs.EstimateLaws.{entry-local, entry-recounted}
use Rattle.estimated.proofs.Estimated.{at-node, inside}
use Rattle.evaluate.specs.Evaluate.{Want, last_axis, answer_by, ask_of}
use Rattle.evaluate.proofs.AnswerLaws.{answer-local}
use Rattle.claims.specs.Third.{NearCell, recounted, AgreeOnBlock}
use Rattle.claims.proofs.General.{leb-same}

module _ (s : Shape) (xs : List ℤ) (cell : Place) (here : Accepted s cell) where
  -- two tables that agree on the block
  pub block-local : (N : Place) (round : Rounding) (counts : List ℕ) (ys : List ℤ) → AgreeOnBlock s (recounted s counts) cell xs ys
      → (want : Want) (step : Place) → last_axis s.axes want < s.axes
      → answer_by round (ask_of s want N cell step) (table_records s xs)
      ≡ answer_by round (ask_of (recounted s counts) want N cell step) (table_records (recounted s counts) ys)
  unfolding table_records
  block-local N round counts ys same want step last =
      answer-local round (ask_of s want N cell step) last (table_records s xs) (table_records t ys)
      (λ p x. entry-local (orders s) s.axes (count s) p (λ a l. two-nodes (cell a) (here.used a l)) (inside s cell here p x) x.unused
      (samples_field s xs) (samples_field t ys)
      (λ q y. same.samples q (record
      { used = λ a l. near (count s a) (cell a) (p a / orders s) (q a) (at-node s cell here p x a l) (y.used a l); unused = y.unused }))
      ∙ entry-recounted (orders s) s.axes (count s) (count t) p
      (λ a l. leb-same (suc (suc (p a / orders s))) (count s a) (suc (suc (p a / orders s))) (count t a)
      (λ h. same.there a l _ (above (at-node s cell here p x a l) h)) (λ h. same.back a l _ (above (at-node s cell here p x a l) h)))
      (samples_field t ys))
    where
      t : Shape
      t = recounted s counts

      two-nodes : {n : ℕ} (c : ℕ) → c + 2 ≤ n → 2 ≤ n
      two-nodes c h = omega arith

      near : (n c i j : ℕ) → (c ≤ i) × (i ≤ c + 1) → NextTo n i j → NearCell n c j
      near n c i j h k = let u = k.low in let v = k.high in let w = k.there in
          record { low = omega arith; high = omega arith; there = omega arith }

      above : {n c i : ℕ} → (c ≤ i) × (i ≤ c + 1) → suc i < n → NearCell n c (suc i)
      above h k = record { low = omega arith; high = omega arith; there = k }
