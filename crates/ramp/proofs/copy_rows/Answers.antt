-- `ramp::copy_rows` meets its contract. The invariant: the rows before the one at hand stand in front.
use mathlib.Core.Path.{◌≡◌, subst}
use Prim.Native.Nat.{ℕ, ◌*◌, ◌<◌}
use native.Mathlib.Omega.{arith}
use Rattle.ramp.specs.Parts.{Copied}
use Rattle.ramp.proofs.RowLaws.{row-copied}
use Rattle.ramp.proofs.copy_rows.Goals as goal

pub loop-r-init : goal.loop-r-init
loop-r-init c = record { long = c.told-held; is = λ i h. absurd (none c.args.e i h) }
  where
    none : (e i : ℕ) → i < 2 * e * 0 → ⊥
    none e i h = omega arith

pub loop-r-preserved : goal.loop-r-preserved
loop-r-preserved c =
    let a = c.args in
    let p = c.requires in
    row-copied a.l a.records.now c.loop-r.held c.copy_part.new.to a.e c.loop-r.r c.corner_start-start.result p.some p.low
    (let h = p.few in let k = c.loop-r-test.true in omega arith) p.next c.corner_start-start.ensures
    (let i = p.inside c.loop-r.r c.loop-r-test.true in let e = c.corner_start-start.ensures in omega arith)
    c.copy_part.ensures c.loop-r.invariant

pub returns : goal.returns
returns c =
    let a = c.args in
    let e : c.loop-r.r ≡ a.rows = omega arith in
    subst (λ (r : ℕ). Copied a.l a.records.now a.e (2 * a.e * r) c.loop-r.held) e c.loop-r.invariant
