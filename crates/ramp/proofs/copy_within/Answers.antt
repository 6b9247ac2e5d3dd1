-- `ramp::copy_within` meets its contract: the copied records are tested where they stand by themselves.
use mathlib.Core.Path.{◌≡◌, sym, ap, subst, ◌∙◌}
use mathlib.Core.List.{List}
use Prim.Native.Nat.{ℕ, ◌*◌}
use native.Mathlib.Omega.{arith}
use lib.IntN.{ℤ}
use Rattle.lattice.specs.Outcome.{first_of, passed}
use Rattle.cell.specs.declared.Layout.{Layout}
use Rattle.cell.specs.Cell.{start_of, limit_in, record_outcome, CornerRows}
use Rattle.ramp.specs.Parts.{Copied}
use Rattle.ramp.proofs.FetchLaws.{alone-rows, within_same}
use Rattle.ramp.proofs.copy_within.Goals as goal

pub all_within-requires : goal.all_within-requires
all_within-requires c =
    let a = c.args in
    let p = c.requires in
    let held : List ℤ = c.copy_rows.new.held in
    let low = p.low in (
      subst (λ (o : Layout). CornerRows o held a.e a.rows) (sym c.layout_alone.ensures)
          (alone-rows a.l.orders a.e a.rows held p.some low p.few c.copy_rows.ensures.long),
      λ j l. a.limits.now.not_negative j (omega (arith, l, low)),
    )

pub returns-clause-value : goal.returns-clause-value
returns-clause-value c =
    let a = c.args in
    let p = c.requires in
    let held : List ℤ = c.copy_rows.new.held in
    let e : 2 * a.e * a.rows ≡ a.e * (2 * a.rows) = omega arith in
    c.all_within.ensures
    ∙ ap (λ (o : Layout). passed (first_of (2 * a.rows) (λ i. record_outcome (limit_in a.limits.now.limits) a.e held (start_of o i))))
    c.layout_alone.ensures
    ∙ within_same a.l a.records.now held a.limits.now.limits a.l.orders a.e (2 * a.rows) p.some (let k = p.few in omega arith)
    (subst (λ (k : ℕ). Copied a.l a.records.now a.e k held) e c.copy_rows.ensures)
