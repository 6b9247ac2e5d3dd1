-- `query::read_cell` meets its contract: within the limits the stages are the answer, else the refusal is 5.
use mathlib.Core.Path.{◌≡◌}
use mathlib.Core.Bool.{Bool, true, false}
use mathlib.Core.List.{List}
use lib.IntN.{ℤ}
use Rattle.arith.proofs.Choices.{clash}
use Rattle.lattice.specs.declared.Shape.{Shape}
use Rattle.lattice.specs.Outcome.{done}
use Rattle.cell.specs.Cell.{place_at}
use Rattle.evaluate.specs.Wants.{wanted}
use Rattle.query.specs.declared.CellQuery.{CellQuery}
use Rattle.query.specs.Parts.{finest}
use Rattle.query.specs.Queries.{tested_outcome}
use Rattle.query.proofs.QueryLaws.{Reader, reader}
use Rattle.query.proofs.read_cell.Goals as goal

reads : (s : Shape) (even : Bool) (rs : List ℤ) (q : CellQuery)
    → tested_outcome (finest s even) rs (wanted q.derivative) (place_at q.cell) (place_at q.step) ≡ done tt
    → Reader s even rs (wanted q.derivative) q.cell (place_at q.step)
reads s even rs q h = reader s even rs (wanted q.derivative) q.cell (place_at q.step) h

never : {A : Type 0} → false ≡ true → A
never e = clash (cc)

pub layout_of-l-requires : goal.layout_of-l-requires
layout_of-l-requires c =
    let both = (reads c.args.s c.args.even c.args.records.now c.args.q c.requires).layout-asks in record {
      shaped = both.0;
      accepted =
          both.1;
    }

pub within-requires : goal.within-requires
within-requires c =
    let a = (reads c.args.s c.args.even c.args.records.now c.args.q c.requires).corners-asks c.layout_of-l.result c.layout_of-l.ensures in
    record { shaped = a.0; accepted = a.1 }

pub value_at-requires : goal.value_at-requires
value_at-requires c = (reads c.args.s c.args.even c.args.records.now c.args.q c.requires).stages-ask c.layout_of-l.result
    c.layout_of-l.ensures
    c.within.result c.within.ensures c.if-within.true

pub returns-then-within : goal.returns-then-within
returns-then-within c =
    let both = (reads c.args.s c.args.even c.args.records.now c.args.q c.requires).answered c.within.result c.within.ensures
    c.if-within.true
    c.value_at.result c.value_at.ensures.number_value c.value_at.ensures.exact_value in
    record { result_value = both.0; marks = (λ given. both.1) }

pub beyond-requires : goal.beyond-requires
beyond-requires c =
    let r = (reads c.args.s c.args.even c.args.records.now c.args.q c.requires) in
    let a = r.corners-asks c.layout_of-l.result c.layout_of-l.ensures in
    record { shaped = a.0; accepted = a.1; cell_value = r.beyond-asks c.within.result c.within.ensures c.if-within.false }

pub returns : goal.returns
returns c = record {
  result_value = (reads c.args.s c.args.even c.args.records.now c.args.q c.requires).stopped c.beyond.ensures;
  marks = (λ given. never given);
}
