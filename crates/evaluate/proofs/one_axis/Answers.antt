-- `evaluate::one_axis` meets its contract: the stage of the only axis goes from units to units.
use mathlib.Core.List.{[]}
use Rattle.evaluate.proofs.StageOrder.{made-prepared, made-small}
use Rattle.evaluate.proofs.one_axis.Goals as goal

pub first-requires : goal.first-requires
first-requires c = let e = c.axis_of-x.ensures in record {
  prepared = (made-prepared e, made-small e);
  safe = c.requires.safe
      c.axis_of-x.result [] e tt;
}

pub returns : goal.returns
returns c =
    record {
      last = c.axis_of-x.result;
      others = [];
      made-last = c.axis_of-x.ensures;
      made = tt;
      is = c.first.ensures;
    }
