-- `ramp::on_plane` meets its contract: the stages of two axes, one above the other.
use mathlib.Core.Path.{refl, ◌∙◌}
use borrow.Author.Rules.{sfits_of}
use mir.Facts.{to_z-of_z}
use mir.Syntax.{w64}
use mathlib.Core.Bool.{false}
use Rattle.evaluate.specs.Stages.{strides_of}
use Rattle.evaluate.proofs.StageOrder.{two-ask, two-give}
use Rattle.ramp.proofs.on_plane.Goals as goal

pub both_stages-r-requires : goal.both_stages-r-requires
both_stages-r-requires c =
    let both = two-ask (strides_of 0 0 0) c.axis_of-x.ensures c.axis_of-y.ensures false refl c.requires in
    let y = c.axis_of-y.ensures in
    let x = c.axis_of-x.ensures in
    record { all_prepared = both.0; along_y = (y.node-is, y.order_is); along_x = (x.node-is, x.order_is); safe = both.1 }

pub returns : goal.returns
returns c = two-give (strides_of 0 0 0) c.axis_of-x.ensures c.axis_of-y.ensures false refl
    (to_z-of_z {w = w64} (sfits_of c.struct_told-1.given.0.1) ∙ c.both_stages-r.ensures.number_is)
