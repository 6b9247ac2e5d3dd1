-- `cell::check_cell` meets its contract: the tests of three axes.
use mathlib.Core.Path.{ap, ◌∙◌}
use mathlib.Core.Bool.{Bool}
use Prim.Native.Nat.{ℕ, ◌+◌}
use lib.Dec.{leb, ltb, eqb}
use Rattle.arith.specs.Choice.{pick}
use Rattle.lattice.specs.Shape.{count}
use Rattle.lattice.proofs.OutcomeLaws.{axis-by-axis}
use Rattle.cell.specs.Cell.{place_at, cell_outcome}
use Rattle.cell.proofs.check_cell.Goals as goal

pub returns : goal.returns
unfolding cell_outcome place_at count pick
returns c =
    let a = c.args in
    let test : ℕ → ℕ → Bool = λ n i. pick (ltb i n) (leb (place_at a.cell i + 2) (count a.s i)) (eqb (place_at a.cell i) 0) in
    c.check_on_axes.ensures ∙ axis-by-axis 14 _ (test a.s.axes) (c.index_allowed-on_x.ensures ∙ ap (λ n. test n 0) c.requires)
    (c.index_allowed-on_y.ensures ∙ ap (λ n. test n 1) c.requires) (c.index_allowed-on_z.ensures ∙ ap (λ n. test n 2) c.requires)
