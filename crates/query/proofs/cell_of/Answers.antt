-- `query::cell_of` meets its contract: the smaller of two numbers.
use mathlib.Core.Path.{ap, ◌∙◌}
use Prim.Native.Nat.{ℕ, min, ◌/◌}
use Rattle.query.specs.Queries.{cell_of}
use Rattle.query.proofs.cell_of.Goals as goal

pub returns : goal.returns
unfolding cell_of
returns c = c.min.ensures ∙ ap (λ (last : ℕ). min (c.args.p / 256) last) c.saturating_sub.ensures
