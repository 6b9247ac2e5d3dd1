-- `cell::cell_at` meets its contract: three digits.
use mathlib.Core.Path.{refl}
use lib.Dec.{lit<}
use Rattle.lattice.specs.Buffer.{tabulate}
use Rattle.lattice.specs.Digits.{digit}
use Rattle.cell.proofs.cell_at.Goals as goal

pub returns : goal.returns
unfolding tabulate digit
returns c = refl

pub nonzero_div-row : goal.nonzero_div-row
nonzero_div-row c = c.requires.least 0 (lit< tt)

pub nonzero_div-plane : goal.nonzero_div-plane
nonzero_div-plane c = c.requires.least 1 (lit< tt)

pub nonzero_rem-along_x : goal.nonzero_rem-along_x
nonzero_rem-along_x c = c.requires.least 0 (lit< tt)

pub nonzero_rem-along_y : goal.nonzero_rem-along_y
nonzero_rem-along_y c = c.requires.least 1 (lit< tt)

pub nonzero_rem-along_z : goal.nonzero_rem-along_z
nonzero_rem-along_z c = c.requires.least 2 (lit< tt)
