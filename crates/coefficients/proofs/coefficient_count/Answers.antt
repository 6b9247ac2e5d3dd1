-- `coefficients::coefficient_count` meets its contract: at most 6^3.
use mathlib.Core.Path.{ap, ◌∙◌}
use Prim.Native.Nat.{ℕ, ◌≤◌, ◌^◌, ◌*◌}
use native.Mathlib.Omega.{arith}
use lib.Dec.{lit<}
use Rattle.lattice.proofs.ShapeLaws.{pow-range}
use Rattle.coefficients.proofs.coefficient_count.Goals as goal

low : (m n : ℕ) → m ≤ 3 → n ≤ 3 → (2 * m) ^ n ≤ 216
low m n m3 n3 = pow-range 6 (2 * m) n (omega arith) n3 (lit< tt)

pub pow-requires : goal.pow-requires
pow-requires c = let h = low c.orders-both.result.count c.args.axes c.orders-both.result.bounds.1 c.requires in omega arith

pub returns : goal.returns
returns c = (
  c.pow.ensures ∙ ap (λ (m : ℕ). (2 * m) ^ c.args.axes) c.orders-both.ensures,
  rw c.pow.ensures (low c.orders-both.result.count c.args.axes c.orders-both.result.bounds.1 c.requires),
)
