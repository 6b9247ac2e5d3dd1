-- `hermite::products` meets its contract: every product is small, and each is the definition's.
use native.Mathlib.Omega.{arith}
use mathlib.Core.Path.{◌≡◌, ◌∙◌}
use mir.Syntax.{w64}
use mir.Val.{to_z, of_z}
use Rattle.arith.proofs.Machine.{Size, held, sizes, fits?, value?}
use Rattle.hermite.proofs.WeightLaws.{cubic-products, quintic-products, products-row}
use Rattle.hermite.proofs.products.Goals as goal
use Rattle.hermite.proofs.products.Goals.{Start}

abbrev k-a : (c : Start) → Size (to_z w64 (of_z w64 c.args.a))
k-a c = held w64 c.args.a 256 c.ranges.a c.requires.0

abbrev k-b : (c : Start) → Size (to_z w64 (of_z w64 c.args.b))
k-b c = held w64 c.args.b 256 c.ranges.b c.requires.1

ruleset known = (k-a, k-b, sizes)

pub returns-then-m-eq2 : goal.returns-then-m-eq2
returns-then-m-eq2 c =
    let s = c.before in
    let w = cubic-products s.args.a s.args.b in
    products-row s.args.a s.args.b s.args.m.count 2 c.if-m-eq2.true _ _ _
    (value? (search known depth 40 fits 3000) (omega arith) ∙ w.0) (value? (search known depth 40 fits 3000) (omega arith) ∙ w.1)
    (value? (search known depth 40 fits 3000) (omega arith) ∙ w.2)

pub returns : goal.returns
returns c =
    let s = c.before in
    let w = quintic-products s.args.a s.args.b in
    let e : s.args.m.count ≡ 3 = omega arith in
    products-row s.args.a s.args.b s.args.m.count 3 e _ _ _ (value? (search known depth 40 fits 3000) (omega arith) ∙ w.0)
    (value? (search known depth 40 fits 3000) (omega arith) ∙ w.1) (value? (search known depth 40 fits 3000) (omega arith) ∙ w.2)

pub overflow_mul-c : goal.overflow_mul-c
overflow_mul-c c = fits? (search known depth 40 fits 3000) (omega arith)

pub overflow_mul-d : goal.overflow_mul-d
overflow_mul-d c = fits? (search known depth 40 fits 3000) (omega arith)

pub overflow_mul-result : goal.overflow_mul-result
overflow_mul-result c = fits? (search known depth 40 fits 3000) (omega arith)

pub overflow_mul-result-2 : goal.overflow_mul-result-2
overflow_mul-result-2 c = fits? (search known depth 40 fits 3000) (omega arith)

pub overflow_mul-result-3 : goal.overflow_mul-result-3
overflow_mul-result-3 c = fits? (search known depth 40 fits 3000) (omega arith)

pub overflow_mul-result-4 : goal.overflow_mul-result-4
overflow_mul-result-4 c = fits? (search known depth 40 fits 3000) (omega arith)
