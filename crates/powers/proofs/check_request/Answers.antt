-- `powers::check_request` meets its contract: 1, 2, 3, 26 and 24 first, then 4, 9 and 14.
use mathlib.Core.Path.{◌≡◌, sym, ap, ◌∙◌}
use Prim.Native.Nat.{ℕ}
use mathlib.Core.Bool.{◌&&◌}
use lib.Dec.{leb, eqb}
use Rattle.lattice.specs.declared.FullShape.{FullShape}
use Rattle.lattice.specs.Outcome.{Check, done, refuse_unless, first}
use Rattle.lattice.specs.Shape.{size, full_outcome}
use Rattle.lattice.proofs.OutcomeLaws.{stopped, went-on, first_done, first-assoc}
use Rattle.lattice.proofs.ShapeLaws.{shaped}
use Rattle.lattice.proofs.StepLaws.{full-shape}
use Rattle.cell.specs.Cell.{place_at, cell_outcome}
use Rattle.powers.specs.Powers.{request_outcome}
use Rattle.powers.proofs.CallLaws.{sixteen}
use Rattle.powers.proofs.check_request.Goals as goal

abbrev kind : FullShape → Check
kind t = refuse_unless (eqb t.shape.axes 2 && eqb t.shape.degree 3) 24 0

-- what is tested after 24
rest : FullShape → ℕ → ℕ → Check → Check
rest t given room last = first (refuse_unless (eqb given (size t.shape)) 4 0) (first (refuse_unless (leb 16 room) 9 0) last)

passed : (t : FullShape) → done tt ≡ first (full_outcome t) (kind t) → (full_outcome t ≡ done tt) × (kind t ≡ done tt)
passed t h = first_done (full_outcome t) (kind t) tt (sym h)

pub returns-in_err-check_kind : goal.returns-in_err-check_kind
unfolding request_outcome
returns-in_err-check_kind c =
    stopped _ _ _ _ c.from_residual.ensures c.in_err-check_kind.ensures ∙ first-assoc (full_outcome c.args.t) (kind c.args.t) _

pub check_sizes-requires : goal.check_sizes-requires
check_sizes-requires c = shaped c.args.t.shape (full-shape c.args.t (passed c.args.t c.in_ok-check_kind.ensures).0)

pub returns : goal.returns
unfolding request_outcome rest
returns c =
    let a = c.args in
    let e = sixteen a.t.shape (passed a.t c.in_ok-check_kind.ensures).1 in
    went-on (first (full_outcome a.t) (kind a.t)) (rest a.t a.given a.room (cell_outcome a.t.shape (place_at a.cell))) _
    c.in_ok-check_kind.ensures
    (c.check_sizes.ensures
    ∙ ap
    (λ (n : ℕ). first (refuse_unless (eqb a.given (size a.t.shape)) 4 0)
    (first (refuse_unless (leb n a.room) 9 0) (cell_outcome a.t.shape (place_at a.cell)))) e)
    ∙ first-assoc (full_outcome a.t) (kind a.t) (rest a.t a.given a.room (cell_outcome a.t.shape (place_at a.cell)))
