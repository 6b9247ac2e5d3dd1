-- `evaluate::by_kind` meets its contract: an edition and m as constants are the edition and m.
use mathlib.Core.Path.{sym, subst, ◌∙◌}
use mathlib.Core.Bool.{Bool}
use native.Mathlib.Omega.{arith}
use Rattle.evaluate.proofs.by_kind.Goals as goal

pub returns-then-m-eq2 : goal.returns-then-m-eq2
returns-then-m-eq2 g c = (
  c.cubic.result,
  c.cubic.ensures ∙ sym c.if-m-eq2.true,
  subst (λ (b : Bool). g.F.FnOnce.post c.args.f (b, (c.cubic.result, tt)) c.f.result) (sym c.if-even.true) c.f.ensures,
)

pub returns-then-even : goal.returns-then-even
returns-then-even g c =
    let r = c.quintic.result in (
      r,
      omega (arith, c.args.m.bounds.0, c.args.m.bounds.1, c.if-m-eq2.false, c.quintic.ensures),
      subst (λ (b : Bool). g.F.FnOnce.post c.args.f (b, (r, tt)) c.f-then-even.result) (sym c.if-even.true) c.f-then-even.ensures,
    )

pub returns-then-m-eq2-2 : goal.returns-then-m-eq2-2
returns-then-m-eq2-2 g c =
    let r = c.cubic-then-m-eq2-2.result in (
      r,
      c.cubic-then-m-eq2-2.ensures ∙ sym c.if-m-eq2-2.true,
      subst (λ (b : Bool). g.F.FnOnce.post c.args.f (b, (r, tt)) c.f-then-m-eq2-2.result) (sym c.if-even.false) c.f-then-m-eq2-2.ensures,
    )

pub returns : goal.returns
returns g c =
    let r = c.quintic-2.result in (
      r,
      omega (arith, c.args.m.bounds.0, c.args.m.bounds.1, c.if-m-eq2-2.false, c.quintic-2.ensures),
      subst (λ (b : Bool). g.F.FnOnce.post c.args.f (b, (r, tt)) c.f-2.result) (sym c.if-even.false) c.f-2.ensures,
    )
