-- `check_tokens` meets its contract. The invariant: none of the tokens so far is refused.
use mathlib.Core.Path.{◌≡◌, sym, ap, ap₂, ◌∙◌}
use mathlib.Core.Logic.{inl}
use Prim.Native.Nat.{ℕ}
use native.Mathlib.Omega.{arith}
use lib.ListN.{length, drop}
use Rattle.lattice.specs.Outcome.{first_of}
use Rattle.lattice.proofs.OutcomeLaws.{handed_on, first_of-stops, first_of-more}
use Rattle.import.specs.Tokens.{tokens_from}
use Rattle.import.specs.Import.{sample_outcome}
use Rattle.import.proofs.ScanLaws.{count-bytes, turn, ended}
use Rattle.import.proofs.ImportLaws.{tested}
use Rattle.import.proofs.check_tokens.Goals as goal

pub loop-k-init : goal.loop-k-init
unfolding first_of
loop-k-init c =
    let text = c.args.text.now in
    let count : c.into_iter-k-iterator.result.count ≡ 0
    = ap (λ s. s.count) c.into_iter-k-iterator.ensures.into_iter_gives ∙ c.enumerate-k-items.ensures.count in
    let source = ap (λ s. s.iter) c.into_iter-k-iterator.ensures.into_iter_gives ∙ c.enumerate-k-items.ensures.source in
    let all = ap (λ s. tokens_from s.text.now s.at) source ∙ ap₂ tokens_from c.of.ensures.0 c.of.ensures.1 in (
      (tt, tt, inl (omega (arith, count, ap length all, count-bytes text))),
      tt,
      omega (arith, count),
      all ∙ ap (λ (n : ℕ). drop n (tokens_from text 0)) (sym count),
      ap (λ (n : ℕ). first_of n (sample_outcome text)) count,
    )

pub loop-k-preserved : goal.loop-k-preserved
loop-k-preserved c =
    let text = c.args.text.now in
    let i = c.loop-k.invariant in
    let k = c.loop-k.k-iterator.count in
    let s = c.in-Some.ensures.steps in
    let t = turn text k i.3 s.0 in (
      c.in-Some.ensures.goes.keeps,
      tt,
      omega (arith, s.2, t.counted),
      t.left ∙ ap (λ (n : ℕ). drop n (tokens_from text 0)) (sym s.2),
      ap (λ (n : ℕ). first_of n (sample_outcome text)) s.2
          ∙ first_of-more k (sample_outcome text) i.4 (sym (tested text k t.here s.1) ∙ sym c.in_ok-check_token.ensures),
    )

pub returns-in_err-check_token : goal.returns-in_err-check_token
returns-in_err-check_token c =
    let text = c.args.text.now in
    let i = c.loop-k.invariant in
    let k = c.loop-k.k-iterator.count in
    let s = c.in-Some.ensures.steps in
    let t = turn text k i.3 s.0 in
    handed_on _ _ c.from_residual.ensures
    ∙ sym (first_of-stops _ k (sample_outcome text) _ _ t.counted i.4
    (sym (tested text k t.here s.1) ∙ sym c.in_err-check_token.ensures))

pub returns : goal.returns
returns c =
    let text = c.args.text.now in
    let i = c.loop-k.invariant in
    let l = ended text c.loop-k.k-iterator.count i.3 c.in-None.ensures.steps.0.0 in
    sym (ap (λ (n : ℕ). first_of n (sample_outcome text)) (omega arith) ∙ i.4)
